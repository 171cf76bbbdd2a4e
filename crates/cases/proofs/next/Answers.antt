-- The windows of a sound factor can be searched.
use Rattle.std.proofs.Common.{sym, subst}
use Rattle.suspects.specs.declared.Windows.{Windows}
use Rattle.suspects.specs.Next.{Askable}
use Rattle.suspects.proofs.WindowLaws.{low_askable, high_askable}
use Rattle.cases.proofs.next.Goals as goal

pub next-requires : goal.next-requires
next-requires c = (subst (λ (h : Windows). Askable h.low) (sym c.windows_of-windows.ensures) (low_askable c.args.f.factor c.args.f.sound), c.requires)

pub next-requires-in-High : goal.next-requires-in-High
next-requires-in-High c = (subst (λ (h : Windows). Askable h.high) (sym c.windows_of-windows.ensures) (high_askable c.args.f.factor c.args.f.sound), c.requires)
