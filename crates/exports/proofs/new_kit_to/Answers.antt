-- What refuses the words or the kit, or the state's words.
use Rattle.std.proofs.Common.{refl, sym, ap, ◌∙◌, ◌++◌, ◌^◌, ◌<◌, length, take, arith, rules}
use Rattle.std.specs.Prelude.{Err}
use Rattle.std.proofs.lemmas.List.Edits.{sets}
use Rattle.std.proofs.lemmas.Result.{err_from_is_err_and}
use Rattle.calls.specs.Call.{new_state}
use Rattle.kit.specs.Engine.{kits}
use Rattle.exports.specs.Kits.{behind_kit, new_kit_to}
use Rattle.exports.proofs.AnswerLaws.{stays, goes, failed, done}
use Rattle.exports.proofs.KitAnswerLaws.{kit_refused, kit_fits, kit_read, behind_is, kit_words}
use Rattle.exports.proofs.new_kit_to.Goals as goal

pub kit_from-requires : goal.kit_from-requires
kit_from-requires c = (kit_fits c.args.kit.now 961 (length c.args.out.now) 964 c.in_ok-take_kit.ensures).long

pub copy_kit-requires : goal.copy_kit-requires
copy_kit-requires c = let lists = kit_fits c.args.kit.now 961 (length c.args.out.now) 964 c.in_ok-take_kit.ensures in (lists.long, omega (arith, lists.roomy))

pub put-requires : goal.put-requires
put-requires c =
    let three = ap length c.words_behind.ensures in
    omega (arith, (kit_fits c.args.kit.now 961 (length c.args.out.now) 964 c.in_ok-take_kit.ensures).roomy, c.copy_kit.auto.out)

pub returns-in_err-take_kit : goal.returns-in_err-take_kit
unfolding new_kit_to
returns-in_err-take_kit c =
    let a = c.args in
    let out = sym (kit_refused a.kit.now 961 (length a.out.now) 964 {v = Err _} c.in_err-take_kit.ensures refl) in
    let all = failed (λ s. 0) (λ s. take 961 a.kit.now ++ behind_kit s) a.out.now (err_from_is_err_and _ c.from_residual.ensures.1) (stays (new_state kits) out) in
    record { value = all.0; out_after = all.1 }

pub returns-in_err-s : goal.returns-in_err-s
unfolding new_kit_to
returns-in_err-s c =
    let a = c.args in
    let read = kit_read a.kit.now 961 (length a.out.now) 964 c.in_ok-take_kit.ensures c.kit_from.ensures in
    let is = goes (new_state kits) read c.in_err-s.ensures in
    let all = failed (λ s. 0) (λ s. take 961 a.kit.now ++ behind_kit s) a.out.now (err_from_is_err_and _ c.from_residual-in_err-s.ensures.1) is in
    record { value = all.0; out_after = all.1 }

pub returns : goal.returns
unfolding new_kit_to
returns c =
    let a = c.args in
    let s = c.in_ok-s.s in
    let word : s.next < 2 ^ 64 = search rules in
    let long = (kit_fits a.kit.now 961 (length a.out.now) 964 c.in_ok-take_kit.ensures).long in
    let read = kit_read a.kit.now 961 (length a.out.now) 964 c.in_ok-take_kit.ensures c.kit_from.ensures in
    let left = kit_words a.out.now a.kit.now c.copy_kit.ensures (behind_is s word) (c.put.ensures ∙ ap (sets c.copy_kit.new.out 961) c.words_behind.ensures) long in
    let all = done (λ s. 0) (λ s. take 961 a.kit.now ++ behind_kit s) a.out.now (goes (new_state kits) read c.in_ok-s.ensures) refl refl left in
    record { value = all.0; out_after = all.1 }
