-- The first condition that holds under which a kit's words are not taken: 255, 42, 31; or none.
use Rattle.std.proofs.Common.{◌≡◌, true, false, ◌||◌, ℕ, ◌≤◌, ◌<◌, eqb, ltb, sym, ap₂, ◌∙◌, eq-eqb, lt-ltb, le-ltb}
use borrow.Author.Tests.{ne_eqb}
use Rattle.marks.specs.AnswerLaws.{pass, stop, end}
use Rattle.exports.proofs.take_kit.Goals as goal
use Rattle.exports.proofs.take_kit.Goals.{then-words-due-via-then-words-due, then-words-due-via-else-words-due+then-room-needed, then-count-eq0-via-then-count-eq0, then-count-eq0-via-else-count-eq0+then-count-gt-KIT_PLACES}

none_counted : (n : ℕ) → n ≡ 0 → eqb n 0 || ltb 96 n ≡ true
none_counted n e = rw (eq-eqb n 0 e)

many_counted : (n : ℕ) → (n ≡ 0 → ⊥) → 96 < n → eqb n 0 || ltb 96 n ≡ true
many_counted n some h = ap₂ ◌||◌ (ne_eqb n 0 some) (lt-ltb 96 n h)

few_counted : (n : ℕ) → (n ≡ 0 → ⊥) → n ≤ 96 → eqb n 0 || ltb 96 n ≡ false
few_counted n some h = ap₂ ◌||◌ (ne_eqb n 0 some) (le-ltb 96 n h)

pub returns-then-words-due : goal.returns-then-words-due
returns-then-words-due c =
    elim c.then-words-due.branch [
      | then-words-due-via-then-words-due w ↦ stop (lt-ltb _ _ w.if-words-due.true)
      | then-words-due-via-else-words-due+then-room-needed w ↦ pass (le-ltb _ _ w.if-words-due.false) (stop (lt-ltb _ _ w.if-room-needed.true))
    ]

pub returns-then-count-eq0 : goal.returns-then-count-eq0
returns-then-count-eq0 c =
    elim c.then-count-eq0.branch [
      | then-count-eq0-via-then-count-eq0 w ↦
          pass (le-ltb _ _ c.if-words-due.false) (pass (le-ltb _ _ c.if-room-needed.false) (stop (none_counted _ w.if-count-eq0.true)))
      | then-count-eq0-via-else-count-eq0+then-count-gt-KIT_PLACES w ↦
          pass (le-ltb _ _ c.if-words-due.false) (pass (le-ltb _ _ c.if-room-needed.false) (stop (many_counted _ w.if-count-eq0.false w.if-count-gt-KIT_PLACES.true)))
    ]

pub returns-then-any_damaged : goal.returns-then-any_damaged
returns-then-any_damaged c =
    let some = few_counted _ c.if-count-eq0.false c.if-count-gt-KIT_PLACES.false in
    pass (le-ltb _ _ c.if-words-due.false) (pass (le-ltb _ _ c.if-room-needed.false) (pass some (stop (sym c.any_damaged.ensures ∙ c.if-any_damaged.true))))

pub returns : goal.returns
returns c =
    let some = few_counted _ c.if-count-eq0.false c.if-count-gt-KIT_PLACES.false in
    pass (le-ltb _ _ c.if-words-due.false) (pass (le-ltb _ _ c.if-room-needed.false) (pass some (pass (sym c.any_damaged.ensures ∙ c.if-any_damaged.false) end)))
