-- Laws: what the plain sweep's calls add up to, whatever its row and marks. Assumes nothing.
use Rattle.std.specs.Prelude.{◌≡◌, refl, ℕ, ◌+◌, take, drop}
use Rattle.std.proofs.Common.{sym, ap, ◌∙◌, arith, take-add}
use mathlib.Core.List.{List, [], ◌∷◌, ◌++◌, append_assoc, append-nil}
use Rattle.std.proofs.Math.Nat.{add-zero}
use Rattle.calls.specs.State.{Call, entries}
use Rattle.calls.specs.Plain.{words_of, Fed, Plain, untried, moved, plain_next, plains, plain_after}
use Rattle.calls.proofs.TrialLaws.{words_append}
use Rattle.calls.proofs.RefusalLaws.{tried_by, plain_reply}
use Rattle.calls.proofs.ListLaws.{entries_append}
use Rattle.calls.specs.Whole.{trials_told, words_told, trials_in, words_in}

moved_tried : (last t : ℕ) (l : List ℕ) → (moved last t l).tried ≡ t
moved_tried last t [] = refl
moved_tried last t (x ∷ l) = refl

-- ---- trials and words

module _ {U S : Type 0} (view : Plain → S) (w : Fed U) where
  trials_one : (p : Plain) (c : Call) → p.tried + trials_told (plain_next w p c).told ≡ (plain_next w p c).plain.tried
  trials_one p c =
      plain_reply w p c (λ r. p.tried + trials_told r.told ≡ r.plain.tried) (λ n. add-zero p.tried)
      (λ q. sym (moved_tried w.last (p.tried + tried_by w p c) (drop (tried_by w p c) (untried w p))))

  -- The trials of calls add up to how many more are tried.
  pub trials_add : (calls : List Call) (p : Plain) → p.tried + trials_in (plains view w p calls) ≡ (plain_after w p calls).tried
  unfolding plains plain_after trials_in
  trials_add [] p = add-zero p.tried
  trials_add (c ∷ cs) p = omega (arith, trials_one p c, trials_add cs (plain_next w p c).plain)

  -- the entries of the suspects tried
  abbrev words_to : Plain → List ℕ
  words_to p = entries w.listing (words_of w.mark (take p.tried w.suspects))

  words_one : (p : Plain) (c : Call) → words_to p ++ words_told (plain_next w p c).told ≡ words_to (plain_next w p c).plain
  words_one p c =
      let k = tried_by w p c in
      plain_reply w p c (λ r. words_to p ++ words_told r.told ≡ words_to r.plain) (λ n. append-nil (words_to p))
      (λ q.
      rw (moved_tried w.last (p.tried + k) (drop k (untried w p)), take-add p.tried k w.suspects)
      (sym
      (ap (entries w.listing) (words_append w.mark (take p.tried w.suspects) (take k (untried w p)))
      ∙ entries_append w.listing (words_of w.mark (take p.tried w.suspects)) (words_of w.mark (take k (untried w p))))))

  -- The words of calls join to those of all that are tried.
  pub words_join : (calls : List Call) (p : Plain) → words_to p ++ words_in (plains view w p calls) ≡ words_to (plain_after w p calls)
  unfolding plains plain_after words_in
  words_join [] p = append-nil (words_to p)
  words_join (c ∷ cs) p =
      rw (← append_assoc (words_to p), words_one p c) (words_join cs (plain_next w p c).plain)
