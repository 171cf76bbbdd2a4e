-- Keeping a line's first 40 bytes while they come in, chunk by chunk, loses nothing that is printed. Assumes nothing.
use Rattle.std.specs.Prelude.{◌≡◌, refl, Bool, true, false, cond, List, [], ◌∷◌, ◌++◌, ℕ, suc, ◌+◌, ◌≤◌, ◌<◌, eqb, ltb, length, take, drop, set, get_or}
use Rattle.std.proofs.Common.{sym, ap, ◌∙◌, add-one, arith, length-append, drop_of_length-le, length-take-le, take-suc-set, drop-cons}
use borrow.Author.Tests.{eqb-false, ltb-true, ltb-false, lt-ltb, le-ltb, eq-eqb, ne_eqb}
use Rattle.frame.specs.Lines.{line_feed}
use Rattle.stream.specs.Keep.{most_kept, keep, kept, up_to_feed, Part}
use Rattle.stream.specs.PieceLaws.{by_test, no_feed_join, reading, reading_byte, reading_long}

pub none_kept : Part []
none_kept = record { plain = Prim.tt; short = omega arith }

pub part_keep : (h : List ℕ) (b : ℕ) → ¬ (b ≡ line_feed) → Part h → Part (keep h b)
part_keep h b n p =
    by_test (λ t. Part (cond t (h ++ (b ∷ [])) h)) (ltb (length h) most_kept)
    (λ e. let l = ltb-true (length h) most_kept e in
    record { plain = no_feed_join h (b ∷ []) p.plain (n, Prim.tt); short = rw length-append (omega arith) })
    (λ e. p)

reading_keep : (i b : ℕ) (h input : List ℕ) → ¬ (b ≡ line_feed) → Part h → reading i h (b ∷ input) ≡ reading i (keep h b) input
reading_keep i b h input n p =
    by_test (λ t. reading i h (b ∷ input) ≡ reading i (cond t (h ++ (b ∷ [])) h) input) (ltb (length h) most_kept)
    (λ e. reading_byte i b h input)
    (λ e. reading_long i b h input p.plain n (ltb-false (length h) most_kept e))

pub kept_part : (h input : List ℕ) → Part h → Part (kept h input)
unfolding kept
kept_part h [] p = p
kept_part h (b ∷ input) p =
    by_test (λ t. Part (cond t h (kept (keep h b) input))) (eqb b line_feed) (λ e. p) (λ e. kept_part (keep h b) input (part_keep h b (eqb-false b line_feed e) p))

-- reading up to the line feed prints nothing
pub reading_kept : (i : ℕ) (h input later : List ℕ) → Part h → reading i h (input ++ later) ≡ reading i (kept h input) (up_to_feed input ++ later)
unfolding kept up_to_feed
reading_kept i h [] later p = refl
reading_kept i h (b ∷ input) later p =
    by_test (λ t. reading i h (b ∷ (input ++ later)) ≡ reading i (cond t h (kept (keep h b) input)) (cond t (b ∷ input) (up_to_feed input) ++ later)) (eqb b line_feed)
    (λ e. refl)
    (λ e. let n = eqb-false b line_feed e in
    reading_keep i b h (input ++ later) n p ∙ reading_kept i (keep h b) input later (part_keep h b n p))

-- ---- the same in a buffer, of which the first so many bytes are kept
module _ (l : List ℕ) (n b : ℕ) (size : length l ≡ most_kept) where
  pub keep_room : n < most_kept → take (n + 1) (set l n b) ≡ keep (take n l) b
  keep_room h =
      let few : ltb (length (take n l)) most_kept ≡ true = ap (λ (k : ℕ). ltb k most_kept) (length-take-le n l (omega arith)) ∙ lt-ltb n most_kept h in
      ap (λ (k : ℕ). take k (set l n b)) (add-one n) ∙ take-suc-set l n b (omega arith) ∙ sym (ap (λ (t : Bool). cond t (take n l ++ (b ∷ [])) (take n l)) few)

  pub keep_full : n ≤ most_kept → most_kept ≤ n → take n l ≡ keep (take n l) b
  keep_full h k =
      let full : ltb (length (take n l)) most_kept ≡ false = ap (λ (k : ℕ). ltb k most_kept) (length-take-le n l (omega arith)) ∙ le-ltb n most_kept k in
      sym (ap (λ (t : Bool). cond t (take n l ++ (b ∷ [])) (take n l)) full)

-- ---- and at a place of the input
module _ (h l : List ℕ) (p : ℕ) where
  -- where the line stops, for now or with its line feed
  pub at_end : length l ≤ p → (kept h (drop p l) ≡ h) × (up_to_feed (drop p l) ≡ drop p l)
  unfolding kept up_to_feed
  at_end e = rw (drop_of_length-le l e) (refl, refl)

  module _ (i : p < length l) where
    pub at_feed : get_or l p 0 ≡ line_feed → (kept h (drop p l) ≡ h) × (up_to_feed (drop p l) ≡ drop p l)
    unfolding kept up_to_feed
    at_feed e = rw (drop-cons l p 0 i, eq-eqb (get_or l p 0) line_feed e) (refl, refl)

    -- and where it goes on
    pub at_byte : ¬ (get_or l p 0 ≡ line_feed) → (kept h (drop p l) ≡ kept (keep h (get_or l p 0)) (drop (suc p) l)) × (up_to_feed (drop p l) ≡ up_to_feed (drop (suc p) l))
    unfolding kept up_to_feed
    at_byte n = rw (drop-cons l p 0 i, ne_eqb (get_or l p 0) line_feed n) (refl, refl)
