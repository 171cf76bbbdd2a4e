-- Laws of entries, and of lists into which words are written from a place on. Assumes nothing.
use Rattle.std.specs.Prelude.{◌≡◌, refl, ℕ, suc, ◌+◌, ◌-◌, ◌*◌, ◌/◌, ◌≤◌, eqb, leb, length, set, take, drop}
use Rattle.std.proofs.Math.Path.{sym}
use Rattle.std.proofs.Common.{ap, ap₂, ◌∙◌, arith, add-zero, add-suc, zero-mul, le-add_right, div-one, le-div_iff_mul-le, leb-false, length-drop, take-append-drop, take_at, drop_at, length-take-le}
use mathlib.Core.List.{List, [], ◌∷◌, ◌++◌, map, append_assoc, append-nil}
use Rattle.std.proofs.Math.Nat.{suc-mul, add-mul-div_right}
use Rattle.std.proofs.lemmas.Bool.{eqb-false, lt-leb}
use borrow.Rule.Slice.PartMut.{put_mid, mid_of}
use Rattle.std.proofs.Math.ListN.{length-append}
use Rattle.std.proofs.lemmas.List.Edits.{sets, sets-eq}
use Rattle.std.proofs.Math.Seq.{length-sets, slice, drop-length, take-length}
use Rattle.std.proofs.lemmas.List.{take-set-le, drop-set-add}
use Rattle.marks.specs.Answers.{judged}
use Rattle.calls.specs.State.{Call, Terms, Listing, entries, room_in, word_list}
use Rattle.calls.specs.Engine.{ListingLaws, AllOf}
use Rattle.calls.specs.Plain.{tries, Fed, Plain, untried, plain_replied, plain_call}
use Rattle.calls.specs.Whole.{Tail}

-- ---- entries

-- The entries of joined words are those of the parts, joined.
pub entries_append : (l : Listing) (v w : List ℕ) → entries l (v ++ w) ≡ entries l v ++ entries l w
unfolding entries
entries_append l [] w = refl
entries_append l (x ∷ v) w = ap (λ (z : List ℕ). l.entry x ++ z) (entries_append l v w) ∙ sym (append_assoc (l.entry x) (entries l v) (entries l w))

module _ {l : Listing} (laws : ListingLaws l) where
  -- They take as many places each.
  pub entries_length : (w : List ℕ) → length (entries l w) ≡ length w * l.places
  unfolding entries
  entries_length [] = sym (zero-mul l.places)
  entries_length (x ∷ w) = omega (arith, length-append (l.entry x) (entries l w), laws.long x, entries_length w, suc-mul (length w) l.places)

  module _ (size place : ℕ) (w : List ℕ) (h : length w ≤ room_in l size place) where
    -- As many as there is room for fit into the places.
    pub entries_fit : length (entries l w) ≤ size - place
    entries_fit = rw (entries_length w) ((le-div_iff_mul-le {x = length w} laws.some).0 h)

    -- Each takes its part of the room.
    pub room_less : room_in l size place - length w ≡ room_in l size (place + length (entries l w))
    room_less =
        let k : ℕ = length (entries l w) in
        let e : size - place ≡ size - (place + k) + length w * l.places = omega (arith, entries_fit, entries_length w) in
        omega (arith, ap (λ (n : ℕ). n / l.places) e ∙ add-mul-div_right (size - (place + k)) (length w) laws.some)

-- A call that neither 18 nor 19 refuses has a cap of at least 1 and a free place.
pub word_laws : ListingLaws word_list
word_laws =
    record {
      some = omega arith;
      long = λ w. refl;
      tells = λ v w e. cc;
      takes = λ t h. (omega (arith, eqb-false t.cap 0 h.0), omega (arith, leb-false t.size t.free h.1.0));
      tails = λ t h. (h.0, (lt-leb (t.size - t.free) 0 (omega (arith, leb-false t.size t.free h.1.0)), tt));
    }

-- Words that one list keeps as another keeps their images.
pub entries_map : (l m : Listing) (g : ℕ → ℕ) (words : List ℕ) → AllOf (λ (w : ℕ). l.entry (g w) ≡ m.entry w) words → entries l (map g words) ≡ entries m words
unfolding entries
entries_map l m g [] a = refl
entries_map l m g (w ∷ words) a = ap₂ (λ (x y : List ℕ). x ++ y) a.0 (entries_map l m g words a.1)

-- A sweep's entries are the listed words themselves.
pub entries_are : (w : List ℕ) → entries word_list w ≡ w
unfolding entries
entries_are [] = refl
entries_are (x ∷ w) = ap (λ (z : List ℕ). x ∷ z) (entries_are w)

-- and there is room for as many as there are free places.
pub room_is : (size place : ℕ) → room_in word_list size place ≡ size - place
room_is size place = div-one (size - place)

-- The plain sweep with these lists: if it is finished, a call is refused with 33; otherwise cap 0 with 18; otherwise a first free place at or past the list's end with 19;
-- it has f free places, f being the list's length less the first free place.
pub plain_call_lem : {U : Type 0} (w : Fed U) → w.listing ≡ word_list → (p : Plain) (t : Terms)
    → plain_call w p t
    ≡ plain_replied w p t.free (judged ((33, p.finished) ∷ (18, eqb t.cap 0) ∷ (19, leb t.size t.free) ∷ [])) (tries w.mark t.cap (t.size - t.free) (untried w p))
unfolding plain_call
plain_call_lem w e p t = rw (e, room_is t.size t.free)

-- ---- what is written

-- What was written is read back.
pub read_back : (l w : List ℕ) (i : ℕ) → i + length w ≤ length l → slice i (i + length w) (sets l i w) ≡ w
read_back l w i h =
    let t : length (take i l) ≡ i = length-take-le i l (omega arith) in
    ap (slice i (i + length w)) (sets-eq w l i h)
    ∙ ap (drop i) (take_at (take i l ++ w) (drop (i + length w) l) (i + length w) (length-append (take i l) w ∙ ap (λ (k : ℕ). k + length w) t))
    ∙ drop_at (take i l) w i t

-- Places before those written and unused ones keep their words.
pub tail_kept : (c : Call) (w : List ℕ) → c.free + length w ≤ length c.list → Tail c (c.free + length w) (sets c.list c.free w)
tail_kept c w h =
    let t : length (take c.free c.list) ≡ c.free = length-take-le c.free c.list (omega arith) in
    let rest : List ℕ = drop (c.free + length w) c.list in
    record {
      before =
          ap (take c.free) (sets-eq w c.list c.free h ∙ append_assoc (take c.free c.list) w rest)
          ∙ take_at (take c.free c.list) (w ++ rest) c.free t;
      unused =
          ap (drop (c.free + length w)) (sets-eq w c.list c.free h)
          ∙ drop_at (take c.free c.list ++ w) rest (c.free + length w)
          (length-append (take c.free c.list) w ∙ ap (λ (k : ℕ). k + length w) t);
      long = length-sets c.list c.free w;
    }

-- Words written one after the other.
pub sets_append : (v w list : List ℕ) (place : ℕ) → sets list place (v ++ w) ≡ sets (sets list place v) (place + length v) w
sets_append [] w list place = rw add-zero
sets_append (x ∷ v) w list place =
    sets_append v w (set list place x) (suc place) ∙ ap (λ (n : ℕ). sets (sets (set list place x) (suc place) v) n w) (omega arith)

tail_sets : (w xs : List ℕ) (a j : ℕ) → take a xs ++ sets (drop a xs) j w ≡ sets xs (a + j) w
tail_sets [] xs a j = take-append-drop a xs
tail_sets (v ∷ w) xs a j =
    rw (← drop-set-add a xs j v, ← take-set-le a xs (a + j) v (le-add_right a j), ← add-suc a j) (tail_sets w (set xs (a + j) v) a (suc j))

-- A list of which the part from a on was lent, and came back with words written from its first place on, has the words written from a on.
pub put_tail : (xs ys w : List ℕ) (a : ℕ) → ys ≡ sets (mid_of a (length xs - a) xs) 0 w → put_mid a (length xs - a) xs ys ≡ sets xs a w
put_tail xs ys w a e =
    let back : drop (length xs - a) (drop a xs) ≡ [] = ap (λ (k : ℕ). drop k (drop a xs)) (sym (length-drop a xs)) ∙ drop-length (drop a xs) in
    let lent : mid_of a (length xs - a) xs ≡ drop a xs = ap (λ (k : ℕ). take k (drop a xs)) (sym (length-drop a xs)) ∙ take-length (drop a xs) in
    rw (back, append-nil ys, e, lent) (tail_sets w xs a 0 ∙ rw add-zero refl)
