-- Definitions: the plain sweep, over the row of all suspects in range. It knows no search.
use Rattle.std.specs.Prelude.{Bool, true, false, List, [], ◌∷◌, ◌++◌, ℕ, zero, suc, ◌+◌, ◌-◌, length, take, drop}
use Rattle.marks.specs.declared.Mark.{Mark}
use Rattle.marks.specs.declared.Mark.TheVariants.{Right, Open, Wrong}
use Rattle.marks.specs.Answers.{Judgement, number, none, judged, Outcome, refused, accepted}
use Rattle.calls.specs.State.{State, Call, Terms, terms_of, listed, Listing, entries, room_in}

-- ---- the row

-- The n significands from a on, ascending.
unfoldable pub span_of : ℕ → ℕ → List ℕ
span_of a zero = []
span_of a (suc n) = a ∷ span_of (suc a) n

-- The significands from a up to but not including b, ascending.
unfoldable pub span : ℕ → ℕ → List ℕ
unfolding span_of
span a b = span_of a (b - a)

-- x before a list, if a test holds.
abbrev pub keep : {A : Type 0} → Bool → A → List A → List A
keep true x l = x ∷ l
keep false x l = l

-- Those of a list for which a test holds, in order.
unfoldable pub pick : (ℕ → Bool) → List ℕ → List ℕ
pick p [] = []
pick p (x ∷ l) = keep (p x) x (pick p l)

-- The suspects from a up to but not including b, ascending.
unfoldable pub row : (ℕ → Bool) → ℕ → ℕ → List ℕ
unfolding pick span
row suspect a b = pick suspect (span a b)

-- ---- a call's trials and words

-- 1 for a significand that is not right.
abbrev pub not_right : Mark → ℕ
not_right Right = 0
not_right Open = 1
not_right Wrong = 1

-- How many of a row are tried: until c are tried in this call, or f of these were not right, or the row is used up.
unfoldable pub tries : (ℕ → Mark) → (c f : ℕ) → List ℕ → ℕ
tries mark c f [] = 0
tries mark zero f (x ∷ l) = 0
tries mark (suc c) zero (x ∷ l) = 0
tries mark (suc c) (suc f) (x ∷ l) = suc (tries mark c (suc f - not_right (mark x)) l)

-- The words of the tried ones that are not right, in that order.
unfoldable pub words_of : (ℕ → Mark) → List ℕ → List ℕ
words_of mark [] = []
words_of mark (x ∷ l) = listed (mark x) x ++ words_of mark l

-- ---- the sweep

-- What the plain sweep is fed: what is swept, with its first and last significand and the marks, the row of all suspects in range, ascending, and how lists are kept.
pub record Fed (U : Type 0) : Type 0 where
  pub over : U
  pub first : ℕ
  pub last : ℕ
  pub mark : ℕ → Mark
  pub suspects : List ℕ
  pub listing : Listing

-- It has the number of them tried, the next significand and a finished mark.
pub record Plain : Type 0 where
  pub tried : ℕ
  pub next : ℕ
  pub finished : Bool

-- at first none is tried, the next is the first of the range, and it is not finished
abbrev pub begun : {U : Type 0} → Fed U → Plain
begun w = record { tried = 0; next = w.first; finished = false }

-- The suspects not yet tried.
abbrev pub untried : {U : Type 0} → Fed U → Plain → List ℕ
untried w p = drop p.tried w.suspects

-- Where t are tried and a rest of the row is left: finished exactly when the row is used up;
-- the next significand is the last of the range if it is finished, otherwise the first suspect not tried.
abbrev pub moved : (last t : ℕ) → List ℕ → Plain
moved last t [] = record { tried = t; next = last; finished = true }
moved last t (x ∷ l) = record { tried = t; next = x; finished = false }

-- An accepted call answers how many it tried, and the first free place plus the number of its words, and has its words.
pub record Told : Type 0 where
  pub trials : ℕ
  pub place : ℕ
  pub words : List ℕ

-- A plain call's answer, and the sweep after it.
pub record PlainReply : Type 0 where
  pub told : Outcome Told
  pub plain : Plain

-- A refusal changes nothing. Any other call tries the next k, and its words are the entries of those that are not right.
abbrev pub plain_replied : {U : Type 0} → Fed U → Plain → (free : ℕ) → Judgement → (k : ℕ) → PlainReply
plain_replied w p free (number n) k = record { told = refused n; plain = p }
plain_replied w p free none k =
    let words = entries w.listing (words_of w.mark (take k (untried w p))) in
    record {
      told = accepted (record { trials = k; place = free + length words; words = words });
      plain = moved w.last (p.tried + k) (drop k (untried w p));
    }

-- If it is finished, a call is refused with 33; otherwise by the conditions on calls.
abbrev pub plain_refusal : Listing → (finished : Bool) → Terms → Judgement
plain_refusal l finished t = judged ((33, finished) ∷ l.refuses t)

-- A call of the plain sweep, fed its cap, list length and first free place; it has room for as many entries as the free places hold.
unfoldable pub plain_call : {U : Type 0} → Fed U → Plain → Terms → PlainReply
unfolding judged entries
plain_call w p t =
    plain_replied w p t.free (plain_refusal w.listing p.finished t) (tries w.mark t.cap (room_in w.listing t.size t.free) (untried w p))

-- ---- lists of calls

-- What is compared of a call: accepted, or the refusal's number; if accepted, the trials, the place returned and the words; and always the whole state handed back.
-- S is the type of states.
pub record SeenOf (S : Type 0) : Type 0 where
  pub told : Outcome Told
  pub state : S

-- What is compared of a sweep call.
abbrev pub Seen : Type 0 → Type 0
Seen U = SeenOf (State U)

-- The plain sweep as a state, whose factor and range are those fed in.
abbrev pub state_of : {U : Type 0} → Fed U → Plain → State U
state_of w p = record { over = w.over; next = p.next; finished = p.finished }

-- What the plain sweep makes of a call.
abbrev pub plain_next : {U : Type 0} → Fed U → Plain → Call → PlainReply
plain_next w p c = plain_call w p (terms_of c)

-- What the plain sweep shows of each call of a list, with itself as a state of type S.
unfoldable pub plains : {U S : Type 0} → (Plain → S) → Fed U → Plain → List Call → List (SeenOf S)
plains view w p [] = []
plains view w p (c ∷ cs) = record { told = (plain_next w p c).told; state = view (plain_next w p c).plain } ∷ plains view w (plain_next w p c).plain cs

-- The plain sweep after the calls of a list.
unfoldable pub plain_after : {U : Type 0} → Fed U → Plain → List Call → Plain
plain_after w p [] = p
plain_after w p (c ∷ cs) = plain_after w (plain_next w p c).plain cs
