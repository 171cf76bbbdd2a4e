-- The law of answers, the first condition that holds, both ways: from the tests to the answer, and from the answer to the tests. Assumes nothing.
use Rattle.std.specs.Prelude.{◌≡◌, refl, Bool, true, false, cond, ◌&&◌, ◌||◌, List, [], ◌∷◌, ◌++◌, ℕ, Result, Ok, Err, IsErrAnd}
use Rattle.std.proofs.Common.{sym, ap, ◌∙◌, true≢false, append-nil, arith}
use Rattle.marks.specs.declared.Mark.{Mark}
use Rattle.marks.specs.declared.Refusal.{Refusal}
use Rattle.marks.specs.Answers.{Judgement, number, none, judged, number_of, refusal_of, First, NoneHolds, Outcome, refused, accepted, said, unless, answer, each, Marked}

-- ---- from the tests to the refusal
-- a condition that does not hold is passed over
pub pass : {n : ℕ} {b : Bool} {l : List (ℕ × Bool)} {v : Judgement} → b ≡ false → First l v → First ((n, b) ∷ l) v
unfolding judged
pass {n} {b} {l} q r = record { is = ap (λ (t : Bool). cond t (number n) (judged l)) q ∙ r.is }

-- one that holds is the refusal
pub stop : {n : ℕ} {b : Bool} {l : List (ℕ × Bool)} → b ≡ true → First ((n, b) ∷ l) (number n)
unfolding judged
stop {n} {b} {l} q = record { is = ap (λ (t : Bool). cond t (number n) (judged l)) q }

-- where none is left, there is none
pub end : First [] none
unfolding judged
end = record { is = refl }

-- none of a list holds: the rest decides
pub pass_all : (k l : List (ℕ × Bool)) → NoneHolds k → judged (k ++ l) ≡ judged l
pass_all [] l h = refl
pass_all (t ∷ k) l h = (pass h.0 (record { is = pass_all k l h.1 })).is

pub pass_first : {v : Judgement} (k l : List (ℕ × Bool)) → NoneHolds k → First l v → First (k ++ l) v
pass_first k l h r = record { is = pass_all k l h ∙ r.is }

-- a refusal by the first conditions is that of all
pub stop_first : {n : ℕ} (k l : List (ℕ × Bool)) → First k (number n) → First (k ++ l) (number n)
unfolding judged
stop_first {n} [] l r = let q = r.is in let z : ◌≡◌ {A = ℕ} 0 1 = cc in absurd (omega arith)
stop_first {n} (t ∷ k) l r = record { is = go t.1 r.is (λ q. (stop_first k l (record { is = q })).is) }
  where
    go : (b : Bool) → cond b (number t.0) (judged k) ≡ number n → (judged k ≡ number n → judged (k ++ l) ≡ number n) → cond b (number t.0) (judged (k ++ l)) ≡ number n
    go true q ih = q
    go false q ih = ih q

-- ---- from the refusal to the answer
pub refuses : {A : Type 0} {l : List (ℕ × Bool)} {n : ℕ} → First l (number n) → (a : A) → refused n ≡ answer l a
unfolding answer
refuses q a = sym (ap (λ (v : Judgement). unless v a) q.is)

pub accepts : {A : Type 0} {l : List (ℕ × Bool)} → First l none → (a : A) → accepted a ≡ answer l a
unfolding answer
accepts q a = sym (ap (λ (v : Judgement). unless v a) q.is)

-- where no condition holds, the value is the answer
pub none_refuses : {A : Type 0} (l : List (ℕ × Bool)) (a : A) → NoneHolds l → answer l a ≡ accepted a
unfolding answer judged
none_refuses [] a h = refl
none_refuses (t ∷ l) a h = rw h.0 (none_refuses l a h.1)

-- where none of a list holds, the rest answers
pub rest_answers : {A : Type 0} (k l : List (ℕ × Bool)) → NoneHolds k → (a : A) → answer (k ++ l) a ≡ answer l a
unfolding answer
rest_answers k l h a = ap (λ (v : Judgement). unless v a) (pass_all k l h)

-- what a value is changed to is answered under the same conditions
pub answer_each : {A B : Type 0} (g : A → B) (l : List (ℕ × Bool)) (a : A) → answer l (g a) ≡ each g (answer l a)
unfolding answer
answer_each g l a = go (judged l)
  where
    go : (r : Judgement) → unless r (g a) ≡ each g (unless r a)
    go (number k) = refl
    go none = refl

-- ---- from the refusal to the tests
-- where there is none, none of the first conditions holds, and none of the rest refuses
pub judged_none : (k l : List (ℕ × Bool)) → judged (k ++ l) ≡ none → NoneHolds k × (judged l ≡ none)
unfolding judged
judged_none [] l q = (tt, q)
judged_none (t ∷ k) l q = go t.1 refl q (judged_none k l)
  where
    go : (b : Bool) → t.1 ≡ b → cond b (number t.0) (judged (k ++ l)) ≡ none → (judged (k ++ l) ≡ none → NoneHolds k × (judged l ≡ none))
        → NoneHolds (t ∷ k) × (judged l ≡ none)
    go true i q ih = let z : ◌≡◌ {A = ℕ} 0 1 = cc in absurd (omega arith)
    go false i q ih = let r = ih q in ((i, r.0), r.1)

-- where there is none, no condition holds
pub none_holds : (l : List (ℕ × Bool)) → judged l ≡ none → NoneHolds l
none_holds l q = (judged_none l [] (ap judged (append-nil l) ∙ q)).0

-- ---- a result, as code has it, that tells of the first condition that holds
module _ {A : Type 0} {l : List (ℕ × Bool)} {v : Result A Refusal} (is : First l (refusal_of v)) where
  pub judged_passed : {a : A} → v ≡ Ok a → NoneHolds l
  judged_passed e = none_holds l (is.is ∙ ap refusal_of e)

  pub judged_number : {r : Refusal} → v ≡ Err r → First l (number (number_of r))
  judged_number e = record { is = is.is ∙ ap refusal_of e }

  pub judged_refused : {B : Type 0} {r : Refusal} → v ≡ Err r → (b : B) → refused (number_of r) ≡ answer l b
  judged_refused e b = refuses (judged_number e) b

-- a result that `?` hands on says the refusal that it was given
pub said_err : {A : Type 0} (k : Refusal) (r : Result A Refusal) → IsErrAnd r (λ (e : Refusal). e ≡ k) → said r ≡ refused (number_of k)
said_err k (Ok a) is = absurd is
said_err k (Err e) is = ap (λ (r : Refusal). refused (number_of r)) is

-- none of two lists holds
pub none_apart : (k l : List (ℕ × Bool)) → NoneHolds (k ++ l) → NoneHolds k × NoneHolds l
none_apart [] l h = (tt, h)
none_apart (t ∷ k) l h = let r = none_apart k l h.1 in ((h.0, r.0), r.1)

-- ---- from the answer to the tests
-- what holds of every refusal, and of the value where no condition holds, holds of the answer
pub of_answer : {A : Type 0} (P : Outcome A → Type 0) (l : List (ℕ × Bool)) (a : A) → ((n : ℕ) → P (refused n)) → (NoneHolds l → P (accepted a)) → P (answer l a)
unfolding answer judged
of_answer {A} P [] a out through = through tt
of_answer {A} P (t ∷ l) a out through = go t.1 refl (λ h. of_answer P l a out h)
  where
    go : (b : Bool) → t.1 ≡ b → ((NoneHolds l → P (accepted a)) → P (answer l a)) → P (unless (cond b (number t.0) (judged l)) a)
    go true i ih = out t.0
    go false i ih = ih (λ h. through (i, h))

-- an accepted value is the answer's own, and no condition holds
pub only_accepted : {A : Type 0} (l : List (ℕ × Bool)) (a b : A) → answer l a ≡ accepted b → NoneHolds l × (a ≡ b)
only_accepted {A} l a b =
    of_answer (λ (o : Outcome A). o ≡ accepted b → NoneHolds l × (a ≡ b)) l a (λ n q. let z : ◌≡◌ {A = ℕ} 0 1 = cc in absurd (omega arith)) (λ h q. (h, cc))

-- where there is one condition, a refusal says that it holds
pub only_refused : {A : Type 0} {k : ℕ} (n : ℕ) (b : Bool) (a : A) → refused k ≡ answer ((n, b) ∷ []) a → b ≡ true
unfolding answer judged
only_refused n true a e = refl
only_refused n false a e = let z : ◌≡◌ {A = ℕ} 0 1 = cc in absurd (omega arith)

-- a refusal that is answered is that of the first condition that holds
refused_is : {A : Type 0} {n : ℕ} (r : Judgement) (a : A) → refused n ≡ unless r a → r ≡ number n
refused_is {A} {n} (number k) a q = let e : k ≡ n = cc in ap number e
refused_is {A} {n} none a q = let z : ◌≡◌ {A = ℕ} 0 1 = cc in absurd (omega arith)

-- a refusal by the first conditions is that of all, whatever the value
pub refused_first : {A B : Type 0} (k l : List (ℕ × Bool)) (a : A) (b : B) (n : ℕ) → refused n ≡ answer k a → refused n ≡ answer (k ++ l) b
unfolding answer
refused_first k l a b n q = refuses (stop_first k l (record { is = refused_is (judged k) a q })) b

-- a result that says what is answered tells of the first condition that holds
pub said_first : {A : Type 0} (l : List (ℕ × Bool)) (a : A) (v : Result A Refusal) → said v ≡ answer l a → First l (refusal_of v)
unfolding answer
said_first l a (Ok b) q = let r = only_accepted l a b (sym q) in record { is = sym (ap judged (append-nil l)) ∙ pass_all l [] r.0 }
said_first l a (Err r) q = record { is = refused_is (judged l) a q }

-- ---- a value in the case of its mark
pub of_mark : {A : Type 0} {m k : Mark} → m ≡ k → (a : A) → ◌≡◌ {A = Outcome (Marked A)} (accepted (record { mark = k; value = a })) (accepted (record { mark = m; value = a }))
of_mark e a = ap (λ (k : Mark). accepted (record { mark = k; value = a })) (sym e)

-- ---- tests joined
-- neither of two holds
pub or_false : (a b : Bool) → a || b ≡ false → (a ≡ false) × (b ≡ false)
or_false true b q = absurd (true≢false q)
or_false false b q = (refl, q)

-- both of two hold
pub and_true : (a b : Bool) → a && b ≡ true → (a ≡ true) × (b ≡ true)
and_true true b e = (refl, e)
and_true false b e = absurd (true≢false (sym e))
