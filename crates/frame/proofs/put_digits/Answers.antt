-- One digit more stands in its place, and at the end all of them.
use Rattle.std.proofs.Common.{◌≡◌, sym, ap, ap₂, ◌∙◌, List, ℕ, suc, ◌+◌, ◌-◌, ◌/◌, ◌%◌, ◌^◌, set, pow-suc, div-one, arith}
use Rattle.std.proofs.Math.Nat.{pow-zero, div-div-eq-div-mul}
use Rattle.std.proofs.lemmas.List.Edits.{sets}
use Rattle.frame.specs.Digits.{digit_byte, digits}
use Rattle.frame.specs.DigitLaws.{length_digits}
use Rattle.frame.specs.WrittenLaws.{set_before}
use Rattle.frame.proofs.put_digits.Goals as goal

-- what is left of v after one digit more
left_more : (base v rest n m : ℕ) → m ≡ suc n → rest ≡ v / base ^ n → rest / base ≡ v / base ^ m
left_more base v rest n m more e =
    ap (λ (x : ℕ). x / base) e ∙ div-div-eq-div-mul v (base ^ n) base ∙ ap (λ (p : ℕ). v / p) (sym (pow-suc base n) ∙ ap (λ (k : ℕ). base ^ k) (sym more))

-- and the digits that then stand from the place before on
list_more :
    (first buf : List ℕ) (place next base v rest n m d : ℕ)
    → place ≡ suc next
    → m ≡ suc n
    → rest ≡ v / base ^ n
    → buf ≡ sets first place (digits base n v)
    → d ≡ digit_byte (rest % base)
    → set buf next d ≡ sets first next (digits base m v)
unfolding digits
list_more first buf place next base v rest n m d before more left list byte =
    let digit : d ≡ digit_byte (v / base ^ n % base) = byte ∙ ap (λ (x : ℕ). digit_byte (x % base)) left in
    ap₂ (λ (l : List ℕ) (x : ℕ). set l next x) (list ∙ ap (λ (k : ℕ). sets first k (digits base n v)) before) digit
    ∙ set_before (digits base n v) first next (suc next) _ (omega arith)
    ∙ ap (λ (k : ℕ). sets first next (digits base k v)) (sym more)

pub loop-place-init : goal.loop-place-init
unfolding digits
loop-place-init c =
    let a = c.args in
    let none : a.at + a.width - (a.at + a.width) ≡ 0 = omega arith in
    record {
      from = omega arith;
      left = sym (ap (λ (k : ℕ). a.v / a.base ^ k) none ∙ ap (λ (p : ℕ). a.v / p) (pow-zero a.base) ∙ div-one a.v);
      list = ap (λ (k : ℕ). sets a.buf.now (a.at + a.width) (digits a.base k a.v)) (sym none);
    }

pub loop-place-preserved : goal.loop-place-preserved
loop-place-preserved c =
    let b = c.loop-place.invariant in
    record {
      from = omega arith;
      left = left_more _ _ _ _ _ (omega arith) b.left;
      list = list_more _ _ _ _ _ _ _ _ _ _ (omega arith) (omega arith) b.left b.list c.digit_byte.ensures;
    }

pub returns : goal.returns
returns c =
    let a = c.args in
    let place : c.loop-place.place ≡ a.at = omega (arith, c.loop-place.invariant.from) in
    let all : a.at + a.width - c.loop-place.place ≡ a.width = omega arith in
    record {
      list = c.loop-place.invariant.list ∙ ap₂ (λ (k n : ℕ). sets a.buf.now k (digits a.base n a.v)) place all;
      place = ap (λ (n : ℕ). a.at + n) (sym (length_digits a.base a.width a.v));
    }
