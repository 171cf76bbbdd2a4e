-- The product of two numbers of two digits each to any base B, by columns, and that each column fits two digits. Assumes nothing.
use Rattle.std.specs.Prelude.{◌≡◌, refl, ℕ, ◌+◌, ◌-◌, ◌*◌, ◌/◌, ◌%◌, ◌≤◌, ◌<◌}
use Rattle.std.proofs.Common.{sym, ap, ap₂, ◌∙◌, subst, add_assoc, add_comm, mul_assoc, mul_comm, mul_left_comm, mul-add, add-mul, mul-le-mul, one-mul, mul-one, div-add-mod', arith}
use Rattle.std.proofs.Math.Nat.{add_left_comm}

-- The product is the sum of the four products of digits, each in its column.
pub product_by_digits : (B a b : ℕ) → a * b ≡ a / B * (b / B) * (B * B) + (a / B * (b % B) + a % B * (b / B)) * B + a % B * (b % B)
product_by_digits B a b =
    ap₂ (λ (x y : ℕ). x * y) (sym (div-add-mod' a B)) (sym (div-add-mod' b B)) ∙ spread (a / B) (a % B) (b / B) (b % B)
  where
    spread : (a₁ a₀ b₁ b₀ : ℕ) → (a₁ * B + a₀) * (b₁ * B + b₀) ≡ a₁ * b₁ * (B * B) + (a₁ * b₀ + a₀ * b₁) * B + a₀ * b₀
    spread a₁ a₀ b₁ b₀ = simp (mul-add, add-mul, mul_assoc, mul_comm, mul_left_comm, add_assoc, add_comm, add_left_comm) refl

-- Four products added up by columns: m is the first middle product with the lowest column's carry, n the second one with m's digit.
pub columns : (B p₁₁ p₁₀ p₀₁ p₀₀ m n : ℕ) → m ≡ p₁₀ + p₀₀ / B → n ≡ m % B + p₀₁
    → (p₁₁ + m / B + n / B) * (B * B) + (n % B * B + p₀₀ % B) ≡ p₁₁ * (B * B) + (p₁₀ + p₀₁) * B + p₀₀
columns B p₁₁ p₁₀ p₀₁ p₀₀ m n em en =
    let lowest = div-add-mod' p₀₀ B in
    let first = ap (λ (x : ℕ). x * B) (div-add-mod' m B ∙ em) in
    let second = ap (λ (x : ℕ). x * B) (div-add-mod' n B ∙ en) in
    simp add-mul (omega (arith, simp (add-mul, mul_assoc) at first, simp (add-mul, mul_assoc) at second))

-- The product by one digit d is two of them: p is that of the lowest digit, m the next one with its carry.
pub digit_columns : (B a d p m : ℕ) → p ≡ a % B * d → m ≡ a / B * d + p / B → m / B * (B * B) + (m % B * B + p % B) ≡ a * d
digit_columns B a d p m ep em =
    let lowest = div-add-mod' p B in
    let next = ap (λ (x : ℕ). x * B) (div-add-mod' m B ∙ em) in
    let whole = ap (λ (x : ℕ). x * d) (div-add-mod' a B) in
    omega (arith, ep, lowest, next, whole)

-- A product of two digits leaves room for two digits more.
pub product_room : (B x y : ℕ) → x < B → y < B → x * y + 2 * B ≤ B * B + 1
product_room B x y hx hy = subst (λ (b : ℕ). x * y + 2 * b ≤ b * b + 1) e (largest (B - 1) (omega arith) (omega arith))
  where
    e : B - 1 + 1 ≡ B
    e = omega arith

    largest : (b : ℕ) → x ≤ b → y ≤ b → x * y + 2 * (b + 1) ≤ (b + 1) * (b + 1) + 1
    largest b hx' hy' = simp (add-mul, mul-add, one-mul, mul-one) (omega (arith, mul-le-mul hx' hy'))
