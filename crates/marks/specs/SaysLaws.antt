-- A mark is the only one that says the truth, and says the same of what comes to the same. Assumes nothing.
use Rattle.std.specs.Prelude.{◌≡◌, refl}
use Rattle.marks.specs.declared.Mark.{Mark}
use Rattle.marks.specs.declared.Mark.TheVariants.{Right, Open, Wrong}
use Rattle.marks.specs.Says.{Says}

-- no two marks are true where there is anyone in B
pub says_only : {A : Type 0} (B gives : A → Type 0) (a : A) → B a → (x y : Mark) → Says B gives x → Says B gives y → x ≡ y
says_only B gives a k Right Right p q = refl
says_only B gives a k Right Open p q = absurd (q.1.2 (p q.1.0 q.1.1))
says_only B gives a k Right Wrong p q = absurd (q a k (p a k))
says_only B gives a k Open Right p q = absurd (p.1.2 (q p.1.0 p.1.1))
says_only B gives a k Open Open p q = refl
says_only B gives a k Open Wrong p q = absurd (q p.0.0 p.0.1 p.0.2)
says_only B gives a k Wrong Right p q = absurd (p a k (q a k))
says_only B gives a k Wrong Open p q = absurd (p q.0.0 q.0.1 q.0.2)
says_only B gives a k Wrong Wrong p q = refl

-- two ways of giving that agree on B: what a mark says of the one it says of the other
pub says_alike : {A : Type 0} (B gives also : A → Type 0) → ((a : A) → B a → gives a → also a) → ((a : A) → B a → also a → gives a) → (m : Mark) → Says B gives m → Says B also m
says_alike B gives also to from Right s = λ a k. to a k (s a k)
says_alike B gives also to from Wrong s = λ a k g. s a k (from a k g)
says_alike B gives also to from Open s = ((s.0.0, s.0.1, to s.0.0 s.0.1 s.0.2), (s.1.0, s.1.1, λ g. s.1.2 (from s.1.0 s.1.1 g)))
