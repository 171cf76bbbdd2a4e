-- The figures P1 to P9 as one table, with directions, and the theorem that every row holds.
use Rattle.std.specs.Prelude.{refl, false, List, [], ◌∷◌, ℕ, ◌+◌, ◌-◌, ◌*◌, ◌^◌, ℤ, pos, negsuc}
use Rattle.std.specs.Float.Ieee
use Rattle.marks.specs.declared.Mark.TheVariants.{Right, Open, Wrong}
use Rattle.marks.specs.Answers.{Outcome, refused, accepted, answer}
use Rattle.rounding.specs.declared.Direction.TheVariants.{Below, Equal, Above}
use Rattle.rounding.specs.Direction.{side_of}
use Rattle.rounding.specs.Grid.{nearest}
use Rattle.rounding.specs.Round.{rounded}
use Rattle.rounding.specs.Fraction.{direction_of}
use Rattle.factor.specs.declared.Description.{Description}
use Rattle.factor.specs.declared.Parts.{Parts}
use Rattle.factor.specs.Parts.{parts_at}
use Rattle.factor.specs.Precision.{scale_of}
use Rattle.factor.specs.Context.{tie_rule}
use Rattle.factor.specs.SetUp.{set_up, applied_of, intact}
use Rattle.product.specs.Product.{product}
use Rattle.product.specs.Marks.{mark}
use Rattle.product.specs.Answer.{multiplied}
use Rattle.suspects.specs.Suspects.{is_suspect}
use Rattle.calls.specs.Plain.{row, pick, span, span_of}
use Rattle.figures.specs.Table.{unsaid, exactly, Row, All, Holds}

-- precision n and the ends, at scale 0, above zero
abbrev ends : (n L U : ℕ) → Description
ends n L U = record { minus = false; precision = n; scale = pos 0; lower = L; upper = U }

-- Ch = h / 2 ^ (n - 1) and Cl = s / 2 ^ q
abbrev parts : (h : ℕ) (s : ℤ) (q : ℕ) → Outcome Parts
parts h s q = accepted (record { high = h; low = s; places = q })

pub figures : List Row
figures =
    -- P1. C = 3/2: Cl 0; suspects 9 and 14; products (14, 0) and (10, 1), right: a tie that goes up, and one that goes down
    record {
      figure = 1;
      factor = ends 4 (3 * 2 ^ 61) (3 * 2 ^ 61);
      given = parts 12 (pos 0) 0;
      products = record { X = 9; S = 14; b = 0; mark = Right; direction = Above } ∷ record { X = 14; S = 10; b = 1; mark = Right; direction = Below } ∷ [];
      suspects = exactly (9 ∷ 14 ∷ []);
    }
    -- P2. C = 19/16 - 2 ^ -20: Ch 9/8, Cl 8/2^7; X = 8 gives (10, 0), wrong; only suspect
    ∷ record {
      figure = 2;
      factor = ends 4 0x4BFFFC0000000000 0x4BFFFC0000000000;
      given = parts 9 (pos 8) 7;
      products = record { X = 8; S = 10; b = 0; mark = Wrong; direction = Above } ∷ [];
      suspects = exactly (8 ∷ []);
    }
    -- P3. C near 23/18: Ch 10/8, Cl 14/2^9; X = 9 gives (12, 0), open
    ∷ record {
      figure = 3;
      factor = ends 4 0x51C71C71C71C71C7 0x51C71C71C71C71C8;
      given = parts 10 (pos 14) 9;
      products = record { X = 9; S = 12; b = 0; mark = Open; direction = Above } ∷ [];
      suspects = unsaid;
    }
    -- P4. C near 4/3: Ch 11/8, Cl -11/2^8; X = 8 to 15: above, equal, below, above, equal, above, below, equal
    ∷ record {
      figure = 4;
      factor = ends 4 0x5555555555555555 0x5555555555555556;
      given = parts 11 (negsuc 10) 8;
      products =
          record { X = 8; S = 11; b = 0; mark = Right; direction = Above } ∷ record { X = 9; S = 12; b = 0; mark = Right; direction = Equal } ∷ record { X = 10; S = 13; b = 0; mark = Right; direction = Below } ∷ record { X = 11; S = 15; b = 0; mark = Right; direction = Above } ∷ record { X = 12; S = 8; b = 1; mark = Right; direction = Equal } ∷ record { X = 13; S = 9; b = 1; mark = Right; direction = Above } ∷ record { X = 14; S = 9; b = 1; mark = Right; direction = Below } ∷ record { X = 15; S = 10; b = 1; mark = Right; direction = Equal } ∷ [];
      suspects = unsaid;
    }
    -- P5. L = U = 2^63 - 1: Ch 16/8, Cl -8/2^65; X = 15 gives (15, 1)
    ∷ record {
      figure = 5;
      factor = ends 4 (2 ^ 63 - 1) (2 ^ 63 - 1);
      given = parts 16 (negsuc 7) 65;
      products = record { X = 15; S = 15; b = 1; mark = Right; direction = Above } ∷ [];
      suspects = unsaid;
    }
    -- P6. Ends 17 * 2^58 - 1 and + 1: refusal 15
    ∷ record { figure = 6; factor = ends 4 (17 * 2 ^ 58 - 1) (17 * 2 ^ 58 + 1); given = refused 15; products = []; suspects = unsaid }
    -- P7. Ends 3 * 2^61 and one more: 16
    ∷ record { figure = 7; factor = ends 4 (3 * 2 ^ 61) (3 * 2 ^ 61 + 1); given = refused 16; products = []; suspects = unsaid }
    -- P8. L = U = 2^62 accepted; U = 2^63: 12
    ∷ record { figure = 8; factor = ends 4 (2 ^ 62) (2 ^ 62); given = parts 8 (pos 0) 0; products = []; suspects = unsaid }
    ∷ record { figure = 8; factor = ends 4 (2 ^ 62) (2 ^ 63); given = refused 12; products = []; suspects = unsaid }
    -- P9. Precision 3 and 25: 11
    ∷ record { figure = 9; factor = ends 3 (2 ^ 62) (2 ^ 62); given = refused 11; products = []; suspects = unsaid }
    ∷ record { figure = 9; factor = ends 25 (2 ^ 62) (2 ^ 62); given = refused 11; products = []; suspects = unsaid }
    ∷ []

-- every row holds
pub every_figure : All Holds figures
unfolding figures answer direction_of side_of set_up applied_of scale_of tie_rule parts_at intact multiplied rounded nearest product mark is_suspect row pick span span_of Ieee.round Ieee.size Ieee.span Ieee.climb Ieee.to_bits
every_figure = (
  (refl, (refl, (refl, tt)), refl),
  (
    (refl, (refl, tt), refl),
    (
      (refl, (refl, tt), tt),
      (
        (refl, (refl, (refl, (refl, (refl, (refl, (refl, (refl, (refl, tt)))))))), tt),
        ((refl, (refl, tt), tt), ((refl, tt, tt), ((refl, tt, tt), ((refl, tt, tt), ((refl, tt, tt), ((refl, tt, tt), ((refl, tt, tt), tt))))))),
      ),
    ),
  ),
)
