-- What is handed over to a call of the second walk, within the limits; tables with rows of 8 images; and one turn of the loops over them. Assumes nothing.
use Rattle.std.specs.Prelude.{◌≡◌, ◌≢◌, List, ℕ, ◌+◌, ◌*◌, ◌/◌, ◌≤◌, ◌<◌, ℤ, pos, nat_abs, ◌+ℤ◌, ◌*ℤ◌, length, get_or}
use Rattle.std.proofs.Common.{sym, ◌∙◌, ap, div-mul-le_self, mul-le-mul, arith}
use Rattle.std.proofs.Common.{to_z-of_z, SFits, of_z, to_z}
use Rattle.std.specs.Int.{w64}
use Rattle.linear.proofs.Integers.{nat_abs_*ℤ, sfits_nat_abs}
use Rattle.linear.proofs.SystemLaws.{inner_bound, inner_next}
use Rattle.linear.specs.Systems.{inner, value}
use Rattle.definitions.specs.System.{coef_limit, most_component, most_equations, most_unknowns}
use Rattle.laws.proofs.TableLaws.{row_fits}
use Rattle.table_rows.specs.Small.{SmallEquation, SmallRow, equation_at, row_at}
use Rattle.table_rows.proofs.Small.{value_small}
use Rattle.desk_spec.specs.Desks.{image_limit}

-- "16 · 10,000 · 1,000,000": far below 2 ^ 63
abbrev pub value_limit : ℕ
value_limit = most_unknowns * (coef_limit * most_component)

-- the second group
pub record SmallMap (p q : ℕ) (coefs : List ℤ) : Type 0 where
  pub some : 0 < q
  pub equations : p ≤ most_equations
  pub unknowns : q ≤ most_unknowns
  pub whole : p * q ≤ length coefs
  pub small : (n : ℕ) → nat_abs (get_or coefs n (pos 0)) ≤ coef_limit

module _ {p q : ℕ} {coefs : List ℤ} (s : SmallMap p q coefs) where
  pub map_equation : (e : ℕ) → e < p → SmallEquation q coefs (e * q)
  map_equation e l =
      record {
        limit = coef_limit;
        whole = omega (arith, s.whole, row_fits q e p l);
        small = λ j jq. s.small (e * q + j);
        narrow = omega arith;
        low = omega (arith, s.unknowns);
      }

  pub map_value : (e : ℕ) (x : ℕ → ℕ) → ((j : ℕ) → j < q → x j ≤ most_component) → nat_abs (value (equation_at coefs (e * q)) q x) ≤ value_limit
  map_value e x h = omega (arith, value_small coef_limit q (equation_at coefs (e * q)) x (λ j l. s.small (e * q + j)) h, s.unknowns)

-- the second group and the generators
pub record SmallDesk (p q : ℕ) (coefs : List ℤ) (generators : List ℕ) : Type 0 where
  pub group : SmallMap p q coefs
  pub handed : (i : ℕ) → get_or generators i 0 ≤ most_component

module _ {p q : ℕ} {coefs : List ℤ} {generators : List ℕ} (s : SmallDesk p q coefs generators) where
  pub desk_equation : (i : ℕ) → i < p → SmallEquation q coefs (i * q)
  desk_equation i l = map_equation s.group i l

  -- n generators take n * q numbers of their table
  pub desk_rows : (n : ℕ) → n * q ≤ length generators → (k : ℕ) → k < n → SmallRow q generators (k * q)
  desk_rows n whole k l = record { whole = omega (arith, row_fits q k n l); small = λ j jq. s.handed _ }

  pub desk_row : (k : ℕ) → k < length generators / q → SmallRow q generators (k * q)
  desk_row k l = desk_rows (length generators / q) (div-mul-le_self (length generators) q) k l

-- ---- images in a table

-- number i of row k
abbrev pub entry : List ℤ → ℕ → ℕ → ℤ
entry images k i = get_or images (k * 8 + i) (pos 0)

-- the image of the tuple that stands in a table from place base
abbrev pub image_at : ℕ → List ℤ → List ℕ → ℕ → ℕ → ℤ
image_at q coefs table base i = value (equation_at coefs (i * q)) q (row_at table base)

-- row k has been written, with f at its first n places, and no other row
pub record ImageWritten (k n : ℕ) (f : ℕ → ℤ) (images₀ images : List ℤ) : Type 0 where
  pub new : (i : ℕ) → i < n → entry images k i ≡ f i
  pub other : (m i : ℕ) → m ≢ k → i < 8 → entry images m i ≡ entry images₀ m i
  pub size : length images ≡ length images₀

-- those of the first n generators
pub record Images (p q : ℕ) (coefs : List ℤ) (generators : List ℕ) (n : ℕ) (images : List ℤ) : Type 0 where
  pub each : (k i : ℕ) → k < n → i < p → entry images k i ≡ image_at q coefs generators (k * q) i

-- ---- inner products

-- rows a and b: an image of a tuple on the stack, and of a generator
pub record Factors (p : ℕ) (images : List ℤ) (a b : ℕ) : Type 0 where
  pub few : p ≤ 8
  pub low : (a < 65) × (b < 65)
  pub left : (i : ℕ) → i < p → nat_abs (entry images a i) ≤ value_limit
  pub right : (i : ℕ) → i < p → nat_abs (entry images b i) ≤ image_limit

-- the code's `sum + x * y`, each number read from its bits
abbrev pub added : ℕ → ℤ → ℤ → ℤ
added sum x y = to_z w64 sum +ℤ to_z w64 (of_z w64 x) *ℤ to_z w64 (of_z w64 y)

module _ {p : ℕ} {images : List ℤ} {a b : ℕ} (s : Factors p images a b) where
  left_fits : (i : ℕ) → i < p → SFits w64 (entry images a i)
  left_fits i l = sfits_nat_abs (omega (arith, s.left i l))

  right_fits : (i : ℕ) → i < p → SFits w64 (entry images b i)
  right_fits i l = sfits_nat_abs (omega (arith, s.right i l))

  term_fits : (i : ℕ) → i < p → SFits w64 (entry images a i *ℤ entry images b i)
  term_fits i l = sfits_nat_abs (omega (arith, nat_abs_*ℤ (entry images a i) (entry images b i), mul-le-mul (s.left i l) (s.right i l)))

  pub product_fits : (k : ℕ) → k ≤ p → SFits w64 (inner k (entry images a) (entry images b))
  product_fits k l =
      sfits_nat_abs
      (omega (
        arith,
        s.few,
        inner_bound k value_limit image_limit (entry images a) (entry images b) (λ i m. s.left i (omega arith)) (λ i m. s.right i (omega arith)),
      ))

  module _ (k : ℕ) {sum : ℕ} (e : sum ≡ of_z w64 (inner k (entry images a) (entry images b))) where
    pub sum_value : k ≤ p → to_z w64 sum ≡ inner k (entry images a) (entry images b)
    sum_value l = rw e (to_z-of_z (product_fits k l))

    module _ (l : k < p) where
      added_is : added sum (entry images a k) (entry images b k) ≡ inner (k + 1) (entry images a) (entry images b)
      added_is = rw (to_z-of_z (left_fits k l), to_z-of_z (right_fits k l), sum_value (omega arith)) (sym (inner_next k (entry images a) (entry images b)))

      pub next_fits : SFits w64 (to_z w64 (of_z w64 (entry images a k)) *ℤ to_z w64 (of_z w64 (entry images b k)))
          × SFits w64 (added sum (entry images a k) (entry images b k))
      next_fits = (rw (to_z-of_z (left_fits k l), to_z-of_z (right_fits k l)) (term_fits k l), rw added_is (product_fits (k + 1) (omega arith)))

      pub next_sum : {r : ℤ} → r ≡ added sum (entry images a k) (entry images b k) → of_z w64 r ≡ of_z w64 (inner (k + 1) (entry images a) (entry images b))
      next_sum h = ap (of_z w64) (h ∙ added_is)
