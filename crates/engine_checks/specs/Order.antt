-- The record and the tables in order, part by part. Assumes nothing.
use Rattle.std.specs.Prelude.{◌≡◌, refl, Bool, ◌&&◌, List, ℕ, zero, suc, ◌+◌, ◌*◌, ◌^◌, ◌-◌, ◌≤◌, ltb, length}
use Rattle.std.proofs.Common.{◌∙◌, mul-le-mul_right, add-one, arith}
use Rattle.std.proofs.Math.Bool.{true, false}
use borrow.Author.Tests.{le-leb, leb-true}
use Rattle.std.proofs.Math.Dec.{leb}
use Rattle.linear.proofs.TestLaws.{T-same, all_at, all_from, and_both, and_parts}
use Rattle.linear.specs.Tests.{all_to}
use Rattle.linear.specs.Tuples.{total}
use Rattle.definitions.specs.Refusals.{step_limit}
use Rattle.definitions.specs.Tables.{at}
use Rattle.engine_spec.specs.Beside.{SmallTable}
use Rattle.engine_spec.specs.Calls.{coefficients_small, in_order, is_rising, is_row, marks_in_order}
use Rattle.engine_spec.specs.Engine.{Work, basis_row}
use Rattle.engine_spec.specs.Reduction.{is_small}
use Rattle.engine_spec.specs.Stage.{row}
use Rattle.engine_beside.specs.SmallRows.{are_small, small_table}

-- a system within the limits, and tables with room
pub record Within (p q most room equations basis table : ℕ) : Type 0 where
  pub few : p ≤ 32
  pub some : 1 ≤ q
  pub unknowns : q ≤ 32
  pub numbers : p * q ≤ equations
  pub long : most * q ≤ basis
  pub wide : room * q ≤ table

-- the numbers of the record
unfoldable pub record_in_order : (p most room count rows steps done equation : ℕ) → Bool
record_in_order p most room count rows steps done equation =
    (leb count most && leb rows room) && ((leb steps step_limit && ltb done (2 ^ p)) && marks_in_order p done equation)

unfoldable pub are_rows : (q m : ℕ) → (ℕ → ℕ → ℕ) → Bool
are_rows q m row = all_to m (λ i. is_row q (row i))

-- no row is all zero
unfoldable pub none_zero : (q m : ℕ) → (ℕ → ℕ → ℕ) → Bool
none_zero q m row = all_to m (λ i. ltb 0 (total (row i) q))

regroup : (a b c d e f : Bool) → (a && b) && ((c && d) && (e && f)) ≡ ((a && b) && ((c && d) && e)) && f
regroup false b c d e f = refl
regroup true false c d e f = refl
regroup true true false d e f = refl
regroup true true true false e f = refl
regroup true true true true e f = refl

abbrev record_of : (p most room : ℕ) → Work → Bool
record_of p most room w = record_in_order p most room w.count w.stage.rows w.stage.steps w.done w.equation

abbrev rising_of : ℕ → Work → Bool
rising_of q w = is_rising w.stage.rows (λ i. total (row q w.stage i) q) w.stage.degree

module _ (p q most room : ℕ) (w : Work) where
  pub parts : in_order p q most room w ≡ record_of p most room w && (coefficients_small (p * q) w.equations
      && (are_rows q w.count (basis_row q w) && (are_small q w.stage.rows (row q w.stage) && rising_of q w)))
  unfolding in_order record_in_order are_rows are_small
  parts = regroup (leb w.count most) (leb w.stage.rows room) (leb w.stage.steps step_limit) (ltb w.done (2 ^ p))
      (marks_in_order p w.done w.equation) _

  pub record_few : record_of p most room w ≡ true → (w.count ≤ most) × (w.stage.rows ≤ room)
  unfolding record_in_order
  record_few h =
      let (x, y) = both (leb w.count most && leb w.stage.rows room) _ h in
      let (a, c) = both (leb w.count most) _ x in
      (leb-true w.count most a, leb-true w.stage.rows room c)
    where
      both : (a b : Bool) → (a && b) ≡ true → (a ≡ true) × (b ≡ true)
      both true b h = (refl, h)
      both false b h = (h, cc)

  pub rows_room : {equations basis table : ℕ} → Within p q most room equations basis table → record_of p most room w ≡ true
      → (w.count * q ≤ basis) × (w.stage.rows * q ≤ table)
  rows_room x h =
      let (a, c) = record_few h in
      (omega (arith, x.long, mul-le-mul_right q a), omega (arith, x.wide, mul-le-mul_right q c))

-- the rows that were tested
pub tested_small : (q n : ℕ) (table : List ℕ) → are_small q n (at table q) ≡ true → q ≤ 32 → n * q ≤ length table → SmallTable q n table
tested_small q n table e few whole = small_table q n table few whole (rw e tt)

-- the two parts of each row, asked one after the other of all
module _ (q m : ℕ) (row : ℕ → ℕ → ℕ) where
  pub both_parts : are_small q m row && none_zero q m row ≡ are_rows q m row
  unfolding are_rows are_small none_zero is_row
  both_parts =
      T-same _ _
      (λ h.
      let (small, above) = and_parts (all_to m (λ i. is_small q (row i))) _ h in
      all_from m _ (λ i l. and_both (is_small q (row i)) _ (all_at m _ small i l) (all_at m _ above i l)))
      (λ h.
      and_both (all_to m (λ i. is_small q (row i))) _
      (all_from m _ (λ i l. (and_parts (is_small q (row i)) _ (all_at m _ h i l)).0))
      (all_from m _ (λ i l. (and_parts (is_small q (row i)) _ (all_at m _ h i l)).1)))

-- ---- the degrees, one after the other

-- the degree before place i
unfoldable pub degree_before : (ℕ → ℕ) → ℕ → ℕ
degree_before f zero = 0
degree_before f (suc i) = f i

unfoldable pub rises_by : (before degree d : ℕ) → Bool
rises_by before degree d = ltb 0 degree && (leb before degree && leb degree d)

pub before_next : (f : ℕ → ℕ) (i : ℕ) → f i ≡ degree_before f (i + 1)
unfolding degree_before
before_next f i = rw add-one

pub before_first : (f : ℕ → ℕ) → 0 ≡ degree_before f 0
unfolding degree_before
before_first f = refl

-- what the code tests is what the definition asks
pub rises_is : (f : ℕ → ℕ) (d i : ℕ) {before degree : ℕ} {b : Bool} → before ≡ degree_before f i → degree ≡ f i → b ≡ rises_by before degree d
    → b ≡ ltb 0 (f i) && (leb (f (i - 1)) (f i) && leb (f i) d)
unfolding rises_by degree_before
rises_is f d zero e g h = h ∙ rw (e, g, le-leb 0 (f 0) (omega arith), le-leb (f 0) (f 0) (omega arith))
rises_is f d (suc i) e g h = let same : suc i - 1 ≡ i = omega arith in h ∙ rw (e, g, same)
