-- Where the values and degrees are those of the rows, what is found by them is what the stage says. Assumes nothing.
use Rattle.std.specs.Prelude.{◌≡◌, ◌⊎◌, List, ℕ, ◌+◌, ◌≤◌, ◌<◌, eqb, ℤ}
use Rattle.std.proofs.Common.{sym, ◌∙◌, inl, inr, mul-le-mul_right, arith}
use Rattle.linear.proofs.Cases.{split}
use Rattle.linear.proofs.TupleLaws.{total_most}
use Rattle.linear.specs.Tuples.{total}
use Rattle.definitions.specs.Tables.{at}
use Rattle.engine_spec.specs.Beside.{Measured, SmallTable, Valued}
use Rattle.engine_spec.specs.Search.{first_in, least_to}
use Rattle.engine_spec.specs.Sound.{Sorted}
use Rattle.engine_spec.specs.Stage.{Stage, above, below, due_row, is_due, is_pair, next_degree, pair_degree}
use Rattle.engine_search.specs.Firsts.{first_in_same, holder_same, least_same, partner_same}
use Rattle.engine_search.specs.Places.{Falling, IsNext, Ranked, degree_of, due, due_by, least_pair, lower_of}
use Rattle.engine_search.specs.Places.{next_degree_by, pair_degree_by, upper_of, value_of}

-- ---- tests

module _ {c : ℕ → ℤ} {q n : ℕ} {table : List ℕ} {values : List ℤ} {degrees : List ℕ} (v : Valued c q n table values) (g : Measured q n table degrees) where
  pub due_same : (d h k : ℕ) → h < n → k < n → due values degrees d h k ≡ is_due q c (at table q) d h k
  unfolding due_by is_due is_pair
  due_same d h k hn kn = rw (v.each h hn, v.each k kn, g.each h hn, g.each k kn)

  pair_degree_same : (h k : ℕ) → h < n → k < n → pair_degree_by (value_of values) (degree_of degrees) h k ≡ pair_degree q c (at table q) h k
  unfolding pair_degree_by pair_degree is_pair
  pair_degree_same h k hn kn = rw (v.each h hn, v.each k kn, g.each h hn, g.each k kn)

  pub least_pair_same : (d : ℕ) → least_pair d n (value_of values) (degree_of degrees) n ≡ least_to d n (λ h. least_to d n (pair_degree q c (at table q) h))
  least_pair_same d =
      least_same d n (λ h. least_to d n (pair_degree_by (value_of values) (degree_of degrees) h)) (λ h. least_to d n (pair_degree q c (at table q) h))
      (λ h hn. least_same d n (pair_degree_by (value_of values) (degree_of degrees) h) (pair_degree q c (at table q) h) (λ k kn. pair_degree_same h k hn kn))

-- ---- the stage

module _ {q : ℕ} {c : ℕ → ℤ} (s : Stage) {values : List ℤ} {degrees : List ℕ} (v : Valued c q s.rows s.table values)
    (g : Measured q s.rows s.table degrees) where
  pub above_by : upper_of s.rows values degrees s.degree s.upper s.lower ≡ above q c s
  above_by = holder_same s.rows _ _ s.upper s.lower (due_same v g s.degree)

  pub below_by : above q c s < s.rows → lower_of s.rows values degrees s.degree s.upper s.lower ≡ below q c s
  below_by less =
      rw above_by (partner_same s.rows (due values degrees s.degree) _ s.upper s.lower (due_same v g s.degree) (above q c s) less)

  pub next_degree_by_lem : {m : ℕ} {basis sizes : List ℕ} → Measured q m basis sizes
      → next_degree_by s.degree m (degree_of sizes) s.rows (value_of values) (degree_of degrees) ≡ next_degree q c m (at basis q) s
  unfolding next_degree_by next_degree
  next_degree_by_lem {m} {basis} {sizes} z =
      rw (least_same s.degree m (degree_of sizes) (λ i. total (at basis q i) q) z.each, least_pair_same v g s.degree)

  -- the pair that code found, or none
  pub pair_by : {upper lower first : ℕ} → upper < s.rows → IsNext s.rows values degrees s.degree s.upper s.lower upper lower first
      → (above q c s ≡ upper) × (below q c s ≡ lower)
  pair_by {upper} {lower} {first} less x =
      let up : above q c s ≡ upper = cc (above_by, x.upper_is) in
      (up, sym (x.lower_is ∙ below_by (rw up less)))

  pub none_by : s.rows ≤ upper_of s.rows values degrees s.degree s.upper s.lower → s.rows ≤ above q c s
  none_by past = rw above_by at past

pub due_row_by : (q : ℕ) {m : ℕ} {basis sizes : List ℕ} (s : Stage) → Measured q m basis sizes
    → first_in m s.taken (λ i. eqb (degree_of sizes i) s.degree) ≡ due_row q m (at basis q) s
due_row_by q {m} {basis} {sizes} s z =
    first_in_same m s.taken (λ i. eqb (degree_of sizes i) s.degree) (λ i. eqb (total (at basis q i) q) s.degree) (λ i l. rw (z.each i l))

-- ---- what the code asks of the tables

pub ranked_by : {c : ℕ → ℤ} {q n : ℕ} {table : List ℕ} {values : List ℤ} {degrees : List ℕ} → Valued c q n table values → Measured q n table degrees
    → SmallTable q n table → Sorted q n (at table q) → ((i : ℕ) → i < n → 0 < total (at table q i) q) → Ranked n values degrees
ranked_by {c} {q} {n} {table} v g small sorted some =
    record {
      valued = v.long;
      measured = g.long;
      sorted = λ i k l h. omega (arith, g.each i (omega arith), g.each k h, sorted i k l h);
      some = λ i l. omega (arith, g.each i l, some i l);
      low = λ i l. omega (
        arith,
        g.each i l,
        total_most (at table q i) q 1000000 (λ j. small.small i j l),
        mul-le-mul_right 1000000 small.few,
      );
    }

-- a row more, of degree d
pub falling_grown : {n : ℕ} {degrees : List ℕ} {d upper first : ℕ} → Falling n degrees d upper first → (grown : List ℕ)
    → ((i : ℕ) → i < n → degree_of grown i ≡ degree_of degrees i) → degree_of grown n ≡ d → Falling (n + 1) grown d upper first
falling_grown {n} {degrees} {d} {upper} {first} f grown same new = record { late = λ l k low h. of l k low h (split upper n) (split k n) }
  where
    of : upper < n + 1 → (k : ℕ) → first ≤ k → k < n + 1 → (upper < n) ⊎ (n ≤ upper) → (k < n) ⊎ (n ≤ k) → d ≤ degree_of grown upper + degree_of grown k
    of l k low h (inl x) (inl y) = omega (arith, same upper x, same k y, f.late x k low y)
    of l k low h (inr x) y = let e : upper ≡ n = omega arith in rw e (omega arith)
    of l k low h (inl x) (inr y) = let e : k ≡ n = omega arith in rw e (omega arith)
