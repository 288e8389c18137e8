-- Theorems about what specs/Tests.antt defines. Assumes nothing.
use Rattle.std.specs.Prelude.{◌≡◌, ◌≢◌, Bool, ℕ, zero, suc, ◌+◌, ◌≤◌, ◌<◌, ℤ, ◌<ℤ◌}
use Rattle.std.proofs.Math.Path.{refl}
use Rattle.std.proofs.Common.{sym, ◌∙◌, arith}
use Rattle.std.proofs.Math.Logic.{inl, inr}
use Rattle.std.proofs.Math.Bool.{true, false, cond}
use Rattle.std.proofs.Math.Decide.{ℕ_discrete}
use Rattle.std.proofs.Math.Dec.{T, eqb→eq, eqb_refl}
use Rattle.std.proofs.Math.IntN.{pos}
use Rattle.std.specs.Int.Signed.{lt_z, lt_z_yes}
use Rattle.linear.specs.Differences.{lt_up, up, up_lt}
use Rattle.linear.proofs.Differences.{one_side}
use Rattle.linear.specs.Sums.{sum_to}
use Rattle.linear.specs.Systems.{inner, value}
use Rattle.linear.proofs.TestLaws.{and_both, and_parts}
use Rattle.linear.specs.Tuples.{total}
use Rattle.engine_spec.specs.Search.{Under, least_to}
use Rattle.engine_spec.proofs.Search.{least_above, least_one, least_pair, least_under, lesser_itself, lesser_one, lesser_other, under_under}
use Rattle.engine_spec.specs.Stage.{Stage, is_due, is_pair, next_degree, pair_degree, row}
use Rattle.engine_spec.specs.Tests.{Degree, Pair, d, of_pair, of_pairs, of_row, of_rows}

-- ---- what the tests say

value_columns : (q : ℕ) (c : ℕ → ℤ) (x : ℕ → ℕ) → 0 < up (value c q x) → 0 < q
unfolding value inner sum_to
value_columns zero c x h = absurd (omega arith)
value_columns (suc q) c x h = omega arith

module _ (q : ℕ) (c : ℕ → ℤ) (row : ℕ → ℕ → ℕ) (h k : ℕ) where
  pair_is : Pair q c row h k → T (is_pair q c row h k)
  unfolding is_pair
  pair_is o =
      let x = value c q (row h) in
      let y = value c q (row k) in
      let over : pos 0 <ℤ x = lt_up (omega (arith, o.above, one_side x)) in
      let under : y <ℤ pos 0 = lt_up (omega (arith, o.below, one_side y)) in
      and_both (lt_z (pos 0) x) (lt_z y (pos 0)) over.lt under.lt

  -- there is no such pair where there are no unknowns
  pub pair_columns : Pair q c row h k → 0 < q
  pair_columns o = value_columns q c (row h) o.above

  pub due_is : (d : ℕ) → Pair q c row h k → total (row h) q + total (row k) q ≡ d → T (is_due q c row d h k)
  unfolding is_due
  due_is d o e = and_both (is_pair q c row h k) _ (pair_is o) (rw e (eqb_refl d))

  pub is_due_lem : (d : ℕ) → T (is_due q c row d h k) → total (row h) q + total (row k) q ≡ d
  unfolding is_due
  is_due_lem d t = eqb→eq (total (row h) q + total (row k) q) d (and_parts (is_pair q c row h k) _ t).1

  is_pair_lem : T (is_pair q c row h k) → Pair q c row h k
  unfolding is_pair
  is_pair_lem t =
      let x = value c q (row h) in
      let y = value c q (row k) in
      let (u, w) = and_parts (lt_z (pos 0) x) (lt_z y (pos 0)) t in
      let over : pos 0 <ℤ x = lt_z_yes u in
      let under : y <ℤ pos 0 = lt_z_yes w in
      record { above = omega (arith, up_lt over, one_side x); below = omega (arith, up_lt under, one_side y) }

  pub due_pair : (d : ℕ) → T (is_due q c row d h k) → Pair q c row h k
  unfolding is_due
  due_pair d t = is_pair_lem (and_parts (is_pair q c row h k) _ t).0

  -- the degree of a pair is not 0 just where it is one
  pub pair_degree_some : pair_degree q c row h k ≢ 0 → Pair q c row h k × (pair_degree q c row h k ≡ total (row h) q + total (row k) q)
  unfolding pair_degree
  pair_degree_some ne = go (is_pair q c row h k) is_pair_lem ne
    where
      go : (b : Bool) → (T b → Pair q c row h k) → cond b (total (row h) q + total (row k) q) 0 ≢ 0
          → Pair q c row h k × (cond b (total (row h) q + total (row k) q) 0 ≡ total (row h) q + total (row k) q)
      go true f ne = (f tt, refl)
      go false f ne = absurd (ne refl)

  pub degree_is : Pair q c row h k → pair_degree q c row h k ≡ total (row h) q + total (row k) q
  unfolding pair_degree
  degree_is o = go (is_pair q c row h k) (pair_is o)
    where
      go : (b : Bool) → T b → cond b (total (row h) q + total (row k) q) 0 ≡ total (row h) q + total (row k) q
      go true t = refl
      go false t = absurd t

-- ---- the next degree

module _ (q : ℕ) (c : ℕ → ℤ) (m : ℕ) (basis : ℕ → ℕ → ℕ) (s : Stage) where
  pub next_pairs : (h k : ℕ) → h < s.rows → k < s.rows → Pair q c (row q s) h k
      → Under (d q c m basis s) (total (row q s h) q + total (row q s k) q) (next_degree q c m basis s)
  unfolding next_degree
  next_pairs h k hn kn o =
      lesser_other (d q c m basis s) (of_rows q c m basis s) (of_pairs q c m basis s) (total (row q s h) q + total (row q s k) q)
      (rw (degree_is q c (row q s) h k o) at (least_pair (d q c m basis s) s.rows (pair_degree q c (row q s)) h k hn kn))

  next_least : Under (d q c m basis s) (of_rows q c m basis s) (next_degree q c m basis s)
  unfolding next_degree
  next_least = lesser_itself (d q c m basis s) (of_rows q c m basis s) (of_pairs q c m basis s)
      (least_above (d q c m basis s) s.rows (λ h. least_to (d q c m basis s) s.rows (pair_degree q c (row q s) h)))

  pub next_above : next_degree q c m basis s ≢ 0 → (d q c m basis s) < next_degree q c m basis s
  next_above = next_least.above

  pub next_rows : (i : ℕ) → i < m → Under (d q c m basis s) (total (basis i) q) (next_degree q c m basis s)
  next_rows i l = under_under (d q c m basis s) (total (basis i) q) (of_rows q c m basis s) (next_degree q c m basis s)
      (least_under (d q c m basis s) m (λ i. total (basis i) q) i l) next_least

  -- what next_degree finds is one
  found_one : next_degree q c m basis s ≢ 0 → (Degree q c m basis s) (next_degree q c m basis s)
  unfolding next_degree
  found_one ne =
      elim (lesser_one (d q c m basis s) (of_rows q c m basis s) (of_pairs q c m basis s)) [
        | inl e ↦ let (i, l, g) = least_one (d q c m basis s) m (λ i. total (basis i) q) (λ z. ne (e ∙ z)) in rw (e, ← g) (of_row i l)
        | inr e ↦
            let (h, hl, g) = least_one (d q c m basis s) s.rows (λ h. least_to (d q c m basis s) s.rows (pair_degree q c (row q s) h)) (λ z. ne (e ∙ z)) in
            let (k, kl, g') = least_one (d q c m basis s) s.rows (pair_degree q c (row q s) h) (λ z. ne (e ∙ (sym g ∙ z))) in
            let (pair, is) = pair_degree_some q c (row q s) h k (λ z. ne (e ∙ (sym g ∙ (sym g' ∙ z)))) in
            rw (e, ← g, ← g', is) (of_pair h k hl kl pair)
      ]

  clear : (x : ℕ) → (Degree q c m basis s) x → s.degree < x → (next_degree q c m basis s ≢ 0) × (next_degree q c m basis s ≤ x)
  clear x (of_row i im) l = (next_rows i im).clear l
  clear x (of_pair h k hn kn o) l = (next_pairs h k hn kn o).clear l

  -- A degree above the present one, with none in between, is the next one; and where there is none, 0 is found.
  pub degree_unique : (d' : ℕ) → (d q c m basis s) < d' → (Degree q c m basis s) d' → ((x : ℕ) → (Degree q c m basis s) x → (d q c m basis s) < x → d' ≤ x)
      → next_degree q c m basis s ≡ d'
  degree_unique d' more is first =
      let (ne, low) = clear d' is more in
      omega (arith, first (next_degree q c m basis s) (found_one ne) (next_above ne))

  pub none_degree : ((x : ℕ) → (Degree q c m basis s) x → x ≤ s.degree) → next_degree q c m basis s ≡ 0
  none_degree none =
      elim (ℕ_discrete (next_degree q c m basis s) 0) [
        | yes e ↦ e
        | no ne ↦ absurd (omega (arith, none (next_degree q c m basis s) (found_one ne), next_above ne))
      ]
