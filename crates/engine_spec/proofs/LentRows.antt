-- What the next turn of a stage does is decided by the rows: in other tables with the same rows it takes the same row of the basis, looks at the same pair or
-- ends the stage too, and where it was refused for want of room it goes on with more. Assumes nothing.
use Rattle.std.specs.Prelude.{◌≡◌, refl, Bool, true, false, not, ◌&&◌, List, [], ℕ, zero, suc, ◌+◌, ◌*◌, ◌-◌, ◌≤◌, ◌<◌, ltb, ℤ, pos}
use Rattle.std.proofs.Common.{sym, ◌∙◌, ap, inl, inr, arith}
use Rattle.std.proofs.Math.Path.{ap₂}
use Rattle.std.proofs.Math.Bool.{cond}
use Rattle.std.proofs.Math.Dec.{eqb}
use Rattle.std.specs.Int.Signed.{lt_z}
use Rattle.linear.proofs.SystemLaws.{value_same}
use Rattle.linear.specs.Systems.{value}
use Rattle.linear.proofs.TestLaws.{count_same}
use Rattle.linear.specs.Tests.{count_to}
use Rattle.linear.proofs.TupleLaws.{total_same}
use Rattle.linear.specs.Tuples.{Same, total}
use Rattle.definitions.specs.System.{is_zero}
use Rattle.laws.specs.CheckLaws.{AllSilent, FirstDue}
use Rattle.laws.proofs.TableLaws.{row_before}
use Rattle.engine_spec.specs.CallAnswers.{EndsStage, LargeValue, LooksAtPair, NeedsSum, TakesRow, next_sum, turn_rules}
use Rattle.engine_spec.specs.Engine.{Work, basis_row, equation_of, stays}
use Rattle.engine_spec.specs.Equations.{zero_row}
use Rattle.engine_spec.specs.Fresh.{not_below}
use Rattle.engine_spec.specs.Promise.{with_tables}
use Rattle.engine_spec.specs.ReductionLaws.{SameRows}
use Rattle.engine_spec.proofs.ReductionLaws.{reduced_more}
use Rattle.engine_spec.specs.Search.{begins, first_from, holder, least_to, lesser, partner}
use Rattle.engine_spec.proofs.Search.{pair_found}
use Rattle.engine_spec.proofs.Tests.{due_pair, pair_columns}
use Rattle.engine_spec.specs.Stage.{above, below, due_row, is_due, is_pair, next_degree, pair_degree, row}

-- ---- searches by tests that agree

first_same : (count from : ℕ) (f g : ℕ → Bool) → ((i : ℕ) → from ≤ i → i < from + count → f i ≡ g i) → first_from count from f ≡ first_from count from g
unfolding first_from
first_same zero from f g e = refl
first_same (suc count) from f g e =
    by (f from) (g from) (e from (omega arith) (omega arith)) (first_same count (suc from) f g (λ i l u. e i (omega arith) (omega arith)))
  where
    by : (b b' : Bool) {x y : ℕ} → b ≡ b' → x ≡ y → ◌≡◌ {A = ℕ} (elim b [ true ↦ from | false ↦ x ]) (elim b' [ true ↦ from | false ↦ y ])
    by true true d r = refl
    by false false d r = r
    by true false d r = absurd (let z : ◌≡◌ {A = ℕ} 0 1 = cc in omega arith)
    by false true d r = absurd (let z : ◌≡◌ {A = ℕ} 0 1 = cc in omega arith)

partner_same : (n : ℕ) (f g : ℕ → ℕ → Bool) (u l h : ℕ) → ((k : ℕ) → k < n → f h k ≡ g h k) → partner n f u l h ≡ partner n g u l h
partner_same n f g u l h e = first_same (n - begins u l h) (begins u l h) (f h) (g h) (λ i a b. e i (omega arith))

holder_same : (n : ℕ) (f g : ℕ → ℕ → Bool) (u l : ℕ) → ((h k : ℕ) → h < n → k < n → f h k ≡ g h k) → holder n f u l ≡ holder n g u l
holder_same n f g u l e =
    first_same (n - u) u (λ h. ltb (partner n f u l h) n) (λ h. ltb (partner n g u l h) n)
    (λ h a b. ap (λ x. ltb x n) (partner_same n f g u l h (λ k kn. e h k (omega arith) kn)))

least_same : (d n : ℕ) (f g : ℕ → ℕ) → ((i : ℕ) → i < n → f i ≡ g i) → least_to d n f ≡ least_to d n g
unfolding least_to
least_same d zero f g e = refl
least_same d (suc n) f g e = ap₂ (lesser d) (e n (omega arith)) (least_same d n f g (λ i l. e i (omega arith)))

module _ (q : ℕ) (w : Work) (basis table : List ℕ) (same_basis : SameRows q w.count w.basis basis)
    (same_table : SameRows q w.stage.rows w.stage.table table) where
  abbrev v : Work
  v = with_tables w basis table

  abbrev c : ℕ → ℤ
  c = equation_of q w

  abbrev n : ℕ
  n = w.stage.rows

  in_basis : (i : ℕ) → i < w.count → Same q (basis_row q v i) (basis_row q w i)
  in_basis i l j jq = same_basis.same (i * q + j) (omega (arith, row_before q w.count i 0 j l jq))

  in_table : (i : ℕ) → i < n → Same q (row q v.stage i) (row q w.stage i)
  in_table i l j jq = same_table.same (i * q + j) (omega (arith, row_before q n i 0 j l jq))

  basis_total : (i : ℕ) → i < w.count → total (basis_row q v i) q ≡ total (basis_row q w i) q
  basis_total i l = total_same (basis_row q v i) (basis_row q w i) q (in_basis i l)

  row_total : (i : ℕ) → i < n → total (row q v.stage i) q ≡ total (row q w.stage i) q
  row_total i l = total_same (row q v.stage i) (row q w.stage i) q (in_table i l)

  row_value : (i : ℕ) → i < n → value c q (row q v.stage i) ≡ value c q (row q w.stage i)
  row_value i l = value_same c q (in_table i l)

  pair_same : (h k : ℕ) → h < n → k < n → is_pair q c (row q v.stage) h k ≡ is_pair q c (row q w.stage) h k
  unfolding is_pair
  pair_same h k hn kn = ap₂ (λ x y. lt_z (pos 0) x && lt_z y (pos 0)) (row_value h hn) (row_value k kn)

  sums_same : (h k : ℕ) → h < n → k < n
      → total (row q v.stage h) q + total (row q v.stage k) q ≡ total (row q w.stage h) q + total (row q w.stage k) q
  sums_same h k hn kn = ap₂ (λ x y. x + y) (row_total h hn) (row_total k kn)

  due_same : (h k : ℕ) → h < n → k < n → is_due q c (row q v.stage) w.stage.degree h k ≡ is_due q c (row q w.stage) w.stage.degree h k
  unfolding is_due
  due_same h k hn kn = ap₂ (λ x y. x && eqb y w.stage.degree) (pair_same h k hn kn) (sums_same h k hn kn)

  degree_same : (h k : ℕ) → h < n → k < n → pair_degree q c (row q v.stage) h k ≡ pair_degree q c (row q w.stage) h k
  unfolding pair_degree
  degree_same h k hn kn = ap₂ (λ x y. cond x y 0) (pair_same h k hn kn) (sums_same h k hn kn)

  row_due : due_row q v.count (basis_row q v) v.stage ≡ due_row q w.count (basis_row q w) w.stage
  row_due =
      first_same (w.count - w.stage.taken) w.stage.taken (λ i. eqb (total (basis_row q v i) q) w.stage.degree)
      (λ i. eqb (total (basis_row q w i) q) w.stage.degree) (λ i a b. ap (λ x. eqb x w.stage.degree) (basis_total i (omega arith)))

  above_same : above q c v.stage ≡ above q c w.stage
  above_same =
      holder_same n (is_due q c (row q v.stage) w.stage.degree) (is_due q c (row q w.stage) w.stage.degree) w.stage.upper w.stage.lower
      due_same

  below_same : above q c w.stage < n → below q c v.stage ≡ below q c w.stage
  below_same l =
      rw above_same (partner_same n (is_due q c (row q v.stage) w.stage.degree) (is_due q c (row q w.stage) w.stage.degree) w.stage.upper
      w.stage.lower (above q c w.stage) (λ k kn. due_same (above q c w.stage) k l kn))

  next_same : next_degree q c v.count (basis_row q v) v.stage ≡ next_degree q c w.count (basis_row q w) w.stage
  unfolding next_degree
  next_same =
      let d = w.stage.degree in
      ap₂ (lesser d) (least_same d w.count (λ i. total (basis_row q v i) q) (λ i. total (basis_row q w i) q) basis_total)
      (least_same d n (λ h. least_to d n (pair_degree q c (row q v.stage) h)) (λ h. least_to d n (pair_degree q c (row q w.stage) h))
      (λ h hn. least_same d n (pair_degree q c (row q v.stage) h) (pair_degree q c (row q w.stage) h) (λ k kn. degree_same h k hn kn)))

  -- ---- what the turn does

  takes_here : TakesRow q w → TakesRow q v
  takes_here l = omega (arith, row_due)

  looks_there : LooksAtPair q v → LooksAtPair q w
  looks_there (no_row, l) = (λ h. no_row (takes_here h), omega (arith, above_same))

  sum_same : above q c w.stage < n → Same q (next_sum q v) (next_sum q w)
  sum_same l =
      let (kn, due) = pair_found n (is_due q c (row q w.stage) w.stage.degree) w.stage.upper w.stage.lower l in
      rw (below_same l, above_same) (λ j jq. omega (arith, in_table (above q c w.stage) l j jq, in_table (below q c w.stage) kn j jq))

  needs_there : NeedsSum q v → NeedsSum q w
  needs_there (looks, none) =
      let (no_row, l) = looks_there looks in
      let (kn, due) = pair_found n (is_due q c (row q w.stage) w.stage.degree) w.stage.upper w.stage.lower l in
      let some = pair_columns q c (row q w.stage) _ _ (due_pair q c (row q w.stage) _ _ w.stage.degree due) in (
        (no_row, l),
        λ needless. none (elim needless [
          | inl (capped, over) ↦ inl (capped, omega (arith, sum_same l 0 some))
          | inr r ↦ inr (reduced_more q c n n (row q w.stage) (row q v.stage) (next_sum q w) (next_sum q v) (omega arith) in_table (sum_same l) r)
        ]),
      )

  ends_there : EndsStage q v → EndsStage q w
  ends_there (no_row, (no_pair, last)) = (λ h. no_row (takes_here h), (λ h. no_pair (omega (arith, above_same)), sym next_same ∙ last))

  large_there : LargeValue q v → LargeValue q w
  large_there (i, l, large) = (i, l, λ y. large (rw (row_value i l) y))

  stays_same : count_to n (stays q v) ≡ count_to n (stays q w)
  stays_same = by (ltb w.fresh q)
    where
      by : (b : Bool) → count_to n (cond b (not_below q c (row q v.stage)) (zero_row q c (row q v.stage)))
          ≡ count_to n (cond b (not_below q c (row q w.stage)) (zero_row q c (row q w.stage)))
      by true = count_same (not_below q c (row q v.stage)) (not_below q c (row q w.stage)) n (λ i l. ap (λ x. not (lt_z x (pos 0))) (row_value i l))
      by false = count_same (zero_row q c (row q v.stage)) (zero_row q c (row q w.stage)) n (λ i l. ap is_zero (row_value i l))

  -- a turn refused for want of room is refused by no rule in such tables with room for its row, or in the basis for what the stage leaves
  pub lent_silent : (most room most' room' : ℕ) → FirstDue (turn_rules q most room w) 31 [] → n < room' → count_to n (stays q w) ≤ most'
      → AllSilent (turn_rules q most' room' v)
  lent_silent most room most' room' (inl (x, y, z)) fits few = absurd (omega arith)
  lent_silent most room most' room' (inr (late, inl (x, y, z))) fits few = absurd (omega arith)
  lent_silent most room most' room' (inr (late, inr (small, due))) fits few = (
    late,
    (
      (λ h. small (elim h [
        | inl (needs, (j, jq, large)) ↦
            let there = needs_there needs in
            inl (there, (j, jq, omega (arith, sum_same there.0.1 j jq)))
        | inr (last, (fresh, large)) ↦ inr (ends_there last, (fresh, large_there large))
      ])),
      (λ h. elim h [ inl (x, y) ↦ omega arith | inr (x, y) ↦ omega (arith, stays_same) ], tt),
    ),
  )
