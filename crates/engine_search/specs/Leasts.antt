-- The least degree of a pair, row after row: for each upper row the first row below 0 among those whose degree is enough. Assumes nothing.
use Rattle.std.specs.Prelude.{◌≡◌, ◌≢◌, Bool, ◌&&◌, List, ℕ, ◌+◌, ◌-◌, ◌≤◌, ◌<◌, ℤ, pos, Option}
use Rattle.std.proofs.Math.Path.{refl}
use Rattle.std.proofs.Common.{sym, ◌∙◌, inl, inr, arith}
use Rattle.std.specs.Option.{unwrap_or}
use Rattle.std.proofs.Math.Bool.{true, false, cond}
use Rattle.std.proofs.Math.Dec.{T}
use Rattle.std.specs.Int.Signed.{lt_z}
use Rattle.linear.proofs.Cases.{split}
use Rattle.linear.proofs.TestLaws.{and_both, and_parts}
use Rattle.engine_spec.specs.Search.{least_to, lesser}
use Rattle.engine_search.specs.Falls.{Back, NoneBelow, back_early, falling_back, is_below}
use Rattle.engine_search.specs.Firsts.{least_is, least_more, least_next, least_none, lesser_zero}
use Rattle.engine_search.specs.Places.{Falling, IsLeast, Ranked, degree_of, least_pair, pair_degree_by, value_of}
use Rattle.engine_search.specs.Rows.{is_above}

-- ---- the degree of a pair

module _ (values : List ℤ) (degrees : List ℕ) (h k : ℕ) where
  abbrev degree : ℕ
  degree = pair_degree_by (value_of values) (degree_of degrees) h k

  degree_is : is_above values h → is_below values k → degree ≡ degree_of degrees h + degree_of degrees k
  unfolding pair_degree_by
  degree_is over under =
      go (lt_z (pos 0) (value_of values h) && lt_z (value_of values k) (pos 0)) (and_both (lt_z (pos 0) (value_of values h)) _ over under)
    where
      go : (b : Bool) → T b → cond b (degree_of degrees h + degree_of degrees k) 0 ≡ degree_of degrees h + degree_of degrees k
      go true t = refl
      go false t = absurd t

  degree_some : degree ≢ 0 → is_above values h × is_below values k
  unfolding pair_degree_by
  degree_some ne = go (lt_z (pos 0) (value_of values h) && lt_z (value_of values k) (pos 0)) (and_parts (lt_z (pos 0) (value_of values h)) _) ne
    where
      go : (b : Bool) → (T b → is_above values h × is_below values k) → cond b (degree_of degrees h + degree_of degrees k) 0 ≢ 0
          → is_above values h × is_below values k
      go true f ne = f tt
      go false f ne = absurd (ne refl)

-- ---- the pairs of one upper row

-- the least degree above d of a pair with the upper row h
abbrev pub of_row : (n : ℕ) (values : List ℤ) (degrees : List ℕ) (d h : ℕ) → ℕ
of_row n values degrees d h = least_to d n (pair_degree_by (value_of values) (degree_of degrees) h)

none_of : (n : ℕ) (values : List ℤ) (degrees : List ℕ) (d h : ℕ)
    → ((k : ℕ) → k < n → is_above values h → is_below values k → degree_of degrees h + degree_of degrees k ≤ d) → of_row n values degrees d h ≡ 0
none_of n values degrees d h none =
    least_none d n (pair_degree_by (value_of values) (degree_of degrees) h) (λ k kn. elim (split d (degree values degrees h k)) [
      | inr x ↦ x
      | inl x ↦
          let (over, under) = degree_some values degrees h k (omega arith) in
          omega (arith, none k kn over under, degree_is values degrees h k over under)
    ])

pub skipped_least : (n : ℕ) (values : List ℤ) (degrees : List ℕ) (d h : ℕ) → ¬ (is_above values h) → of_row n values degrees d h ≡ 0
skipped_least n values degrees d h not = none_of n values degrees d h (λ k kn over. absurd (not over))

module _ {n : ℕ} {values : List ℤ} {degrees : List ℕ} (ranked : Ranked n values degrees) (d : ℕ) {h e from first : ℕ} (hn : h < n)
    (sum : e ≡ d + 1 - degree_of degrees h) (f : Falling n degrees (d + 1) h from) (w : Back degrees e from first) (fits : first ≤ n) where
  pub fallen_falling : Falling n degrees (d + 1) h first
  fallen_falling = falling_back f w (omega arith)

  -- a pair of degree above d stands from `low` on
  from_low : (low : ℕ) → NoneBelow values first low → (k : ℕ) → k < n → is_below values k → d < degree_of degrees h + degree_of degrees k → low ≤ k
  from_low low none k kn under more =
      elim (split k low) [
        | inr x ↦ x
        | inl x ↦ elim (split k first) [
          | inl y ↦ absurd (omega (arith, back_early ranked w fits k y))
          | inr y ↦ absurd (none k y x under)
        ]
      ]

  pub row_least : is_above values h → (low : ℕ) → first ≤ low → low < n → is_below values low → NoneBelow values first low
      → of_row n values degrees d h ≡ degree_of degrees h + degree_of degrees low
  row_least over low since ln here none =
      let is = degree_is values degrees h low over here in
      let more = fallen_falling.late hn low since ln in
      least_is d n (pair_degree_by (value_of values) (degree_of degrees) h) low ln (omega arith) (λ k kn up. lower k kn up) ∙ is
    where
      lower : (k : ℕ) → k < n → d < degree values degrees h k → degree values degrees h low ≤ degree values degrees h k
      lower k kn up =
          let (o, under) = degree_some values degrees h k (omega arith) in
          let same = degree_is values degrees h k o under in
          let is = degree_is values degrees h low over here in
          omega (arith, ranked.sorted low k (from_low low none k kn under (omega arith)) kn)

  pub row_least_none : NoneBelow values first n → of_row n values degrees d h ≡ 0
  row_least_none none =
      none_of n values degrees d h (λ k kn over under. elim (split d (degree_of degrees h + degree_of degrees k)) [
        | inl x ↦ absurd (omega (arith, from_low n none k kn under x))
        | inr x ↦ x
      ])

-- ---- all upper rows

abbrev pub best_to : (n : ℕ) (values : List ℤ) (degrees : List ℕ) (d count : ℕ) → ℕ
best_to n values degrees d count = least_pair d n (value_of values) (degree_of degrees) count

module _ (n : ℕ) (values : List ℤ) (degrees : List ℕ) (d h : ℕ) (best : Option ℕ) where
  pub best_same : of_row n values degrees d h ≡ 0 → IsLeast d (best_to n values degrees d h) best → IsLeast d (best_to n values degrees d (h + 1)) best
  best_same e so_far = rw (least_next d h (of_row n values degrees d), e, lesser_zero) so_far

  pub best_more : (r : Option ℕ) (x : ℕ) → of_row n values degrees d h ≡ x → IsLeast d (best_to n values degrees d h) best
      → IsLeast d (lesser d x (unwrap_or best 0)) r → IsLeast d (best_to n values degrees d (h + 1)) r
  best_more r x e so_far g = least_more d h (of_row n values degrees d) best r x so_far (sym e) g
