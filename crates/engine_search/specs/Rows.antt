-- The search for the next pair, row after row. Assumes nothing.
use Rattle.std.specs.Prelude.{◌≡◌, refl, ◌≢◌, Bool, true, false, cond, ◌&&◌, List, ℕ, max, ◌+◌, ◌≤◌, ◌<◌, T, eqb, ℤ, pos}
use Rattle.std.proofs.Common.{sym, inl, inr, arith}
use Rattle.std.proofs.Math.Decide.{ℕ_discrete}
use Rattle.std.proofs.Math.Dec.{eqb→eq, eqb_refl}
use Rattle.std.specs.Int.Signed.{lt_z}
use Rattle.linear.proofs.Cases.{split}
use Rattle.linear.proofs.TestLaws.{and_both, and_parts}
use Rattle.engine_spec.specs.Search.{Before, begins}
use Rattle.engine_spec.proofs.Search.{none_unique, pair_unique}
use Rattle.engine_search.specs.Falls.{Back, back_early, falling_back, is_below}
use Rattle.engine_search.specs.Places.{Falling, IsNext, Ranked, degree_of, due, due_by, upper_of, value_of}
use Rattle.engine_search.specs.Scans.{Passed}

abbrev pub is_above : List ℤ → ℕ → Type 0
is_above values h = T (lt_z (pos 0) (value_of values h))

-- ---- what the test says

module _ (values : List ℤ) (degrees : List ℕ) (d h k : ℕ) where
  pub due_says : T (due values degrees d h k) → is_above values h × is_below values k × (degree_of degrees h + degree_of degrees k ≡ d)
  unfolding due_by
  due_says t =
      let (pair, e) = and_parts (lt_z (pos 0) (value_of values h) && lt_z (value_of values k) (pos 0)) _ t in
      let (over, under) = and_parts (lt_z (pos 0) (value_of values h)) _ pair in
      (over, under, eqb→eq (degree_of degrees h + degree_of degrees k) d e)

  pub due_shown : is_above values h → is_below values k → degree_of degrees h + degree_of degrees k ≡ d → T (due values degrees d h k)
  unfolding due_by
  due_shown over under e =
      and_both (lt_z (pos 0) (value_of values h) && lt_z (value_of values k) (pos 0)) _
      (and_both (lt_z (pos 0) (value_of values h)) _ over under) (rw e (eqb_refl d))

-- ---- rows passed

-- where the search begins in row h
begins_at : (u l h : ℕ) → h ≡ u → begins u l h ≡ l
begins_at u l h e = go (eqb h u) (rw e (eqb_refl u))
  where
    go : (b : Bool) → T b → cond b l 0 ≡ l
    go true t = refl
    go false t = absurd t

begins_other : (u l h : ℕ) → h ≢ u → begins u l h ≡ 0
begins_other u l h ne = go (eqb h u) (eqb→eq h u)
  where
    go : (b : Bool) → (T b → h ≡ u) → cond b l 0 ≡ 0
    go true e = absurd (ne (e tt))
    go false e = refl

-- the rows from u up to `upper` have no pair from (u, l) on; the next one begins at `lower`
pub record Searched (n : ℕ) (values : List ℤ) (degrees : List ℕ) (d u l upper lower : ℕ) : Type 0 where
  pub since : u ≤ upper
  pub starts : lower ≡ begins u l upper
  pub none : (i j : ℕ) → i < upper → i < n → j < n → ¬ (Before u l i j) → ¬ (T (due values degrees d i j))

module _ {n : ℕ} {values : List ℤ} {degrees : List ℕ} {d u l upper lower : ℕ} (s : Searched n values degrees d u l upper lower) where
  -- of row `upper`, the pairs from (u, l) on are those from `lower` on
  from_lower : (j : ℕ) → ¬ (Before u l upper j) → lower ≤ j
  from_lower j late =
      elim (ℕ_discrete upper u) [
        | yes e ↦ elim (split j l) [ inl x ↦ absurd (late (inr (e, x))) | inr x ↦ omega (arith, s.starts, begins_at u l upper e) ]
        | no ne ↦ omega (arith, s.starts, begins_other u l upper ne)
      ]

  lower_late : (j : ℕ) → lower ≤ j → ¬ (Before u l upper j)
  lower_late j low (inl x) = omega (arith, s.since)
  lower_late j low (inr (e, x)) = omega (arith, s.starts, begins_at u l upper e)

  -- row `upper` has none
  pub searched_next : ((j : ℕ) → lower ≤ j → j < n → ¬ (T (due values degrees d upper j))) → Searched n values degrees d u l (upper + 1) 0
  searched_next none =
      record {
        since = omega (arith, s.since);
        starts = sym (begins_other u l (upper + 1) (omega (arith, s.since)));
        none = λ i j h hn kn late. elim (ℕ_discrete i upper) [
          | yes e ↦ rw e (none j (from_lower j (rw e at late)) kn)
          | no ne ↦ s.none i j (omega arith) hn kn late
        ];
      }

  -- its value is not above 0
  pub searched_skip : ¬ (is_above values upper) → Searched n values degrees d u l (upper + 1) 0
  searched_skip not = searched_next (λ j low h t. not (due_says values degrees d upper j t).0)

  -- no row is left
  pub searched_end : n ≤ upper → n ≤ upper_of n values degrees d u l
  searched_end past = none_unique n (due values degrees d) u l (λ i j hn kn late. s.none i j (omega arith) hn kn late)

  -- the degree of row `upper` alone is d or more, and so is that of every later one
  pub searched_past : Ranked n values degrees → d ≤ degree_of degrees upper → n ≤ upper_of n values degrees d u l
  searched_past ranked more =
      none_unique n (due values degrees d) u l (λ i j hn kn late t. elim (split i upper) [
        | inl x ↦ s.none i j x hn kn late t
        | inr x ↦ omega (arith, (due_says values degrees d i j t).2, ranked.sorted upper i x hn, ranked.some j kn)
      ])

  -- ---- row `upper`: what its degree leaves is e, and the search went from the first row of that degree on

  module _ (ranked : Ranked n values degrees) (un : upper < n) (over : is_above values upper) {e from first k : ℕ} (sum : degree_of degrees upper + e ≡ d)
      (low : first ≤ n) (b : Back degrees e from first) (w : Passed values degrees e (max lower first) k) where
    none_before : (j : ℕ) → lower ≤ j → j < k → j < n → ¬ (T (due values degrees d upper j))
    none_before j lj jk jn t =
        let (o, under, g) = due_says values degrees d upper j t in
        elim (split j first) [
          | inl x ↦ omega (arith, back_early ranked b low j x)
          | inr x ↦ w.none j (omega arith) jk under (omega arith)
        ]

    pub row_passed : n ≤ k → Searched n values degrees d u l (upper + 1) 0
    row_passed past = searched_next (λ j lj jn. none_before j lj (omega arith) jn)

    pub row_found : k < n → max lower first ≤ k → is_below values k → degree_of degrees k ≡ e → Falling n degrees d upper from
        → IsNext n values degrees d u l upper k first
    row_found kn since under g f =
        let found = pair_unique n (due values degrees d) u l upper k un kn (due_shown values degrees d upper k over under (omega arith))
        (lower_late k (omega arith))
        (λ i j hn jn early late. first_one i j hn jn early late) in
        record { upper_is = sym found.0; lower_is = sym found.1; falling = falling_back f b (omega arith) }
      where
        first_one : (i j : ℕ) → i < n → j < n → Before upper k i j → ¬ (Before u l i j) → ¬ (T (due values degrees d i j))
        first_one i j hn jn (inl x) late = s.none i j x hn jn late
        first_one i j hn jn (inr (x, jk)) late = rw x (none_before j (from_lower j (rw x at late)) jk jn)
