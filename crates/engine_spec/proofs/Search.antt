-- Theorems about what specs/Search.antt defines. Assumes nothing.
use Rattle.std.specs.Prelude.{◌≡◌, refl, ◌≢◌, ◌⊎◌, Bool, true, false, not, cond, ◌&&◌, ◌||◌, ℕ, zero, suc, ◌+◌, ◌-◌, ◌≤◌, ◌<◌, T, eqb, ltb}
use Rattle.std.proofs.Common.{sym, inl, inr, arith, eqb→eq, ltb→lt, nltb→le}
use Rattle.std.proofs.Math.Dec.{eqb_refl, not_T}
use Rattle.linear.specs.Cases.{below_suc}
use Rattle.linear.proofs.Cases.{order, split}
use Rattle.engine_spec.specs.Search.{Before, Under, begins, first_from, first_in, h₀, least_to, lesser, partner}

-- ---- the first place

pub first_least : (count from : ℕ) (f : ℕ → Bool) → from ≤ first_from count from f
unfolding first_from
first_least zero from f = omega arith
first_least (suc count) from f = go (f from) (first_least count (suc from) f)
  where
    go : (b : Bool) {x : ℕ} → suc from ≤ x → from ≤ elim b [ true ↦ from | false ↦ x ]
    go true l = omega arith
    go false l = omega arith

pub first_passes : (count from : ℕ) (f : ℕ → Bool) (i : ℕ) → from ≤ i → i < first_from count from f → ¬ (T (f i))
unfolding first_from
first_passes zero from f i l u = absurd (omega arith)
first_passes (suc count) from f i l u = go (f from) (λ h. h) (λ n. first_passes count (suc from) f i n) u
  where
    go : (b : Bool) {x : ℕ} → (T (f from) → T b) → (suc from ≤ i → i < x → ¬ (T (f i))) → i < elim b [ true ↦ from | false ↦ x ] → ¬ (T (f i))
    go true same rest u = absurd (omega arith)
    go false same rest u = elim (split from i) [ inl n ↦ rest n u | inr n ↦ let e : i ≡ from = omega arith in rw e same ]

pub first_holds : (count from : ℕ) (f : ℕ → Bool) → first_from count from f < from + count → T (f (first_from count from f))
unfolding first_from
first_holds zero from f u = absurd (omega arith)
first_holds (suc count) from f u = go (f from) (λ h. h) (λ n. first_holds count (suc from) f n) u
  where
    go : (b : Bool) {x : ℕ} → (T b → T (f from)) → (x < suc from + count → T (f x)) → elim b [ true ↦ from | false ↦ x ] < from + suc count
        → T (f (elim b [ true ↦ from | false ↦ x ]))
    go true same rest u = same tt
    go false same rest u = rest (omega arith)

pub found_holds : (n from : ℕ) (f : ℕ → Bool) → first_in n from f < n → T (f (first_in n from f))
found_holds n from f u = first_holds (n - from) from f (omega (arith, first_least (n - from) from f))

-- before the place just behind (u, l): before (u, l), or it is (u, l)
pub before_next : (u l h k : ℕ) → Before u (l + 1) h k → Before u l h k ⊎ ((h ≡ u) × (k ≡ l))
before_next u l h k (inl b) = inl (inl b)
before_next u l h k (inr (e, b)) = elim (split k l) [ inl x ↦ inl (inr (e, x)) | inr x ↦ inr (e, omega arith) ]

module _ (n : ℕ) (f : ℕ → ℕ → Bool) (u l : ℕ) where
  -- a pair at which f holds, before the partner of h: the search began behind it
  skipped : (h k : ℕ) → k < partner n f u l h → T (f h k) → (h ≡ u) × (k < l)
  skipped h k less holds = go (eqb h u) (eqb→eq h u) (λ from. first_passes (n - begins u l h) (begins u l h) (f h) k from less holds)
    where
      go : (b : Bool) → (T b → h ≡ u) → ¬ (cond b l 0 ≤ k) → (h ≡ u) × (k < l)
      go true e early = (e tt, elim (split k l) [ inl x ↦ x | inr x ↦ absurd (early x) ])
      go false e early = absurd (early (omega arith))

  -- the pair found
  pub pair_found : (h₀ n f u l) < n → (partner n f u l (h₀ n f u l) < n) × T (f (h₀ n f u l) (partner n f u l (h₀ n f u l)))
  pair_found less =
      let low : partner n f u l (h₀ n f u l) < n = ltb→lt (partner n f u l (h₀ n f u l)) n (found_holds n u (λ h. ltb (partner n f u l h) n) less) in
      (low, found_holds n (begins u l (h₀ n f u l)) (f (h₀ n f u l)) low)

  -- a pair at which f holds, in a row before the holder
  holder_passes : (h k : ℕ) → k < n → h < (h₀ n f u l) → T (f h k) → Before u l h k
  holder_passes h k kn less holds =
      elim (split h u) [
        | inl x ↦ inl x
        | inr x ↦
            let without = first_passes (n - u) u (λ h. ltb (partner n f u l h) n) h x less in
            inr (skipped h k (omega (arith, nltb→le (partner n f u l h) n (not_T (ltb (partner n f u l h) n) without))) holds)
      ]

  -- a pair at which f holds, before the one found
  pub pair_passes : (h k : ℕ) → k < n → Before (h₀ n f u l) (partner n f u l (h₀ n f u l)) h k → T (f h k) → Before u l h k
  pair_passes h k kn (inl less) holds = holder_passes h k kn less holds
  pair_passes h k kn (inr (e, less)) holds = inr (skipped h k (rw e less) holds)

  -- none found
  pub none_found : n ≤ (h₀ n f u l) → (h k : ℕ) → h < n → k < n → T (f h k) → Before u l h k
  none_found past h k hn kn holds = holder_passes h k kn (omega arith) holds

  -- the pair found is not before (u, l)
  found_late : ¬ (Before u l (h₀ n f u l) (partner n f u l (h₀ n f u l)))
  found_late (inl less) = omega (arith, first_least (n - u) u (λ h. ltb (partner n f u l h) n))
  found_late (inr (e, less)) =
      go (eqb (h₀ n f u l) u) (rw e (eqb_refl u)) (first_least (n - begins u l (h₀ n f u l)) (begins u l (h₀ n f u l)) (f (h₀ n f u l)))
    where
      go : (b : Bool) → T b → cond b l 0 ≤ partner n f u l (h₀ n f u l) → ⊥
      go true t from = omega arith
      go false t from = t

  -- A search by other means: a pair from (u, l) on at which f holds, and none in between, is the one found; and where there is none, none is found.
  pub pair_unique : (h k : ℕ) → h < n → k < n → T (f h k) → ¬ (Before u l h k)
      → ((i j : ℕ) → i < n → j < n → Before h k i j → ¬ (Before u l i j) → ¬ (T (f i j))) → ((h₀ n f u l) ≡ h) × (partner n f u l (h₀ n f u l) ≡ k)
  pair_unique h k hn kn holds late first =
      elim (split (h₀ n f u l) n) [
        | inr past ↦ absurd (late (none_found past h k hn kn holds))
        | inl less ↦
            let (kn₀, holds₀) = pair_found less in
            let later : ¬ (Before h k (h₀ n f u l) (partner n f u l (h₀ n f u l))) =
            λ b. first (h₀ n f u l) (partner n f u l (h₀ n f u l)) less kn₀ b found_late holds₀ in
            let sooner : ¬ (Before (h₀ n f u l) (partner n f u l (h₀ n f u l)) h k) = λ b. late (pair_passes h k kn b holds) in
            elim (order (h₀ n f u l) h) [
              | inl x ↦ absurd (later (inl x))
              | inr o ↦ elim o [
                | inr x ↦ absurd (sooner (inl x))
                | inl e ↦ elim (order (partner n f u l (h₀ n f u l)) k) [
                  | inl x ↦ absurd (later (inr (e, x)))
                  | inr y ↦ elim y [ inl g ↦ (e, g) | inr x ↦ absurd (sooner (inr (sym e, x))) ]
                ]
              ]
            ]
      ]

  pub none_unique : ((i j : ℕ) → i < n → j < n → ¬ (Before u l i j) → ¬ (T (f i j))) → n ≤ (h₀ n f u l)
  none_unique none =
      elim (split (h₀ n f u l) n) [
        | inr past ↦ past
        | inl less ↦ let (kn₀, holds₀) = pair_found less in absurd (none (h₀ n f u l) (partner n f u l (h₀ n f u l)) less kn₀ found_late holds₀)
      ]

pub under_under : (d x y z : ℕ) → Under d x y → Under d y z → Under d x z
under_under d x y z u w =
    record { above = w.above; clear = λ m. let (ne, l) = u.clear m in let (ne', l') = w.clear (u.above ne) in (ne', omega arith) }

lesser_under : (d x y : ℕ) → (y ≢ 0 → d < y) → Under d x (lesser d x y) × ((z : ℕ) → Under d z y → Under d z (lesser d x y))
unfolding lesser
lesser_under d x y low = go (ltb d x) (ltb→lt d x) (nltb→le d x) (eqb y 0) (eqb→eq y 0) (λ e. rw e tt) (ltb x y) (ltb→lt x y) (nltb→le x y)
  where
    go : (a : Bool) → (T a → d < x) → (T (not a) → x ≤ d) → (b : Bool) → (T b → y ≡ 0) → (y ≡ 0 → T b) → (c : Bool) → (T c → x < y) → (T (not c) → y ≤ x)
        → Under d x (cond (a && (b || c)) x y) × ((z : ℕ) → Under d z y → Under d z (cond (a && (b || c)) x y))
    go false f g b h h' c k k' = (record { above = low; clear = λ m. absurd (omega (arith, g tt)) }, λ z w. w)
    go true f g true h h' c k k' = (
      record { above = λ m. f tt; clear = λ m. (omega arith, omega arith) },
      λ z w. record { above = λ m. f tt; clear = λ m. absurd ((w.clear m).0 (h tt)) },
    )
    go true f g false h h' true k k' = (
      record { above = λ m. f tt; clear = λ m. (omega arith, omega arith) },
      λ z w. record { above = λ m. f tt; clear = λ m. (omega (arith, f tt), omega (arith, k tt, (w.clear m).1)) },
    )
    go true f g false h h' false k k' = (record { above = low; clear = λ m. (λ e. h' e, k' tt) }, λ z w. w)

pub lesser_itself : (d x y : ℕ) → (y ≢ 0 → d < y) → Under d x (lesser d x y)
lesser_itself d x y low = (lesser_under d x y low).0

pub lesser_other : (d x y z : ℕ) → Under d z y → Under d z (lesser d x y)
lesser_other d x y z w = (lesser_under d x y w.above).1 z w

pub least_above : (d n : ℕ) (f : ℕ → ℕ) → least_to d n f ≢ 0 → d < least_to d n f
unfolding least_to
least_above d zero f ne = absurd (ne refl)
least_above d (suc n) f ne = (lesser_itself d (f n) (least_to d n f) (least_above d n f)).above ne

pub least_under : (d n : ℕ) (f : ℕ → ℕ) (i : ℕ) → i < n → Under d (f i) (least_to d n f)
unfolding least_to
least_under d zero f i l = absurd (omega arith)
least_under d (suc n) f i l =
    elim (below_suc l) [
      | inl k ↦ lesser_other d (f n) (least_to d n f) (f i) (least_under d n f i k)
      | inr e ↦ rw e (lesser_itself d (f n) (least_to d n f) (least_above d n f))
    ]

-- over pairs
pub least_pair : (d n : ℕ) (f : ℕ → ℕ → ℕ) (h k : ℕ) → h < n → k < n → Under d (f h k) (least_to d n (λ h. least_to d n (f h)))
least_pair d n f h k hn kn =
    under_under d (f h k) (least_to d n (f h)) (least_to d n (λ h. least_to d n (f h))) (least_under d n (f h) k kn)
    (least_under d n (λ h. least_to d n (f h)) h hn)

-- what is found is one of the numbers
pub lesser_one : (d x y : ℕ) → (lesser d x y ≡ x) ⊎ (lesser d x y ≡ y)
unfolding lesser
lesser_one d x y = go (ltb d x && (eqb y 0 || ltb x y))
  where
    go : (b : Bool) → (cond b x y ≡ x) ⊎ (cond b x y ≡ y)
    go true = inl refl
    go false = inr refl

pub least_one : (d n : ℕ) (f : ℕ → ℕ) → least_to d n f ≢ 0 → (i : ℕ) × (i < n) × (f i ≡ least_to d n f)
unfolding least_to
least_one d zero f ne = absurd (ne refl)
least_one d (suc n) f ne =
    elim (lesser_one d (f n) (least_to d n f)) [
      | inl e ↦ (n, omega arith, sym e)
      | inr e ↦ let (i, l, g) = least_one d n f (λ z. ne (omega arith)) in (i, omega arith, omega arith)
    ]
