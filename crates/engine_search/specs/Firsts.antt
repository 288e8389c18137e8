-- The first place and the least number as a loop finds them, and the same of functions that agree. Assumes nothing.
use Rattle.std.specs.Prelude.{◌≡◌, Bool, List, eqb, ltb, min, ℤ, Option, Some, None, MatchOption}
use Rattle.std.specs.Option.{unwrap_or}
use Rattle.std.proofs.Math.Path.{refl}
use Rattle.std.proofs.Common.{sym, ◌∙◌, ap}
use Rattle.std.proofs.Math.Bool.{true, false, and-false}
use Prim.Native.Nat.{ℕ, zero, suc, ◌+◌, ◌-◌, ◌≤◌, ◌<◌}
use Rattle.std.proofs.Math.Decide.{ℕ_discrete}
use Rattle.std.proofs.Math.Numerals.{add-one}
use native.Mathlib.Omega.{arith}
use borrow.Author.Tests.{le-ltb, lt-ltb, ne_eqb}
use Rattle.std.proofs.Math.Dec.{T}
use Rattle.engine_spec.specs.Search.{begins, first_from, first_in, holder, least_to, lesser, partner}
use Rattle.engine_spec.proofs.Search.{first_least, first_passes, found_holds, least_above, least_one, least_under}
use Rattle.linear.proofs.Cases.{split}
use Rattle.std.proofs.Common.{inl, inr, ◌⊎◌}
use Rattle.engine_search.specs.Places.{IsLeast, degree_of, least_pair, next_degree_by}

-- ---- what a test in code says

pub told : {b t : Bool} → b ≡ t → b ≡ true → T t
told e h = rw (← e, h) tt

pub untold : {b t : Bool} → b ≡ t → b ≡ false → ¬ (T t)
untold e h = rw (← e, h) (λ t. t)

pub is_false : {b : Bool} → b ≡ false → ¬ (T b)
is_false e = rw e (λ t. t)

-- ---- the first place

-- the first place as a search finds it, and that there is none
module _ (n from : ℕ) (f : ℕ → Bool) where
  pub first_found : (i : ℕ) → from ≤ i → i < n → T (f i) → ((k : ℕ) → from ≤ k → k < i → ¬ (T (f k))) → i ≡ first_in n from f
  first_found i l h t none =
      elim (split (first_in n from f) i) [
        | inl x ↦ absurd (none (first_in n from f) (first_least (n - from) from f) x (found_holds n from f (omega arith)))
        | inr x ↦ elim (split i (first_in n from f)) [
          | inl y ↦ absurd (first_passes (n - from) from f i l y t)
          | inr y ↦ omega arith
        ]
      ]

  pub first_missing : ((k : ℕ) → from ≤ k → k < n → ¬ (T (f k))) → n ≤ first_in n from f
  first_missing none =
      elim (split (first_in n from f) n) [
        | inl x ↦ absurd (none (first_in n from f) (first_least (n - from) from f) x (found_holds n from f x))
        | inr x ↦ x
      ]

pub first_same : (count from : ℕ) (f g : ℕ → Bool) → ((i : ℕ) → from ≤ i → i < from + count → f i ≡ g i) → first_from count from f ≡ first_from count from g
unfolding first_from
first_same zero from f g same = refl
first_same (suc count) from f g same =
    go (f from) (g from) (same from (omega arith) (omega arith)) (first_same count (suc from) f g (λ i l h. same i (omega arith) (omega arith)))
  where
    go : (b c : Bool) {x y : ℕ} → b ≡ c → x ≡ y → ◌≡◌ {A = ℕ} (elim b [ true ↦ from | false ↦ x ]) (elim c [ true ↦ from | false ↦ y ])
    go true c e h = rw (← e)
    go false c e h = rw (← e) h

-- tests that agree below n
pub first_in_same : (n from : ℕ) (f g : ℕ → Bool) → ((i : ℕ) → i < n → f i ≡ g i) → first_in n from f ≡ first_in n from g
first_in_same n from f g same = first_same (n - from) from f g (λ i l h. same i (omega arith))

module _ (n : ℕ) (f g : ℕ → ℕ → Bool) (u l : ℕ) (same : (h k : ℕ) → h < n → k < n → f h k ≡ g h k) where
  pub partner_same : (h : ℕ) → h < n → partner n f u l h ≡ partner n g u l h
  partner_same h hn = first_in_same n (begins u l h) (f h) (g h) (λ k kn. same h k hn kn)

  pub holder_same : holder n f u l ≡ holder n g u l
  holder_same =
      first_in_same n u (λ h. ltb (partner n f u l h) n) (λ h. ltb (partner n g u l h) n) (λ h hn. ap (λ x. ltb x n) (partner_same h hn))

-- ---- the least number above a bound

pub least_same : (d n : ℕ) (f g : ℕ → ℕ) → ((i : ℕ) → i < n → f i ≡ g i) → least_to d n f ≡ least_to d n g
unfolding least_to
least_same d zero f g same = refl
least_same d (suc n) f g same = rw (same n (omega arith), least_same d n f g (λ i l. same i (omega arith)))

-- one number more
pub least_next : (d i : ℕ) (f : ℕ → ℕ) → least_to d (i + 1) f ≡ lesser d (f i) (least_to d i f)
unfolding least_to
least_next d i f = rw (add-one i)

pub least_start : (d : ℕ) (f : ℕ → ℕ) → least_to d 0 f ≡ 0
unfolding least_to
least_start d f = refl

module _ (d x y : ℕ) where
  pub lesser_new : d < x → (y ≡ 0) ⊎ (x < y) → lesser d x y ≡ x
  unfolding lesser
  lesser_new l (inl e) = rw (lt-ltb d x l, e) refl
  lesser_new l (inr h) = rw (lt-ltb d x l, ne_eqb y 0 (omega arith), lt-ltb x y h) refl

  pub lesser_old : 0 < y → y ≤ x → lesser d x y ≡ y
  unfolding lesser
  lesser_old l h = rw (ne_eqb y 0 (omega arith), le-ltb x y h, and-false) refl

  pub lesser_early : x ≤ d → lesser d x y ≡ y
  unfolding lesser
  lesser_early l = rw (le-ltb d x l) refl

-- the least so far stays where x is not above d; else the lesser of the two comes
pub least_stays : (d x : ℕ) (known : Option ℕ) → MatchOption known (Unit {0}) (λ y. d < y) → x ≤ d → IsLeast d (lesser d x (unwrap_or known 0)) known
least_stays d x None h l = lesser_early d x 0 l
least_stays d x (Some y) h l = (sym (lesser_early d x y l), h)

pub least_comes : (d x : ℕ) (known : Option ℕ) (z : ℕ) → MatchOption known (Unit {0}) (λ y. d < y) → d < x
    → MatchOption known (z ≡ x) (λ y. z ≡ min y x) → (z ≡ lesser d x (unwrap_or known 0)) × (d < z)
least_comes d x None z h l e = (e ∙ sym (lesser_new d x 0 l (inl refl)), omega arith)
least_comes d x (Some y) z h l e =
    elim (split x y) [
      | inl m ↦ (sym (lesser_new d x y l (inr m) ∙ omega arith), omega arith)
      | inr m ↦ (sym (lesser_old d x y (omega arith) m ∙ omega arith), omega arith)
    ]

-- the number of the least so far, with 0 for none, as the definitions have it
pub least_number : (d x : ℕ) (r : Option ℕ) → IsLeast d x r → unwrap_or r 0 ≡ x
least_number d x None h = sym h
least_number d x (Some y) h = h.0

-- 0 is never the lesser one
pub lesser_zero : (d y : ℕ) → lesser d 0 y ≡ y
unfolding lesser
lesser_zero d y = rw (le-ltb d 0 (omega arith))

-- a number above the bound, with none in between, is the least; and where there is none, 0 is
pub least_is : (d n : ℕ) (f : ℕ → ℕ) (i : ℕ) → i < n → d < f i → ((k : ℕ) → k < n → d < f k → f i ≤ f k) → least_to d n f ≡ f i
least_is d n f i l more first =
    let (ne, low) = (least_under d n f i l).clear more in
    let (k, kn, e) = least_one d n f ne in
    omega (arith, first k kn (omega (arith, least_above d n f ne)))

pub least_none : (d n : ℕ) (f : ℕ → ℕ) → ((k : ℕ) → k < n → f k ≤ d) → least_to d n f ≡ 0
least_none d n f none =
    elim (ℕ_discrete (least_to d n f) 0) [
      | yes e ↦ e
      | no ne ↦ let (k, kn, e) = least_one d n f ne in absurd (omega (arith, none k kn, least_above d n f ne))
    ]

-- one number more, as a loop has it
pub least_more : (d i : ℕ) (f : ℕ → ℕ) (best r : Option ℕ) (x : ℕ) → IsLeast d (least_to d i f) best → x ≡ f i
    → IsLeast d (lesser d x (unwrap_or best 0)) r → IsLeast d (least_to d (i + 1) f) r
least_more d i f best r x so_far e h = rw (least_next d i f) (rw (least_number d (least_to d i f) best so_far, e) at h)

-- the first place from `from` on and below n at which f holds, or there is none
abbrev pub IsFirst : (from n : ℕ) → (ℕ → Bool) → Option ℕ → Type 0
IsFirst from n f r =
    MatchOption r ((k : ℕ) → from ≤ k → k < n → f k ≡ false)
    (λ i. (from ≤ i) × (i < n) × (f i ≡ true) × ((k : ℕ) → from ≤ k → k < i → f k ≡ false))

-- a search by a table of degrees
pub size_named : (sizes : List ℕ) (m from d : ℕ) (r : Option ℕ)
    → IsFirst from m (λ i. eqb (degree_of sizes i) d) r
    → MatchOption r (m ≤ first_in m from (λ i. eqb (degree_of sizes i) d)) (λ i. (i < m) × (i ≡ first_in m from (λ i. eqb (degree_of sizes i) d)))
size_named sizes m from d None none = first_missing m from (λ i. eqb (degree_of sizes i) d) (λ k l h. is_false (none k l h))
size_named sizes m from d (Some i) (l, h, e, none) =
    (h, first_found m from (λ i. eqb (degree_of sizes i) d) i l h (rw e tt) (λ k a b. is_false (none k a b)))

-- of the basis and of the pairs
pub least_all : (d m : ℕ) (size : ℕ → ℕ) (n : ℕ) (v : ℕ → ℤ) (deg : ℕ → ℕ) (sizes pairs r : Option ℕ) → IsLeast d (least_to d m size) sizes
    → IsLeast d (least_pair d n v deg n) pairs
    → MatchOption sizes (r ≡ pairs) (λ x. IsLeast d (lesser d x (unwrap_or pairs 0)) r)
    → IsLeast d (next_degree_by d m size n v deg) r
unfolding next_degree_by
least_all d m size n v deg None pairs r e h g = rw (g, e, lesser_zero) h
least_all d m size n v deg (Some x) pairs r e h g = rw (← e.0) (rw (least_number d (least_pair d n v deg n) pairs h) at g)
