-- The last and the first place at which a test holds: what each says of every place, that no other answer is right, and that there is one exactly
-- where the test holds somewhere; and how a loop comes to them, place by place. Assumes nothing.
use Rattle.std.specs.Prelude.{◌≡◌, refl, Bool, true, false, ℕ, zero, suc, ◌+◌, ◌-◌, ◌≤◌, ◌<◌, T}
use Rattle.std.proofs.Common.{inl, inr, add-one, arith}
use Rattle.std.proofs.Math.Option.{Option, some, none}
use Rattle.linear.specs.Cases.{below_suc}
use Rattle.linear.proofs.Cases.{order}
use Rattle.linear.specs.Places.{else_if, first_to, last_to, place_if}
use Rattle.linear.specs.Tests.{any_to}
use Rattle.linear.proofs.TestLaws.{any_from, any_at}

-- ---- the last place

-- k, counted from 1, is the last of the places 0 .. n - 1 at which f holds
pub record Last (n : ℕ) (f : ℕ → Bool) (k : ℕ) : Type 0 where
  pub some : 0 < k
  pub few : k ≤ n
  pub holds : T (f (k - 1))
  pub none_after : (i : ℕ) → k ≤ i → i < n → ¬ (T (f i))

-- f holds at no place
abbrev pub Never : ℕ → (ℕ → Bool) → Type 0
Never n f = (i : ℕ) → i < n → ¬ (T (f i))

-- what an answer says of the test
abbrev pub LastIs : ℕ → (ℕ → Bool) → Option ℕ → Type 0
LastIs n f none = Never n f
LastIs n f (some k) = Last n f k

last_more : (n : ℕ) (f : ℕ → Bool) (b : Bool) → f n ≡ b → (r : Option ℕ) → LastIs n f r → LastIs (suc n) f (place_if b (suc n) r)
unfolding place_if
last_more n f true e r h =
    let z : suc n - 1 ≡ n = omega arith in
    record { some = omega arith; few = omega arith; holds = rw (z, e) tt; none_after = λ i l m. absurd (omega arith) }
last_more n f false e none h = λ i l y. elim (below_suc l) [ inl k ↦ h i k y | inr g ↦ rw (g, e) at y ]
last_more n f false e (some k) h =
    record {
      some = h.some;
      few = omega (arith, h.few);
      holds = h.holds;
      none_after = λ i l m y. elim (below_suc m) [ inl x ↦ h.none_after i l x y | inr g ↦ rw (g, e) at y ];
    }

pub last_is : (n : ℕ) (f : ℕ → Bool) → LastIs n f (last_to n f)
unfolding last_to
last_is zero f = λ i l. absurd (omega arith)
last_is (suc n) f = last_more n f (f n) refl (last_to n f) (last_is n f)

module _ (n : ℕ) (f : ℕ → Bool) where
  -- two answers that are right are one
  pub last_one : (r s : Option ℕ) → LastIs n f r → LastIs n f s → r ≡ s
  last_one none none a b = refl
  last_one none (some k) a b = absurd (a (k - 1) (omega (arith, b.some, b.few)) b.holds)
  last_one (some k) none a b = absurd (b (k - 1) (omega (arith, a.some, a.few)) a.holds)
  last_one (some k) (some l) a b =
      elim (order k l) [
        | inl h ↦ absurd (a.none_after (l - 1) (omega arith) (omega (arith, b.few)) b.holds)
        | inr o ↦ elim o [
          | inl e ↦ rw e
          | inr h ↦ absurd (b.none_after (k - 1) (omega arith) (omega (arith, a.few)) a.holds)
        ]
      ]

  pub last_from : (r : Option ℕ) → LastIs n f r → last_to n f ≡ r
  last_from r h = last_one (last_to n f) r (last_is n f) h

-- whether there is an answer
abbrev pub given : Option ℕ → Bool
given none = false
given (some k) = true

pub any_last : (n : ℕ) (f : ℕ → Bool) → any_to n f ≡ given (last_to n f)
any_last n f = agree (any_to n f) (last_to n f) (last_is n f) (any_at n f) (any_from n f)
  where
    agree : (b : Bool) (r : Option ℕ) → LastIs n f r → (T b → (i : ℕ) × (i < n) × T (f i)) → ((i : ℕ) → i < n → T (f i) → T b) → b ≡ given r
    agree true none h to from = let (i, l, y) = to tt in absurd (h i l y)
    agree false none h to from = refl
    agree true (some k) h to from = refl
    agree false (some k) h to from = absurd (from (k - 1) (omega (arith, h.some, h.few)) h.holds)

pub last_none : (n : ℕ) (f : ℕ → Bool) → ((k : ℕ) → ¬ (Last n f k)) → last_to n f ≡ none
last_none n f none_is = none_of (last_to n f) (last_is n f)
  where
    none_of : (r : Option ℕ) → LastIs n f r → r ≡ none
    none_of none h = refl
    none_of (some k) h = absurd (none_is k h)

-- ---- the first place

-- k, counted from 1, is the first of the places 0 .. n - 1 at which f holds
pub record First (n : ℕ) (f : ℕ → Bool) (k : ℕ) : Type 0 where
  pub some : 0 < k
  pub few : k ≤ n
  pub holds : T (f (k - 1))
  pub none_before : (i : ℕ) → i < k - 1 → ¬ (T (f i))

abbrev pub FirstIs : ℕ → (ℕ → Bool) → Option ℕ → Type 0
FirstIs n f none = Never n f
FirstIs n f (some k) = First n f k

first_more : (n : ℕ) (f : ℕ → Bool) (r : Option ℕ) → FirstIs n f r → (b : Bool) → f n ≡ b → FirstIs (suc n) f (else_if r b (suc n))
unfolding else_if
first_more n f (some k) h b e = record { some = h.some; few = omega (arith, h.few); holds = h.holds; none_before = h.none_before }
first_more n f none h true e =
    let z : suc n - 1 ≡ n = omega arith in
    record { some = omega arith; few = omega arith; holds = rw (z, e) tt; none_before = λ i l. h i (omega arith) }
first_more n f none h false e = λ i l y. elim (below_suc l) [ inl k ↦ h i k y | inr g ↦ rw (g, e) at y ]

pub first_is : (n : ℕ) (f : ℕ → Bool) → FirstIs n f (first_to n f)
unfolding first_to
first_is zero f = λ i l. absurd (omega arith)
first_is (suc n) f = first_more n f (first_to n f) (first_is n f) (f n) refl

module _ (n : ℕ) (f : ℕ → Bool) where
  first_one : (r s : Option ℕ) → FirstIs n f r → FirstIs n f s → r ≡ s
  first_one none none a b = refl
  first_one none (some k) a b = absurd (a (k - 1) (omega (arith, b.some, b.few)) b.holds)
  first_one (some k) none a b = absurd (b (k - 1) (omega (arith, a.some, a.few)) a.holds)
  first_one (some k) (some l) a b =
      elim (order k l) [
        | inl h ↦ absurd (b.none_before (k - 1) (omega (arith, a.some)) a.holds)
        | inr o ↦ elim o [
          | inl e ↦ rw e
          | inr h ↦ absurd (a.none_before (l - 1) (omega (arith, b.some)) b.holds)
        ]
      ]

  pub first_from : (r : Option ℕ) → FirstIs n f r → first_to n f ≡ r
  first_from r h = first_one (first_to n f) r (first_is n f) h

  pub first_none : ((k : ℕ) → ¬ (First n f k)) → first_to n f ≡ none
  first_none none_is = none_of (first_to n f) (first_is n f)
    where
      none_of : (r : Option ℕ) → FirstIs n f r → r ≡ none
      none_of none h = refl
      none_of (some k) h = absurd (none_is k h)

-- ---- as a loop meets them

pub first_next : (n : ℕ) (f : ℕ → Bool) → first_to n f ≡ none → f n ≡ false → first_to (n + 1) f ≡ none
unfolding first_to else_if
first_next n f a b = rw (add-one, a, b)

pub first_here : (n : ℕ) (f : ℕ → Bool) (i : ℕ) → i < n → first_to i f ≡ none → f i ≡ true → first_to n f ≡ some (i + 1)
unfolding first_to else_if
first_here zero f i l a b = absurd (omega arith)
first_here (suc n) f i l a b = elim (below_suc l) [ inl k ↦ rw (first_here n f i k a b) | inr e ↦ rw (← e, a, b, add-one i) ]

-- from the last place down: a place that fails is passed, and the first that holds is the last place
pub last_passed : (n : ℕ) (f : ℕ → Bool) → f n ≡ false → last_to (suc n) f ≡ last_to n f
unfolding last_to place_if
last_passed n f e = rw e

pub last_here : (n : ℕ) (f : ℕ → Bool) → f n ≡ true → last_to (suc n) f ≡ some (suc n)
unfolding last_to place_if
last_here n f e = rw e
