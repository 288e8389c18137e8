-- What the first place is, and how a loop finds it. Assumes nothing.
use Rattle.std.specs.Prelude.{◌≡◌, Bool, true, false, ℕ, zero, suc, ◌+◌, ◌≤◌, ◌<◌, T, eqb}
use Rattle.std.proofs.Math.Path.{refl}
use Rattle.std.proofs.Common.{inl, inr, add-one, arith}
use Rattle.std.proofs.Math.Dec.{eqb_refl}
use borrow.Author.Tests.{eq-eqb, ne_eqb}
use Rattle.linear.specs.Cases.{below_suc}
use Rattle.linear.proofs.Cases.{order, split}
use Rattle.single_spec.specs.First.{find_to, one_more}

-- ---- equality as a test

pub eqb_from : (a b : ℕ) → a ≡ b → T (eqb a b)
eqb_from a b e = rw e (eqb_refl b)

-- ---- the first place

pub record FirstOf (n : ℕ) (f : ℕ → Bool) (r : ℕ) : Type 0 where
  pub most : r ≤ n
  pub before : (k : ℕ) → k < r → ¬ (T (f k))
  pub holds : r < n → T (f r)

more_found : (n : ℕ) (f : ℕ → Bool) (r : ℕ) → FirstOf n f r → r < n → FirstOf (suc n) f (one_more r n (f n))
more_found n f r h l =
    rw (ne_eqb r n (omega arith)) (let e : r + 0 ≡ r = omega arith in rw e
    (record { most = omega (arith, h.most); before = h.before; holds = λ k. h.holds l }))

more_none : (n : ℕ) (f : ℕ → Bool) → FirstOf n f n → FirstOf (suc n) f (one_more n n (f n))
more_none n f h = go (f n) (λ y. y) (λ y. y)
  where
    go : (b : Bool) → (T b → T (f n)) → (T (f n) → T b) → FirstOf (suc n) f (one_more n n b)
    go true y z = rw (eq-eqb n n refl) (let e : n + 0 ≡ n = omega arith in rw e (record { most = omega arith; before = h.before; holds = λ k. y tt }))
    go false y z =
        rw (eq-eqb n n refl) (let e : n + 1 ≡ suc n = omega arith in rw e
        (record {
          most = omega arith;
          before = λ k l. elim (below_suc l) [ inl u ↦ h.before k u | inr g ↦ λ t. z (rw g at t) ];
          holds = λ k. absurd
              (omega arith);
        }))

pub first_of : (n : ℕ) (f : ℕ → Bool) → FirstOf n f (find_to n f)
unfolding find_to
first_of zero f = record { most = omega arith; before = λ k l. absurd (omega arith); holds = λ l. absurd (omega arith) }
first_of (suc n) f =
    elim (split (find_to n f) n) [
      | inl l ↦ more_found n f (find_to n f) (first_of n f) l
      | inr l ↦ let e : find_to n f ≡ n = omega (arith, (first_of n f).most) in rw e (more_none n f (rw e at (first_of n f)))
    ]

-- where the test holds somewhere the first place is found, and is no later
pub first_found : (n : ℕ) (f : ℕ → Bool) (j : ℕ) → j < n → T (f j) → find_to n f ≤ j
first_found n f j l h = elim (split j (find_to n f)) [ inl k ↦ absurd ((first_of n f).before j k h) | inr k ↦ k ]

pub first_is : (n : ℕ) (f : ℕ → Bool) (r : ℕ) → FirstOf n f r → find_to n f ≡ r
first_is n f r h =
    let g = first_of n f in
    elim (order (find_to n f) r) [
      | inl l ↦ absurd (h.before (find_to n f) l (g.holds (omega (arith, h.most))))
      | inr (inl e) ↦ e
      | inr (inr l) ↦ absurd (g.before r l (h.holds (omega (arith, g.most))))
    ]

-- ---- as a loop meets it

module _ (f : ℕ → Bool) where
  -- one more place passed, at which the test fails
  pub first_next : (n : ℕ) → find_to n f ≡ n → f n ≡ false → find_to (n + 1) f ≡ n + 1
  unfolding find_to
  first_next n e h = rw (add-one, e, eq-eqb n n refl, h) (omega arith)

  -- the first place at which it holds
  pub first_here : (n i : ℕ) → i < n → find_to i f ≡ i → f i ≡ true → find_to n f ≡ i
  first_here n i l e h =
      first_is n f i (record { most = omega arith; before = λ k u. (first_of i f).before k (omega arith); holds = λ u. rw h tt })
