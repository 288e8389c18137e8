-- Theorems about what specs/WholeSteps.antt defines. Assumes nothing.
use Rattle.std.specs.Prelude.{◌≡◌}
use Rattle.std.proofs.Math.Path.{ap}
use Rattle.std.proofs.Common.{sym, ◌∙◌}
use Rattle.std.proofs.Math.Logic.{inl, inr}
use Prim.Native.Nat.{ℕ, zero, suc, ◌+◌}
use Rattle.std.proofs.Math.Nat.{zero-add, suc-add}
use Rattle.definitions.specs.Machine.{Machine, after, call, call_steps, walk, walk_steps}
use Rattle.laws.proofs.CheckLaws.{check_cases}
use Rattle.laws.proofs.MachineLaws.{call_refused}
use Rattle.theorems.specs.WholeSteps.{Goes, Steady, after_keeps, called, walk_going, walked}

module _ {S : Type 0} (k : Machine S) where
  -- and any, where nothing is done ahead of a step
  pub call_after : ((s : S) → k.settle s ≡ s) → (n : ℕ) (s : S) → (call n k s).state ≡ after (call_steps n k s) k s
  unfolding after
  call_after still n s =
      elim (check_cases (k.before s)) [
        | inl e ↦ ((called k) n s e).state
        | inr (r, values, e) ↦ let d = call_refused k s n r values e in rw (d.0, d.1) (sym (still s))
      ]

  -- what each step keeps that the search does not refuse, and what is done ahead of it, a continuing call keeps
  module _ (P : S → Type 0) (settles : (s : S) → P s → P (k.settle s)) (keep : (s : S) → P s → Goes k s → P (k.step s)) where
    pub walk_keeps : (n : ℕ) (s : S) → P s → P (walk n k s).state
    walk_keeps n s p = rw ((walked k) n s).state ((after_keeps k P settles keep) (walk_steps n k s) s p ((walk_going k) n s))

-- ---- steps after steps

module _ {S : Type 0} (k : Machine S) (steady : Steady k) where
  -- a state that was settled
  after_settled : (n : ℕ) (s : S) → after n k (k.settle s) ≡ after n k s
  unfolding after
  after_settled zero s = steady s
  after_settled (suc n) s = ap (λ t. after n k (k.step t)) (steady s)

  pub after_more : (i j : ℕ) (s : S) → after (i + j) k s ≡ after j k (after i k s)
  unfolding after
  after_more zero j s = rw zero-add (sym (after_settled j s))
  after_more (suc i) j s = rw suc-add (after_more i j (k.step (k.settle s)))

  pub settled_after : (n : ℕ) (s : S) → k.settle (after n k s) ≡ after n k s
  unfolding after
  settled_after zero s = steady s
  settled_after (suc n) s = settled_after n (k.step (k.settle s))

  -- one step more
  pub after_next : (n : ℕ) (s : S) → after (n + 1) k s ≡ k.settle (k.step (after n k s))
  unfolding after
  after_next n s = after_more n 1 s ∙ ap (λ t. k.settle (k.step t)) (settled_after n s)
