-- What one turn of a continuing call comes to, over any machine: the four cases of a loop that takes the steps. Assumes nothing.
use Prim.Native.Nat.{ℕ, zero, suc, ◌<◌}
use Rattle.std.specs.Prelude.{true, false, List, ◌≡◌, refl, eqb}
use Rattle.std.proofs.Common.{arith}
use Rattle.std.proofs.Math.Dec.{eqb-suc-zero}
use Rattle.definitions.specs.Answers.{complete, go, paused, refuse, refused}
use Rattle.definitions.specs.Machine.{Machine, call, call_steps, checked, moved, steps_if, unless_done, walk, walk_steps}

done_is : (n : ℕ) → n ≡ 0 → eqb n 0 ≡ true
done_is n e = rw e

high_is : (n : ℕ) → 0 < n → eqb n 0 ≡ false
high_is zero h = absurd (omega arith)
high_is (suc n) h = eqb-suc-zero n

module _ {S : Type 0} (k : Machine S) (s : S) where
  -- the state that the turn is about
  abbrev here : S
  here = k.settle s

  pub walk_done : (n : ℕ) → k.height here ≡ 0 → (walk n k s ≡ record { answer = complete; state = here }) × (walk_steps n k s ≡ 0)
  unfolding walk walk_steps unless_done moved
  walk_done zero e = (rw (done_is (k.height here) e), refl)
  walk_done (suc n) e = (rw (done_is (k.height here) e), rw (done_is (k.height here) e))

  pub walk_paused : 0 < k.height here → (walk 0 k s ≡ record { answer = paused; state = here }) × (walk_steps 0 k s ≡ 0)
  unfolding walk walk_steps unless_done
  walk_paused h = (rw (high_is (k.height here) h), refl)

  pub walk_refused : (n r : ℕ) (values : List ℕ) → 0 < k.height here → k.refusals here ≡ refuse r values
      → (walk (suc n) k s ≡ record { answer = refused r values; state = here }) × (walk_steps (suc n) k s ≡ 0)
  unfolding walk walk_steps unless_done checked moved
  walk_refused n r values h e = (rw (high_is (k.height here) h, e), rw (high_is (k.height here) h, e))

  pub walk_more : (n : ℕ) → 0 < k.height here → k.refusals here ≡ go
      → (walk (suc n) k s ≡ walk n k (k.step here)) × (walk_steps (suc n) k s ≡ suc (walk_steps n k (k.step here)))
  unfolding walk walk_steps unless_done checked moved
  walk_more n h e = (rw (high_is (k.height here) h, e), rw (high_is (k.height here) h, e))

  pub call_walks : (n : ℕ) → k.before s ≡ go → (call n k s ≡ walk n k s) × (call_steps n k s ≡ walk_steps n k s)
  unfolding call call_steps checked steps_if
  call_walks n e = (rw e, rw e)

  -- a call that is refused before its walk takes no step, and changes nothing
  pub call_refused : (n r : ℕ) (values : List ℕ) → k.before s ≡ refuse r values
      → (call n k s ≡ record { answer = refused r values; state = s }) × (call_steps n k s ≡ 0)
  unfolding call call_steps checked steps_if
  call_refused n r values e = (rw e, rw e)

-- a state that is settled already walks as the one that it was settled from
pub walk_settled : {S : Type 0} (k : Machine S) (s : S) → k.settle (k.settle s) ≡ k.settle s → (n : ℕ)
    → (walk n k (k.settle s) ≡ walk n k s) × (walk_steps n k (k.settle s) ≡ walk_steps n k s)
unfolding walk walk_steps
walk_settled k s e zero = (rw e, refl)
walk_settled k s e (suc n) = (rw e, rw e)
