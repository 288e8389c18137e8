-- The loop that asks the runs in turn: what it keeps, a turn of it, and its ends. Assumes nothing.
use Rattle.std.specs.Prelude.{◌≡◌, Bool, true, false, ℕ, zero, suc, ◌+◌, ◌≤◌, ◌<◌}
use Rattle.std.proofs.Math.Path.{refl}
use Rattle.std.proofs.Common.{sym, ap, inl, inr, le_antisymm, add-one, arith}
use Rattle.std.proofs.Math.Option.{none, some}
use Rattle.linear.specs.Cases.{below_suc}
use Rattle.dispatch_spec.specs.Dispatch.{first_to, first_asked, further, next_after}
use Rattle.dispatch_spec.proofs.RoundLaws.{asked_below}

-- k runs were asked, and none of them stays
pub record Asking (count last : ℕ) (stays : ℕ → Bool) (start k : ℕ) : Type 0 where
  pub few : count ≤ 8
  pub from : start ≡ first_asked count last
  pub below : start < count
  pub upto : k ≤ count
  pub fails : first_to k (λ i. stays (further count start i)) ≡ none

first_found : (f : ℕ → Bool) (n k : ℕ) → k < n → first_to k f ≡ none → f k ≡ true → first_to n f ≡ some k
unfolding first_to
first_found f zero k l e y = absurd (omega arith)
first_found f (suc n) k l e y =
    elim (below_suc l) [ inl h ↦ rw (first_found f n k h e y) | inr q ↦ rw (rw q at e, rw q at y) (ap some (sym q)) ]

module _ (count last : ℕ) (stays : ℕ → Bool) where
  pub asking_begins : 0 < count → count ≤ 8 → {start : ℕ} → start ≡ first_asked count last → Asking count last stays start 0
  unfolding first_to
  asking_begins some_run few e = record { few = few; from = e; below = rw e (asked_below count last some_run); upto = omega arith; fails = refl }

module _ {count last : ℕ} {stays : ℕ → Bool} {start k : ℕ} (a : Asking count last stays start k) where
  pub asking_found : k < count → {i : ℕ} → i ≡ further count start k → stays i ≡ true → some i ≡ next_after count last stays
  unfolding next_after
  asking_found l e y =
      rw (← a.from, first_found (λ i. stays (further count start i)) count k l a.fails (rw e at y)) (ap some e)

  pub asking_more : k < count → {i : ℕ} → i ≡ further count start k → stays i ≡ false → Asking count last stays start (k + 1)
  unfolding first_to
  asking_more l e y = record { few = a.few; from = a.from; below = a.below; upto = omega arith; fails = rw (add-one k, a.fails, rw e at y) }

  pub asking_ends : count ≤ k → none ≡ next_after count last stays
  unfolding next_after
  asking_ends l = rw (← a.from, rw (le_antisymm a.upto l) at a.fails)
