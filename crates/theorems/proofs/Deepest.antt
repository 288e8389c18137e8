-- Theorems about what specs/Deepest.antt defines. Assumes nothing.
use Rattle.std.specs.Prelude.{◌≡◌, refl, Bool, true, false, List}
use Rattle.std.proofs.Common.{◌∙◌}
use Rattle.std.proofs.Math.Path.{ap}
use Prim.Native.Nat.{ℕ, zero, suc, ◌+◌, max}
use native.Mathlib.Omega.{arith}
use Rattle.linear.specs.Tests.{max_to}
use Rattle.linear.specs.Tuples.{total}
use Rattle.definitions.specs.Calls.{changed, settle_from, step_from}
use Rattle.definitions.specs.Input.{Input, above_system, map_of}
use Rattle.definitions.specs.Machine.{Machine, after}
use Rattle.definitions.specs.Step.{deeper, enlist_in, grown, listed, pick, row_of, step, to_second, top, width}
use Rattle.definitions.specs.System.{System, solves}
use Rattle.definitions.specs.Tables.{RunKind, State, by_walk, capped_run, desk_by_desk, lower_above, lower_plain, lowered, plain_part, plain_run, whole_of}
use Rattle.theorems.specs.WholeSteps.{Steady}
use Rattle.theorems.proofs.WholeSteps.{after_next}
use Rattle.theorems.specs.Deepest.{top_sum_from}

-- ---- any machine whose step shows the greater of the number shown and a sum, and which shows as much when it is settled

module _ {S : Type 0} (k : Machine S) (steady : Steady k) (shown sum : S → ℕ) (settles : (s : S) → shown (k.settle s) ≡ shown s)
    (steps : (s : S) → shown (k.step s) ≡ max (shown s) (sum s)) where
  -- after n steps: the greatest of what was shown and the sums at these steps
  pub greatest : (n : ℕ) (s : S) → shown (after n k s) ≡ max (shown s) (max_to n (λ j. sum (after j k s)))
  unfolding max_to
  greatest zero s = let e : shown (after 0 k s) ≡ shown s = unfold after in settles s in omega arith
  greatest (suc n) s =
      let one : suc n ≡ n + 1 = omega arith in
      let e : shown (after (suc n) k s) ≡ shown (k.settle (k.step (after n k s))) = ap (λ x. shown (after x k s)) one ∙ ap shown (after_next k steady n s) in
      omega (arith, e, settles (k.step (after n k s)), steps (after n k s), greatest n s)

-- ---- plain and capped runs

pub step_deepest : (m : System) (s : State) → (step m s).run.deepest ≡ max s.run.deepest (total (top m s) m.q)
unfolding step listed grown
step_deepest m s = go (solves m (top m s))
  where
    enlisted : (b : Bool) (w : ℕ) (y : ℕ → ℕ) (d : ℕ) → (enlist_in b w s y d).run.deepest ≡ d
    enlisted false w y d = refl
    enlisted true w y d = refl

    go : (b : Bool) → (pick b (listed m s) (grown m s)).run.deepest ≡ max s.run.deepest (total (top m s) m.q)
    go true = enlisted (to_second m.kind (top m s)) (width m) (row_of m.kind (top m s)) (deeper m.q s (top m s))
    go false = refl

pub settled_shows : (lower : List ℕ) (i : Input) (s : State) → (settle_from lower i s).run.deepest ≡ s.run.deepest
unfolding settle_from lowered
settled_shows lower i s = go s.run.kind s.run.height
  where
    go : (r : RunKind) (h : ℕ) → (changed r h lower i s).run.deepest ≡ s.run.deepest
    go plain_run h = refl
    go capped_run h = refl
    go lower_plain zero = refl
    go lower_plain (suc h) = refl
    go lower_above h = refl
    go desk_by_desk h = refl

pub stepped_shows : (lower : List ℕ) (i : Input) (s : State) → (step_from lower i s).run.deepest ≡ max s.run.deepest (top_sum_from lower i s)
unfolding step_from
stepped_shows lower i s = go s.run.kind
  where
    go : (r : RunKind)
        → (by_walk r (whole_of s.run.deepest (step (map_of i) (plain_part s))) (step (above_system lower i) s)).run.deepest
        ≡ max s.run.deepest (by_walk r 0 (total (top (above_system lower i) s) i.q))
    go plain_run = step_deepest (above_system lower i) s
    go capped_run = step_deepest (above_system lower i) s
    go lower_plain = omega arith
    go lower_above = step_deepest (above_system lower i) s
    go desk_by_desk = step_deepest (above_system lower i) s
