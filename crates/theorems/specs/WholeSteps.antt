-- A continuing call over any machine leaves the state after its whole steps, and its answer says how it stands then. Assumes nothing.
use Rattle.std.specs.Prelude.{◌≡◌, ◌⊎◌}
use Rattle.std.proofs.Math.Path.{refl, ap}
use Rattle.std.proofs.Common.{arith}
use Rattle.std.proofs.Math.Logic.{inl, inr}
use mathlib.Core.List.{List}
use Prim.Native.Nat.{ℕ, zero, suc, ◌<◌}
use Rattle.std.proofs.Math.Decide.{ℕ_discrete}
use Rattle.definitions.specs.Answers.{Answer, complete, go, paused, refuse, refused}
use Rattle.definitions.specs.Machine.{Machine, Outcome, after, call, call_steps, walk, walk_steps}
use Rattle.laws.proofs.CheckLaws.{check_cases}
use Rattle.laws.proofs.MachineLaws.{call_refused, call_walks, walk_done, walk_more, walk_paused, walk_refused}

-- what is done ahead of a step is done once
abbrev pub Steady : {S : Type 0} → Machine S → Type 0
Steady {S} k = (s : S) → k.settle (k.settle s) ≡ k.settle s

-- how a walk with a budget of n ends that takes i steps to the state t
pub data Ends {S : Type 0} (n i : ℕ) (k : Machine S) (t : S) : Answer → Type 0 where
  completes : k.height t ≡ 0 → Ends n i k t complete
  pauses : 0 < k.height t → i ≡ n → Ends n i k t paused
  refuses : (r : ℕ) (values : List ℕ) → 0 < k.height t → i < n → k.refusals t ≡ refuse r values → Ends n i k t (refused r values)

-- what a walk with a budget of n from s does
pub record Walked {S : Type 0} (n : ℕ) (k : Machine S) (s : S) (o : Outcome S) (i : ℕ) : Type 0 where
  pub state : o.state ≡ after i k s
  pub ends : Ends n i k o.state o.answer

-- the step from t may be taken
abbrev pub Goes : {S : Type 0} → Machine S → S → Type 0
Goes k t = (0 < k.height t) × (k.refusals t ≡ go)

positive : {n : ℕ} → ¬ (n ≡ 0) → 0 < n
positive {n} h = omega (arith, h)

module _ {S : Type 0} (k : Machine S) where
  later : {n i : ℕ} {t : S} {a : Answer} → Ends n i k t a → Ends (suc n) (suc i) k t a
  later (completes h) = completes h
  later (pauses h e) = pauses h (ap suc e)
  later (refuses r values h l e) = refuses r values h (omega arith) e

  walked_done : (n : ℕ) (s : S) → k.height (k.settle s) ≡ 0 → Walked n k s (walk n k s) (walk_steps n k s)
  unfolding after
  walked_done n s e = let d = walk_done k s n e in rw (d.0, d.1) (record { state = refl; ends = completes e })

  walked_zero : (s : S) → Walked 0 k s (walk 0 k s) (walk_steps 0 k s)
  unfolding after
  walked_zero s =
      elim (ℕ_discrete (k.height (k.settle s)) 0) [
        | yes e ↦ walked_done 0 s e
        | no ne ↦ let d = walk_paused k s (positive ne) in rw (d.0, d.1) (record { state = refl; ends = pauses (positive ne) refl })
      ]

  walked_suc : (n : ℕ) (s : S) → Walked n k (k.step (k.settle s)) (walk n k (k.step (k.settle s))) (walk_steps n k (k.step (k.settle s)))
      → Walked (suc n) k s (walk (suc n) k s) (walk_steps (suc n) k s)
  unfolding after
  walked_suc n s next =
      elim (ℕ_discrete (k.height (k.settle s)) 0) [
        | yes e ↦ walked_done (suc n) s e
        | no ne ↦ elim (check_cases (k.refusals (k.settle s))) [
          | inl e ↦ let d = walk_more k s n (positive ne) e in rw (d.0, d.1) (record { state = next.state; ends = later next.ends })
          | inr (r, values, e) ↦
              let d = walk_refused k s n r values (positive ne) e in
              rw (d.0, d.1) (record { state = refl; ends = refuses r values (positive ne) (omega arith) e })
        ]
      ]

  pub walked : (n : ℕ) (s : S) → Walked n k s (walk n k s) (walk_steps n k s)
  walked zero s = walked_zero s
  walked (suc n) s = walked_suc n s (walked n (k.step (k.settle s)))

  -- a continuing call whose checks let it go on
  pub called : (n : ℕ) (s : S) → k.before s ≡ go → Walked n k s (call n k s) (call_steps n k s)
  called n s e = let d = call_walks k s n e in rw (d.0, d.1) (walked n s)

  -- each step that a walk takes is from a height above 0, and the search does not refuse it
  pub walk_going : (n : ℕ) (s : S) (i : ℕ) → i < walk_steps n k s → Goes k (after i k s)
  unfolding walk_steps after
  walk_going zero s i l = absurd (omega arith)
  walk_going (suc n) s i l = first (ℕ_discrete (k.height (k.settle s)) 0) (check_cases (k.refusals (k.settle s))) (walk_going n (k.step (k.settle s))) i l
    where
      first : Dec (k.height (k.settle s) ≡ 0)
          → (k.refusals (k.settle s) ≡ go) ⊎ ((r : ℕ) × (values : List ℕ) × (k.refusals (k.settle s) ≡ refuse r values))
          → ((i : ℕ) → i < walk_steps n k (k.step (k.settle s)) → Goes k (after i k (k.step (k.settle s)))) → (i : ℕ) → i < walk_steps (suc n) k s
          → Goes k (after i k s)
      first (yes e) c next i l = absurd (omega (arith, (walk_done k s (suc n) e).1))
      first (no ne) (inr (r, values, e)) next i l = absurd (omega (arith, (walk_refused k s n r values (positive ne) e).1))
      first (no ne) (inl e) next zero l = (positive ne, e)
      first (no ne) (inl e) next (suc i) l = next i (omega (arith, (walk_more k s n (positive ne) e).1))

  pub call_going : (n : ℕ) (s : S) → k.before s ≡ go → (i : ℕ) → i < call_steps n k s → Goes k (after i k s)
  call_going n s e i l = walk_going n s i (rw (call_walks k s n e).1 at l)

  -- what each step keeps that the search does not refuse, and what is done ahead of it, a continuing call keeps
  module _ (P : S → Type 0) (settles : (s : S) → P s → P (k.settle s)) (keep : (s : S) → P s → Goes k s → P (k.step s)) where
    pub after_keeps : (n : ℕ) (s : S) → P s → ((i : ℕ) → i < n → Goes k (after i k s)) → P (after n k s)
    unfolding after
    after_keeps zero s p g = settles s p
    after_keeps (suc n) s p g = after_keeps n (k.step (k.settle s)) (keep (k.settle s) (settles s p) (g 0 (omega arith))) (λ i l. g (suc i) (omega arith))

    pub call_keeps : (n : ℕ) (s : S) → P s → P (call n k s).state
    call_keeps n s p =
        elim (check_cases (k.before s)) [
          | inl e ↦ rw (called n s e).state (after_keeps (call_steps n k s) s p (call_going n s e))
          | inr (r, values, e) ↦ rw (call_refused k s n r values e).0 p
        ]
