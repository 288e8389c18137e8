-- A step does not depend on the component limit, which only refuses (document 02: "A training run that is not refused lists what the office run lists after as
-- many steps."). Assumes nothing.
use Rattle.std.specs.Prelude.{◌≡◌}
use Rattle.std.proofs.Math.Path.{refl}
use Prim.Native.Nat.{ℕ, zero, suc}
use Rattle.linear.proofs.TestLaws.{count_same}
use Rattle.linear.specs.Tests.{count_to}
use Rattle.definitions.specs.Step.{children_to, grown, listed, makes, marks_to, step, top, write_children}
use Rattle.definitions.specs.System.{System, solves}
use Rattle.definitions.specs.Tables.{State}

abbrev pub with_limit : System → ℕ → System
with_limit m n = record { p = m.p; q = m.q; coefs = m.coefs; kind = m.kind; limit = n }

module _ (m : System) (n : ℕ) where
  makes_limit : (s : State) (j : ℕ) → makes (with_limit m n) s j ≡ makes m s j
  unfolding makes
  makes_limit s j = refl

  count_limit : (s : State) (k : ℕ) → count_to k (makes (with_limit m n) s) ≡ count_to k (makes m s)
  count_limit s k = count_same (makes (with_limit m n) s) (makes m s) k (λ j l. makes_limit s j)

  marks_limit : (s : State) (k : ℕ) → marks_to k (makes (with_limit m n) s) ≡ marks_to k (makes m s)
  unfolding marks_to
  marks_limit s zero = refl
  marks_limit s (suc k) = rw (marks_limit s k, makes_limit s k)

  children_limit : (s : State) (k : ℕ) → children_to k (with_limit m n) s ≡ children_to k m s
  unfolding write_children
  children_limit s zero = refl
  children_limit s (suc k) = rw (children_limit s k, makes_limit s k, count_limit s k, marks_limit s k)

  solves_limit : (x : ℕ → ℕ) → solves (with_limit m n) x ≡ solves m x
  unfolding solves
  solves_limit x = refl

  listed_limit : (s : State) → listed (with_limit m n) s ≡ listed m s
  unfolding listed
  listed_limit s = refl

  pub step_limit_lem : (s : State) → step (with_limit m n) s ≡ step m s
  unfolding step grown
  step_limit_lem s = rw (solves_limit (top m s), listed_limit s, children_limit s m.q, count_limit s m.q)
