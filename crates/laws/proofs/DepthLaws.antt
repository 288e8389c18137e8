-- The greatest sum is only carried on: the refusals of the search do not depend on it, nor does what a step does besides. Assumes nothing.
use Rattle.std.specs.Prelude.{◌≡◌, Bool, ◌&&◌}
use Rattle.std.proofs.Math.Path.{refl, ap, fun_ext}
use Rattle.std.proofs.Math.Bool.{true, false}
use Prim.Native.Nat.{ℕ, ◌+◌}
use Rattle.std.proofs.Math.Dec.{eqb}
use Rattle.linear.specs.Tests.{any_to, count_to}
use Rattle.linear.specs.Tuples.{raise}
use Rattle.definitions.specs.Refusals.{search_checks, too_large}
use Rattle.definitions.specs.Step.{deeper, enlist_in, full_in, grown, level, listed, makes, pick, row_of, row_width, step, to_second, top, top_marks}
use Rattle.definitions.specs.Step.{write_children}
use Rattle.definitions.specs.System.{Kind, System, above, capped, plain, solves}
use Rattle.definitions.specs.Tables.{State, stepped}

-- the same with another greatest sum
abbrev pub with_depth : ℕ → State → State
with_depth d s =
    record {
      stack = s.stack;
      list = s.list;
      second = s.second;
      run =
          record {
            kind = s.run.kind;
            height = s.run.height;
            found = s.run.found;
            steps = s.run.steps;
            found2 = s.run.found2;
            steps2 = s.run.steps2;
            deepest = d;
          };
    }

abbrev of_kind : System → Kind → System
of_kind m k = record { p = m.p; q = m.q; coefs = m.coefs; kind = k; limit = m.limit }

full_depth : (d w : ℕ) (s : State) (b : Bool) → full_in b w (with_depth d s) ≡ full_in b w s
full_depth d w s false = refl
full_depth d w s true = refl

listed_depth : (d e w a b : ℕ) (y : ℕ → ℕ) (s : State) (c : Bool) → with_depth e (enlist_in c w (with_depth d s) y a) ≡ with_depth e (enlist_in c w s y b)
listed_depth d e w a b y s false = refl
listed_depth d e w a b y s true = refl

module _ (m : System) (d : ℕ) (s : State) where
  makes_at : (k : Kind) (j : ℕ) → makes (of_kind m k) (with_depth d s) j ≡ makes (of_kind m k) s j
  unfolding makes
  makes_at plain j = refl
  makes_at capped j = refl
  makes_at (above f) j = refl

  makes_depth : makes m (with_depth d s) ≡ makes m s
  makes_depth = fun_ext (makes_at m.kind)

  large_depth : too_large m (with_depth d s) ≡ too_large m s
  unfolding too_large
  large_depth = ap (λ (f : ℕ → Bool). any_to m.q (λ j. f j && eqb (raise (top m s) j j) (m.limit + 1))) makes_depth

  pub search_depth : search_checks m (with_depth d s) ≡ search_checks m s
  unfolding search_checks
  search_depth =
      rw (full_depth d (row_width m.kind m.q) s (to_second m.kind (top m s)), large_depth)

  -- what a step leaves that makes children of the unknowns given
  abbrev children : ℕ → (ℕ → Bool) → State
  children e f =
      record {
        stack = write_children m.q m.q s.stack (level s) (top m s) (top_marks m s) f;
        list = s.list;
        second = s.second;
        run = stepped s.run (level s + count_to m.q f) s.run.found s.run.found2 e;
      }

  pub step_depth : (e : ℕ) → with_depth e (step m (with_depth d s)) ≡ with_depth e (step m s)
  unfolding step listed grown
  step_depth e = go (solves m (top m s))
    where
      go : (b : Bool) → with_depth e (pick b (listed m (with_depth d s)) (grown m (with_depth d s))) ≡ with_depth e (pick b (listed m s) (grown m s))
      go true =
          let x : ℕ → ℕ = top m s in
          listed_depth d e (row_width m.kind m.q) (deeper m.q (with_depth d s) x) (deeper m.q s x) (row_of m.kind x) s (to_second m.kind x)
      go false = ap (children e) makes_depth
