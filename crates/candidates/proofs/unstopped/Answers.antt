-- `unstopped` meets its contract. The marks so far are those of the unknowns passed. Assumes nothing.
use mathlib.Core.Path.{◌≡◌, refl, sym, ◌∙◌}
use mathlib.Core.Bool.{Bool, true, false}
use Prim.Native.Nat.{ℕ, ◌+◌, ◌<◌}
use native.Mathlib.Omega.{arith}
use lib.Count.{count_trailing_zeros}
use Rattle.definitions.specs.Tables.{at, frozen}
use Rattle.definitions.specs.Step.{marks_to}
use Rattle.table_rows.specs.Rows.{tuple}
use Rattle.products.specs.Scan.{left_all, left_next, left_end, next_inside, next_holds, next_le, next_less, next_skip, next_add, next_room}
use Rattle.candidates.specs.Grow.{child_by}
use Rattle.candidates.specs.GrowLaws.{closed_makes_none, covered_makes_none, makes_one}
use Rattle.candidates.proofs.unstopped.Goals as goal
use Rattle.candidates.proofs.unstopped.Goals.{After-blocked, In-loop-rest, Start}

abbrev unknown : In-loop-rest → ℕ
unknown l = count_trailing_zeros 32 l.loop-rest.rest

some : (l : In-loop-rest) → 0 < l.loop-rest.rest
some l = omega (arith, l.loop-rest-test.true)

inside : (l : In-loop-rest) → unknown l < l.args.q
inside l = next_inside l.loop-rest.invariant.2 l.requires.w_nonzero.1 (some l)

-- whether unknown j is left
abbrev child : Start → ℕ → Bool
child s = child_by s.args.w s.args.from s.args.found (at s.args.list.now s.args.w) (tuple s.args.t.now) s.args.candidates

closed : (s : Start) (j : ℕ) → frozen s.args.candidates j ≡ false → child s j ≡ false
closed s j e = closed_makes_none _ _ _ _ _ _ _ e

-- the unknown of the turn, by what `blocked` found; it leaves the tuple as it was
module _ (b : After-blocked) where
  abbrev unknown_there : ℕ
  unknown_there = count_trailing_zeros 32 b.loop-rest.rest

  abbrev child_there : ℕ → Bool
  child_there = child_by b.args.w b.args.from b.args.found (at b.args.list.now b.args.w) (tuple b.args.t.now) b.args.candidates

  blocked_none : b.blocked.result ≡ true → child_there unknown_there ≡ false
  blocked_none e = covered_makes_none _ _ _ _ _ _ _ (sym (rw b.loop-rest.invariant.0 at b.blocked.ensures.value) ∙ e)

  free_one : b.blocked.result ≡ false → child_there unknown_there ≡ true
  free_one e =
      makes_one _ _ _ _ _ _ _ (next_holds b.loop-rest.invariant.2 b.requires.w_nonzero.1 (omega (arith, b.loop-rest-test.true)))
      (sym (rw b.loop-rest.invariant.0 at b.blocked.ensures.value) ∙ e)

pub loop-rest-init : goal.loop-rest-init
unfolding marks_to
loop-rest-init c = (refl, 0, left_all _ _ c.requires.w_nonzero.4, refl)

pub overflow_cast-i : goal.overflow_cast-i
overflow_cast-i c = omega (arith, inside c, c.requires.w_nonzero.1)

pub overflow_cast-bit : goal.overflow_cast-bit
overflow_cast-bit c = omega (arith, inside c, c.requires.w_nonzero.1)

pub overflow_shl-bit : goal.overflow_shl-bit
overflow_shl-bit c = omega (arith, inside c, c.requires.w_nonzero.1)

pub overflow_sub-rest : goal.overflow_sub-rest
overflow_sub-rest c = next_le c.loop-rest.invariant.2 c.requires.w_nonzero.1 (some c)

pub blocked-requires : goal.blocked-requires
blocked-requires c =
    rw c.loop-rest.invariant.0 (
      omega (arith, inside (goal.at.blocked-requires c).In-loop-rest, c.requires.w_nonzero.3),
      c.requires.w_nonzero.0.0,
      omega (arith, c.requires.w_nonzero),
      c.requires.w_nonzero.2,
      omega (arith, c.requires.limited.at_most (unknown (goal.at.blocked-requires c).In-loop-rest) (inside (goal.at.blocked-requires c).In-loop-rest)),
    )

pub loop-rest-smaller : goal.loop-rest-smaller
loop-rest-smaller c = next_less c.loop-rest.invariant.2 c.requires.w_nonzero.1 (some (goal.at.loop-rest-smaller c).In-loop-rest)

pub loop-rest-preserved : goal.loop-rest-preserved
loop-rest-preserved c =
    let few = c.requires.w_nonzero.1 in
    let left = c.loop-rest.invariant.2 in (
      c.blocked.ensures.t_unchanged ∙ c.loop-rest.invariant.0,
      unknown (goal.at.loop-rest-preserved c).In-loop-rest + 1,
      left_next left few (some (goal.at.loop-rest-preserved c).In-loop-rest),
      next_skip left few (some (goal.at.loop-rest-preserved c).In-loop-rest) (child (goal.at.loop-rest-preserved c).Start)
          (closed (goal.at.loop-rest-preserved c).Start) c.loop-rest.invariant.3
          (blocked_none (goal.at.loop-rest-preserved c).After-blocked c.if-not-blocked.false),
    )

pub overflow_add-left : goal.overflow_add-left
overflow_add-left c =
    omega (
      arith,
      next_room c.loop-rest.invariant.2 c.requires.w_nonzero.1 (some (goal.at.overflow_add-left c).In-loop-rest)
          (child (goal.at.overflow_add-left c).Start) (closed (goal.at.overflow_add-left c).Start) c.loop-rest.invariant.3,
    )

pub loop-rest-smaller-then-not-blocked : goal.loop-rest-smaller-then-not-blocked
loop-rest-smaller-then-not-blocked c =
    next_less c.loop-rest.invariant.2 c.requires.w_nonzero.1 (some (goal.at.loop-rest-smaller-then-not-blocked c).In-loop-rest)

pub loop-rest-preserved-then-not-blocked : goal.loop-rest-preserved-then-not-blocked
loop-rest-preserved-then-not-blocked c =
    let few = c.requires.w_nonzero.1 in
    let left = c.loop-rest.invariant.2 in (
      c.blocked.ensures.t_unchanged ∙ c.loop-rest.invariant.0,
      unknown (goal.at.loop-rest-preserved-then-not-blocked c).In-loop-rest + 1,
      left_next left few (some (goal.at.loop-rest-preserved-then-not-blocked c).In-loop-rest),
      next_add left few (some (goal.at.loop-rest-preserved-then-not-blocked c).In-loop-rest) (child (goal.at.loop-rest-preserved-then-not-blocked c).Start)
          (closed (goal.at.loop-rest-preserved-then-not-blocked c).Start) c.loop-rest.invariant.3
          (free_one (goal.at.loop-rest-preserved-then-not-blocked c).After-blocked c.if-not-blocked.true),
    )

pub returns : goal.returns
returns c =
    let left = rw c.loop-rest-test.false at c.loop-rest.invariant.2 in
    record {
      value = left_end left (child (goal.at.returns c).Start) (closed (goal.at.returns c).Start) c.loop-rest.invariant.3;
      t_unchanged = c.loop-rest.invariant.0;
    }
