-- `passed` meets its contract. The marks so far are those of the unknowns passed. Assumes nothing.
use mathlib.Core.Path.{◌≡◌, refl, sym, ◌∙◌, ap}
use mathlib.Core.Logic.{◌≢◌}
use mathlib.Core.Bool.{Bool, true, false, ◌&&◌, and-false}
use Prim.Native.Nat.{ℕ, ◌+◌, ◌<◌}
use native.Mathlib.Omega.{arith}
use lib.Count.{count_trailing_zeros}
use lib.Dec.{eqb}
use lib.ListN.{length}
use borrow.Author.Tests.{eq-eqb, ne_eqb}
use Rattle.linear.proofs.LoopLaws.{any_holds}
use Rattle.definitions.specs.Tables.{at, frozen}
use Rattle.definitions.specs.Step.{marks_to}
use Rattle.table_rows.specs.Rows.{tuple}
use Rattle.products.specs.Scan.{left_all, left_next, left_end, next_inside, next_holds, next_le, next_less, next_skip, next_add, next_room, none_next, none_end}
use Rattle.products.specs.Marks.{any_zero}
use Rattle.candidates.specs.Tried.{tried_large, tried_made}
use Rattle.candidates.specs.Grow.{child_by}
use Rattle.candidates.specs.GrowLaws.{closed_makes_none, covered_makes_none, makes_one}
use Rattle.candidates.proofs.passed.Goals as goal
use Rattle.candidates.proofs.passed.Goals.{After-blocked, Else-limit-t, In-loop-rest, Start, Then-limit-t}

abbrev unknown : In-loop-rest → ℕ
unknown l = count_trailing_zeros 32 l.loop-rest.rest

some : (l : In-loop-rest) → 0 < l.loop-rest.rest
some l = omega (arith, l.loop-rest-test.true)

inside : (l : In-loop-rest) → unknown l < l.args.q
inside l = next_inside l.loop-rest.invariant.2 l.requires.w_nonzero.1 (some l)

-- whether unknown j makes a child, and one that is too large
abbrev child : Start → ℕ → Bool
child s = child_by s.args.w s.args.from s.args.found (at s.args.list.now s.args.w) (tuple s.args.t.now) s.args.left

abbrev large : Start → ℕ → Bool
large s j = child s j && eqb (tuple s.args.t.now j) s.args.limit

closed : (s : Start) (j : ℕ) → frozen s.args.left j ≡ false → child s j ≡ false
closed s j e = closed_makes_none _ _ _ _ _ _ _ e

closed_large : (s : Start) (j : ℕ) → frozen s.args.left j ≡ false → large s j ≡ false
closed_large s j e = rw (closed s j e)

-- the unknown of the turn, by what `blocked` found; it leaves the tuple as it was
module _ (b : After-blocked) where
  abbrev unknown_there : ℕ
  unknown_there = count_trailing_zeros 32 b.loop-rest.rest

  abbrev child_there : ℕ → Bool
  child_there = child_by b.args.w b.args.from b.args.found (at b.args.list.now b.args.w) (tuple b.args.t.now) b.args.left

  blocked_none : b.blocked.result ≡ true → child_there unknown_there ≡ false
  blocked_none e = covered_makes_none _ _ _ _ _ _ _ (sym (rw b.loop-rest.invariant.0 at b.blocked.ensures.value) ∙ e)

  free_one : b.blocked.result ≡ false → child_there unknown_there ≡ true
  free_one e =
      makes_one _ _ _ _ _ _ _ (next_holds b.loop-rest.invariant.2 b.requires.w_nonzero.1 (omega (arith, b.loop-rest-test.true)))
      (sym (rw b.loop-rest.invariant.0 at b.blocked.ensures.value) ∙ e)

-- the component of the turn's unknown, which `blocked` has left as it was
reached : (c : Then-limit-t) → tuple c.args.t.now (count_trailing_zeros 32 c.loop-rest.rest) ≡ c.args.limit
reached c =
    omega (
      arith,
      rw (c.blocked.ensures.t_unchanged ∙ c.loop-rest.invariant.0) at c.if-limit-t.true,
      c.requires.limited.1.at_most
          (count_trailing_zeros 32 c.loop-rest.rest) (next_inside c.loop-rest.invariant.2 c.requires.w_nonzero.1 (omega (arith, c.loop-rest-test.true))),
    )

below : (c : Else-limit-t) → tuple c.args.t.now (count_trailing_zeros 32 c.loop-rest.rest) ≢ c.args.limit
below c =
    omega (arith, rw (c.blocked.ensures.t_unchanged ∙ c.loop-rest.invariant.0) at c.if-limit-t.false)

pub loop-rest-init : goal.loop-rest-init
unfolding marks_to
loop-rest-init c = (refl, 0, left_all _ _ c.requires.w_nonzero.4, refl, any_zero _)

pub overflow_cast-i : goal.overflow_cast-i
overflow_cast-i c = omega (arith, inside c, c.requires.w_nonzero.1)

pub overflow_cast-bit : goal.overflow_cast-bit
overflow_cast-bit c = omega (arith, inside c, c.requires.w_nonzero.1)

pub overflow_shl-bit : goal.overflow_shl-bit
overflow_shl-bit c = omega (arith, inside c, c.requires.w_nonzero.1)

pub overflow_sub-rest : goal.overflow_sub-rest
overflow_sub-rest c = next_le c.loop-rest.invariant.2 c.requires.w_nonzero.1 (some c)

pub blocked-requires : goal.blocked-requires
blocked-requires c =
    rw c.loop-rest.invariant.0 (
      omega (arith, inside (goal.at.blocked-requires c).In-loop-rest, c.requires.w_nonzero.3),
      c.requires.w_nonzero.0.0,
      omega (arith, c.requires.w_nonzero),
      c.requires.w_nonzero.2,
      omega (arith, c.requires.limited.0.at_most (unknown (goal.at.blocked-requires c).In-loop-rest) (inside (goal.at.blocked-requires c).In-loop-rest)),
    )

pub loop-rest-smaller-then-blocked : goal.loop-rest-smaller-then-blocked
loop-rest-smaller-then-blocked c = next_less c.loop-rest.invariant.2 c.requires.w_nonzero.1 (some (goal.at.loop-rest-smaller-then-blocked c).In-loop-rest)

pub loop-rest-preserved-then-blocked : goal.loop-rest-preserved-then-blocked
loop-rest-preserved-then-blocked c =
    let few = c.requires.w_nonzero.1 in
    let left = c.loop-rest.invariant.2 in (
      c.blocked.ensures.t_unchanged ∙ c.loop-rest.invariant.0,
      unknown (goal.at.loop-rest-preserved-then-blocked c).In-loop-rest + 1,
      left_next left few (some (goal.at.loop-rest-preserved-then-blocked c).In-loop-rest),
      next_skip left few (some (goal.at.loop-rest-preserved-then-blocked c).In-loop-rest) (child (goal.at.loop-rest-preserved-then-blocked c).Start)
          (closed (goal.at.loop-rest-preserved-then-blocked c).Start) c.loop-rest.invariant.3
          (blocked_none (goal.at.loop-rest-preserved-then-blocked c).After-blocked c.if-blocked.true),
      none_next left few (some (goal.at.loop-rest-preserved-then-blocked c).In-loop-rest) (large (goal.at.loop-rest-preserved-then-blocked c).Start)
          (closed_large (goal.at.loop-rest-preserved-then-blocked c).Start) c.loop-rest.invariant.4
          (rw (blocked_none (goal.at.loop-rest-preserved-then-blocked c).After-blocked c.if-blocked.true)),
    )

pub offset_bounds-t-i : goal.offset_bounds-t-i
offset_bounds-t-i c =
    omega (arith, inside (goal.at.offset_bounds-t-i c).In-loop-rest, c.requires.w_nonzero.1)

pub bounds-t-i : goal.bounds-t-i
bounds-t-i c =
    rw (c.blocked.ensures.t_unchanged ∙ c.loop-rest.invariant.0) (omega (arith, inside (goal.at.bounds-t-i c).In-loop-rest, c.requires.w_nonzero.3))

pub shape_of-t-then-limit-t : goal.shape_of-t-then-limit-t
shape_of-t-then-limit-t c =
    ap length (c.blocked.ensures.t_unchanged ∙ c.loop-rest.invariant.0)

pub returns-then-limit-t : goal.returns-then-limit-t
returns-then-limit-t c =
    let here : large (goal.at.returns-then-limit-t c).Start (unknown (goal.at.returns-then-limit-t c).In-loop-rest) ≡ true =
    rw (
      free_one (goal.at.returns-then-limit-t c).After-blocked c.if-blocked.false,
      eq-eqb
          (tuple c.args.t.now (unknown (goal.at.returns-then-limit-t c).In-loop-rest)) c.args.limit (reached c),
    ) in
    record {
      value = tried_large _ _ _ _
          (any_holds _ (large (goal.at.returns-then-limit-t c).Start) (unknown (goal.at.returns-then-limit-t c).In-loop-rest)
          (inside (goal.at.returns-then-limit-t c).In-loop-rest) here);
      t_unchanged = c.blocked.ensures.t_unchanged ∙ c.loop-rest.invariant.0;
    }

pub overflow_add-made : goal.overflow_add-made
overflow_add-made c =
    omega (
      arith,
      next_room c.loop-rest.invariant.2 c.requires.w_nonzero.1 (some (goal.at.overflow_add-made c).In-loop-rest)
          (child (goal.at.overflow_add-made c).Start) (closed (goal.at.overflow_add-made c).Start) c.loop-rest.invariant.3,
    )

pub loop-rest-smaller : goal.loop-rest-smaller
loop-rest-smaller c = next_less c.loop-rest.invariant.2 c.requires.w_nonzero.1 (some (goal.at.loop-rest-smaller c).In-loop-rest)

pub loop-rest-preserved : goal.loop-rest-preserved
loop-rest-preserved c =
    let few = c.requires.w_nonzero.1 in
    let left = c.loop-rest.invariant.2 in (
      c.blocked.ensures.t_unchanged ∙ c.loop-rest.invariant.0,
      unknown (goal.at.loop-rest-preserved c).In-loop-rest + 1,
      left_next left few (some (goal.at.loop-rest-preserved c).In-loop-rest),
      next_add left few (some (goal.at.loop-rest-preserved c).In-loop-rest) (child (goal.at.loop-rest-preserved c).Start)
          (closed (goal.at.loop-rest-preserved c).Start) c.loop-rest.invariant.3 (free_one (goal.at.loop-rest-preserved c).After-blocked c.if-blocked.false),
      none_next left few (some (goal.at.loop-rest-preserved c).In-loop-rest) (large (goal.at.loop-rest-preserved c).Start)
          (closed_large (goal.at.loop-rest-preserved c).Start) c.loop-rest.invariant.4
          (rw (ne_eqb (tuple c.args.t.now (unknown (goal.at.loop-rest-preserved c).In-loop-rest)) c.args.limit (below c), and-false)),
    )

pub returns : goal.returns
returns c =
    let left = rw c.loop-rest-test.false at c.loop-rest.invariant.2 in
    record {
      value = tried_made _ _ _ _ (none_end left (large (goal.at.returns c).Start) (closed_large (goal.at.returns c).Start) c.loop-rest.invariant.4)
          (left_end left (child (goal.at.returns c).Start) (closed (goal.at.returns c).Start) c.loop-rest.invariant.3);
      t_unchanged = c.loop-rest.invariant.0;
    }
