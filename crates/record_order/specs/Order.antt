-- Marks as the machine has them: the count of the bits set; and what is in order, in parts: what every kind of run is asked, and what is a kind's own. Assumes
-- nothing.
use Rattle.std.specs.Prelude.{ℕ, zero, suc, ◌+◌, ◌*◌, ◌-◌, ◌/◌, ◌^◌, ◌≤◌, ◌<◌, Bool, true, false, not, ◌&&◌, List, [], ◌≡◌, refl, T, eqb, leb, ℤ, length}
use Rattle.std.proofs.Math.Bool.{and-true}
use Rattle.std.proofs.Common.{◌∙◌, ap, arith, leb→le}
use Rattle.std.specs.Int.Count.{ones, ones_step}
use borrow.Author.Tests.{not-true, not-false}
use Rattle.linear.specs.Tests.{all_to, count_to}
use Rattle.linear.proofs.TestLaws.{and_parts}
use Rattle.definitions.specs.Answers.{Check, ◌then◌, refuse, refuse_with}
use Rattle.definitions.specs.Input.{Input, alone, bound_of, input_with, limit_of}
use Rattle.definitions.specs.Refusals.{check5, check6, check6_from, deepest_limit, in_order, in_order_from, inside, in_order_by, row_fits, second_fits}
use Rattle.definitions.specs.Refusals.{step_limit}
use Rattle.definitions.specs.Step.{width}
use Rattle.definitions.specs.System.{System, above, capped, is_at_or_below, most_unknowns, plain}
use Rattle.definitions.specs.Tables.{Record, RunKind, State, at, capacity, capped_run, desk_by_desk, frozen, is_run, lower_above, lower_plain, plain_part}
use Rattle.definitions.specs.Tables.{plain_run}
use Rattle.definitions.specs.Tables.{run_for}
use Rattle.calls.specs.Paper.{system_with}
use Rattle.laws.proofs.MarkLaws.{count_frozen_half}

ones_zero : ones 0 ≡ 0
unfolding ones
ones_zero = refl

pub ones_marks : (d marks : ℕ) → marks < 2 ^ d → ones marks ≡ count_to d (frozen marks)
unfolding count_to
ones_marks zero marks h = let e : marks ≡ 0 = omega arith in rw e ones_zero
ones_marks (suc d) marks h = omega (arith, ones_step marks, ones_marks d (marks / 2) (omega arith), count_frozen_half d marks)

-- ---- 6 in parts

-- where refusals 1 to 4 find nothing, the unknowns are in range and the stack table has a row for each
pub record InShape (q stack : ℕ) : Type 0 where
  pub least : 1 ≤ q
  pub most : q ≤ most_unknowns
  pub rows : q * (q + 1) ≤ stack

-- what is asked of every run: of a kind, on q unknowns, with rows of w numbers in the list
unfoldable pub record_fits : RunKind → ℕ → ℕ → ℕ → List ℕ → List ℕ → Record → Bool
record_fits kind q w limit stack list r =
    is_run r.kind kind
    && (leb r.height q
    && (leb r.found (capacity w list) && (leb r.steps step_limit && (leb r.deepest deepest_limit && all_to r.height (row_fits limit q stack)))))

-- what a capped run on q unknowns is asked besides, with rows of w numbers in the second list
unfoldable pub capped_fits : ℕ → ℕ → List ℕ → List ℕ → Record → Bool
capped_fits q w stack second r = leb r.found2 (capacity w second) && all_to r.height (λ k. leb (at stack (q + 1) k 0) 1)

-- what a walk above a lower bound is asked besides
unfoldable pub above_fits : ℕ → List ℕ → List ℕ → List ℕ → Record → Bool
above_fits q lower stack second r = leb r.found2 (capacity q second) && all_to r.height (λ k. is_at_or_below q (bound_of lower) (at stack (q + 1) k))

-- what the plain walk of a run from a lower bound sees of the record
abbrev plain_record : Record → Record
plain_record r =
    record { kind = plain_run; height = r.height; found = r.found2; steps = r.steps2; found2 = r.found; steps2 = r.steps; deepest = r.deepest }

-- a run from a lower bound in its plain walk, in its walk above the bound, and by the walk that the record names
unfoldable pub plain_walk_fits : ℕ → ℕ → List ℕ → List ℕ → List ℕ → Record → Bool
plain_walk_fits q limit stack list second r =
    record_fits plain_run q q limit stack second (plain_record r) && (leb r.found (capacity q list) && leb r.steps step_limit)

unfoldable pub above_walk_fits : ℕ → ℕ → List ℕ → List ℕ → List ℕ → List ℕ → Record → Bool
above_walk_fits q limit lower stack list second r =
    record_fits lower_above q q limit stack list r && (above_fits q lower stack second r && leb r.steps2 step_limit)

abbrev pub lower_fits : RunKind → ℕ → ℕ → List ℕ → List ℕ → List ℕ → List ℕ → Record → Bool
lower_fits plain_run q limit lower stack list second r = false
lower_fits capped_run q limit lower stack list second r = false
lower_fits lower_plain q limit lower stack list second r = plain_walk_fits q limit stack list second r
lower_fits lower_above q limit lower stack list second r = above_walk_fits q limit lower stack list second r
lower_fits desk_by_desk q limit lower stack list second r = false

all_and : (n : ℕ) (f g : ℕ → Bool) → all_to n (λ k. f k && g k) ≡ all_to n f && all_to n g
unfolding all_to
all_and zero f g = refl
all_and (suc n) f g = rw (all_and n f g) (swap (all_to n f) (all_to n g) (f n) (g n))
  where
    swap : (a b c d : Bool) → (a && b) && (c && d) ≡ (a && c) && (b && d)
    swap true true c d = refl
    swap true false true d = refl
    swap true false false d = refl
    swap false b c d = refl

all_true : (n : ℕ) → all_to n (λ k. true) ≡ true
unfolding all_to
all_true zero = refl
all_true (suc n) = rw (all_true n)

own_last : (a b c d e f r i : Bool) → a && (b && (c && (d && (e && (f && (r && i)))))) ≡ (a && (b && (c && (d && (e && r))))) && (f && i)
own_last false b c d e f r i = refl
own_last true false c d e f r i = refl
own_last true true false d e f r i = refl
own_last true true true false e f r i = refl
own_last true true true true false f r i = refl
own_last true true true true true true true i = refl
own_last true true true true true true false i = refl
own_last true true true true true false true i = refl
own_last true true true true true false false i = refl

module _ (m : System) (s : State) where
  abbrev own : Bool
  own = second_fits m.kind m.q s && all_to s.run.height (λ k. inside m.kind m.q (at s.stack (m.q + 1) k))

  order_parts : in_order m s ≡ record_fits (run_for m.kind) m.q (width m) m.limit s.stack s.list s.run && own
  unfolding in_order record_fits
  order_parts =
      rw (all_and s.run.height (row_fits m.limit m.q s.stack) (λ k. inside m.kind m.q (at s.stack (m.q + 1) k)))
      (own_last (is_run s.run.kind (run_for m.kind)) (leb s.run.height m.q) (leb s.run.found (capacity (width m) s.list))
      (leb s.run.steps step_limit) (leb s.run.deepest deepest_limit)
      (second_fits m.kind m.q s) (all_to s.run.height (row_fits m.limit m.q s.stack)) _)

-- a plain run is asked nothing besides
pub order_plain : (p q : ℕ) (coefs : List ℤ) (limit : ℕ) (s : State)
    → in_order (system_with plain p q coefs limit) s ≡ record_fits plain_run q q limit s.stack s.list s.run
order_plain p q coefs limit s = rw (order_parts (system_with plain p q coefs limit) s, all_true s.run.height) (and-true _)

without_first : (q : ℕ) → suc q - 1 ≡ q
without_first q = omega arith

pub order_capped : (p q wide : ℕ) (coefs : List ℤ) (limit : ℕ) (s : State) → wide ≡ suc q
    → in_order (system_with capped p (suc q) coefs limit) s
    ≡ record_fits capped_run wide q limit s.stack s.list s.run && capped_fits wide q s.stack s.second s.run
unfolding capped_fits
order_capped p q wide coefs limit s e =
    rw e
    (order_parts (system_with capped p (suc q) coefs limit) s
    ∙ ap (λ w. record_fits capped_run (suc q) w limit s.stack s.list s.run
    && (leb s.run.found2 (capacity w s.second) && all_to s.run.height (λ k. leb (at s.stack (suc q + 1) k 0) 1))) (without_first q))

-- a run from a lower bound
order_above : (lower : List ℕ) (p q : ℕ) (coefs : List ℤ) (limit : ℕ) (s : State)
    → in_order (system_with (above (bound_of lower)) p q coefs limit) s
    ≡ record_fits lower_above q q limit s.stack s.list s.run && above_fits q lower s.stack s.second s.run
unfolding above_fits
order_above lower p q coefs limit s = order_parts (system_with (above (bound_of lower)) p q coefs limit) s

pub order_lower : (lower : List ℕ) (p q limit : ℕ) (coefs : List ℤ) (s : State)
    → in_order_from lower (input_with alone limit p q coefs) s ≡ lower_fits s.run.kind q (limit_of limit) lower s.stack s.list s.second s.run
unfolding in_order_from plain_walk_fits above_walk_fits
order_lower lower p q limit coefs s = go s.run.kind
  where
    last : (a b c : Bool) → (a && b) && c ≡ a && (b && c)
    last true b c = refl
    last false b c = refl

    go : (r : RunKind) → in_order_by r lower (input_with alone limit p q coefs) s ≡ lower_fits r q (limit_of limit) lower s.stack s.list s.second s.run
    go plain_run = refl
    go capped_run = refl
    go lower_plain = rw (order_plain p q coefs (limit_of limit) (plain_part s))
    go lower_above = rw (order_above lower p q coefs (limit_of limit) s) (last (record_fits lower_above q q (limit_of limit) s.stack s.list s.run) _ _)
    go desk_by_desk = refl

-- 6 of a capped run and the checks after it, by the two tests a and b of the code
module _ (p q wide : ℕ) (coefs : List ℤ) (limit : ℕ) (s : State) (after : Check) {a : Bool} (e : wide ≡ suc q)
    (f : a ≡ record_fits capped_run wide q limit s.stack s.list s.run) where
  pub capped_first : not a ≡ true → refuse 6 [] ≡ check6 (system_with capped p (suc q) coefs limit) s then after
  unfolding refuse_with ◌then◌
  capped_first h = rw (order_capped p q wide coefs limit s e, ← f, not-true a h)

  pub capped_second : {b : Bool} → not a ≡ false → b ≡ capped_fits wide q s.stack s.second s.run → not b ≡ true
      → refuse 6 [] ≡ check6 (system_with capped p (suc q) coefs limit) s then after
  unfolding refuse_with ◌then◌
  capped_second {b} h g k = rw (order_capped p q wide coefs limit s e, ← f, not-false a h, ← g, not-true b k)

  pub capped_after : {b : Bool} → not a ≡ false → b ≡ capped_fits wide q s.stack s.second s.run → not b ≡ false
      → after ≡ check6 (system_with capped p (suc q) coefs limit) s then after
  unfolding refuse_with ◌then◌
  capped_after {b} h g k = rw (order_capped p q wide coefs limit s e, ← f, not-false a h, ← g, not-false b k)

-- 5 and 6 of a run from a lower bound and the checks after them, by the length and the test of the code
module _ (lower : List ℕ) (p q limit : ℕ) (coefs : List ℤ) (s : State) (after : Check) where
  abbrev i : Input
  i = input_with alone limit p q coefs

  pub lower_first : eqb (length lower) q ≡ false → refuse 5 [] ≡ check5 i lower then check6_from lower i s then after
  unfolding refuse_with ◌then◌
  lower_first e = rw e

  module _ {a : Bool} (e : eqb (length lower) q ≡ true)
      (f : a ≡ lower_fits s.run.kind q (limit_of limit) lower s.stack s.list s.second s.run) where
    pub lower_second : not a ≡ true → refuse 6 [] ≡ check5 i lower then check6_from lower i s then after
    unfolding refuse_with ◌then◌
    lower_second h = rw (e, order_lower lower p q limit coefs s, ← f, not-true a h)

    pub lower_after : not a ≡ false → check5 i lower then after ≡ check5 i lower then check6_from lower i s then after
    unfolding refuse_with ◌then◌
    lower_after h = rw (e, order_lower lower p q limit coefs s, ← f, not-false a h)

-- the rows of a record that fits lie in the stack table
record_high : (kind : RunKind) (q w limit : ℕ) (stack list : List ℕ) (r : Record) → T (record_fits kind q w limit stack list r) → r.height ≤ q
unfolding record_fits
record_high kind q w limit stack list r h = leb→le r.height q (and_parts (leb r.height q) _ (and_parts (is_run r.kind kind) _ h).1).0

pub record_height : {b : Bool} (kind : RunKind) (q w limit : ℕ) (stack list : List ℕ) (r : Record) → b ≡ record_fits kind q w limit stack list r → b ≡ true
    → r.height ≤ q
record_height kind q w limit stack list r e t = record_high kind q w limit stack list r (rw (← e, t) tt)
