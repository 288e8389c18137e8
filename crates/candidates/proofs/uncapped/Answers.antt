-- `uncapped` meets its contract. Assumes nothing.
use mathlib.Core.Path.{◌≡◌, refl, ap}
use Prim.Native.Nat.{◌%◌, ◌<◌}
use native.Mathlib.Omega.{arith}
use lib.ListN.{length}
use Rattle.table_rows.specs.Rows.{tuple}
use Rattle.candidates.specs.Open.{alone_room, open_alone, open_none, open_others}
use Rattle.candidates.proofs.uncapped.Goals as goal

pub bounds-t-0 : goal.bounds-t-0
bounds-t-0 c = omega (arith, c.requires.nonzero.0.0, c.requires.nonzero.1)

pub returns-then-first-eq0 : goal.returns-then-first-eq0
returns-then-first-eq0 c =
    record {
      marked = open_none c.args.q c.args.found c.args.second.now (tuple c.args.t.now) c.args.candidates c.requires.nonzero.2
          c.if-t-eq0.true c.if-first-eq0.true;
      t_unchanged = refl;
    }

pub overflow_sub-result : goal.overflow_sub-result
overflow_sub-result c = omega arith

pub overflow_sub-q : goal.overflow_sub-q
overflow_sub-q c = omega (arith, c.requires.nonzero.0.0)

pub unstopped-requires : goal.unstopped-requires
unstopped-requires c =
    let p = c.requires in
    record {
      w_nonzero = ((p.nonzero.0.0, omega (arith, p.nonzero.0.0)), p.nonzero.0.1, p.nonzero.0.2, p.nonzero.1, omega (arith, p.nonzero.2));
      limited = p.limited.0;
    }

pub overflow_add-result : goal.overflow_add-result
overflow_add-result c =
    let a = c.args in
    let some : 0 < a.q = omega (arith, c.requires.nonzero.0.0) in
    let first_is : a.candidates % 2 ≡ 1 = omega (arith, c.if-first-eq0.false) in
    omega (
      arith,
      alone_room a.q a.found a.second.now (tuple a.t.now) a.candidates c.requires.nonzero.2
          c.if-t-eq0.true some first_is c.unstopped.ensures.value,
      c.ranges.candidates.fits,
      first_is,
    )

pub shape_of-t-then-t-eq0 : goal.shape_of-t-then-t-eq0
shape_of-t-then-t-eq0 c = ap length c.unstopped.ensures.t_unchanged

pub returns-then-t-eq0 : goal.returns-then-t-eq0
returns-then-t-eq0 c =
    let a = c.args in
    let some : 0 < a.q = omega (arith, c.requires.nonzero.0.0) in
    let first_is : a.candidates % 2 ≡ 1 = omega (arith, c.if-first-eq0.false) in record {
      marked = open_alone a.q a.found a.second.now (tuple a.t.now) a.candidates c.requires.nonzero.2
          c.if-t-eq0.true some first_is c.unstopped.ensures.value;
      t_unchanged = c.unstopped.ensures.t_unchanged;
    }

pub overflow_sub-q-2 : goal.overflow_sub-q-2
overflow_sub-q-2 c = omega (arith, c.requires.nonzero.0.0)

pub returns : goal.returns
returns c =
    record {
      marked = open_others c.args.q c.args.found c.args.second.now (tuple c.args.t.now) c.args.candidates
          (omega (arith, c.requires.limited.1, c.if-t-eq0.false)) c.unstopped-2.ensures.value;
      t_unchanged = c.unstopped-2.ensures.t_unchanged;
    }
