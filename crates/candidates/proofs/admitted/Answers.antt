-- `admitted` meets its contract, by the kind of the walk: of a plain one all candidates are put to the first list, and of the others what the cap and the
-- second list leave of them. Assumes nothing.
use mathlib.Core.Path.{◌∙◌, ap}
use mathlib.Core.List.{[]}
use native.Mathlib.Omega.{arith}
use lib.ListN.{length}
use Rattle.definitions.specs.Input.{bound_of}
use Rattle.definitions.specs.System.{above, capped, plain}
use Rattle.table_rows.specs.Rows.{tuple}
use Rattle.table_rows.proofs.RowsTheorems.{rows_fit}
use Rattle.candidates.specs.GrowLaws.{open_asked}
use Rattle.candidates.specs.Kinds.{asked}
use Rattle.candidates.specs.Open.{open_plain}
use Rattle.candidates.specs.Tried.{tried_open}
use Rattle.candidates.proofs.admitted.Goals as goal

-- ---- a plain walk

pub passed-requires : goal.passed-requires
passed-requires c =
    let p = rw c.in-Plain.is at c.requires in
    record {
      w_nonzero = ((p.q_nonzero.0.0, omega arith), p.q_nonzero.0.1, rows_fit _ _ c.args.found p.q_nonzero.0.2, p.second_fits.1, p.second_fits.2);
      limited = (p.limited.0, p.limited.1);
    }

pub shape_of-t-in-Plain : goal.shape_of-t-in-Plain
shape_of-t-in-Plain c = ap length c.passed.ensures.t_unchanged

pub returns-in-Plain : goal.returns-in-Plain
returns-in-Plain c =
    let a = c.args in
    let s = asked [] a.list.now a.second.now 0 a.found a.other in
    let t = tuple a.t.now in
    record {
      value = rw c.in-Plain.is (c.passed.ensures.value ∙ tried_open a.limit plain a.q s t a.candidates a.candidates
          (open_plain a.q s t a.candidates c.requires.second_fits.2).at);
      t_unchanged = c.passed.ensures.t_unchanged;
    }

-- ---- a capped walk

pub uncapped-left-requires : goal.uncapped-left-requires
uncapped-left-requires c =
    let p = rw c.in-Capped.is at c.requires in
    record {
      nonzero = ((p.q_nonzero.0.0, p.q_nonzero.0.1, rows_fit _ _ c.args.other p.second_fits.0), p.second_fits.1, p.second_fits.2);
      limited = (p.limited.0, p.limited.2);
    }

pub passed-requires-in-Capped : goal.passed-requires-in-Capped
passed-requires-in-Capped c =
    let p = rw c.in-Capped.is at c.requires in
    record {
      w_nonzero = rw c.uncapped-left.ensures.t_unchanged
          ((
            (p.q_nonzero.0.0, omega (arith, p.q_nonzero.0.0)),
            p.q_nonzero.0.1,
            rows_fit _ _ c.args.found p.q_nonzero.0.2,
            p.second_fits.1,
            c.uncapped-left.ensures.marked.below,
          ));
      limited = rw c.uncapped-left.ensures.t_unchanged ((p.limited.0, p.limited.1));
    }

pub shape_of-t-in-Capped : goal.shape_of-t-in-Capped
shape_of-t-in-Capped c = ap length (c.passed-in-Capped.ensures.t_unchanged ∙ c.uncapped-left.ensures.t_unchanged)

pub returns-in-Capped : goal.returns-in-Capped
returns-in-Capped c =
    let a = c.args in
    let s = asked [] a.list.now a.second.now 0 a.found a.other in
    let t = tuple a.t.now in
    let r = rw c.uncapped-left.ensures.t_unchanged at c.passed-in-Capped.ensures.value in record {
      value = rw c.in-Capped.is (r ∙ tried_open a.limit capped a.q s t a.candidates c.uncapped-left.result
          (λ j l. c.uncapped-left.ensures.marked.at j l ∙ open_asked capped a.q a.list.now a.second.now a.found a.other t a.candidates j));
      t_unchanged = c.passed-in-Capped.ensures.t_unchanged ∙ c.uncapped-left.ensures.t_unchanged;
    }

-- ---- a walk above a lower bound

pub apart-left-requires : goal.apart-left-requires
apart-left-requires c =
    let p = rw c.in-Above.is at c.requires in
    record {
      q_nonzero = (
        (p.q_nonzero.0.0, p.q_nonzero.0.1, rows_fit _ _ c.args.other p.second_fits.0),
        p.q_nonzero.1,
        p.second_fits.1,
        p.second_fits.2,
      );
      limited = (p.limited.0, p.limited.2);
    }

pub passed-requires-in-Above : goal.passed-requires-in-Above
passed-requires-in-Above c =
    let p = rw c.in-Above.is at c.requires in
    record {
      w_nonzero = (
        (p.q_nonzero.0.0, omega arith),
        p.q_nonzero.0.1,
        rows_fit _ _ c.args.found p.q_nonzero.0.2,
        p.second_fits.1,
        c.apart-left.ensures.below,
      );
      limited = (p.limited.0, p.limited.1);
    }

pub shape_of-t-in-Above : goal.shape_of-t-in-Above
shape_of-t-in-Above c = ap length c.passed-in-Above.ensures.t_unchanged

pub returns-in-Above : goal.returns-in-Above
returns-in-Above c =
    let a = c.args in
    let s = asked [] a.list.now a.second.now 0 a.found a.other in
    let t = tuple a.t.now in
    let k = above (bound_of c.in-Above.lower.now) in record {
      value = rw c.in-Above.is (c.passed-in-Above.ensures.value ∙ tried_open a.limit k a.q s t a.candidates c.apart-left.result
          (λ j l. c.apart-left.ensures.at j l ∙ open_asked k a.q a.list.now a.second.now a.found a.other t a.candidates j));
      t_unchanged = c.passed-in-Above.ensures.t_unchanged;
    }
