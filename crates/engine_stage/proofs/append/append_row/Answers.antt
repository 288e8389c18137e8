use lib.ListN.{set}
use Rattle.engine_stage.proofs.append.append_row.Goals as goal
-- `append_row` writes row n and what stands beside it. Assumes nothing.
use mathlib.Core.Path.{refl, ap}
use Rattle.engine_beside.specs.Small.{value_read}
use native.Mathlib.Omega.{arith}

pub returns : goal.returns
returns c =
    record {
      mark = 18446744073709551615;
      mother = 4294967295;
      row_is = c.append_row.ensures;
      value_is = ap (set c.args.values.now c.args.n) (value_read c.requires.equation c.requires.row c.value_at.ensures);
      word_is = refl;
      degree_is = refl;
      mark_is = refl;
      unmarked = omega arith;
      mother_is = refl;
    }
