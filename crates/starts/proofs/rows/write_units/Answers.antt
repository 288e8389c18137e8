-- `rows::write_units` meets its contract. The rows passed have been written into the cleared table. Assumes nothing.
use mathlib.Core.Path.{refl, ◌∙◌}
use Rattle.std.specs.Prelude.{◌≡◌, List, ℕ, zero, suc, ◌+◌, ◌*◌, ◌≤◌, ◌++◌, length, drop, replicate, set}
use Rattle.std.proofs.Common.{ap, sym, zero-add, add-one, length-take-le}
use Rattle.std.proofs.lemmas.List.Edits.{fill_none, fill_more}
use native.Mathlib.Nat.{le_antisymm}
use native.Mathlib.Omega.{arith}
use Rattle.definitions.specs.Tables.{units_to, write_to}
use Rattle.laws.proofs.TableLaws.{row_fits, units_next}
use Rattle.starts.specs.Units.{cleared, units_cleared, zero_row}
use Rattle.starts.proofs.rows.write_units.Goals as goal
use Rattle.starts.proofs.rows.write_units.Goals.{After-fill}

-- the front of a table with zeros in it is written as document 01 writes
zeros_front : (n : ℕ) (table : List ℕ) → n ≤ length table → replicate n 0 ++ drop n table ≡ write_to n table 0 (λ _. 0)
unfolding write_to
zeros_front zero table l = sym (fill_none table 0)
zeros_front (suc n) table l =
    let more : replicate (suc n) 0 ++ drop (suc n) table ≡ set (replicate n 0 ++ drop n table) n 0 = sym (rw add-one at (fill_more n 0 table (omega arith))) in
    more ∙ rw (zeros_front n table (omega arith), zero-add)

cleared_is : (c : After-fill) → c.fill.new.self ++ drop (c.args.q * (c.args.q + 1)) c.args.stack.now ≡ cleared c.args.q c.args.stack.now c.requires.1
cleared_is c =
    let long = length-take-le (c.args.q * (c.args.q + 1)) c.args.stack.now c.requires.1 in
    rw (c.fill.ensures.after (λ y e. e), long) (zeros_front (c.args.q * (c.args.q + 1)) c.args.stack.now c.requires.1)

pub loop-k-init : goal.loop-k-init
unfolding units_to
loop-k-init c = (refl, refl)

pub write_unit-requires : goal.write_unit-requires
write_unit-requires c =
    let low = c.loop-k-test.true in (
      low,
      c.requires.0,
      omega (arith, row_fits (c.args.q + 1) _ _ low, c.requires.1, c.loop-k.invariant.0, ap length (cleared_is (goal.at.write_unit-requires c).After-fill)),
      rw (c.loop-k.invariant.1, cleared_is (goal.at.write_unit-requires c).After-fill) (zero_row c.args.q c.args.stack.now c.requires.1 _ low),
    )

pub loop-k-preserved : goal.loop-k-preserved
loop-k-preserved c =
    (c.write_unit.auto.stack ∙ c.loop-k.invariant.0, rw (units_next, ← c.loop-k.invariant.1) c.write_unit.ensures)

pub returns : goal.returns
returns c =
    rw (c.loop-k.invariant.1, le_antisymm c.loop-k.auto.k-end c.loop-k-test.false, cleared_is (goal.at.returns c).After-fill)
    (units_cleared c.args.q c.args.stack.now c.requires.1)
