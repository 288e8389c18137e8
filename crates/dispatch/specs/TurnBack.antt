-- A call on a part of each table, with the tables whole again. Assumes nothing.
use Rattle.std.specs.Prelude.{◌≡◌, List, ◌++◌, ℕ, ◌+◌, ◌-◌, take, drop}
use Rattle.std.proofs.Common.{ap, arith}
use Rattle.definitions.specs.Calls.{resume}
use Rattle.definitions.specs.Input.{Input}
use Rattle.calls.specs.Paper.{state_of, outcome_of}
use Rattle.calls.specs.declared.Record.{Record}
use Rattle.calls.specs.declared.Outcome.{Outcome}
use Rattle.dispatch_spec.specs.Parts.{part_of, with_part}
use Rattle.dispatch.specs.declared.types.Part.{Part}
use Rattle.dispatch.specs.Form.{own_state, placed}

-- the numbers from a part's beginning to its end, and the table with others there, as code has them
abbrev pub between : Part → List ℕ → List ℕ
between a table = take (a.start + a.size - a.start) (drop a.start table)

abbrev pub around : Part → List ℕ → List ℕ → List ℕ
around a table new = take a.start table ++ (new ++ drop (a.start + a.size - a.start) (drop a.start table))

pub placed_back : (a b : Part) (stack list : List ℕ) (quantum : ℕ) (m : Input) (r : Record) (o : Outcome) {ys zs : List ℕ}
    → outcome_of o ys zs ≡ resume quantum m (state_of (between a stack) (between b list) r)
    → outcome_of o (around a stack ys) (around b list zs) ≡ placed a b stack list (resume quantum m (own_state a b stack list r))
unfolding part_of with_part
placed_back a b stack list quantum m r o h =
    let ea : a.start + a.size - a.start ≡ a.size = omega arith in
    let eb : b.start + b.size - b.start ≡ b.size = omega arith in
    rw (ea, eb) (ap (placed a b stack list) (rw (ea, eb) at h))
