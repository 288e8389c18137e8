-- The kinds of walk as code has them, and what a step is told of a state: its tables, its height and the counts of its lists.
-- The rest of the record it does not look at. Assumes nothing.
use Rattle.std.specs.Prelude.{List, ℕ, ◌≤◌, length}
use Rattle.definitions.specs.Input.{bound_of}
use Rattle.definitions.specs.System.{Kind, above, capped, plain}
use Rattle.definitions.specs.Tables.{RunKind, State, plain_run}
use Rattle.candidates.specs.declared.Kind as declared
use Rattle.candidates.specs.declared.Kind.TheVariants.{Plain, Capped, Above}

abbrev pub kind_by : declared.Kind → Kind
kind_by Plain = plain
kind_by Capped = capped
kind_by (Above lower) = above (bound_of lower.now)

-- the lower bound has q numbers
abbrev pub Bounds : declared.Kind → ℕ → Type 0
Bounds Plain q = Unit
Bounds Capped q = Unit
Bounds (Above lower) q = q ≤ length lower.now

abbrev pub asked : List ℕ → List ℕ → List ℕ → ℕ → ℕ → ℕ → State
asked stack list second height found found2 =
    record {
      stack = stack;
      list = list;
      second = second;
      run = record { kind = plain_run; height = height; found = found; steps = 0; found2 = found2; steps2 = 0; deepest = 0 };
    }

-- the state with the rest of its record
abbrev pub beside : State → RunKind → ℕ → ℕ → ℕ → State
beside s kind steps steps2 deepest =
    record {
      stack = s.stack;
      list = s.list;
      second = s.second;
      run = record { kind = kind; height = s.run.height; found = s.run.found; steps = steps; found2 = s.run.found2; steps2 = steps2; deepest = deepest };
    }
