-- What both calls answer, as one number (include/dezgula_engine.h). Assumes nothing.
use Rattle.std.specs.Prelude.{ℕ, List}
use Rattle.definitions.specs.Answers.{Check, go, refuse}
use Rattle.calls.specs.Codes.{refusal_code}
use Rattle.reformulation_spec.specs.Reformulation.{project_checks, projected}

-- refusals keep their numbers; a check that passes has its own
abbrev pub check_told : ℕ → Check → ℕ
check_told passed (refuse n values) = refusal_code n values
check_told passed go = passed

-- both maps have the same minimal solutions
abbrev pub shown_told : Check → ℕ
shown_told c = check_told 128 c

-- the rows were written; and the table lent for them, after
abbrev pub project_told : (q k found : ℕ) (rows out : List ℕ) → ℕ × List ℕ
project_told q k found rows out = (check_told 129 (project_checks q k found rows out), projected q k found rows out)
