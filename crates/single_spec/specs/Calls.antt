-- Document 02, job 12: "This profile has a plain start and continuing call with 26", "after 7": the plain calls, behind one check more.
-- Assumes nothing.
use Rattle.std.specs.Prelude.{ℕ}
use Rattle.definitions.specs.Answers.{Check, ◌then◌}
use Rattle.definitions.specs.Calls.{resume, start}
use Rattle.definitions.specs.Input.{Input, map_of}
use Rattle.definitions.specs.Machine.{Outcome, checked}
use Rattle.definitions.specs.Refusals.{resume_checks, start_checks}
use Rattle.definitions.specs.Tables.{State}
use Rattle.single_spec.specs.Profile.{check26}

unfoldable pub single_start_checks : Input → State → Check
single_start_checks i s = start_checks i s then check26 (map_of i)

unfoldable pub single_resume_checks : Input → State → Check
single_resume_checks i s = resume_checks i s then check26 (map_of i)

unfoldable pub single_start : Input → State → Outcome State
single_start i s = checked (single_start_checks i s) s (start i)

unfoldable pub single_resume : ℕ → Input → State → Outcome State
single_resume budget i s = checked (single_resume_checks i s) s (resume budget i)
