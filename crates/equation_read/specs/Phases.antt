-- What the scan's functions answer. Assumes nothing.
use Rattle.std.specs.Prelude.{ℕ, ◌<◌, ◌≡◌, Option, Some, None}
use Rattle.equation_spec.specs.Scan as scan
use Rattle.equation_read.specs.declared.scan.Phase.{Phase}
use Rattle.equation_read.specs.declared.scan.Phase.TheVariants.{Nothing, SumDue, TermDue, FactorDue, IndexDue, InNumber, AfterNumber, InIndex}
use Rattle.equation_read.specs.declared.scan.Phase.TheVariants.{AfterBracket, AfterTerm}
use Rattle.equation_read.specs.declared.scan.Scan.{Scan}

abbrev pub phase_of : Phase → scan.Phase
phase_of Nothing = scan.nothing
phase_of SumDue = scan.sum_due
phase_of TermDue = scan.term_due
phase_of FactorDue = scan.factor_due
phase_of IndexDue = scan.index_due
phase_of (InNumber k) = scan.in_number k
phase_of AfterNumber = scan.after_number
phase_of (InIndex k) = scan.in_index k
phase_of AfterBracket = scan.after_bracket
phase_of AfterTerm = scan.after_term

abbrev pub step_of : Option Scan → scan.Step
step_of (Some s) = scan.to (phase_of s.phase) s.opened s.right
step_of None = scan.fault

-- the place of a fault from 1, or none, as document 01's number, which is 0 for none
abbrev pub FaultAt : Option ℕ → ℕ → Type 0
FaultAt (Some place) n = (n ≡ place) × (0 < place)
FaultAt None n = n ≡ 0
