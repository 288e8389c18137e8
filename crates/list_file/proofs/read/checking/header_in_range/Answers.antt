-- `list_file::read::checking::header_in_range` meets its contract: each test decides. Assumes nothing.
use Rattle.std.proofs.Common.{◌+◌, ◌≤◌, ◌∙◌, arith}
use Rattle.list_spec.specs.Words.{word_at}
use Rattle.list_spec.specs.Reading.{equations_of, unknowns_of}
use Rattle.list_file.specs.RangeLaws.{all_zero}
use Rattle.list_file.specs.ReadLaws.{p_below, p_above, q_below, q_above, rows_above, ending_above, zeros_decide}
use Rattle.list_file.proofs.read.checking.header_in_range.Goals as goal
use Rattle.list_file.proofs.read.checking.header_in_range.Goals.{Else-p-gt8, Else-q-gt16}

-- p is in range
p_within : (c : Else-p-gt8) → let f = c.args.file.now in (1 ≤ equations_of f) × (equations_of f ≤ 8)
p_within c = let e = c.word_at-p.ensures in (omega arith, omega arith)

-- q is in range
q_within : (c : Else-q-gt16) → let f = c.args.file.now in (1 ≤ unknowns_of f) × (unknowns_of f ≤ 16)
q_within c = let e = c.word_at-q.ensures in (omega arith, omega arith)

pub returns-then-p-lt1 : goal.returns-then-p-lt1
returns-then-p-lt1 c = p_below _ (omega (arith, c.word_at-p.ensures))

pub returns-then-p-gt8 : goal.returns-then-p-gt8
returns-then-p-gt8 c = let e = c.word_at-p.ensures in p_above _ (omega arith) (omega arith)

pub returns-then-q-lt1 : goal.returns-then-q-lt1
returns-then-q-lt1 c = let (p1, p2) = p_within (goal.at.returns-then-q-lt1 c).Else-p-gt8 in q_below _ p1 p2 (omega (arith, c.word_at-q.ensures))

pub returns-then-q-gt16 : goal.returns-then-q-gt16
returns-then-q-gt16 c =
    let (p1, p2) = p_within (goal.at.returns-then-q-gt16 c).Else-p-gt8 in
    let e = c.word_at-q.ensures in
    q_above _ p1 p2 (omega arith) (omega arith)

pub returns-then-word_at-gt4096 : goal.returns-then-word_at-gt4096
returns-then-word_at-gt4096 c =
    let (p1, p2) = p_within (goal.at.returns-then-word_at-gt4096 c).Else-p-gt8 in
    let (q1, q2) = q_within (goal.at.returns-then-word_at-gt4096 c).Else-q-gt16 in
    rows_above _ p1 p2 q1 q2 (omega (arith, c.word_at.ensures))

pub returns-then-word_at-gt1 : goal.returns-then-word_at-gt1
returns-then-word_at-gt1 c =
    let (p1, p2) = p_within (goal.at.returns-then-word_at-gt1 c).Else-p-gt8 in
    let (q1, q2) = q_within (goal.at.returns-then-word_at-gt1 c).Else-q-gt16 in
    ending_above _ p1 p2 q1 q2 (omega (arith, c.word_at.ensures)) (omega (arith, c.word_at-2.ensures))

pub returns : goal.returns
returns c =
    let (p1, p2) = p_within (goal.at.returns c).Else-p-gt8 in
    let (q1, q2) = q_within (goal.at.returns c).Else-q-gt16 in
    c.all_within.ensures ∙ all_zero 122 (λ j. word_at c.args.file.now (5 + j))
    ∙ zeros_decide _ p1 p2 q1 q2 (omega (arith, c.word_at.ensures)) (omega (arith, c.word_at-2.ensures))
