-- The engine's calls as callers in other languages have them (include/dezgula_engine.h): the record as words of 64 bits, the answer as one number (`Codes`
-- of record_words). Assumes nothing.
use Rattle.std.specs.Prelude.{ℕ, suc, ◌+◌, ◌^◌, Bool, true, false, not, ◌&&◌, cond, List, [], eqb, ltb, ℤ, length, get_or, set}
use Rattle.definitions.specs.Answers.{Check, ◌then◌, refuse, refuse_if, started}
use Rattle.definitions.specs.Refusals.{step_limit}
use Rattle.c_record.specs.Codes.{code}
use Rattle.engine_spec.specs.Beside.{most_columns}
use Rattle.engine_spec.specs.Calls as calls
use Rattle.engine_spec.specs.StartSides.{start_sides}
use Rattle.engine_spec.specs.Engine.{Result, Work, result}
use Rattle.engine_beside.specs.Records.{beside_of, lengths_of, record_of, work_of}
use Rattle.engine_beside.specs.declared.Record.{Record}

-- ---- the record

-- A record is eleven words: the marks of the equations done, which are a number of 32 bits; the equation under way and its fresh unknown; the rows of the basis
-- and of the stage; the row of the basis, the degree and the two rows of the pair that are next; the steps taken; the cap.
unfoldable pub is_record : List ℕ → Bool
is_record words = eqb (length words) 11 && ltb (get_or words 0 0) (2 ^ 32)

-- 6, "run record or tables out of order": other words read as a record that is, its steps being past their limit
abbrev pub record_if : Bool → List ℕ → Record
record_if true words =
    record_of (get_or words 0 0) (get_or words 1 0) (get_or words 2 0) (get_or words 3 0) (get_or words 4 0) (get_or words 5 0) (get_or words 6 0)
    (get_or words 7 0)
    (get_or words 8 0) (get_or words 9 0) (get_or words 10 0)
record_if false words = record_of 0 0 0 0 0 0 0 0 0 (step_limit + 1) 0

unfoldable pub record_in : List ℕ → Record
record_in words = record_if (is_record words) words

-- what is lent
abbrev pub work_in : List ℤ → List ℕ → List ℕ → List ℕ → Work
work_in equations basis table words = work_of equations basis table (record_in words)

-- what stands in the words after a call has left a record: other words are not written
abbrev pub words_if : Bool → List ℕ → Record → List ℕ
words_if true words r =
    set
    (set
    (set
    (set (set (set (set (set (set (set (set words 0 r.done) 1 r.equation) 2 r.fresh) 3 r.count.0) 4 r.rows) 5 r.taken) 6 r.degree)
    7 r.upper) 8 r.lower) 9 r.steps.0) 10 r.cap
words_if false words r = words

abbrev pub record_left : Work → Record
record_left w =
    record_of w.done w.equation w.fresh w.count w.stage.rows w.stage.taken w.stage.degree w.stage.upper w.stage.lower
    w.stage.steps w.stage.cap

unfoldable pub words_left : List ℕ → Record → List ℕ
words_left words r = words_if (is_record words) words r

-- what a call answers, as a number, and what it leaves in the working system, the basis, the stage's table and the words
abbrev pub told : List ℕ → Result → ℕ × (List ℤ × (List ℕ × (List ℕ × List ℕ)))
told words o =
    (code o.answer, (o.work.equations, (o.work.basis, (o.work.stage.table, words_left words (record_left o.work)))))

-- ---- room

-- the rows that find room in the basis, and in the stage
abbrev pub most_of : ℕ → (basis sizes : List ℕ) → ℕ
most_of q basis sizes = calls.basis_room q (lengths_of basis [] (beside_of (length sizes) 0 0 0 0 0))

abbrev pub room_of : ℕ → (table : List ℕ) (values : List ℤ) (words degrees marks mothers : List ℕ) → ℕ
room_of q table values words degrees marks mothers =
    calls.stage_room q (lengths_of [] table (beside_of 0 (length values) (length words) (length degrees) (length marks) (length mothers)))

-- ---- the calls: each is handed the room of the basis and of the stage, the three tables and the words

-- A start looks at no old content, but it cannot write its record into other words: it then answers with the first of 1 to 4 that is due, or with 6.
abbrev pub misfit_checks : (p q : ℕ) (coefs : List ℤ) (most : ℕ) → Work → Check
misfit_checks p q coefs most w = calls.check1 p then calls.check2 q then calls.check3 p q coefs then calls.check4 p q most w then refuse 6 []

-- a start from a list checks also that there is room for the n rows
abbrev pub misfit_list_checks : (p q : ℕ) (coefs : List ℤ) (n most : ℕ) → Work → Check
misfit_list_checks p q coefs n most w =
    calls.check1 p then calls.check2 q then calls.check3 p q coefs then calls.check4 p q most w then refuse_if (ltb most n) 4 then refuse 6 []

-- the start for right sides and lower bounds: 5 too is due before 6
abbrev pub misfit_sides_checks : (p q : ℕ) (coefs rights : List ℤ) (lower : List ℕ) (most : ℕ) → Work → Check
misfit_sides_checks p q coefs rights lower most w =
    calls.check1 p
    then calls.check2 q
    then refuse_if (eqb q most_columns) 2
    then calls.check3 p q coefs
    then refuse_if (not (eqb (length rights) p)) 3
    then calls.check4 p (suc q) most w
    then refuse_if (not (eqb (length lower) q)) 5
    then refuse 6 []

-- what a start leaves that is refused after such checks
unfoldable pub misfit : Check → Work → Result
misfit checks w = calls.checked checks w (result started)

-- a start is lent no table of the stage
unfoldable pub start_words : (p q : ℕ) (coefs : List ℤ) (most : ℕ) (equations : List ℤ) (basis words : List ℕ) → Result
start_words p q coefs most equations basis words =
    let w : Work = work_in equations basis [] words in
    cond (is_record words) (calls.start p q coefs most w) (misfit (misfit_checks p q coefs most w) w)

unfoldable pub start_sides_words : (p q : ℕ) (coefs rights : List ℤ) (lower : List ℕ) (most : ℕ) (equations : List ℤ) (basis words : List ℕ) → Result
start_sides_words p q coefs rights lower most equations basis words =
    let w : Work = work_in equations basis [] words in
    cond (is_record words) (start_sides p q coefs rights lower most w) (misfit (misfit_sides_checks p q coefs rights lower most w) w)

unfoldable pub start_from_words : (p q : ℕ) (coefs : List ℤ) (n : ℕ) (rows : List ℕ) (most : ℕ) (equations : List ℤ) (basis words : List ℕ) → Result
start_from_words p q coefs n rows most equations basis words =
    let w : Work = work_in equations basis [] words in
    cond (is_record words) (calls.start_from p q coefs n rows most w) (misfit (misfit_list_checks p q coefs n most w) w)

unfoldable pub combine_words : (p q most room r s : ℕ) (u t : ℤ) (equations : List ℤ) (basis table words : List ℕ) → Result
combine_words p q most room r s u t equations basis table words = calls.combine p q most room r s u t (work_in equations basis table words)

unfoldable pub take_words : (p q most room e f : ℕ) (equations : List ℤ) (basis table words : List ℕ) → Result
take_words p q most room e f equations basis table words = calls.take p q most room e f (work_in equations basis table words)

unfoldable pub resume_words : (p q most room budget : ℕ) (equations : List ℤ) (basis table words : List ℕ) → Result
resume_words p q most room budget equations basis table words = calls.resume p q most room budget (work_in equations basis table words)
