-- The run record as words of 64 bits, for callers in other languages, and the calls on such a record. Assumes nothing.
use Rattle.std.specs.Prelude.{ℕ, Bool, true, false, ◌&&◌, List, eqb, ltb, ℤ, length, get_or, set}
use Rattle.definitions.specs.Input.{input_of}
use Rattle.definitions.specs.Machine.{Outcome}
use Rattle.definitions.specs.Calls.{start, resume}
use Rattle.definitions.specs.Tables as tables
use Rattle.definitions.specs.Tables.{State, run_number}
use Rattle.calls.specs.Paper.{record_of, state_of, state_with}
use Rattle.calls.specs.declared.Record.{Record}
use Rattle.calls.specs.declared.RunKind.{RunKind}
use Rattle.calls.specs.declared.RunKind.TheVariants.{Plain, Capped, LowerPlain, LowerAbove, Desks}
use Rattle.c_record.specs.Codes.{code}

-- A run record is seven words: height, solutions found, steps taken; the kind of the run by its number; the solutions in the second list, the steps of the
-- walk before, and the greatest sum.
abbrev pub is_record : List ℕ → Bool
is_record words = eqb (length words) 7

abbrev pub if_run : Bool → RunKind → RunKind → RunKind
if_run true r s = r
if_run false r s = s

-- the kind of run of a number; one that is no kind's must not read as a run desk by desk, which alone may have a height above 16
abbrev pub kind_at : ℕ → RunKind
kind_at n = if_run (eqb n 0) Plain (if_run (eqb n 1) Capped (if_run (eqb n 2) LowerPlain (if_run (eqb n 4) Desks LowerAbove)))

-- "6: run record or tables out of order": a number that is no kind's, and another number of words, read as a record that is, its height being above any number
-- of rows
abbrev pub height_if : Bool → ℕ → ℕ
height_if true h = h
height_if false h = 65

abbrev pub record_at : ℕ → ℕ → ℕ → ℕ → ℕ → ℕ → ℕ → Record
record_at height found steps kind second before deepest =
    record_of (kind_at kind) (height_if (ltb kind 5) height) (record { 0 = found }) (record { 0 = steps }) (record { 0 = second }) (record { 0 = before })
    deepest

abbrev pub record_if : Bool → List ℕ → Record
record_if true words =
    record_at (get_or words 0 0) (get_or words 1 0) (get_or words 2 0) (get_or words 3 0) (get_or words 4 0) (get_or words 5 0) (get_or words 6 0)
record_if false words = record_at 65 0 0 0 0 0 0

unfoldable pub record_in : List ℕ → Record
record_in words = record_if (is_record words) words

-- what stands in the words lent after a call has left a record: another number of words is not written, nor is a record that was read as out of order, since no
-- call goes on with it: so a call that is refused before its walk leaves the words (`kept_words` in WordLaws)
abbrev pub words_of : List ℕ → tables.Record → List ℕ
words_of words r =
    set (set (set (set (set (set (set words 0 r.height) 1 r.found) 2 r.steps) 3 (run_number r.kind)) 4 r.found2) 5 r.steps2) 6 r.deepest

abbrev pub words_if : Bool → List ℕ → tables.Record → List ℕ
words_if true words r = words_of words r
words_if false words r = words

unfoldable pub words_left : List ℕ → tables.Record → List ℕ
words_left words r = words_if (is_record words && ltb r.height 65) words r

-- what a call answers, as a number, and what it leaves in the two tables and in the words
abbrev pub Told : Type 0
Told = ℕ × (List ℕ × (List ℕ × List ℕ))

abbrev pub told : List ℕ → Outcome State → Told
told words o = (code o.answer, (o.state.stack, (o.state.list, words_left words o.state.run)))

-- the same of a run with two lists
abbrev pub ToldBoth : Type 0
ToldBoth = ℕ × (List ℕ × (List ℕ × (List ℕ × List ℕ)))

abbrev pub told_both : List ℕ → Outcome State → ToldBoth
told_both words o = (code o.answer, (o.state.stack, (o.state.list, (o.state.second, words_left words o.state.run))))

-- ---- a call on words: all that is lent, with the words read as a record, is handed to the call, and what it answers and leaves is told

abbrev pub on_words : (State → Outcome State) → (stack list words : List ℕ) → Told
on_words call stack list words = told words (call (state_of stack list (record_in words)))

abbrev pub on_both : (State → Outcome State) → (stack list second words : List ℕ) → ToldBoth
on_both call stack list second words = told_both words (call (state_with stack list second (record_in words)))

abbrev pub start_if : Bool → Outcome State → Outcome State → Outcome State
start_if true begun misfit = begun
start_if false begun misfit = misfit

-- A start "looks at no old content and so never gives 6", but it cannot write its record into another number of words: it then answers as a
-- continuing call does, with the first of 1 to 4 that is due, or with 6 (`misfit_refused` in WordLaws).
unfoldable pub start_on : List ℕ → Outcome State → Outcome State → Outcome State
start_on words begun misfit = start_if (is_record words) begun misfit

abbrev pub start_on_words : (start resume : State → Outcome State) → (stack list words : List ℕ) → Told
start_on_words start resume stack list words = on_words (λ s. start_on words (start s) (resume s)) stack list words

abbrev pub start_on_both : (start resume : State → Outcome State) → (stack list second words : List ℕ) → ToldBoth
start_on_both start resume stack list second words = on_both (λ s. start_on words (start s) (resume s)) stack list second words

-- ---- the calls of a plain run: each is handed a map, the two tables, and the words of the record

unfoldable pub resume_words : (budget p q : ℕ) (coefs : List ℤ) (stack list words : List ℕ) → Told
resume_words budget p q coefs stack list words = on_words (resume budget (input_of p q coefs)) stack list words

unfoldable pub start_words : (p q : ℕ) (coefs : List ℤ) (stack list words : List ℕ) → Told
start_words p q coefs stack list words = start_on_words (start (input_of p q coefs)) (resume 0 (input_of p q coefs)) stack list words
