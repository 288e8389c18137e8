-- A call of the dispatcher on words of 64 bits, for callers in other languages. Assumes nothing.
use Rattle.std.specs.Prelude.{ℕ, zero, suc, ◌+◌, ◌*◌, Bool, true, false, List, eqb, ltb, ℤ, length, get_or, set}
use Rattle.std.proofs.Math.Option.{none}
use Rattle.definitions.specs.Answers.{Answer, Check, complete, go, paused, refuse, refused, started}
use Rattle.definitions.specs.Tables as tables
use Rattle.definitions.specs.Tables.{run_number}
use Rattle.calls.specs.Paper.{record_of, run_of, value}
use Rattle.calls.specs.declared.Record.{Record}
use Rattle.c_record.specs.Words.{kind_at}
use Rattle.dispatch_spec.specs.Dispatch.{Dispatched, Round, Schedule, dispatch, either}
use Rattle.dispatch.specs.Form.{no_record, no_share, share_for}
use Rattle.dispatch.specs.declared.types.Share.{Share}

-- ---- what is handed over

-- Eight words are a run's share: p, q, and where its coefficients, its stack and its list begin and how many numbers they have. Words past the end are 0.
abbrev pub share_at : List ℕ → ℕ → Share
share_at words base =
    record {
      p = get_or words base 0;
      q = get_or words (base + 1) 0;
      coefs = record { start = get_or words (base + 2) 0; size = get_or words (base + 3) 0 };
      stack = record { start = get_or words (base + 4) 0; size = get_or words (base + 5) 0 };
      list = record { start = get_or words (base + 6) 0; size = get_or words (base + 7) 0 };
    }

unfoldable pub share_in : List ℕ → ℕ → Share
share_in words i = share_at words (8 * i)

unfoldable pub shares_in : List ℕ → ℕ → Share
shares_in words i = either (ltb i 8) (share_in words i) no_share

-- The dispatcher's record is 74 words: the number of the run served last, the steps of the call, and for each of eight runs the seven words of its record,
-- the number of its answer and the place that it comes with.
abbrev pub is_round : List ℕ → Bool
is_round words = eqb (length words) 74

-- where those of run i (from 0) begin
abbrev pub base : ℕ → ℕ
base i = 2 + 9 * i

-- "the unfinished runs (height above 0)": the height is read as handed over, whatever the kind; a number that is no kind's reads as a kind that is no plain
-- run's, which is the run's own refusal 6
abbrev pub run_at : List ℕ → ℕ → Record
run_at words at =
    record_of (kind_at (get_or words (at + 3) 0)) (get_or words at 0) (record { 0 = get_or words (at + 1) 0 }) (record { 0 = get_or words (at + 2) 0 })
    (record { 0 = get_or words (at + 4) 0 }) (record { 0 = get_or words (at + 5) 0 }) (get_or words (at + 6) 0)

unfoldable pub record_in : List ℕ → ℕ → Record
record_in words i = run_at words (base i)

unfoldable pub records_in : List ℕ → ℕ → Record
records_in words i = either (ltb i 8) (record_in words i) no_record

-- "27, .. a kept number above 8": another number of words reads as such a number
unfoldable pub last_in : List ℕ → ℕ
last_in words = either (is_round words) (get_or words 0 0) 9

abbrev pub schedule_in : ℕ → ℕ → List ℕ → List ℤ → Schedule
schedule_in count quantum shares coefs = record { count = count; shares = λ i. share_for (shares_in shares i) coefs; quantum = quantum }

abbrev pub round_in : List ℕ → List ℕ → List ℕ → Round
round_in stack list words = record {
  stack = stack;
  list = list;
  progress = λ i. record { run = run_of (records_in words i); answer = none };
  last = last_in words;
}

-- ---- what is told

-- 110 where the call was not refused
abbrev pub check_number : Check → ℕ
check_number (refuse n values) = n
check_number go = 110

-- a run's answer, in the numbers of the other calls
abbrev pub answer_number : Answer → ℕ
answer_number complete = 0
answer_number started = 100
answer_number paused = 101
answer_number (refused n values) = n

abbrev pub answer_place : Answer → ℕ
answer_place complete = 0
answer_place started = 0
answer_place paused = 0
answer_place (refused n values) = value values

-- a run's record, in seven words from a place on
abbrev pub write_counts : List ℕ → ℕ → tables.Record → List ℕ
write_counts words at r = set (set (set words at r.height) (at + 1) r.found) (at + 2) r.steps

abbrev pub write_others : List ℕ → ℕ → tables.Record → List ℕ
write_others words at r = set (set (set (set words (at + 3) (run_number r.kind)) (at + 4) r.found2) (at + 5) r.steps2) (at + 6) r.deepest

abbrev pub write_if : Bool → List ℕ → ℕ → tables.Record → List ℕ
write_if true words at r = write_others (write_counts words at r) at r
write_if false words at r = words

-- (words whose kind is no kind's number are not written, since no call goes on with them: `kept_run` in WordLaws)
unfoldable pub write_record : List ℕ → ℕ → tables.Record → List ℕ
write_record words at r = write_if (ltb (get_or words (at + 3) 0) 5) words at r

unfoldable pub write_run : List ℕ → ℕ → tables.Record → Answer → List ℕ
write_run words at r a = set (set (write_record words at r) (at + 7) (answer_number a)) (at + 8) (answer_place a)

-- the words with the first n runs written
unfoldable pub write_runs : ℕ → List ℕ → (ℕ → tables.Record) → (ℕ → Answer) → List ℕ
write_runs zero words runs answers = words
write_runs (suc n) words runs answers = write_run (write_runs n words runs answers) (base n) (runs n) (answers n)

-- "a refusal not given within a walk changes nothing lent"
abbrev pub words_if : Check → List ℕ → Dispatched → List ℕ
words_if (refuse n values) words o = words
words_if go words o = write_runs 8 (set (set words 0 o.round.last) 1 o.steps) (λ i. (o.round.progress i).run) o.answers

-- the call's number, and what it leaves in the two tables and in the words
abbrev pub told : List ℕ → Dispatched → ℕ × (List ℕ × (List ℕ × List ℕ))
told words o = (check_number o.check, (o.round.stack, (o.round.list, words_if o.check words o)))

unfoldable pub dispatch_words : ℕ → ℕ → ℕ → List ℕ → List ℤ → List ℕ → List ℕ → List ℕ → ℕ × (List ℕ × (List ℕ × List ℕ))
dispatch_words count quantum turns shares coefs stack list words =
    told words (dispatch turns (schedule_in count quantum shares coefs) (round_in stack list words))
