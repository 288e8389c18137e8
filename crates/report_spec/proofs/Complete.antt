-- Theorems about what specs/Complete.antt defines. Assumes nothing.
use Rattle.std.specs.Prelude.{ℕ, ◌≤◌, List, [], ◌∷◌, ◌++◌, ◌≡◌, ℤ}
use Rattle.std.proofs.Math.Path.{refl}
use Rattle.std.proofs.Common.{arith}
use Rattle.definitions.specs.Answers.{Answer, started, complete, paused, refused}
use Rattle.definitions.specs.Calls.{start}
use Rattle.definitions.specs.Input.{input_of}
use Rattle.theorems.specs.Demands.{Lists}
use Rattle.theorems.proofs.Proved.{second_demand}
use Rattle.theorems.specs.Run.{continued, started_units}
use Rattle.texts.specs.Decimals.{bytes, decimal}
use Rattle.map_spec.specs.Reading as reading
use Rattle.map_spec.specs.Reading.{Reading, read_map}
use Rattle.map_text.proofs.MapLaws.{accepted_written}
use Rattle.report_spec.specs.Printed.{refusal_text, value_word, ending, run_text, blank, run, reading_text, printed}
use Rattle.report_spec.proofs.RunLaws.{run_starts, run_ends}
use Rattle.report_spec.proofs.Endings.{EndsWith, ends_after, ends_once, EndsInDigit, digit_after, counted_ends, ds, refusal_ds}
use Rattle.report_spec.specs.Complete.{PrintedBasis, PrintedRun, end_complete, front, input, listed}

-- ---- another ending

complete_ends : (before : List ℕ) → EndsWith 101 (before ++ end_complete)
complete_ends before = ends_after before (record { others = bytes "end complet"; text = refl })

no_digit : {P : Type 0} {t : List ℕ} → EndsInDigit t → EndsWith 101 t → P
no_digit d e = absurd (omega (arith, d.most, ends_once d.ends e))

refusal_ends : (n : ℕ) (values : List ℕ) → EndsInDigit (refusal_text n values)
unfolding refusal_text
refusal_ends n [] = counted_ends (bytes "refused ") n
refusal_ends n (value ∷ others) = digit_after (bytes "refused ") (digit_after (decimal n) (counted_ends (value_word n) value))

-- ---- a map

module _ (t : List ℕ) (p q : ℕ) (coefs : List ℤ) (e : read_map t ≡ reading.accepted p q coefs) where
  shown_as : {a : Answer} → (run (input t p q coefs e)).answer ≡ a → printed t ≡ (front t p q coefs e) ++ ((listed t p q coefs e) ++ ending a)
  unfolding printed reading_text run_text
  shown_as f = rw (e, f)

  lists : Lists (input t p q coefs e) (start (input t p q coefs e) blank).state
  lists = second_demand.lists (input t p q coefs e) (start (input t p q coefs e) blank).state (started_units blank (run_starts (accepted_written t e).1))

  printed_run : PrintedRun t
  unfolding run
  printed_run =
      let (x, y) = accepted_written t e in
      record {
        p = p;
        q = q;
        coefs = coefs;
        accepted = e;
        text = x;
        range = y;
        shown = shown_as refl;
        only = (second_demand.lists (input t p q coefs e) _ (continued (started_units blank (run_starts y)) 1000000)).cut_short;
      }

  by_answer : EndsWith 101 (printed t) → (a : Answer) → (run (input t p q coefs e)).answer ≡ a → PrintedBasis t
  unfolding run ending printed_run
  by_answer ends started f = absurd (run_ends (accepted_written t e).1 f)
  by_answer ends complete f = record { ran = printed_run; answer = f; basis = lists.finished 1000000 f }
  by_answer ends paused f =
      let d = ends_after (front t p q coefs e) (ends_after (listed t p q coefs e) (record { others = bytes "end pause"; text = refl })) in
      absurd (omega (arith, ends_once {a = 100} {b = 101} d (rw (shown_as f) at ends)))
  by_answer ends (refused n values) f =
      no_digit (digit_after (front t p q coefs e) (digit_after (listed t p q coefs e) (counted_ends (bytes "end refused ") n))) (rw (shown_as f) at ends)

-- ---- the promise

-- Of every text that is read as a map, what is printed is the run's; of every other text it is the refusal, "one line only".
pub printed_accepted : (t : List ℕ) {p q : ℕ} {coefs : List ℤ} → read_map t ≡ reading.accepted p q coefs → PrintedRun t
printed_accepted t {p} {q} {coefs} e = printed_run t p q coefs e

pub printed_refusal : (t : List ℕ) {n : ℕ} {values : List ℕ} → read_map t ≡ reading.refused n values → printed t ≡ refusal_text n values
unfolding printed reading_text
printed_refusal t e = rw e

-- A printed "end complete" means that the rows printed are exactly the basis of the map read.
pub printed_complete : (t before : List ℕ) → printed t ≡ before ++ end_complete → PrintedBasis t
unfolding printed reading_text
printed_complete t before e = by (read_map t) refl
  where
    ends : EndsWith 101 (printed t)
    ends = rw e (complete_ends before)

    by : (x : Reading) → read_map t ≡ x → PrintedBasis t
    by (reading.accepted p q coefs) f = by_answer t p q coefs f ends (run (input_of p q coefs)).answer refl
    by (reading.refused n values) f = no_digit (refusal_ends n values) (rw f at ends)

-- What is printed before "end paused" and before "end refused 11" (12 or 14) holds only minimal solutions of the map read.
pub cut_short : (t : List ℕ) → 2 ≤ ds (printed t) → PrintedRun t
unfolding printed reading_text
cut_short t two = by (read_map t) refl
  where
    by : (x : Reading) → read_map t ≡ x → PrintedRun t
    by (reading.accepted p q coefs) f = printed_run t p q coefs f
    by (reading.refused n values) f = absurd (omega (arith, refusal_ds n values, rw f at two))
