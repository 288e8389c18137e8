-- What is printed before an ending that is not "end complete", from `cut_short` of Complete.antt; apart from it, so that an edit of that is refused there.
-- Assumes nothing.
use Rattle.std.specs.Prelude.{ℕ, List, ◌++◌, ◌≡◌}
use Rattle.std.proofs.Math.Path.{refl}
use Rattle.std.proofs.Common.{arith}
use Rattle.definitions.specs.Answers.{refused}
use Rattle.texts.specs.Decimals.{bytes}
use Rattle.report_spec.specs.Printed.{printed}
use Rattle.report_spec.proofs.Endings.{ds, ds_append, counted_ds}
use Rattle.report_spec.specs.Complete.{PrintedRun, end_paused, end_refused}
use Rattle.report_spec.proofs.Complete.{cut_short}

pub printed_paused : (t before : List ℕ) → printed t ≡ before ++ end_paused → PrintedRun t
printed_paused t before e = cut_short t (rw e (omega (arith, ds_append before end_paused, two)))
  where
    two : ds end_paused ≡ 2
    two = unfold ds in refl

pub printed_refused : (t before : List ℕ) (n : ℕ) → printed t ≡ before ++ end_refused n → PrintedRun t
printed_refused t before n e = cut_short t (rw e (omega (arith, ds_append before (end_refused n), counted_ds (bytes "end refused ") n, two)))
  where
    two : ds (bytes "end refused ") ≡ 2
    two = unfold ds in refl
