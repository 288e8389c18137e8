-- A number of 64 bits holds each answer of the calls of single-file maps; and what these leave, as the exported ones tell it. Assumes nothing.
use Rattle.std.specs.Prelude.{ℕ, ◌≤◌, ◌<◌, List, ◌≡◌, Result, Ok, Err}
use Rattle.std.proofs.Common.{arith}
use Rattle.definitions.specs.Answers.{◌then◌}
use Rattle.definitions.specs.Calls.{resume, start}
use Rattle.definitions.specs.Input.{Extra, Input, alone, map_of, rights, walk_system}
use Rattle.definitions.specs.Refusals.{resume_checks, start_checks}
use Rattle.definitions.specs.Tables.{State}
use Rattle.laws.proofs.RefusalLaws.{resume_valid, start_shaped}
use Rattle.calls.proofs.CodeLaws as answers
use Rattle.calls.specs.Codes.{code}
use Rattle.calls.specs.Paper.{value}
use Rattle.single_listing.specs.Listed.{listed_of, number_of, values_of}
use Rattle.single_listing.specs.declared.ListingRefusal.{ListingRefusal}
use Rattle.single_listing.specs.declared.ListingRefusal.TheVariants.{Call, NotMinimal, OutputLength}
use Rattle.single_spec.specs.Calls.{single_resume, single_resume_checks, single_start, single_start_checks}
use Rattle.single_spec.specs.Listing.{Listing}
use Rattle.single_spec.specs.Profile.{check26}
use Rattle.c_record.specs.CodeLaws.{Fits, Small, fits_checked, resume_fits, small_first, small_resume, small_start, small_then, start_fits}
use Rattle.c_single.specs.SingleFile.{listing_told}

-- the walk has at least the unknowns of the map
map_few : (e : Extra) (i : Input) → (walk_system e i).q ≤ 16 → i.q ≤ 16
map_few alone i l = l
map_few (rights b) i l = omega (arith, l)

module _ (i : Input) (s : State) where
  small_26 : i.q ≤ 16 → Small (check26 (map_of i))
  unfolding check26
  small_26 l = small_first 26 i.q _ (omega arith) (omega arith)

  pub single_start_fits : Fits (single_start i s).answer
  unfolding single_start single_start_checks
  single_start_fits =
      fits_checked (start_checks i s then check26 (map_of i)) s (start i)
      (small_then (start_checks i s) (check26 (map_of i)) (small_start i s) (λ e. small_26 (map_few i.extra i (start_shaped i s e).q_few)))
      (start_fits i s)

  pub single_resume_fits : (budget : ℕ) → Fits (single_resume budget i s).answer
  unfolding single_resume single_resume_checks
  single_resume_fits budget =
      fits_checked (resume_checks i s then check26 (map_of i)) s (resume budget i)
      (small_then (resume_checks i s) (check26 (map_of i)) (small_resume i s) (λ e. small_26 (map_few i.extra i (resume_valid i s e).shaped.q_few)))
      (resume_fits i s budget)

-- ---- the listing

number_small : (why : ListingRefusal) → number_of why < 256
number_small (Call why) = answers.number_small why
number_small (NotMinimal row) = omega arith
number_small OutputLength = omega arith

pub refused_small : {r : Result ℕ ListingRefusal} {why : ListingRefusal} {n : ℕ} → r ≡ Err why → n ≡ number_of why → n < 256
refused_small {why = why} h e = rw e (number_small why)

module _ {r : Result ℕ ListingRefusal} {out : List ℕ} {l : Listing} (e : listed_of r out ≡ l) {a : ℕ} where
  pub told_written : {n : ℕ} → r ≡ Ok n → a ≡ code 104 n → (a, out) ≡ listing_told l
  told_written h d = rw (← e, h, d)

  pub told_refused : {why : ListingRefusal} {n v : ℕ} → r ≡ Err why → n ≡ number_of why → v ≡ value (values_of why) → a ≡ code n v
      → (a, out) ≡ listing_told l
  told_refused h x y d = rw (← e, h, d, x, y)
