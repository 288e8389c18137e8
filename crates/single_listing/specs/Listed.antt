-- The listing's types as documents 01 and 02 have them: for each case of an answer its number and values. Assumes nothing.
use Rattle.std.specs.Prelude.{ℕ, List, [], ◌∷◌, Result, Ok, Err}
use Rattle.definitions.specs.Answers as paper
use Rattle.calls.specs.Paper as calls
use Rattle.single_spec.specs.Listing.{Listing, written, refused}
use Rattle.single_listing.specs.declared.ListingRefusal.{ListingRefusal}
use Rattle.single_listing.specs.declared.ListingRefusal.TheVariants.{Call, NotMinimal, OutputLength}

-- the number of a refusal
abbrev pub number_of : ListingRefusal → ℕ
number_of (Call why) = calls.number_of why
number_of (NotMinimal row) = 30
number_of OutputLength = 29

-- the values that it comes with: 30 has the row
abbrev pub values_of : ListingRefusal → List ℕ
values_of (Call why) = calls.values_of why
values_of (NotMinimal row) = row ∷ []
values_of OutputLength = []

-- what the listing answers, and what it leaves in the space that it was lent
abbrev pub listed_of : Result ℕ ListingRefusal → List ℕ → Listing
listed_of (Ok n) out = record { answer = written n; out = out }
listed_of (Err why) out = record { answer = refused (number_of why) (values_of why); out = out }

abbrev pub check_of : Result (Unit {0}) ListingRefusal → paper.Check
check_of (Err why) = paper.refuse (number_of why) (values_of why)
check_of (Ok _) = paper.go
