-- `lists::covered` meets its contract: some row is at or below t exactly where there is a highest place of one. Assumes nothing.
use Rattle.std.proofs.Common.{◌≡◌, refl, sym, ap, ◌∙◌, ℕ, Option, Some, None, is_some}
use Rattle.linear.proofs.PlaceLaws.{given}
use Rattle.laws.proofs.HighestLaws.{covered_highest}
use Rattle.table_rows.specs.Places.{place_of}
use Rattle.table_rows.proofs.lists.covered.Goals as goal

told : (o : Option ℕ) → is_some o ≡ given (place_of o)
told (Some n) = refl
told None = refl

pub returns : goal.returns
returns c = c.is_some.ensures ∙ told _ ∙ ap given c.highest.ensures ∙ sym (covered_highest _ _ _ _)
