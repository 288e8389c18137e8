-- What the check on a list answers, in document 02's terms. Assumes nothing.
use Rattle.std.specs.Prelude.{ℕ, Option, Some, None}
use Rattle.std.proofs.Math.Option as paper

-- "It shall give the highest place of such a row in the list asked, or say that there is none."
abbrev pub place_of : Option ℕ → paper.Option ℕ
place_of (Some n) = paper.some n
place_of None = paper.none
