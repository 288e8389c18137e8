-- Document 02, Job 7, "The check says which row". Places count from 1. Assumes nothing.
use Rattle.std.specs.Prelude.{ℕ, not, List, ◌∷◌, [], ◌≡◌, refl, leb, eqb, length, get_or}
use Rattle.std.proofs.Math.Option.{Option, some, none}
use Rattle.linear.specs.Places.{last_to, place_if}
use Rattle.linear.specs.Tests.{all_to}
use Rattle.definitions.specs.Answers.{Check, ◌then◌, go, refuse, refuse_if, refuse_with}
use Rattle.definitions.specs.System.{is_at_or_below, most_unknowns}
use Rattle.definitions.specs.Tables.{at, capacity}
use Rattle.definitions.specs.Refusals.{between}

-- "It shall give the highest place of such a row in the list asked, or say that there is none.": of the first n rows of w numbers
unfoldable pub highest : ℕ → ℕ → (ℕ → ℕ → ℕ) → (ℕ → ℕ) → Option ℕ
highest w n row x = last_to n (λ i. is_at_or_below w (row i) x)

-- ---- the call of its own: "Users ask which loop stopped a path."

-- what it answers: a place, that there is none, or document 01's number and values of a refusal
pub data Located : Type 0 where
  place : ℕ → Located
  nowhere : Located
  refused : ℕ → List ℕ → Located

-- q outside 1 to the most unknowns, a tuple not of length q, a count of rows above the capacity: in rising number, as everywhere
unfoldable pub locate_checks : (most q : ℕ) → List ℕ → ℕ → List ℕ → Check
locate_checks most q list found t =
    refuse_if (not (between 1 most q)) 2
    then refuse_if (not (eqb (length t) q)) 5
    then refuse_if (not (leb found (capacity q list))) 6

abbrev pub placed : Option ℕ → Located
placed (some n) = place n
placed none = nowhere

unfoldable pub unless_refused : Check → Located → Located
unless_refused (refuse n values) r = refused n values
unless_refused go r = r

unfoldable pub locate_within : (most q : ℕ) → List ℕ → ℕ → List ℕ → Located
locate_within most q list found t = unless_refused (locate_checks most q list found t) (placed (highest q found (at list q) (λ j. get_or t j 0)))

-- document 02's call: q from 1 to 16
abbrev pub locate : ℕ → List ℕ → ℕ → List ℕ → Located
locate q list found t = locate_within most_unknowns q list found t

-- ---- it computes: a list with 3 2 twice and 1 5 between them

rows : List ℕ
rows = 3 ∷ 2 ∷ 1 ∷ 5 ∷ 3 ∷ 2 ∷ 0 ∷ []

answers : List Located
answers =
    locate 2 rows 3 (4 ∷ 2 ∷ [])
    ∷ locate 2 rows 2 (4 ∷ 2 ∷ [])
    ∷ locate 2 rows 3 (1 ∷ 6 ∷ [])
    ∷ locate 2 rows 3 (2 ∷ 2 ∷ [])
    ∷ locate 2 rows 0 (4 ∷ 2 ∷ [])
    ∷ locate 17 rows 4 []
    ∷ locate 2 rows 4 (4 ∷ [])
    ∷ locate 2 rows 4 (4 ∷ 2 ∷ [])
    ∷ locate_within 17 17 rows 4 []
    ∷ locate_within 1 2 rows 4 []
    ∷ []

places_hold : answers ≡ place 3 ∷ place 1 ∷ place 2 ∷ nowhere ∷ nowhere ∷ refused 2 [] ∷ refused 5 [] ∷ refused 6 [] ∷ refused 5 [] ∷ refused 2 [] ∷ []
unfolding rows answers all_to last_to place_if is_at_or_below highest refuse_with ◌then◌ locate_checks unless_refused locate_within
places_hold = refl
