-- What reading a row answers: 2 where the reader is refused, 103 where there is no row, 29 where the space is too short for it, and else 102.
-- Assumes nothing.
use Rattle.std.specs.Prelude.{ℕ, Bool, true, false, List, [], ◌∷◌, ◌++◌, eqb, ltb, length, drop}
use Rattle.definitions.specs.Reader.{Shown, Which, at_zero, at_one, row, none, refused, shown, shown_at}

abbrev pub copy_if : Bool → List ℕ → List ℕ → ℕ × List ℕ
copy_if true part out = (29, out)
copy_if false part out = (102, part ++ drop (length part) out)

-- a part of the list table written to the beginning of a space: what stood past it stays
unfoldable pub copy_told : List ℕ → List ℕ → ℕ × List ℕ
copy_told [] out = (103, out)
copy_told (x ∷ part) out = copy_if (ltb (length out) (length (x ∷ part))) (x ∷ part) out

abbrev pub shown_told : Shown → List ℕ → ℕ × List ℕ
shown_told (row part) out = copy_told part out
shown_told none out = (103, out)
shown_told (refused n values) out = (n, out)

unfoldable pub row_told : ℕ → List ℕ → ℕ → ℕ → List ℕ → ℕ × List ℕ
row_told q list found n out = shown_told (shown q list found n) out

-- ---- a run with right sides (document 02): "A row asked for is handed out as a part of whichever table it was asked from"

abbrev pub which_if : Bool → Which
which_if true = at_zero
which_if false = at_one

-- 0 is the list at 0, and 1 that at 1
abbrev pub which_at : ℕ → Which
which_at at = which_if (eqb at 0)

abbrev pub count_if : Bool → ℕ → ℕ
count_if true found = found
count_if false found = 0

-- no row is of any other list
abbrev pub count_at : ℕ → ℕ → ℕ
count_at at found = count_if (ltb at 2) found

unfoldable pub either_told : ℕ → ℕ → List ℕ → List ℕ → ℕ → ℕ → List ℕ → ℕ × List ℕ
either_told at q list second found n out = shown_told (shown_at (which_at at) q list second (count_at at found) n) out
