-- The lines of a text. A text is the list of its bytes, and "each line" is "ended by a newline", as document 01 has it of maps. Assumes nothing.
use Rattle.std.specs.Prelude.{ℕ, zero, suc, max, cond, List, [], ◌∷◌, eqb, take, drop}
use Rattle.texts.specs.Decimals.{newline}

-- how many bytes stand before the first newline, or before the end if there is none
unfoldable pub line_length : List ℕ → ℕ
line_length [] = 0
line_length (b ∷ t) = let others = line_length t in cond (eqb b newline) 0 (suc others)

-- the first line, without its newline
abbrev pub line_of : List ℕ → List ℕ
line_of t = take (line_length t) t

-- what stands after the first line and its newline
abbrev pub after_line : List ℕ → List ℕ
after_line t = drop (suc (line_length t)) t

-- what stands after n lines
unfoldable pub after_lines : ℕ → List ℕ → List ℕ
after_lines zero t = t
after_lines (suc n) t = after_lines n (after_line t)

-- how many lines there are; what follows the last newline is one, if it is not empty
unfoldable pub line_count : List ℕ → ℕ
line_count [] = 0
line_count (b ∷ t) = let others = line_count t in cond (eqb b newline) (suc others) (max 1 others)
