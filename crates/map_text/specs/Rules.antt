-- Document 01, "The program": when a text is refused, as rules in its words and order, over the text's lines. Assumes nothing.
use Rattle.std.specs.Prelude.{ℕ, zero, suc, ◌+◌, ◌*◌, ◌≤◌, ◌<◌, cond, List, [], ◌∷◌, ◌≡◌, eqb, ℤ, pos, negsuc, nat_abs, length, get_or}
use Rattle.texts.specs.Reading.{most_bytes}
use Rattle.definitions.specs.System.{most_equations, most_unknowns, coef_limit}
use Rattle.laws.specs.CheckLaws.{Rules, ◌▹◌, end, placed, rule}
use Rattle.laws.specs.RefusalLaws.{Outside}
use Rattle.texts.specs.Decimals.{newline}
use Rattle.map_spec.specs.Form.{ShortNumbers, line, written}

-- ---- the lines of a text

-- the first line, up to its newline; all of the text if there is none
unfoldable pub line_of : List ℕ → List ℕ
line_of [] = []
line_of (b ∷ t) = let others = line_of t in b ∷ cond (eqb b newline) [] others

-- what stands after the first line
unfoldable pub after_line : List ℕ → List ℕ
after_line [] = []
after_line (b ∷ t) = let others = after_line t in cond (eqb b newline) t others

-- what stands after n lines
unfoldable pub after_lines : ℕ → List ℕ → List ℕ
after_lines zero t = t
after_lines (suc n) t = after_lines n (after_line t)

-- ---- lines in the form

-- the text begins with a line of k numbers in the form, and these are they: a text that has no line there does not
pub record Begins (k : ℕ) (zs : List ℤ) (t : List ℕ) : Type 0 where
  pub count : length zs ≡ k
  pub short : ShortNumbers zs
  pub text : line_of t ≡ line zs

abbrev pub InForm : ℕ → List ℕ → Type 0
InForm k t = (zs : List ℤ) × Begins k zs t

-- what has to stand from line i on, from 0, that is after the line "p q": "p lines of q numbers, .. nothing after"
abbrev pub RowInForm : ℕ → ℕ → ℕ → List ℕ → Type 0
RowInForm p q i t = (i < p → InForm q t) × (p ≤ i → t ≡ [])

-- the first line is "p q", and this holds of the two
abbrev pub Counts : List ℕ → (ℤ → ℤ → Type 0) → Type 0
Counts t P = (p : ℤ) × (q : ℤ) × Begins 2 (p ∷ q ∷ []) t × P p q

-- a count outside 1 to b; one below zero is
abbrev pub OutsideCount : ℕ → ℤ → Type 0
OutsideCount b (pos n) = Outside 1 b n
OutsideCount b (negsuc n) = Unit {0}

-- line n, from 0, is none of those that have to stand after "p q": missing and extra lines included
abbrev pub BadLine : List ℕ → ℕ → Type 0
BadLine t zero = ⊥
BadLine t (suc i) = Counts t (λ p q. ¬ (RowInForm (nat_abs p) (nat_abs q) i (after_lines (suc i) t)))

-- the text writes a map whose coefficient at place i, from 0, row by row, is outside its range
pub record LargeAt (t : List ℕ) (i : ℕ) : Type 0 where
  pub p : ℕ
  pub q : ℕ
  pub coefs : List ℤ
  pub count : length coefs ≡ p * q
  pub counts : ShortNumbers (pos p ∷ pos q ∷ [])
  pub short : ShortNumbers coefs
  pub text : t ≡ written p q coefs
  pub place : i < length coefs
  pub large : coef_limit < nat_abs (get_or coefs i (pos 0))

-- "Order: 10; the first line's form (9); 1; 2; the other lines in turn, missing or extra ones included (9, a missing line by the number it would
-- have); 7." A text has at most 8 lines after the first, and one that is extra.
abbrev pub text_rules : List ℕ → Rules
text_rules t =
    rule 10 (most_bytes < length t)
    ▹ placed 9 1 (λ i. ¬ (InForm 2 t))
    ▹ rule 1 (Counts t (λ p q. OutsideCount most_equations p))
    ▹ rule 2 (Counts t (λ p q. OutsideCount most_unknowns q))
    ▹ placed 9 (most_equations + 2) (BadLine t)
    ▹ placed 7 (most_equations * most_unknowns) (LargeAt t)
    ▹ end
