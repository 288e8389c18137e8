-- The parts that a row is written in. Assumes nothing.
use Rattle.std.specs.Prelude.{ℕ, ◌≤◌, ◌<◌, Bool, true, false, List, [], ◌∷◌, ◌++◌, ℤ, pos, negsuc, nat_abs, length, get_or}
use Rattle.equation_spec.specs.Grammar.{plus, minus, sign_byte}
use Rattle.equation_spec.specs.Writing.{multiple, spaced_sign, later_terms, terms}

-- the sign of a term: first, and below zero
abbrev pub lead_text : Bool → Bool → List ℕ
lead_text true true = sign_byte minus ∷ []
lead_text true false = []
lead_text false true = spaced_sign minus
lead_text false false = spaced_sign plus

abbrev pub is_negative : ℤ → Bool
is_negative (pos n) = false
is_negative (negsuc n) = true

abbrev pub term_text : Bool → ℤ → ℕ → List ℕ
term_text first z k = lead_text first (is_negative z) ++ multiple (nat_abs z) k

-- what is left to write from unknown k on
abbrev pub rest_text : Bool → ℕ → List ℤ → List ℕ
rest_text true k zs = terms k zs
rest_text false k zs = later_terms k zs

pub record InRange (row : List ℤ) : Type 0 where
  pub range : (i : ℕ) → i < length row → nat_abs (get_or row i (pos 0)) ≤ 10000
