-- Request 3, "Equations as people write them": the grammar. A text is the list of its bytes; a reading is a tree, and the text spells the tree's
-- parts. Assumes nothing.
use Rattle.std.specs.Prelude.{ℕ, ◌+◌, ◌≤◌, List, [], ◌∷◌, ◌++◌, ◌≡◌, get_or, replicate}
use Rattle.texts.specs.Decimals.{space, decimal}

-- ---- the trees

pub data Sign : Type 0 where
  plus minus : Sign

-- "the first with an optional sign"
pub data Lead : Type 0 where
  bare : Lead
  led : Sign → Lead

mutual
  -- "A sum is one or more terms joined by + or −, the first with an optional sign."
  pub data Sum : Type 0 where
    one : Lead → Term → Sum
    more : Sum → Sign → Term → Sum

  -- "A term is a number, an unknown .., a bracketed sum, or a number, "*" and an unknown or bracketed sum."
  pub data Term : Type 0 where
    number : ℕ → Term
    plain : Factor → Term
    times : ℕ → Factor → Term

  -- "an unknown x1 to x16" by its number, "a bracketed sum"
  pub data Factor : Type 0 where
    unknown : ℕ → Factor
    bracket : Sum → Factor

-- "An equation is two sums around "="."
pub record Equation : Type 0 where
  pub left : Sum
  pub right : Sum

-- ---- the parts

pub data Part : Type 0 where
  numeral : ℕ → Part
  variable : ℕ → Part
  sign : Sign → Part
  star opening closing equals : Part

unfoldable mutual
  -- the parts of a sum, before the parts ps
  pub sum_parts : Sum → List Part → List Part
  sum_parts (one bare u) ps = term_parts u ps
  sum_parts (one (led s) u) ps = sign s ∷ term_parts u ps
  sum_parts (more e s u) ps = sum_parts e (sign s ∷ term_parts u ps)

  pub term_parts : Term → List Part → List Part
  term_parts (number n) ps = numeral n ∷ ps
  term_parts (plain f) ps = factor_parts f ps
  term_parts (times n f) ps = numeral n ∷ star ∷ factor_parts f ps

  pub factor_parts : Factor → List Part → List Part
  factor_parts (unknown k) ps = variable k ∷ ps
  factor_parts (bracket e) ps = opening ∷ sum_parts e (closing ∷ ps)

unfoldable pub parts : Equation → List Part
parts e = sum_parts e.left (equals ∷ sum_parts e.right [])

-- ---- bytes

-- "x"
abbrev pub letter : ℕ
letter = 120

abbrev pub star_byte : ℕ
star_byte = 42

abbrev pub open_byte : ℕ
open_byte = 40

abbrev pub close_byte : ℕ
close_byte = 41

abbrev pub equals_byte : ℕ
equals_byte = 61

abbrev pub sign_byte : Sign → ℕ
sign_byte plus = 43
sign_byte minus = 45

abbrev pub bytes : Part → List ℕ
bytes (numeral n) = decimal n
bytes (variable k) = letter ∷ decimal k
bytes (sign s) = sign_byte s ∷ []
bytes star = star_byte ∷ []
bytes opening = open_byte ∷ []
bytes closing = close_byte ∷ []
bytes equals = equals_byte ∷ []

-- "A number has 1 to 5 digits, without leading zeros."; "an unknown x1 to x16", of which q are there
abbrev pub Allowed : ℕ → Part → Type 0
Allowed q (numeral n) = n ≤ 99999
Allowed q (variable k) = (1 ≤ k) × (k ≤ q)
Allowed q (sign s) = Unit {0}
Allowed q star = Unit {0}
Allowed q opening = Unit {0}
Allowed q closing = Unit {0}
Allowed q equals = Unit {0}

-- p, after spaces, and then the text r
pub record Next (q : ℕ) (p : Part) (t r : List ℕ) : Type 0 where
  pub spaces : ℕ
  pub text : t ≡ replicate spaces space ++ (bytes p ++ r)
  pub allowed : Allowed q p

-- the text is these parts: "Spaces may stand between these parts."
pub data Spells (q : ℕ) : List Part → List ℕ → Type 0 where
  done : Spells q [] []
  next : {p : Part} {ps : List Part} {t r : List ℕ} → Next q p t r → Spells q ps r → Spells q (p ∷ ps) t

-- e is a reading of the text: no space stands before the first part
pub record Reads (q : ℕ) (e : Equation) (t : List ℕ) : Type 0 where
  pub spells : Spells q (parts e) t
  pub begins : get_or t 0 0 ≡ space → ⊥
