-- Request 3: the place of a fault, found byte by byte with a count of the open brackets. Document 01: "A byte place in a text counts from 1 and is
-- the first byte up to which the text begins nothing allowed, or one past the end." Assumes nothing.
use Rattle.std.specs.Prelude.{ℕ, zero, suc, ◌+◌, ◌*◌, Bool, true, false, cond, ◌&&◌, List, [], ◌∷◌, eqb, leb}
use Rattle.texts.specs.Decimals.{space}
use Rattle.texts.specs.Reading.{is_digit, digit, may_follow}
use Rattle.equation_spec.specs.Grammar.{plus, minus, sign_byte, letter, star_byte, open_byte, close_byte, equals_byte}
use Rattle.equation_spec.specs.Reader.{most_digits}

-- What stands before the next byte.
pub data Phase : Type 0 where
  nothing : Phase  -- nothing: a sum begins, without a space
  sum_due : Phase  -- "(" or "=": a sum begins
  term_due : Phase  -- a sign: a term begins
  factor_due : Phase  -- "*": an unknown or a bracket begins
  index_due : Phase  -- "x": the number of an unknown begins
  in_number : ℕ → Phase  -- a number, which may have so many digits more
  after_number : Phase  -- a number and spaces
  in_index : ℕ → Phase  -- an unknown with this number, which may have digits more
  after_bracket : Phase  -- ")"
  after_term : Phase  -- a term and spaces, and no "*" may follow

-- the next phase, with the open brackets and whether "=" has been passed; or the byte is none that may stand there
pub data Step : Type 0 where
  to : Phase → ℕ → Bool → Step
  fault : Step

-- ---- one byte: d brackets are open, r says whether "=" has been passed

abbrev pub closing : ℕ → Bool → Step
closing zero r = fault
closing (suc d) r = to after_bracket d r

abbrev pub equating : ℕ → Bool → Step
equating zero false = to sum_due 0 true
equating zero true = fault
equating (suc d) r = fault

-- after a term
unfoldable pub onward : ℕ → ℕ → Bool → Step
onward b d r =
    cond (eqb b (sign_byte plus)) (to term_due d r)
    (cond (eqb b (sign_byte minus)) (to term_due d r) (cond (eqb b close_byte) (closing d r) (cond (eqb b equals_byte) (equating d r) fault)))

-- an unknown or a bracket begins
unfoldable pub factor_begins : ℕ → ℕ → Bool → Step
factor_begins b d r = cond (eqb b letter) (to index_due d r) (cond (eqb b open_byte) (to sum_due (suc d) r) fault)

unfoldable pub term_begins : ℕ → ℕ → Bool → Step
term_begins b d r = cond (is_digit b) (to (in_number (may_follow most_digits (digit b))) d r) (factor_begins b d r)

unfoldable pub sum_begins : ℕ → ℕ → Bool → Step
sum_begins b d r = cond (eqb b (sign_byte plus)) (to term_due d r) (cond (eqb b (sign_byte minus)) (to term_due d r) (term_begins b d r))

-- a space changes the phase to f, another byte is taken by s
abbrev pub space_or : ℕ → Phase → ℕ → Bool → Step → Step
space_or b f d r s = cond (eqb b space) (to f d r) s

-- after a number: "*", or what follows a term
unfoldable pub after_digits : ℕ → ℕ → Bool → Step
after_digits b d r = space_or b after_number d r (cond (eqb b star_byte) (to factor_due d r) (onward b d r))

unfoldable pub after_factor : ℕ → ℕ → Bool → Step
after_factor b d r = space_or b after_term d r (onward b d r)

-- the number k of an unknown, if it is at most q
abbrev pub indexed : ℕ → ℕ → ℕ → Bool → Step
indexed q k d r = cond (leb 1 k && leb k q) (to (in_index k) d r) fault

-- one more digit of the number k
abbrev pub digit_or : ℕ → (ℕ → Step) → Step → Step
digit_or b f s = cond (is_digit b) (f (digit b)) s

unfoldable pub step : ℕ → ℕ → Phase → ℕ → Bool → Step
step q b nothing d r = sum_begins b d r
step q b sum_due d r = space_or b sum_due d r (sum_begins b d r)
step q b term_due d r = space_or b term_due d r (term_begins b d r)
step q b factor_due d r = space_or b factor_due d r (factor_begins b d r)
step q b index_due d r = digit_or b (λ n. indexed q n d r) fault
step q b (in_number zero) d r = after_digits b d r
step q b (in_number (suc k)) d r = digit_or b (λ n. to (in_number k) d r) (after_digits b d r)
step q b after_number d r = after_digits b d r
step q b (in_index k) d r = digit_or b (λ n. indexed q (k * 10 + n) d r) (after_factor b d r)
step q b after_bracket d r = after_factor b d r
step q b after_term d r = after_factor b d r

-- a text may end here: no bracket is open, "=" has been passed, and a term ends with the last byte
abbrev pub term_ends : Phase → Bool
term_ends nothing = false
term_ends sum_due = false
term_ends term_due = false
term_ends factor_due = false
term_ends index_due = false
term_ends (in_number k) = true
term_ends after_number = false
term_ends (in_index k) = true
term_ends after_bracket = true
term_ends after_term = false

abbrev pub final : Phase → ℕ → Bool → Bool
final f d r = term_ends f && (eqb d 0 && r)

-- on from a step, if it is no fault; n is the place of the byte that was taken
abbrev pub go_on : {A : Type 0} → Step → (Phase → ℕ → Bool → A) → A → A
go_on (to f d r) g a = g f d r
go_on fault g a = a

-- the place of the fault, where the next byte stands at place n; 0 if there is none
unfoldable pub place_from : ℕ → ℕ → Phase → ℕ → Bool → List ℕ → ℕ
place_from q n f d r [] = cond (final f d r) 0 n
place_from q n f d r (b ∷ t) = go_on (step q b f d r) (λ g e s. place_from q (suc n) g e s t) n

unfoldable pub place : ℕ → List ℕ → ℕ
place q t = place_from q 1 nothing 0 false t
