-- Request 3: a reader that computes the tree of a text whose brackets are at most d deep. Assumes nothing.
use Rattle.std.specs.Prelude.{ℕ, zero, suc, cond, ◌&&◌, List, [], ◌∷◌, eqb, leb, length}
use Rattle.texts.specs.Decimals.{space}
use Rattle.texts.specs.Reading.{Parse, parsed, malformed, and_then, is_digit, read_natural}
use Rattle.equation_spec.specs.Grammar.{Sign, plus, minus, Lead, bare, led, Sum, one, more, Term, number, plain, times, Factor, unknown, bracket}
use Rattle.equation_spec.specs.Grammar.{Equation, letter, star_byte, open_byte, close_byte, equals_byte, sign_byte}

-- a text without the spaces that it begins with
unfoldable pub skip : List ℕ → List ℕ
skip [] = []
skip (b ∷ t) = let r = skip t in cond (eqb b space) r (b ∷ t)

-- the byte b, and what follows it; or else another reading
unfoldable pub on_byte : {A : Type 0} → ℕ → List ℕ → (List ℕ → A) → A → A
on_byte b [] f a = a
on_byte b (c ∷ t) f a = cond (eqb c b) (f t) a

-- a sign, and what follows it
unfoldable pub on_sign : {A : Type 0} → List ℕ → (Sign → List ℕ → A) → A → A
on_sign t f a = on_byte (sign_byte plus) t (f plus) (on_byte (sign_byte minus) t (f minus) a)

-- ---- parts

-- "A number has 1 to 5 digits, without leading zeros."
abbrev pub most_digits : ℕ
most_digits = 5

abbrev pub read_numeral : List ℕ → Parse ℕ
read_numeral t = read_natural most_digits t

abbrev pub within : ℕ → ℕ → List ℕ → Parse ℕ
within q k t = cond (leb 1 k && leb k q) (parsed k t) malformed

-- the number of an unknown, after "x"
unfoldable pub read_index : ℕ → List ℕ → Parse ℕ
read_index q t = and_then (read_numeral t) (within q)

-- ---- terms and sums, where `inside` reads a bracketed sum after "("

module _ (inside : List ℕ → Parse Sum) (q : ℕ) where
  unfoldable pub read_factor : List ℕ → Parse Factor
  read_factor t =
      on_byte letter t (λ r. and_then (read_index q r) (λ k. parsed (unknown k)))
      (on_byte open_byte t (λ r. and_then (inside r) (λ e. parsed (bracket e))) malformed)

  -- after the number n: "*" and a factor, or nothing more
  unfoldable pub after_numeral : ℕ → List ℕ → Parse Term
  after_numeral n t = on_byte star_byte (skip t) (λ r. and_then (read_factor (skip r)) (λ f. parsed (times n f))) (parsed (number n) t)

  abbrev pub plain_factor : List ℕ → Parse Term
  plain_factor t = and_then (read_factor t) (λ f. parsed (plain f))

  unfoldable pub read_term : List ℕ → Parse Term
  read_term [] = malformed
  read_term (b ∷ t) = cond (is_digit b) (and_then (read_numeral (b ∷ t)) after_numeral) (plain_factor (b ∷ t))

  -- after the sum e: up to k more terms
  unfoldable pub more_terms : ℕ → Sum → List ℕ → Parse Sum
  more_terms zero e t = parsed e t
  more_terms (suc k) e t = on_sign (skip t) (λ s r. and_then (read_term (skip r)) (λ u. more_terms k (more e s u))) (parsed e t)

  unfoldable pub first_term : ℕ → Lead → List ℕ → Parse Sum
  first_term k l t = and_then (read_term t) (λ u. more_terms k (one l u))

  -- a sum has no more terms than bytes
  unfoldable pub read_sum : List ℕ → Parse Sum
  read_sum t = on_sign t (λ s r. first_term (length t) (led s) (skip r)) (first_term (length t) bare t)

-- ")" after a sum
unfoldable pub closed : Sum → List ℕ → Parse Sum
closed e t = on_byte close_byte (skip t) (parsed e) malformed

-- a bracketed sum after "(", of brackets at most d deep with its own
unfoldable pub read_bracket : ℕ → ℕ → List ℕ → Parse Sum
read_bracket q zero t = malformed
read_bracket q (suc d) t = and_then (read_sum (read_bracket q d) q (skip t)) closed

-- nothing after an equation
abbrev pub ended : Equation → List ℕ → Parse Equation
ended e [] = parsed e []
ended e (b ∷ t) = malformed

-- "=" and a sum, after the sum e
unfoldable pub right_of : ℕ → ℕ → Sum → List ℕ → Parse Equation
right_of q d e t = on_byte equals_byte (skip t) (λ r. and_then (read_sum (read_bracket q d) q (skip r)) (λ f. ended (record { left = e; right = f }))) malformed

-- an equation of brackets at most d deep
unfoldable pub read_equation : ℕ → ℕ → List ℕ → Parse Equation
read_equation q d t = and_then (read_sum (read_bracket q d) q t) (right_of q d)
