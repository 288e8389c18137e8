-- The last two bytes of what the program prints tell its endings apart, and how often the byte "d" is in it tells a run cut short from a refusal. Assumes
-- nothing.
use Rattle.std.specs.Prelude.{ℕ, ◌+◌, ◌/◌, ◌%◌, ◌≤◌, ◌<◌, Bool, true, cond, List, [], ◌∷◌, ◌++◌, ◌≡◌, eqb}
use Rattle.std.proofs.Math.Bool.{false}
use Rattle.std.proofs.Common.{append_assoc, sym, ap, ◌∙◌, arith, ne_eqb}
use Rattle.std.proofs.Math.Path.{refl}
use Rattle.std.proofs.Math.Decide.{dec_lt}
use Rattle.linear.specs.Tests.{number}
use Rattle.texts.specs.Decimals.{bytes, newline, zero_digit, decimal}
use Rattle.texts.proofs.DecimalLaws.{by_digits, decimal_digit, decimal_more}
use Rattle.report_spec.specs.Printed.{counted, refusal_text, value_word}

-- the text ends with the byte b and a newline
pub record EndsWith (b : ℕ) (t : List ℕ) : Type 0 where
  pub others : List ℕ
  pub text : t ≡ others ++ (b ∷ newline ∷ [])

pub ends_after : {b : ℕ} (x : List ℕ) {t : List ℕ} → EndsWith b t → EndsWith b (x ++ t)
ends_after {b} x e = record { others = x ++ e.others; text = ap (λ y. x ++ y) e.text ∙ sym (append_assoc x e.others (b ∷ newline ∷ [])) }

same_end : (x y : List ℕ) (a b : ℕ) → x ++ (a ∷ newline ∷ []) ≡ y ++ (b ∷ newline ∷ []) → a ≡ b
same_end [] [] a b e = cc
same_end [] (c ∷ []) a b e = absurd (let z : ◌≡◌ {A = ℕ} 0 1 = cc in omega arith)
same_end [] (c ∷ d ∷ []) a b e = absurd (let z : ◌≡◌ {A = ℕ} 0 1 = cc in omega arith)
same_end [] (c ∷ d ∷ f ∷ y) a b e = absurd (let z : ◌≡◌ {A = ℕ} 0 1 = cc in omega arith)
same_end (c ∷ []) [] a b e = absurd (let z : ◌≡◌ {A = ℕ} 0 1 = cc in omega arith)
same_end (c ∷ d ∷ []) [] a b e = absurd (let z : ◌≡◌ {A = ℕ} 0 1 = cc in omega arith)
same_end (c ∷ d ∷ f ∷ x) [] a b e = absurd (let z : ◌≡◌ {A = ℕ} 0 1 = cc in omega arith)
same_end (c ∷ x) (d ∷ y) a b e = same_end x y a b (cc)

pub ends_once : {a b : ℕ} {t : List ℕ} → EndsWith a t → EndsWith b t → a ≡ b
ends_once {a} {b} e f = same_end e.others f.others a b (sym e.text ∙ f.text)

-- ---- a line that ends with a number

pub record EndsInDigit (t : List ℕ) : Type 0 where
  pub byte : ℕ
  pub most : byte ≤ zero_digit + 9
  pub ends : EndsWith byte t

number_ends : (n : ℕ) → EndsInDigit (decimal n ++ newline ∷ [])
number_ends n =
    elim (dec_lt n 10) [
      | yes h ↦ record { byte = zero_digit + n; most = omega arith; ends = record { others = []; text = rw (decimal_digit n h) } }
      | no h ↦
          record {
            byte = zero_digit + n % 10;
            most = omega arith;
            ends = record { others = decimal (n / 10); text = rw (decimal_more n (omega arith)) (append_assoc (decimal (n / 10)) _ _) };
          }
    ]

pub digit_after : (x : List ℕ) {t : List ℕ} → EndsInDigit t → EndsInDigit (x ++ t)
digit_after x e = record { byte = e.byte; most = e.most; ends = ends_after x e.ends }

pub counted_ends : (word : List ℕ) (n : ℕ) → EndsInDigit (counted word n)
unfolding counted
counted_ends word n = digit_after word (number_ends n)

-- ---- how often the byte "d" is in a text

unfoldable pub ds : List ℕ → ℕ
ds [] = 0
ds (b ∷ t) = number (eqb b 100) + ds t

pub ds_append : (x y : List ℕ) → ds (x ++ y) ≡ ds x + ds y
unfolding ds
ds_append [] y = omega arith
ds_append (b ∷ x) y = omega (arith, ds_append x y)

digit_no_d : (d : ℕ) → d < 10 → ds ((zero_digit + d) ∷ []) ≡ 0
unfolding ds
digit_no_d d l = rw (ne_eqb (zero_digit + d) 100 (λ e. omega arith))

decimal_no_d : (n : ℕ) → ds (decimal n) ≡ 0
decimal_no_d =
    by_digits (λ n. ds (decimal n) ≡ 0) (λ n l. ap ds (decimal_digit n l) ∙ digit_no_d n l)
    (λ n l z. ap ds (decimal_more n l) ∙ ds_append (decimal (n / 10)) ((zero_digit + n % 10) ∷ []) ∙ omega (arith, z, digit_no_d (n % 10) (omega arith)))

pub counted_ds : (word : List ℕ) (n : ℕ) → ds (counted word n) ≡ ds word
unfolding counted
counted_ds word n = ds_append word _ ∙ omega (arith, ds_append (decimal n) (newline ∷ []), decimal_no_d n, last)
  where
    last : ds (newline ∷ []) ≡ 0
    last = unfold ds in refl

-- "An earlier refusal prints one line only": it has one
pub refusal_ds : (n : ℕ) (values : List ℕ) → ds (refusal_text n values) ≡ 1
unfolding refusal_text
refusal_ds n [] = counted_ds (bytes "refused ") n ∙ (unfold ds in refl)
refusal_ds n (value ∷ others) =
    ds_append (bytes "refused ") _
    ∙ omega (arith, one, ds_append (decimal n) (counted (value_word n) value), decimal_no_d n, counted_ds (value_word n) value, none (eqb n 9))
  where
    one : ds (bytes "refused ") ≡ 1
    one = unfold ds in refl

    none : (b : Bool) → ds (cond b (bytes " line ") (bytes " place ")) ≡ 0
    none true = unfold ds in refl
    none false = unfold ds in refl
