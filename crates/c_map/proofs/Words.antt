-- Theorems about what specs/Words.antt defines. Assumes nothing.
use Rattle.std.specs.Prelude.{ℕ, ◌^◌, ◌<◌, List, ◌≡◌, ℤ, Result, Ok, Err}
use Rattle.std.proofs.Common.{inl, inr, ap, arith}
use Rattle.definitions.specs.Answers.{refuse}
use Rattle.laws.specs.CheckLaws.{FirstDue}
use Rattle.map_spec.specs.Reading as reading
use Rattle.map_spec.specs.Reading.{Reading, read_map}
use Rattle.map_text.specs.Answer.{answered, number_of, outcome, values_of}
use Rattle.map_text.proofs.RuleLaws.{text_renders, verdict}
use Rattle.map_text.specs.Rules.{text_rules}
use Rattle.map_text.specs.declared.Map.{Map}
use Rattle.map_text.specs.declared.TextRefusal.{TextRefusal}
use Rattle.c_record.specs.Codes.{refusal_code}
use Rattle.c_map.specs.Words.{read_words, two_words}

-- ---- a number of 64 bits holds each answer: a line is one of at most 10, a place one of at most 128 coefficients

fits_at : {n r : ℕ} {values vs : List ℕ} → n ≡ r → values ≡ vs → refusal_code r vs < 2 ^ 64 → refusal_code n values < 2 ^ 64
fits_at e f h = rw (e, f) h

refusal_fits : (t : List ℕ) (n : ℕ) (values : List ℕ) → FirstDue (text_rules t) n values → refusal_code n values < 2 ^ 64
refusal_fits t n values (inl (e, f, _)) = fits_at e f (omega arith)
refusal_fits t n values (inr (_, inl (e, i, l, f, _, _))) = fits_at e f (omega arith)
refusal_fits t n values (inr (_, inr (_, inl (e, f, _)))) = fits_at e f (omega arith)
refusal_fits t n values (inr (_, inr (_, inr (_, inl (e, f, _))))) = fits_at e f (omega arith)
refusal_fits t n values (inr (_, inr (_, inr (_, inr (_, inl (e, i, l, f, _, _)))))) = fits_at e f (omega arith)
refusal_fits t n values (inr (_, inr (_, inr (_, inr (_, inr (_, inl (e, i, l, f, _, _))))))) = fits_at e f (omega arith)
refusal_fits t n values (inr (_, inr (_, inr (_, inr (_, inr (_, inr (_, y))))))) = absurd y

refused_verdict : (r : Reading) (table after : List ℤ) (why : TextRefusal) → outcome (Err why) after ≡ answered r table
    → verdict r ≡ refuse (number_of why) (values_of why)
unfolding verdict answered
refused_verdict (reading.accepted p q coefs) table after why e = absurd (let z : ◌≡◌ {A = ℕ} 0 1 = cc (ap (λ o. o.answer) e) in omega arith)
refused_verdict (reading.refused n values) table after why e = cc (ap (λ o. o.answer) e)

pub told_fits : (text : List ℕ) (table after : List ℤ) {r : Result Map TextRefusal} → outcome r after ≡ answered (read_map text) table → {why : TextRefusal} → r
    ≡ Err why
    → refusal_code (number_of why) (values_of why) < 2 ^ 64
told_fits text table after e {why} g =
    refusal_fits text _ _ ((text_renders text).refuses (number_of why) (values_of why) (refused_verdict (read_map text) table after why (rw g at e)))

-- ---- by what the reader answered

module _ (text : List ℕ) (table after : List ℤ) (words : List ℕ) {r : Result Map TextRefusal} (e : outcome r after ≡ answered (read_map text) table) where
  pub told_map : {map : Map} → r ≡ Ok map → (108, (after, two_words words map.p map.q)) ≡ read_words text table words
  unfolding read_words
  told_map g = rw (← e, g)

  pub told_refused : {why : TextRefusal} {a : ℕ} → r ≡ Err why → a ≡ refusal_code (number_of why) (values_of why)
      → (a, (after, words)) ≡ read_words text table words
  unfolding read_words
  told_refused g d = rw (← e, g, d)
