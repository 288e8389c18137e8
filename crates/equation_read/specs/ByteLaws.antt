-- Spaces, signs and numbers, by the byte at a place. Assumes nothing.
use Rattle.std.specs.Prelude.{ℕ, ◌+◌, ◌≤◌, ◌<◌, Bool, true, false, cond, List, [], ◌∷◌, refl, eqb, get_or, drop}
use Rattle.std.proofs.Math.Path.{◌≡◌}
use Rattle.std.proofs.Common.{sym, ◌∙◌, drop_of_length-le}
use native.Mathlib.Omega.{arith}
use Rattle.std.proofs.Math.ListN.{length}
use borrow.Author.Tests.{ne_eqb, eqb-true, le-leb, lt-leb}
use Rattle.std.proofs.Math.Decide.{dec_lt}
use Rattle.texts.specs.Decimals.{space}
use Rattle.texts.specs.Reading.{parsed, malformed, and_then}
use Rattle.texts.proofs.NumberLaws.{byte_at}
use Rattle.equation_spec.specs.Grammar.{plus, minus, bare, led}
use Rattle.equation_spec.specs.Reader.{skip, on_byte, on_sign, read_numeral, read_index}
use Rattle.equation_spec.proofs.PartLaws.{skip_shorter}
use Rattle.equation_read.specs.Places.{starts, lead_of, after_lead, is_led, is_minus}

-- ---- spaces

module _ (t : List ℕ) (i : ℕ) where
  pub skip_end : length t ≤ i → drop i t ≡ skip (drop i t)
  unfolding skip
  skip_end l = rw (drop_of_length-le t l)

  pub skip_stop : i < length t → (get_or t i 0 ≡ space → ⊥) → drop i t ≡ skip (drop i t)
  unfolding skip
  skip_stop l h = rw (byte_at t i l, ne_eqb _ space h)

  pub skip_next : i < length t → get_or t i 0 ≡ space → skip (drop (i + 1) t) ≡ skip (drop i t)
  unfolding skip
  skip_next l h = rw (byte_at t i l, h)

  -- ---- a byte

  pub starts_at : (b : ℕ) → i < length t → eqb (get_or t i 0) b ≡ starts b (drop i t)
  starts_at b l = rw (byte_at t i l)

  -- a byte that stands at place i stands in the text
  pub starts_inside : (b : ℕ) → starts b (drop i t) ≡ true → i < length t
  starts_inside b e =
      elim (dec_lt i (length t)) [
        | yes h ↦ h
        | no h ↦ absurd (let l : length t ≤ i = omega arith in let n = rw (drop_of_length-le t l) at e in let z : ◌≡◌ {A = ℕ} 0 1 = cc in omega arith)
      ]

  pub starts_byte : (b : ℕ) → starts b (drop i t) ≡ true → drop i t ≡ b ∷ drop (i + 1) t
  starts_byte b e =
      let l = starts_inside b e in
      let h : get_or t i 0 ≡ b = eqb-true _ b (starts_at b l ∙ e) in
      rw (byte_at t i l, h)

-- ---- signs

pub sign_plus : (s : List ℕ) → starts 43 s ≡ true → true ≡ is_led (lead_of s)
unfolding lead_of on_sign on_byte
sign_plus [] e = absurd (let z : ◌≡◌ {A = ℕ} 0 1 = cc in omega arith)
sign_plus (b ∷ s) e = rw e

pub sign_minus : (s : List ℕ) → starts 43 s ≡ false → starts 45 s ≡ is_led (lead_of s)
unfolding lead_of on_sign on_byte
sign_minus [] e = refl
sign_minus (b ∷ s) e = rw e (go (eqb b 45))
  where
    go : (d : Bool) → d ≡ is_led (cond d (led minus) bare)
    go true = refl
    go false = refl

pub minus_lead : (s : List ℕ) → starts 45 s ≡ is_minus (lead_of s)
unfolding lead_of on_sign on_byte
minus_lead [] = refl
minus_lead (b ∷ s) = go (eqb b 43) refl
  where
    next : (d : Bool) → d ≡ is_minus (cond d (led minus) bare)
    next true = refl
    next false = refl

    go : (d : Bool) → eqb b 43 ≡ d → eqb b 45 ≡ is_minus (cond d (led plus) (cond (eqb b 45) (led minus) bare))
    go true e = let h = eqb-true b 43 e in rw h
    go false e = next (eqb b 45)

pub lead_none : (s : List ℕ) → is_led (lead_of s) ≡ false → after_lead s ≡ s
unfolding lead_of after_lead on_sign on_byte
lead_none [] e = refl
lead_none (b ∷ s) e = go (eqb b 43) (eqb b 45) e
  where
    go : (c d : Bool) → is_led (cond c (led plus) (cond d (led minus) bare)) ≡ false → cond c (skip s) (cond d (skip s) (b ∷ s)) ≡ b ∷ s
    go true d e = absurd (let z : ◌≡◌ {A = ℕ} 0 1 = cc in omega arith)
    go false true e = absurd (let z : ◌≡◌ {A = ℕ} 0 1 = cc in omega arith)
    go false false e = refl

lead_rest : (b : ℕ) (s : List ℕ) → is_led (lead_of (b ∷ s)) ≡ true → after_lead (b ∷ s) ≡ skip s
unfolding lead_of after_lead on_sign on_byte
lead_rest b s e = go (eqb b 43) (eqb b 45) e
  where
    go : (c d : Bool) → is_led (cond c (led plus) (cond d (led minus) bare)) ≡ true → cond c (skip s) (cond d (skip s) (b ∷ s)) ≡ skip s
    go true d e = refl
    go false true e = refl
    go false false e = absurd (let z : ◌≡◌ {A = ℕ} 0 1 = cc in omega arith)

pub after_shorter : (s : List ℕ) → length (after_lead s) ≤ length s
unfolding after_lead on_sign on_byte
after_shorter [] = omega arith
after_shorter (b ∷ s) = go (eqb b 43) (eqb b 45)
  where
    go : (c d : Bool) → length (cond c (skip s) (cond d (skip s) (b ∷ s))) ≤ length (b ∷ s)
    go true d = omega (arith, skip_shorter s)
    go false true = omega (arith, skip_shorter s)
    go false false = omega arith

module _ (t : List ℕ) (i : ℕ) (e : is_led (lead_of (drop i t)) ≡ true) where
  pub sign_inside : i < length t
  unfolding lead_of on_sign on_byte
  sign_inside =
      elim (dec_lt i (length t)) [
        | yes h ↦ h
        | no h ↦ absurd (let l : length t ≤ i = omega arith in let n = rw (drop_of_length-le t l) at e in let z : ◌≡◌ {A = ℕ} 0 1 = cc in omega arith)
      ]

  pub sign_rest : skip (drop (i + 1) t) ≡ after_lead (drop i t)
  sign_rest = let b = byte_at t i sign_inside in rw b (sym (lead_rest (get_or t i 0) (drop (i + 1) t) (rw b at e)))

-- ---- numbers of unknowns

module _ (q k : ℕ) (s : List ℕ) {r : List ℕ} (e : parsed k r ≡ read_numeral s) where
  pub index_none : k < 1 → malformed ≡ read_index q s
  unfolding read_index and_then
  index_none l = rw (← e, lt-leb 1 k l)

  pub index_above : 1 ≤ k → q < k → malformed ≡ read_index q s
  unfolding read_index and_then
  index_above l m = rw (← e, le-leb 1 k l, lt-leb k q m)

  pub index_within : 1 ≤ k → k ≤ q → parsed k r ≡ read_index q s
  unfolding read_index and_then
  index_within l m = rw (← e, le-leb 1 k l, le-leb k q m)

pub index_malformed : (q : ℕ) (s : List ℕ) → malformed ≡ read_numeral s → malformed ≡ read_index q s
unfolding read_index and_then
index_malformed q s e = rw (← e)
