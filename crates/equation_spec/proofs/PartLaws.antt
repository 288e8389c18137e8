-- The part with which a text begins, from what the text spells. Assumes nothing.
use Rattle.std.specs.Prelude.{ℕ, zero, suc, ◌+◌, ◌≤◌, ◌<◌, Bool, true, false, cond, List, [], ◌∷◌, ◌++◌, ◌≡◌, refl, eqb, length, replicate}
use Rattle.std.proofs.Common.{ap, ◌∙◌, arith, length-append, ne_eqb, le-leb}
use Rattle.texts.specs.Decimals.{zero_digit, decimal, space}
use Rattle.texts.specs.Reading.{starts_digit, parsed, and_then}
use Rattle.texts.proofs.DecimalLaws.{begins, by_first}
use Rattle.texts.proofs.WriteLaws.{natural_back}
use Rattle.equation_spec.specs.Grammar.{plus, minus, Part, numeral, variable, sign, star, opening, closing, equals, bytes, Allowed, Spells, done, next}
use Rattle.equation_spec.specs.Reader.{skip, read_numeral, read_index}

-- ---- spaces

skip_spaces : (n : ℕ) (t : List ℕ) → skip (replicate n space ++ t) ≡ skip t
unfolding skip
skip_spaces zero t = refl
skip_spaces (suc n) t = skip_spaces n t

pub skip_byte : (b : ℕ) (t : List ℕ) → (b ≡ space → ⊥) → skip (b ∷ t) ≡ b ∷ t
unfolding skip
skip_byte b t h = rw (ne_eqb b space h)

pub skip_skip : (t : List ℕ) → skip (skip t) ≡ skip t
unfolding skip
skip_skip [] = refl
skip_skip (b ∷ t) = go (skip_skip t) (eqb b space) refl
  where
    go : skip (skip t) ≡ skip t → (d : Bool) → eqb b space ≡ d → skip (cond d (skip t) (b ∷ t)) ≡ cond d (skip t) (b ∷ t)
    go ih true e = ih
    go ih false e = rw e

pub skip_shorter : (t : List ℕ) → length (skip t) ≤ length t
unfolding skip
skip_shorter [] = omega arith
skip_shorter (b ∷ t) = go (skip_shorter t) (eqb b space)
  where
    go : length (skip t) ≤ length t → (d : Bool) → length (cond d (skip t) (b ∷ t)) ≤ length (b ∷ t)
    go ih true = omega arith
    go ih false = omega arith

-- ---- the first part

-- the part p in front, after spaces, and the rest
pub record First (q : ℕ) (p : Part) (ps : List Part) (t : List ℕ) : Type 0 where
  pub rest : List ℕ
  pub text : skip t ≡ bytes p ++ rest
  pub allowed : Allowed q p
  pub spells : Spells q ps rest
  pub shorter : length rest < length t

skip_part : (p : Part) (r : List ℕ) → skip (bytes p ++ r) ≡ bytes p ++ r
unfolding skip
skip_part (numeral n) r = let b = begins n in rw (by_first n b r) (skip_byte (zero_digit + b.d) (b.others ++ r) (λ h. omega arith))
skip_part (variable k) r = refl
skip_part (sign plus) r = refl
skip_part (sign minus) r = refl
skip_part star r = refl
skip_part opening r = refl
skip_part closing r = refl
skip_part equals r = refl

part_some : (p : Part) → 1 ≤ length (bytes p)
part_some (numeral n) = let b = begins n in omega (arith, ap length b.digits)
part_some (variable k) = omega arith
part_some (sign s) = omega arith
part_some star = omega arith
part_some opening = omega arith
part_some closing = omega arith
part_some equals = omega arith

pub first : {q : ℕ} {p : Part} {ps : List Part} {t : List ℕ} → Spells q (p ∷ ps) t → First q p ps t
first {p} {t} (next {r = r} n s) =
    let e : skip t ≡ bytes p ++ r = ap skip n.text ∙ skip_spaces n.spaces (bytes p ++ r) ∙ skip_part p r in
    record {
      rest = r;
      text = e;
      allowed = n.allowed;
      spells = s;
      shorter = omega (arith, ap length e, skip_shorter t, length-append (bytes p) r, part_some p);
    }

pub skipped : {q : ℕ} {ps : List Part} {t : List ℕ} → Spells q ps t → Spells q ps (skip t)
unfolding skip
skipped done = done
skipped (next {p = p} {ps = ps} {t = t} {r = r} n s) =
    let f = first (next n s) in next (record { spaces = 0; text = f.text; allowed = n.allowed }) f.spells

-- ---- numbers

abbrev pub is_numeral : List Part → Bool
is_numeral [] = false
is_numeral (numeral n ∷ ps) = true
is_numeral (variable k ∷ ps) = false
is_numeral (sign s ∷ ps) = false
is_numeral (star ∷ ps) = false
is_numeral (opening ∷ ps) = false
is_numeral (closing ∷ ps) = false
is_numeral (equals ∷ ps) = false

spaced_digit : (n : ℕ) (p : Part) (ps : List Part) (r : List ℕ) → is_numeral (p ∷ ps) ≡ false → starts_digit (replicate n space ++ (bytes p ++ r)) ≡ false
spaced_digit (suc n) p ps r e = refl
spaced_digit zero (numeral n) ps r e = absurd (let z : ◌≡◌ {A = ℕ} 0 1 = cc in omega arith)
spaced_digit zero (variable k) ps r e = refl
spaced_digit zero (sign plus) ps r e = refl
spaced_digit zero (sign minus) ps r e = refl
spaced_digit zero star ps r e = refl
spaced_digit zero opening ps r e = refl
spaced_digit zero closing ps r e = refl
spaced_digit zero equals ps r e = refl

pub no_digit : {q : ℕ} {ps : List Part} {t : List ℕ} → is_numeral ps ≡ false → Spells q ps t → starts_digit t ≡ false
no_digit e done = refl
no_digit e (next {p = p} {ps = ps} {t = t} {r = r} n s) = ap starts_digit n.text ∙ spaced_digit n.spaces p ps r e

pub numeral_back : (n : ℕ) (r : List ℕ) → n ≤ 99999 → starts_digit r ≡ false → read_numeral (decimal n ++ r) ≡ parsed n r
numeral_back n r l e = natural_back 4 n r (omega arith) e

pub index_back : (q k : ℕ) (r : List ℕ) → q ≤ 16 → 1 ≤ k → k ≤ q → starts_digit r ≡ false → read_index q (decimal k ++ r) ≡ parsed k r
unfolding read_index and_then
index_back q k r few l m e = rw (numeral_back k r (omega arith) e, le-leb 1 k l, le-leb k q m)
