-- Spaces, single bytes and parts in a text. Assumes nothing.
use Rattle.std.specs.Prelude.{ℕ, suc, Bool, true, false, cond, ◌≡◌, refl, eqb}
use mathlib.Core.List.{List, [], ◌∷◌}
use Rattle.std.proofs.Common.{ap, eqb-true}
use Rattle.texts.specs.Decimals.{space}
use Rattle.texts.proofs.ParseLaws.{cond_cases}
use Rattle.equation_spec.specs.Grammar.{Sign, plus, minus, bare, led, Sum, one, more, Term, number, plain, times, Factor, unknown, bracket, Part, sum_parts}
use Rattle.equation_spec.specs.Grammar.{term_parts, factor_parts, bytes, sign_byte, Spells, next}
use Rattle.equation_spec.specs.Reader.{skip, on_byte, on_sign}

-- ---- a byte

module _ {A P : Type 0} {z : A} where
  -- by the byte with which the text begins
  pub on_byte_lem : (b : ℕ) (t : List ℕ) (f : List ℕ → A) (a : A) → on_byte b t f a ≡ z → ((r : List ℕ) → t ≡ b ∷ r → f r ≡ z → P) → (a ≡ z → P) → P
  unfolding on_byte
  on_byte_lem b [] f a e g h = h e
  on_byte_lem b (c ∷ t) f a e g h = cond_cases (eqb c b) e (λ d i. g t (ap (λ n. n ∷ t) (eqb-true c b d)) i) (λ d i. h i)

  pub on_sign_lem : (t : List ℕ) (f : Sign → List ℕ → A) (a : A) → on_sign t f a ≡ z → ((s : Sign) (r : List ℕ) → t ≡ sign_byte s ∷ r → f s r ≡ z → P)
      → (a ≡ z → P)
      → P
  unfolding on_sign
  on_sign_lem t f a e g h =
      on_byte_lem (sign_byte plus) t (f plus) _ e (g plus) (λ i. on_byte_lem (sign_byte minus) t (f minus) a i (g minus) h)

-- ---- spaces before parts

pub data NonEmpty : List Part → Type 0 where
  some : {p : Part} {ps : List Part} → NonEmpty (p ∷ ps)

mutual
  unfolding sum_parts

  pub sum_some : (e : Sum) (ps : List Part) → NonEmpty (sum_parts e ps)
  sum_some (one bare u) ps = term_some u ps
  sum_some (one (led s) u) ps = some
  sum_some (more e s u) ps = sum_some e _

  pub term_some : (u : Term) (ps : List Part) → NonEmpty (term_parts u ps)
  term_some (number n) ps = some
  term_some (plain f) ps = factor_some f ps
  term_some (times n f) ps = some

  pub factor_some : (f : Factor) (ps : List Part) → NonEmpty (factor_parts f ps)
  factor_some (unknown k) ps = some
  factor_some (bracket e) ps = some

pub one_space : {q : ℕ} {ps : List Part} {t : List ℕ} → NonEmpty ps → Spells q ps t → Spells q ps (space ∷ t)
one_space some (next n s) = next (record { spaces = suc n.spaces; text = ap (λ l. space ∷ l) n.text; allowed = n.allowed }) s

-- spaces may stand before parts
pub spaced : {q : ℕ} {ps : List Part} → NonEmpty ps → (t : List ℕ) → Spells q ps (skip t) → Spells q ps t
unfolding skip
spaced m [] s = s
spaced {q} {ps} m (b ∷ t) s = go (λ h. spaced m t h) (eqb b space) refl s
  where
    go : (Spells q ps (skip t) → Spells q ps t) → (d : Bool) → eqb b space ≡ d → Spells q ps (cond d (skip t) (b ∷ t)) → Spells q ps (b ∷ t)
    go f true e h = rw (eqb-true b space e) (one_space m (f h))
    go f false e h = h
