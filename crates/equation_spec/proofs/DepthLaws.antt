-- The reader of brackets at most d deep, on a text that has a reading: it stops exactly if the reading is deeper. Assumes nothing.
use Prim.Native.Nat.{ℕ, zero, suc, ◌≤◌, ◌<◌, max}
use Rattle.std.specs.Prelude.{Bool, cond, ◌≡◌, length}
use Rattle.std.proofs.Math.Bool.{true, false}
use mathlib.Core.List.{List, [], ◌∷◌}
use Rattle.std.proofs.Math.Path.{refl}
use Rattle.std.proofs.Common.{sym, ◌∙◌, arith}
use Rattle.std.proofs.Math.Decide.{dec_le}
use Rattle.texts.specs.Reading.{Parse, parsed, malformed, and_then, is_digit}
use Rattle.texts.proofs.ParseLaws.{not_parsed, same, and_then_lem}
use Rattle.equation_spec.specs.Grammar.{Sign, Part, Lead, bare, led, Sum, one, more, plain, Equation, equals, sum_parts, parts, Reads, letter, open_byte}
use Rattle.equation_spec.specs.Grammar.{star_byte, equals_byte, Spells}
use Rattle.equation_spec.specs.Meaning.{sum_depth}
use Rattle.equation_spec.specs.Reader.{skip, on_byte, on_sign, read_numeral, read_factor, after_numeral, read_term, more_terms, first_term, read_sum}
use Rattle.equation_spec.specs.Reader.{read_bracket}
use Rattle.equation_spec.proofs.PartLaws.{skip_skip, first, skipped}
use Rattle.equation_spec.proofs.SoundLaws.{sum_read, bracket_read}
use Rattle.equation_spec.proofs.CompleteLaws.{may_end_term, may_end_sum, sum_back, more_end}
use Rattle.equation_spec.proofs.Agreement.{no_space_lem}

-- p gives no more than p'
abbrev Below : {A : Type 0} → Parse A → Parse A → Type 0
Below {A} p p' = (a : A) (r : List ℕ) → p ≡ parsed a r → p' ≡ parsed a r

then_below : {A B : Type 0} (p p' : Parse A) (f f' : A → List ℕ → Parse B) → Below p p' → ((a : A) (t : List ℕ) → Below (f a t) (f' a t))
    → Below (and_then p f) (and_then p' f')
unfolding and_then
then_below p p' f f' h g b r e =
    let (a, t, x, y) = and_then_lem p f e in
    rw (h a t x) (g a t b r y)

byte_below : {A : Type 0} (b : ℕ) (t : List ℕ) (f f' : List ℕ → Parse A) (x x' : Parse A) → ((r : List ℕ) → Below (f r) (f' r)) → Below x x'
    → Below (on_byte b t f x) (on_byte b t f' x')
unfolding on_byte
byte_below b [] f f' x x' g h = h
byte_below b (c ∷ t) f f' x x' g h = go (lib.Dec.eqb c b)
  where
    go : (d : Bool) → Below (cond d (f t) x) (cond d (f' t) x')
    go true = g t
    go false = h

sign_below : {A : Type 0} (t : List ℕ) (f f' : Sign → List ℕ → Parse A) (x x' : Parse A) → ((s : Sign) (r : List ℕ) → Below (f s r) (f' s r)) → Below x x'
    → Below (on_sign t f x) (on_sign t f' x')
unfolding on_sign
sign_below t f f' x x' g h =
    byte_below 43 t _ _ _ _ (g Rattle.equation_spec.specs.Grammar.plus) (byte_below 45 t _ _ _ _ (g Rattle.equation_spec.specs.Grammar.minus) h)

same_below : {A : Type 0} (p : Parse A) → Below p p
same_below p a r e = e

module _ (q : ℕ) (inside inside' : List ℕ → Parse Sum) (h : (t : List ℕ) → Below (inside t) (inside' t)) where
  factor_below : (t : List ℕ) → Below (read_factor inside q t) (read_factor inside' q t)
  unfolding read_factor
  factor_below t =
      byte_below letter t _ _ _ _ (λ r. same_below _) (byte_below open_byte t _ _ _ _ (λ r. then_below _ _ _ _ (h r) (λ e s. same_below _)) (same_below _))

  after_below : (n : ℕ) (t : List ℕ) → Below (after_numeral inside q n t) (after_numeral inside' q n t)
  unfolding after_numeral
  after_below n t = byte_below star_byte (skip t) _ _ _ _ (λ r. then_below _ _ _ _ (factor_below (skip r)) (λ f s. same_below _)) (same_below _)

  term_below : (t : List ℕ) → Below (read_term inside q t) (read_term inside' q t)
  unfolding read_term
  term_below [] = same_below _
  term_below (b ∷ t) = go (is_digit b)
    where
      go : (d : Bool)
          → Below (cond d (and_then (read_numeral (b ∷ t)) (after_numeral inside q)) (and_then (read_factor inside q (b ∷ t)) (λ f. parsed (plain f))))
          (cond d (and_then (read_numeral (b ∷ t)) (after_numeral inside' q)) (and_then (read_factor inside' q (b ∷ t)) (λ f. parsed (plain f))))
      go true = then_below _ _ _ _ (same_below _) (λ n s. after_below n s)
      go false = then_below _ _ _ _ (factor_below (b ∷ t)) (λ f s. same_below _)

  more_below : (k : ℕ) (e : Sum) (t : List ℕ) → Below (more_terms inside q k e t) (more_terms inside' q k e t)
  unfolding more_terms
  more_below zero e t = same_below _
  more_below (suc k) e t =
      sign_below (skip t) _ _ _ _ (λ s r. then_below _ _ _ _ (term_below (skip r)) (λ u v. more_below k (more e s u) v)) (same_below _)

  first_below : (k : ℕ) (l : Lead) (t : List ℕ) → Below (first_term inside q k l t) (first_term inside' q k l t)
  unfolding first_term
  first_below k l t = then_below _ _ _ _ (term_below t) (λ u v. more_below k (one l u) v)

  sum_below : (t : List ℕ) → Below (read_sum inside q t) (read_sum inside' q t)
  unfolding read_sum
  sum_below t = sign_below t _ _ _ _ (λ s r. first_below (length t) (led s) (skip r)) (first_below (length t) bare t)

-- a deeper reader reads what a shallower one reads
bracket_below : (q d n : ℕ) → d ≤ n → (t : List ℕ) → Below (read_bracket q d t) (read_bracket q n t)
unfolding read_bracket
bracket_below q zero n l t = λ a r e. not_parsed e
bracket_below q (suc d) zero l t = absurd (omega arith)
bracket_below q (suc d) (suc n) l t =
    then_below _ _ _ _ (sum_below q (read_bracket q d) (read_bracket q n) (λ v. bracket_below q d n (omega arith) v) (skip t)) (λ e s. same_below _)

deeper : (q d n : ℕ) (t : List ℕ) (e : Sum) (r : List ℕ) → d ≤ n → read_sum (read_bracket q d) q t ≡ parsed e r → read_sum (read_bracket q n) q t ≡ parsed e r
deeper q d n t e r l h = sum_below q (read_bracket q d) (read_bracket q n) (bracket_below q d n l) t e r h

-- ---- a sum e of the grammar, before the parts ps

module _ (q : ℕ) (few : q ≤ 16) (e : Sum) (ps : List Part) (t : List ℕ) (a : may_end_term ps ≡ true) (b : may_end_sum ps ≡ true)
    (s : Spells q (sum_parts e ps) t) (k : skip t ≡ t) where
  -- at a depth that is enough, it is read
  enough : (d : ℕ) → sum_depth e ≤ d → (r : List ℕ) × (read_sum (read_bracket q d) q t ≡ parsed e r) × Spells q ps r
  enough d l =
      let i = sum_back q few e d ps t a l s k in
      (i.rest, i.reads ∙ more_end (read_bracket q d) q e i.k ps b i.spells, i.spells)

  -- What is read is that sum, which is not deeper.
  pub sum_is : (d : ℕ) {f : Sum} {r : List ℕ} → read_sum (read_bracket q d) q t ≡ parsed f r → (f ≡ e) × (sum_depth e ≤ d) × Spells q ps r
  sum_is d {f} {r} h =
      let (v, x, y) = enough (max d (sum_depth e)) (omega arith) in
      let (u, w) = same (sym (deeper q d (max d (sum_depth e)) t f r (omega arith) h) ∙ x) in
      let m = sum_read q d (read_bracket q d) (λ t e r. bracket_read q d t) t h in
      (u, rw u at m.depth, rw (sym w) at y)

  -- Where nothing is read, the sum is deeper.
  pub sum_deeper : (d : ℕ) → malformed ≡ read_sum (read_bracket q d) q t → d < sum_depth e
  sum_deeper d h =
      elim (dec_le (sum_depth e) d) [ yes l ↦ let (r, x, y) = enough d l in not_parsed (h ∙ x) | no l ↦ omega arith ]

-- ---- the two sides of an equation

module _ (q : ℕ) (few : q ≤ 16) (e : Equation) (t : List ℕ) (reads : Reads q e t) (d : ℕ) where
  pub left_deeper : malformed ≡ read_sum (read_bracket q d) q t → d < sum_depth e.left
  unfolding parts
  left_deeper h = sum_deeper q few e.left (equals ∷ sum_parts e.right []) t refl refl reads.spells (no_space_lem t reads.begins) d h

  module _ {f : Sum} {r : List ℕ} (h : read_sum (read_bracket q d) q t ≡ parsed f r) where
    left_all : (f ≡ e.left) × (sum_depth e.left ≤ d) × Spells q (equals ∷ sum_parts e.right []) r
    unfolding parts
    left_all = sum_is q few e.left (equals ∷ sum_parts e.right []) t refl refl reads.spells (no_space_lem t reads.begins) d h

    pub left_is : f ≡ e.left
    left_is = left_all.0

    pub left_within : sum_depth e.left ≤ d
    left_within = left_all.1

    -- "=" stands after it, and then the right side
    pub equals_after : (s : List ℕ) × (skip r ≡ equals_byte ∷ s) × Spells q (sum_parts e.right []) s
    equals_after = let i = first left_all.2 in (i.rest, i.text, i.spells)

  pub right_deeper : (s : List ℕ) → Spells q (sum_parts e.right []) s → malformed ≡ read_sum (read_bracket q d) q (skip s) → d < sum_depth e.right
  right_deeper s m h = sum_deeper q few e.right [] (skip s) refl refl (skipped m) (skip_skip s) d h

  pub right_is : (s : List ℕ) → Spells q (sum_parts e.right []) s → {f : Sum} {r : List ℕ} → read_sum (read_bracket q d) q (skip s) ≡ parsed f r
      → (f ≡ e.right) × (sum_depth e.right ≤ d)
  right_is s m h = let (a, b, c) = sum_is q few e.right [] (skip s) refl refl (skipped m) (skip_skip s) d h in (a, b)
