-- What the reader reads stands in the text: the text spells the tree's parts, and the brackets are no deeper than they may be. Assumes nothing.
use Prim.Native.Nat.{ℕ, zero, suc, ◌≤◌}
use Rattle.std.specs.Prelude.{◌&&◌, ◌≡◌, leb, length}
use mathlib.Core.List.{List, [], ◌∷◌, ◌++◌}
use Rattle.std.proofs.Math.Path.{refl}
use Rattle.std.proofs.Common.{sym, ap, ◌∙◌, arith, leb→le}
use Rattle.linear.proofs.TestLaws.{and_parts}
use Rattle.texts.specs.Decimals.{decimal}
use Rattle.texts.specs.Reading.{Parse, parsed, and_then, is_digit}
use Rattle.texts.proofs.ParseLaws.{not_parsed, same, cond_cases, and_then_lem}
use Rattle.texts.specs.Places.{FewDigits}
use Rattle.texts.proofs.NumberLaws.{natural_below}
use Rattle.texts.proofs.ReadLaws.{natural_read}
use Rattle.equation_spec.specs.Grammar.{Sign, Lead, bare, led, Sum, one, more, Term, number, plain, times, Factor, unknown, bracket, Equation, Part, numeral}
use Rattle.equation_spec.specs.Grammar.{variable, sign, star, opening, closing, equals, sum_parts, term_parts, factor_parts, parts, letter, star_byte}
use Rattle.equation_spec.specs.Grammar.{open_byte}
use Rattle.equation_spec.specs.Grammar.{close_byte, equals_byte, sign_byte, bytes, Allowed, Spells, done, next}
use Rattle.equation_spec.specs.Meaning.{sum_depth, term_depth, factor_depth}
use Rattle.equation_spec.specs.Reader.{skip, most_digits, read_numeral, within, read_index, read_factor, after_numeral, read_term, more_terms, first_term}
use Rattle.equation_spec.specs.Reader.{read_sum}
use Rattle.equation_spec.specs.Reader.{closed, read_bracket, ended, right_of, read_equation}
use Rattle.equation_spec.proofs.TextLaws.{on_byte_lem, on_sign_lem, some, sum_some, term_some, factor_some, spaced}

-- a part without spaces before it
pub here : {q : ℕ} {ps : List Part} {r : List ℕ} (p : Part) (t : List ℕ) → t ≡ bytes p ++ r → Allowed q p → Spells q ps r → Spells q (p ∷ ps) t
here p t e a s = next (record { spaces = 0; text = e; allowed = a }) s

-- ---- numbers

pub few_digits : FewDigits most_digits
few_digits = record { some = omega arith; few = omega arith }

pub numeral_read : (t : List ℕ) {m : ℕ} {r : List ℕ} → read_numeral t ≡ parsed m r → (m ≤ 99999) × (t ≡ decimal m ++ r)
numeral_read t e = (omega (arith, natural_below t few_digits e), natural_read most_digits t e)

pub index_read : (q : ℕ) (t : List ℕ) {k : ℕ} {r : List ℕ} → read_index q t ≡ parsed k r → ((1 ≤ k) × (k ≤ q)) × (t ≡ decimal k ++ r)
unfolding read_index
index_read q t {k} {r} e =
    let (n, s, g, h) = and_then_lem (read_numeral t) (within q) e in
    cond_cases (leb 1 n && leb n q) h
    (λ d f.
    let (a, c) = same f in
    let (x, y) = and_parts (leb 1 n) (leb n q) (rw d tt) in
    let w : ((1 ≤ n) × (n ≤ q)) × (t ≡ decimal n ++ s) = ((leb→le 1 n x, leb→le n q y), (numeral_read t g).1) in
    rw (a, c) at w)
    (λ d f. not_parsed f)

-- ---- terms and sums: with any parts after the tree, and the text r after the text of the tree

-- the text t is the tree's parts and then r
pub record SumRead (q d : ℕ) (e : Sum) (t r : List ℕ) : Type 0 where
  pub depth : sum_depth e ≤ d
  pub text : {ps : List Part} → Spells q ps r → Spells q (sum_parts e ps) t

pub record TermRead (q d : ℕ) (u : Term) (t r : List ℕ) : Type 0 where
  pub depth : term_depth u ≤ d
  pub text : {ps : List Part} → Spells q ps r → Spells q (term_parts u ps) t

pub record FactorRead (q d : ℕ) (f : Factor) (t r : List ℕ) : Type 0 where
  pub depth : factor_depth f ≤ d
  pub text : {ps : List Part} → Spells q ps r → Spells q (factor_parts f ps) t

-- what a reader of bracketed sums does
pub record InsideRead (q d : ℕ) (e : Sum) (t r : List ℕ) : Type 0 where
  pub depth : suc (sum_depth e) ≤ d
  pub text : {ps : List Part} → Spells q ps r → Spells q (sum_parts e (closing ∷ ps)) t

module _ (q d : ℕ) (inside : List ℕ → Parse Sum) (sound : (t : List ℕ) (e : Sum) (r : List ℕ) → inside t ≡ parsed e r → InsideRead q d e t r) where
  factor_unknown : (s : List ℕ) {f : Factor} {r : List ℕ} → and_then (read_index q s) (λ k. parsed (unknown k)) ≡ parsed f r → FactorRead q d f (letter ∷ s) r
  unfolding factor_depth factor_parts
  factor_unknown s e =
      let (k, r, g, h) = and_then_lem (read_index q s) (λ k. parsed (unknown k)) e in
      let (a, c) = same h in
      let (x, y) = index_read q s g in
      let w : FactorRead q d (unknown k) (letter ∷ s) r = record { depth = omega arith; text = λ m. here (variable k) _ (ap (λ l. letter ∷ l) y) x m } in
      rw (a, c) at w

  factor_bracket : (s : List ℕ) {f : Factor} {r : List ℕ} → and_then (inside s) (λ e. parsed (bracket e)) ≡ parsed f r → FactorRead q d f (open_byte ∷ s) r
  unfolding factor_depth factor_parts
  factor_bracket s e =
      let (b, r, g, h) = and_then_lem (inside s) (λ e. parsed (bracket e)) e in
      let (a, c) = same h in
      let i = sound s b r g in
      let w : FactorRead q d (bracket b) (open_byte ∷ s) r = record { depth = i.depth; text = λ m. here opening _ refl tt (i.text m) } in
      rw (a, c) at w

  pub factor_read : (t : List ℕ) {f : Factor} {r : List ℕ} → read_factor inside q t ≡ parsed f r → FactorRead q d f t r
  unfolding read_factor
  factor_read t e =
      on_byte_lem letter t _ _ e (λ s b g. rw b (factor_unknown s g))
      (λ h. on_byte_lem open_byte t _ _ h (λ s b g. rw b (factor_bracket s g)) (λ g. not_parsed g))

  term_times : (n : ℕ) (s : List ℕ) {u : Term} {r : List ℕ} → n ≤ 99999 → and_then (read_factor inside q (skip s)) (λ f. parsed (times n f)) ≡ parsed u r
      → {t : List ℕ} (t₁ : List ℕ) → t ≡ decimal n ++ t₁ → skip t₁ ≡ star_byte ∷ s → TermRead q d u t r
  unfolding term_depth term_parts
  term_times n s l e {t} t₁ x y =
      let (f, r, g, h) = and_then_lem (read_factor inside q (skip s)) (λ f. parsed (times n f)) e in
      let (a, c) = same h in
      let i = factor_read (skip s) g in
      let w : TermRead q d (times n f) t r =
      record {
        depth = i.depth;
        text = λ m. here (numeral n) t x l (spaced some t₁ (here star _ y tt (spaced (factor_some f _) s (i.text m))));
      }
      in
      rw (a, c) at w

  after_numeral_lem : (n : ℕ) {t : List ℕ} (t₁ : List ℕ) {u : Term} {r : List ℕ} → n ≤ 99999 → t ≡ decimal n ++ t₁ → after_numeral inside q n t₁ ≡ parsed u r
      → TermRead q d u t r
  unfolding after_numeral term_depth term_parts
  after_numeral_lem n {t} t₁ l x e =
      on_byte_lem star_byte (skip t₁) _ _ e (λ s b g. term_times n s l g t₁ x b)
      (λ h. let (a, c) = same h in let w : TermRead q d (number n) t t₁ = record { depth = omega arith; text = λ m. here (numeral n) t x l m } in
      rw (a, c) at w)

  pub term_read : (t : List ℕ) {u : Term} {r : List ℕ} → read_term inside q t ≡ parsed u r → TermRead q d u t r
  unfolding read_term term_depth term_parts
  term_read [] e = not_parsed e
  term_read (b ∷ t) e =
      cond_cases (is_digit b) e
      (λ _ h.
      let (n, t₁, g, i) = and_then_lem (read_numeral (b ∷ t)) (after_numeral inside q) h in
      let (l, x) = numeral_read (b ∷ t) g in
      after_numeral_lem n t₁ l x i)
      (λ _ h.
      let (f, r, g, i) = and_then_lem (read_factor inside q (b ∷ t)) (λ f. parsed (plain f)) h in
      let (a, c) = same i in
      let j = factor_read (b ∷ t) g in
      let w : TermRead q d (plain f) (b ∷ t) r = record { depth = j.depth; text = j.text } in
      rw (a, c) at w)

  joined : (e : Sum) (g : Sign) (u : Term) {t : List ℕ} (s r : List ℕ) {v : List ℕ} → skip s ≡ sign_byte g ∷ r → SumRead q d e t s → TermRead q d u (skip r) v
      → SumRead q d (more e g u) t v
  unfolding sum_depth sum_parts
  joined e g u s r b i j =
      record {
        depth = omega (arith, i.depth, j.depth);
        text = λ m. i.text (spaced some s (here (sign g) _ b tt (spaced (term_some u _) r (j.text m))));
      }

  -- e is the sum so far
  pub more_read : (k : ℕ) (e : Sum) {t : List ℕ} (s : List ℕ) {f : Sum} {r : List ℕ} → SumRead q d e t s → more_terms inside q k e s ≡ parsed f r
      → SumRead q d f t r
  unfolding more_terms
  more_read zero e s i h = let (a, c) = same h in rw (a, c) at i
  more_read (suc k) e s i h =
      on_sign_lem (skip s) _ _ h
      (λ g r b j.
      let (u, v, x, y) = and_then_lem (read_term inside q (skip r)) (λ u. more_terms inside q k (more e g u)) j in
      more_read k (more e g u) v (joined e g u s r b i (term_read (skip r) x)) y)
      (λ j. let (a, c) = same j in rw (a, c) at i)

  first_read : (k : ℕ) (l : Lead) (t : List ℕ) {s : List ℕ} {f : Sum} {r : List ℕ} → ((u : Term) (v : List ℕ) → TermRead q d u t v → SumRead q d (one l u) s v)
      → first_term inside q k l t ≡ parsed f r → SumRead q d f s r
  unfolding first_term
  first_read k l t i h =
      let (u, v, x, y) = and_then_lem (read_term inside q t) (λ u. more_terms inside q k (one l u)) h in
      more_read k (one l u) v (i u v (term_read t x)) y

  alone : {t : List ℕ} {u : Term} {v : List ℕ} → TermRead q d u t v → SumRead q d (one bare u) t v
  unfolding sum_depth sum_parts
  alone j = record { depth = j.depth; text = j.text }

  signed_first : (g : Sign) (t r : List ℕ) {u : Term} {v : List ℕ} → t ≡ sign_byte g ∷ r → TermRead q d u (skip r) v → SumRead q d (one (led g) u) t v
  unfolding sum_depth sum_parts
  signed_first g t r {u} b j = record { depth = j.depth; text = λ m. here (sign g) t b tt (spaced (term_some u _) r (j.text m)) }

  pub sum_read : (t : List ℕ) {e : Sum} {r : List ℕ} → read_sum inside q t ≡ parsed e r → SumRead q d e t r
  unfolding read_sum
  sum_read t h =
      on_sign_lem t _ _ h
      (λ g s b j. first_read (length t) (led g) (skip s) (λ u v. signed_first g t s b) j)
      (λ j. first_read (length t) bare t (λ u v. alone) j)

-- ---- brackets

closed_read : (e : Sum) (t : List ℕ) {f : Sum} {r : List ℕ} → closed e t ≡ parsed f r → (e ≡ f) × (skip t ≡ close_byte ∷ r)
unfolding closed
closed_read e t h = on_byte_lem close_byte (skip t) _ _ h (λ s b j. let (a, c) = same j in (a, b ∙ ap (λ l. close_byte ∷ l) c)) (λ j. not_parsed j)

pub bracket_read : (q d : ℕ) (t : List ℕ) {e : Sum} {r : List ℕ} → read_bracket q d t ≡ parsed e r → InsideRead q d e t r
unfolding read_bracket
bracket_read q zero t h = not_parsed h
bracket_read q (suc d) t h =
    let (e, s, g, i) = and_then_lem (read_sum (read_bracket q d) q (skip t)) closed h in
    let j = sum_read q d (read_bracket q d) (λ t e r. bracket_read q d t) (skip t) g in
    let (a, c) = closed_read e s i in
    let w : InsideRead q (suc d) e t _ =
    record {
      depth = omega (arith, j.depth);
      text = λ m. spaced (sum_some e _) t (j.text (spaced some s (here closing _ c tt m)));
    }
    in
    rw a at w

-- ---- an equation

ended_read : (e : Equation) (t : List ℕ) {f : Equation} {r : List ℕ} → ended e t ≡ parsed f r → (e ≡ f) × ((t ≡ []) × (r ≡ []))
ended_read e [] h = let (a, c) = same h in (a, (refl, sym c))
ended_read e (b ∷ t) h = not_parsed h

-- what was read as an equation: its text and its depth
pub record EquationRead (q d : ℕ) (e : Equation) (t : List ℕ) : Type 0 where
  pub left_depth : sum_depth e.left ≤ d
  pub right_depth : sum_depth e.right ≤ d
  pub text : Spells q (parts e) t

right_read : (q d : ℕ) (e : Sum) {t : List ℕ} (s : List ℕ) {f : Equation} {r : List ℕ} → SumRead q d e t s → right_of q d e s ≡ parsed f r
    → EquationRead q d f t
unfolding right_of parts
right_read q d e s i h =
    on_byte_lem equals_byte (skip s) _ _ h
    (λ t b j.
    let (f, v, x, y) = and_then_lem (read_sum (read_bracket q d) q (skip t)) (λ f. ended (record { left = e; right = f })) j in
    let k = sum_read q d (read_bracket q d) (λ t e r. bracket_read q d t) (skip t) x in
    let (a, (c, z)) = ended_read (record { left = e; right = f }) v y in
    let w : EquationRead q d (record { left = e; right = f }) _ =
    record {
      left_depth = i.depth;
      right_depth = k.depth;
      text = i.text (spaced some s (here equals _ b tt (spaced (sum_some f _) t (k.text (rw c done)))));
    }
    in
    rw a at w)
    (λ j. not_parsed j)

-- What is read is a reading, at most d deep.
pub equation_read : (q d : ℕ) (t : List ℕ) {e : Equation} {r : List ℕ} → read_equation q d t ≡ parsed e r → EquationRead q d e t
unfolding read_equation
equation_read q d t h =
    let (e, s, g, i) = and_then_lem (read_sum (read_bracket q d) q t) (right_of q d) h in
    right_read q d e s (sum_read q d (read_bracket q d) (λ t e r. bracket_read q d t) t g) i
