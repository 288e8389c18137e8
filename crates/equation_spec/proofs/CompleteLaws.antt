-- Every reading whose brackets are at most d deep is read. Assumes nothing.
use Prim.Native.Nat.{ℕ, zero, suc, ◌+◌, ◌≤◌, ◌<◌}
use Rattle.std.specs.Prelude.{Bool, true, false}
use mathlib.Core.List.{List, [], ◌∷◌, ◌++◌}
use Rattle.std.proofs.Math.Path.{◌≡◌, refl, sym, ap}
use Rattle.std.proofs.Common.{◌∙◌, arith, ne_eqb}
use Rattle.std.proofs.Math.ListN.{length}
use Rattle.texts.specs.Decimals.{zero_digit, decimal}
use Rattle.texts.specs.Reading.{Parse, parsed, and_then}
use Rattle.texts.proofs.DecimalLaws.{begins, by_first}
use Rattle.texts.proofs.WriteLaws.{digit_is}
use Rattle.equation_spec.specs.Grammar.{Sign, plus, minus, bare, led, Sum, one, more, Term, number, plain, times, Factor, unknown, bracket, Equation, Part}
use Rattle.equation_spec.specs.Grammar.{numeral, variable, sign, star, opening, closing, equals, sum_parts, term_parts, factor_parts, parts, letter, star_byte}
use Rattle.equation_spec.specs.Grammar.{open_byte, sign_byte, bytes, Spells, done}
use Rattle.equation_spec.specs.Meaning.{sum_depth, term_depth, factor_depth}
use Rattle.equation_spec.specs.Reader.{skip, on_byte, on_sign, read_numeral, read_factor, after_numeral, read_term, more_terms, first_term, read_sum, closed}
use Rattle.equation_spec.specs.Reader.{read_bracket, ended, right_of, read_equation}
use Rattle.equation_spec.proofs.PartLaws.{skip_skip, skip_shorter, first, skipped, is_numeral, no_digit, numeral_back, index_back}

-- ---- what may follow a term, and a sum

abbrev pub may_end_term : List Part → Bool
may_end_term [] = true
may_end_term (numeral n ∷ ps) = false
may_end_term (variable k ∷ ps) = false
may_end_term (sign s ∷ ps) = true
may_end_term (star ∷ ps) = false
may_end_term (opening ∷ ps) = false
may_end_term (closing ∷ ps) = true
may_end_term (equals ∷ ps) = true

not_true : {P : Type 0} → false ≡ true → P
not_true e = absurd (let z : ◌≡◌ {A = ℕ} 0 1 = cc in omega arith)

pub end_no_numeral : (ps : List Part) → may_end_term ps ≡ true → is_numeral ps ≡ false
end_no_numeral [] e = refl
end_no_numeral (numeral n ∷ ps) e = not_true e
end_no_numeral (variable k ∷ ps) e = refl
end_no_numeral (sign s ∷ ps) e = refl
end_no_numeral (star ∷ ps) e = refl
end_no_numeral (opening ∷ ps) e = refl
end_no_numeral (closing ∷ ps) e = refl
end_no_numeral (equals ∷ ps) e = refl

-- a sign is another byte than a part that is no sign
sign_other : {A : Type 0} (p : Part) (r : List ℕ) (f : Sign → List ℕ → A) (a : A) → ((s : Sign) → p ≡ sign s → ⊥) → on_sign (bytes p ++ r) f a ≡ a
unfolding on_sign on_byte
sign_other (numeral n) r f a h =
    let b = begins n in
    rw (by_first n b r, ne_eqb (zero_digit + b.d) 43 (λ e. omega arith), ne_eqb (zero_digit + b.d) 45 (λ e. omega arith))
sign_other (variable k) r f a h = refl
sign_other (sign s) r f a h = absurd (h s refl)
sign_other star r f a h = refl
sign_other opening r f a h = refl
sign_other closing r f a h = refl
sign_other equals r f a h = refl

-- after a term stands no star
star_other : {A : Type 0} {q : ℕ} (ps : List Part) {t : List ℕ} (f : List ℕ → A) (a : A) → may_end_term ps ≡ true → Spells q ps t
    → on_byte star_byte (skip t) f a ≡ a
unfolding on_byte skip
star_other [] f a e done = refl
star_other (numeral n ∷ ps) f a e s = not_true e
star_other (variable k ∷ ps) f a e s = not_true e
star_other (sign plus ∷ ps) f a e s = rw (first s).text
star_other (sign minus ∷ ps) f a e s = rw (first s).text
star_other (star ∷ ps) f a e s = not_true e
star_other (opening ∷ ps) f a e s = not_true e
star_other (closing ∷ ps) f a e s = rw (first s).text
star_other (equals ∷ ps) f a e s = rw (first s).text

-- ---- what is read back

-- the reader p gives a, and what is left of the text is the parts ps
pub record Back {A : Type 0} (q : ℕ) (p : Parse A) (a : A) (ps : List Part) (t : List ℕ) : Type 0 where
  pub rest : List ℕ
  pub reads : p ≡ parsed a rest
  pub spells : Spells q ps rest
  pub shorter : length rest < length t

-- the sum e is read, and then up to k more terms
pub record Summed (q d : ℕ) (e : Sum) (ps : List Part) (t : List ℕ) : Type 0 where
  pub rest : List ℕ
  pub k : ℕ
  pub enough : length rest ≤ k
  pub reads : read_sum (read_bracket q d) q t ≡ more_terms (read_bracket q d) q k e rest
  pub spells : Spells q ps rest
  pub shorter : length rest < length t

abbrev FactorBack : ℕ → Factor → Type 0
FactorBack q f =
    (d : ℕ) (ps : List Part) (t : List ℕ) → may_end_term ps ≡ true → factor_depth f ≤ d → Spells q (factor_parts f ps) t → skip t ≡ t
    → Back q (read_factor (read_bracket q d) q t) f ps t

abbrev TermBack : ℕ → Term → Type 0
TermBack q u =
    (d : ℕ) (ps : List Part) (t : List ℕ) → may_end_term ps ≡ true → term_depth u ≤ d → Spells q (term_parts u ps) t → skip t ≡ t
    → Back q (read_term (read_bracket q d) q t) u ps t

abbrev SumBack : ℕ → Sum → Type 0
SumBack q e = (d : ℕ) (ps : List Part) (t : List ℕ) → may_end_term ps ≡ true → sum_depth e ≤ d → Spells q (sum_parts e ps) t → skip t ≡ t → Summed q d e ps t

-- a sum is over where no sign follows
abbrev pub may_end_sum : List Part → Bool
may_end_sum [] = true
may_end_sum (numeral n ∷ ps) = false
may_end_sum (variable k ∷ ps) = false
may_end_sum (sign s ∷ ps) = false
may_end_sum (star ∷ ps) = false
may_end_sum (opening ∷ ps) = false
may_end_sum (closing ∷ ps) = true
may_end_sum (equals ∷ ps) = true

module _ (inside : List ℕ → Parse Sum) (q : ℕ) (e : Sum) where
  pub more_end : (k : ℕ) (ps : List Part) {t : List ℕ} → may_end_sum ps ≡ true → Spells q ps t → more_terms inside q k e t ≡ parsed e t
  unfolding more_terms on_sign on_byte skip
  more_end zero ps h s = refl
  more_end (suc k) [] h done = refl
  more_end (suc k) (numeral n ∷ ps) h s = not_true h
  more_end (suc k) (variable n ∷ ps) h s = not_true h
  more_end (suc k) (sign g ∷ ps) h s = not_true h
  more_end (suc k) (star ∷ ps) h s = not_true h
  more_end (suc k) (opening ∷ ps) h s = not_true h
  more_end (suc k) (closing ∷ ps) h s = rw (first s).text
  more_end (suc k) (equals ∷ ps) h s = rw (first s).text

led_sum : (inside : List ℕ → Parse Sum) (q : ℕ) (g : Sign) (r : List ℕ)
    → read_sum inside q (sign_byte g ∷ r) ≡ first_term inside q (suc (length r)) (led g) (skip r)
unfolding read_sum on_sign on_byte
led_sum inside q plus r = refl
led_sum inside q minus r = refl

more_sign : (inside : List ℕ → Parse Sum) (q : ℕ) (e : Sum) (g : Sign) (k : ℕ) (t r : List ℕ) → skip t ≡ sign_byte g ∷ r
    → more_terms inside q (suc k) e t ≡ and_then (read_term inside q (skip r)) (λ u. more_terms inside q k (more e g u))
unfolding more_terms on_sign on_byte
more_sign inside q e plus k t r x = rw x
more_sign inside q e minus k t r x = rw x

module _ (q : ℕ) (few : q ≤ 16) where
  unknown_back : (k : ℕ) → FactorBack q (unknown k)
  unfolding factor_parts read_factor on_byte and_then
  unknown_back k d ps t h l s b =
      let i = first s in
      let e : t ≡ letter ∷ (decimal k ++ i.rest) = sym b ∙ i.text in
      record {
        rest = i.rest;
        reads =
            ap (read_factor (read_bracket q d) q) e
            ∙ rw (index_back q k i.rest few i.allowed.0 i.allowed.1 (no_digit (end_no_numeral ps h) i.spells));
        spells = i.spells;
        shorter = i.shorter;
      }

  -- a bracketed sum after "("
  inside_back : (e : Sum) → SumBack q e → (d : ℕ) (ps : List Part) (t : List ℕ) → suc (sum_depth e) ≤ d → Spells q (sum_parts e (closing ∷ ps)) t
      → Back q (read_bracket q d t) e ps t
  unfolding read_bracket closed and_then on_byte
  inside_back e ih zero ps t l s = absurd (omega arith)
  inside_back e ih (suc d) ps t l s =
      let a = ih d (closing ∷ ps) (skip t) refl (omega arith) (skipped s) (skip_skip t) in
      let i = first a.spells in
      let r = a.reads ∙ more_end (read_bracket q d) q e a.k (closing ∷ ps) refl a.spells in
      record {
        rest = i.rest;
        reads = rw (r, i.text);
        spells = i.spells;
        shorter = omega (arith, a.shorter, i.shorter, skip_shorter t);
      }

  bracket_back : (e : Sum) → SumBack q e → FactorBack q (bracket e)
  unfolding factor_parts factor_depth read_factor on_byte and_then
  bracket_back e ih d ps t h l s b =
      let i = first s in
      let x : t ≡ open_byte ∷ i.rest = sym b ∙ i.text in
      let a = inside_back e ih d ps i.rest l i.spells in
      record {
        rest = a.rest;
        reads = ap (read_factor (read_bracket q d) q) x ∙ rw a.reads;
        spells = a.spells;
        shorter = omega (arith, a.shorter, i.shorter);
      }

  -- ---- terms

  -- a text that begins with a number
  numeral_term : (inside : List ℕ → Parse Sum) (n : ℕ) (t r : List ℕ) → t ≡ decimal n ++ r
      → read_term inside q t ≡ and_then (read_numeral t) (after_numeral inside q)
  unfolding read_term
  numeral_term inside n t r e =
      let b = begins n in
      let w = e ∙ by_first n b r in
      rw (w, digit_is b.d b.most)

  number_back : (n : ℕ) → TermBack q (number n)
  unfolding term_parts and_then after_numeral
  number_back n d ps t h l s b =
      let i = first s in
      let e : t ≡ decimal n ++ i.rest = sym b ∙ i.text in
      let v = no_digit (end_no_numeral ps h) i.spells in
      record {
        rest = i.rest;
        reads =
            numeral_term (read_bracket q d) n t i.rest e
            ∙ ap (λ x. and_then x (after_numeral (read_bracket q d) q)) (ap read_numeral e ∙ numeral_back n i.rest i.allowed v)
            ∙ star_other ps _ _ h i.spells;
        spells = i.spells;
        shorter = i.shorter;
      }

  times_back : (n : ℕ) (f : Factor) → FactorBack q f → TermBack q (times n f)
  unfolding term_parts term_depth and_then after_numeral on_byte
  times_back n f ih d ps t h l s b =
      let i = first s in
      let e : t ≡ decimal n ++ i.rest = sym b ∙ i.text in
      let j = first i.spells in
      let a = ih d ps (skip j.rest) h l (skipped j.spells) (skip_skip j.rest) in
      record {
        rest = a.rest;
        reads =
            numeral_term (read_bracket q d) n t i.rest e
            ∙ ap (λ x. and_then x (after_numeral (read_bracket q d) q)) (ap read_numeral e ∙ numeral_back n i.rest i.allowed (no_digit refl i.spells))
            ∙ rw (j.text, a.reads);
        spells = a.spells;
        shorter = omega (arith, a.shorter, i.shorter, j.shorter, skip_shorter j.rest);
      }

  -- a factor begins with no digit
  plain_term : (inside : List ℕ → Parse Sum) (f : Factor) (ps : List Part) (t : List ℕ) → Spells q (factor_parts f ps) t → skip t ≡ t
      → read_term inside q t ≡ and_then (read_factor inside q t) (λ f. parsed (plain f))
  unfolding read_term factor_parts
  plain_term inside (unknown k) ps t s b =
      let i = first s in
      let e : t ≡ letter ∷ (decimal k ++ i.rest) = sym b ∙ i.text in rw e
  plain_term inside (bracket x) ps t s b =
      let i = first s in
      let e : t ≡ open_byte ∷ i.rest = sym b ∙ i.text in rw e

  plain_back : (f : Factor) → FactorBack q f → TermBack q (plain f)
  unfolding term_parts term_depth and_then
  plain_back f ih d ps t h l s b =
      let a = ih d ps t h l s b in
      record {
        rest = a.rest;
        reads = plain_term (read_bracket q d) f ps t s b ∙ rw a.reads;
        spells = a.spells;
        shorter = a.shorter;
      }

  -- ---- sums

  -- a term begins with no sign
  unsigned : {A : Type 0} (u : Term) (ps : List Part) (t : List ℕ) (f : Sign → List ℕ → A) (a : A) → Spells q (term_parts u ps) t → skip t ≡ t
      → on_sign t f a ≡ a
  unfolding term_parts factor_parts
  unsigned (number n) ps t f a s b =
      ap (λ x. on_sign x f a) (sym b ∙ (first s).text) ∙ sign_other (numeral n) _ f a (λ g e. absurd (let z : ◌≡◌ {A = ℕ} 0 1 = cc in omega arith))
  unsigned (plain (unknown k)) ps t f a s b =
      ap (λ x. on_sign x f a) (sym b ∙ (first s).text) ∙ sign_other (variable k) _ f a (λ g e. absurd (let z : ◌≡◌ {A = ℕ} 0 1 = cc in omega arith))
  unsigned (plain (bracket e)) ps t f a s b =
      ap (λ x. on_sign x f a) (sym b ∙ (first s).text) ∙ sign_other opening _ f a (λ g e. absurd (let z : ◌≡◌ {A = ℕ} 0 1 = cc in omega arith))
  unsigned (times n g) ps t f a s b =
      ap (λ x. on_sign x f a) (sym b ∙ (first s).text) ∙ sign_other (numeral n) _ f a (λ g e. absurd (let z : ◌≡◌ {A = ℕ} 0 1 = cc in omega arith))

  bare_back : (u : Term) → TermBack q u → SumBack q (one bare u)
  unfolding sum_parts sum_depth read_sum first_term and_then
  bare_back u ih d ps t h l s b =
      let a = ih d ps t h l s b in
      record {
        rest = a.rest;
        k = length t;
        enough = omega (arith, a.shorter);
        reads = unsigned u ps t _ _ s b ∙ rw a.reads;
        spells = a.spells;
        shorter = a.shorter;
      }

  led_back : (g : Sign) (u : Term) → TermBack q u → SumBack q (one (led g) u)
  unfolding sum_parts sum_depth read_sum first_term and_then
  led_back g u ih d ps t h l s b =
      let i = first s in
      let e : t ≡ sign_byte g ∷ i.rest = sym b ∙ i.text in
      let a = ih d ps (skip i.rest) h l (skipped i.spells) (skip_skip i.rest) in
      record {
        rest = a.rest;
        k = suc (length i.rest);
        enough = omega (arith, a.shorter, skip_shorter i.rest);
        reads = ap (read_sum (read_bracket q d) q) e ∙ led_sum (read_bracket q d) q g i.rest ∙ rw a.reads;
        spells = a.spells;
        shorter = omega (arith, a.shorter, i.shorter, skip_shorter i.rest);
      }

  -- a sign and the term u come after the sum e
  one_more : (d : ℕ) (e : Sum) (g : Sign) (u : Term) (k : ℕ) (t r v : List ℕ) → skip t ≡ sign_byte g ∷ r → read_term (read_bracket q d) q (skip r) ≡ parsed u v
      → 1 ≤ k
      → (j : ℕ) × (k ≡ suc j) × (more_terms (read_bracket q d) q k e t ≡ more_terms (read_bracket q d) q j (more e g u) v)
  unfolding more_terms and_then
  one_more d e g u zero t r v x y l = absurd (omega arith)
  one_more d e g u (suc k) t r v x y l = (k, refl, more_sign (read_bracket q d) q e g k t r x ∙ rw y)

  more_back : (e : Sum) (g : Sign) (u : Term) → SumBack q e → TermBack q u → SumBack q (more e g u)
  unfolding sum_parts sum_depth
  more_back e g u sums terms d ps t h l s b =
      let c = sums d (sign g ∷ term_parts u ps) t refl (omega arith) s b in
      let i = first c.spells in
      let a = terms d ps (skip i.rest) h (omega arith) (skipped i.spells) (skip_skip i.rest) in
      let (k, m, r) = one_more d e g u c.k c.rest i.rest a.rest i.text a.reads (omega (arith, c.enough, i.shorter)) in
      record {
        rest = a.rest;
        k = k;
        enough = omega (arith, m, c.enough, a.shorter, i.shorter, skip_shorter i.rest);
        reads = c.reads ∙ r;
        spells = a.spells;
        shorter = omega (arith, a.shorter, i.shorter, c.shorter, skip_shorter i.rest);
      }

  -- ---- every tree

  mutual
    pub sum_back : (e : Sum) → SumBack q e
    sum_back (one bare u) = bare_back u (term_back u)
    sum_back (one (led g) u) = led_back g u (term_back u)
    sum_back (more e g u) = more_back e g u (sum_back e) (term_back u)

    pub term_back : (u : Term) → TermBack q u
    term_back (number n) = number_back n
    term_back (plain f) = plain_back f (factor_back f)
    term_back (times n f) = times_back n f (factor_back f)

    pub factor_back : (f : Factor) → FactorBack q f
    factor_back (unknown k) = unknown_back k
    factor_back (bracket e) = bracket_back e (sum_back e)

-- ---- an equation

nothing_left : {q : ℕ} {e : Equation} {t : List ℕ} → Spells q [] t → ended e t ≡ parsed e []
nothing_left done = refl

-- Every reading, at most d deep, is read.
pub equation_back : (q d : ℕ) (e : Equation) (t : List ℕ) → q ≤ 16 → sum_depth e.left ≤ d → sum_depth e.right ≤ d → Spells q (parts e) t → skip t ≡ t
    → read_equation q d t ≡ parsed e []
unfolding parts read_equation right_of and_then on_byte
equation_back q d e t few l m s b =
    let a = sum_back q few e.left d (equals ∷ sum_parts e.right []) t refl l s b in
    let r = a.reads ∙ more_end (read_bracket q d) q e.left a.k (equals ∷ sum_parts e.right []) refl a.spells in
    let i = first a.spells in
    let c = sum_back q few e.right d [] (skip i.rest) refl m (skipped i.spells) (skip_skip i.rest) in
    let v = c.reads ∙ more_end (read_bracket q d) q e.right c.k [] refl c.spells in
    rw (r, i.text, v) (nothing_left c.spells)
