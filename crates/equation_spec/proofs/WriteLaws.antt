-- What is written has a reading, and the reading's meaning is the row that was written. Assumes nothing.
use Prim.Native.Nat.{ℕ, zero, suc, ◌+◌, ◌*◌, ◌≤◌, ◌<◌}
use Rattle.std.specs.Prelude.{Bool, true, false, cond, ◌≡◌, eqb}
use mathlib.Core.List.{List, [], ◌∷◌, ◌++◌, append_assoc, append-nil}
use Rattle.std.proofs.Math.Path.{refl}
use Rattle.std.proofs.Common.{sym, ap, ◌∙◌, arith, eq-eqb, ne_eqb}
use lib.IntN.{ℤ, pos, negsuc, nat_abs, neg_ℤ, ◌+ℤ◌, ◌*ℤ◌, +ℤ_idl, +ℤ_idr, +ℤ_assoc, *ℤ-one, *ℤ-zero}
use lib.ListN.{length, get_or, length-append}
use Rattle.definitions.specs.System.{coef_limit}
use Rattle.texts.specs.Decimals.{space, decimal}
use Rattle.texts.proofs.DecimalLaws.{begins, digits_most, by_first}
use Rattle.map_spec.specs.Form.{CoefsInRange}
use Rattle.texts.specs.Decimals as texts
use Rattle.equation_spec.specs.Grammar.{Sign, plus, minus, bare, led, Sum, one, more, Term, number, plain, times, unknown, bracket, Equation, Part, numeral}
use Rattle.equation_spec.specs.Grammar.{variable, sign, star, equals, sum_parts, term_parts, factor_parts, parts, letter, star_byte, sign_byte, bytes, Allowed}
use Rattle.equation_spec.specs.Grammar.{Spells, done, next, Reads}
use Rattle.equation_spec.specs.Meaning.{single, of_sum, of_term, of_factor, coefficient, right_side, sum_depth, term_depth, sum_exceeds, term_exceeds}
use Rattle.equation_spec.specs.Writing.{multiple, spaced_sign, later_terms, terms, written}

-- ---- the tree of a row

abbrev multiple_term : ℕ → ℕ → Term
multiple_term zero k = number 0
multiple_term (suc zero) k = plain (unknown k)
multiple_term (suc (suc n)) k = times (suc (suc n)) (unknown k)

later_tree : Sum → ℕ → List ℤ → Sum
later_tree e k [] = e
later_tree e k (pos zero ∷ zs) = later_tree e (suc k) zs
later_tree e k (pos (suc n) ∷ zs) = later_tree (more e plus (multiple_term (suc n) k)) (suc k) zs
later_tree e k (negsuc n ∷ zs) = later_tree (more e minus (multiple_term (suc n) k)) (suc k) zs

tree : ℕ → List ℤ → Sum
tree k [] = one bare (number 0)
tree k (pos zero ∷ zs) = tree (suc k) zs
tree k (pos (suc n) ∷ zs) = later_tree (one bare (multiple_term (suc n) k)) (suc k) zs
tree k (negsuc n ∷ zs) = later_tree (one (led minus) (multiple_term (suc n) k)) (suc k) zs

abbrev number_tree : ℤ → Sum
number_tree (pos n) = one bare (number n)
number_tree (negsuc n) = one (led minus) (number (suc n))

pub tree_of : List ℤ → ℤ → Equation
tree_of row right = record { left = tree 1 row; right = number_tree right }

-- ---- the text

-- x is the text of the sum e, whatever follows
abbrev Writes : ℕ → Sum → List ℕ → Type 0
Writes q e x = (ps : List Part) (r : List ℕ) → Spells q ps r → Spells q (sum_parts e ps) (x ++ r)

after : {q : ℕ} {p : Part} {ps : List Part} {t r : List ℕ} (n : ℕ) → t ≡ lib.ListN.replicate n space ++ (bytes p ++ r) → Allowed q p → Spells q ps r
    → Spells q (p ∷ ps) t
after n e a s = next (record { spaces = n; text = e; allowed = a }) s

-- a multiple of an unknown, after n spaces
multiple_spells : (q n m k : ℕ) (ps : List Part) (r : List ℕ) → 1 ≤ m → m ≤ 99999 → 1 ≤ k → k ≤ q → Spells q ps r
    → Spells q (term_parts (multiple_term m k) ps) (lib.ListN.replicate n space ++ (multiple m k ++ r))
unfolding term_parts factor_parts
multiple_spells q n zero k ps r l h i j s = absurd (omega arith)
multiple_spells q n (suc zero) k ps r l h i j s = after n refl (i, j) s
multiple_spells q n (suc (suc m)) k ps r l h i j s =
    after n (ap (λ x. lib.ListN.replicate n space ++ x) (append_assoc (decimal (suc (suc m))) (star_byte ∷ letter ∷ decimal k) r)) h
    (after {p = star} 0 refl tt (after {p = variable k} 0 refl (i, j) s))

module _ (q : ℕ) where
  later_one : (e : Sum) (x : List ℕ) (g : Sign) (m k : ℕ) → 1 ≤ m → m ≤ 99999 → 1 ≤ k → k ≤ q → Writes q e x
      → Writes q (more e g (multiple_term m k)) (x ++ (spaced_sign g ++ multiple m k))
  unfolding sum_parts
  later_one e x g m k l h i j w ps r s =
      rw (append_assoc x (spaced_sign g ++ multiple m k) r)
      (w _ _ (after {p = sign g} 1 refl tt (multiple_spells q 1 m k ps r l h i j s)))

  later_writes : (zs : List ℤ) (k : ℕ) (e : Sum) (x : List ℕ) → CoefsInRange zs → 1 ≤ k → k + length zs ≤ suc q → Writes q e x
      → Writes q (later_tree e k zs) (x ++ later_terms k zs)
  unfolding later_tree later_terms
  later_writes [] k e x f l h w = rw (append-nil x) w
  later_writes (pos zero ∷ zs) k e x f l h w = later_writes zs (suc k) e x (λ i m. f (suc i) (omega arith)) (omega arith) (omega arith) w
  later_writes (pos (suc n) ∷ zs) k e x f l h w =
      rw (← append_assoc x (spaced_sign plus ++ multiple (suc n) k) (later_terms (suc k) zs))
      (later_writes zs (suc k) (more e plus (multiple_term (suc n) k)) (x ++ (spaced_sign plus ++ multiple (suc n) k)) (λ i m. f (suc i) (omega arith))
      (omega arith) (omega arith) (later_one e x plus (suc n) k (omega arith) (omega (arith, f 0 (omega arith))) l (omega arith) w))
  later_writes (negsuc n ∷ zs) k e x f l h w =
      rw (← append_assoc x (spaced_sign minus ++ multiple (suc n) k) (later_terms (suc k) zs))
      (later_writes zs (suc k) (more e minus (multiple_term (suc n) k)) (x ++ (spaced_sign minus ++ multiple (suc n) k)) (λ i m. f (suc i) (omega arith))
      (omega arith) (omega arith) (later_one e x minus (suc n) k (omega arith) (omega (arith, f 0 (omega arith))) l (omega arith) w))

  bare_writes : (m k : ℕ) → 1 ≤ m → m ≤ 99999 → 1 ≤ k → k ≤ q → Writes q (one bare (multiple_term m k)) (multiple m k)
  unfolding sum_parts
  bare_writes m k l h i j ps r s = multiple_spells q 0 m k ps r l h i j s

  led_writes : (m k : ℕ) → 1 ≤ m → m ≤ 99999 → 1 ≤ k → k ≤ q → Writes q (one (led minus) (multiple_term m k)) (sign_byte minus ∷ multiple m k)
  unfolding sum_parts
  led_writes m k l h i j ps r s = after {p = sign minus} 0 refl tt (multiple_spells q 0 m k ps r l h i j s)

  zero_writes : Writes q (one bare (number 0)) (decimal 0)
  unfolding sum_parts
  zero_writes ps r s = after {p = numeral 0} 0 refl (omega arith) s

  tree_writes : (zs : List ℤ) (k : ℕ) → CoefsInRange zs → 1 ≤ k → k + length zs ≤ suc q → Writes q (tree k zs) (terms k zs)
  unfolding tree terms
  tree_writes [] k f l h = zero_writes
  tree_writes (pos zero ∷ zs) k f l h = tree_writes zs (suc k) (λ i m. f (suc i) (omega arith)) (omega arith) (omega arith)
  tree_writes (pos (suc n) ∷ zs) k f l h =
      later_writes zs (suc k) _ (multiple (suc n) k) (λ i m. f (suc i) (omega arith)) (omega arith) (omega arith)
      (bare_writes (suc n) k (omega arith) (omega (arith, f 0 (omega arith))) l (omega arith))
  tree_writes (negsuc n ∷ zs) k f l h =
      later_writes zs (suc k) _ (sign_byte minus ∷ multiple (suc n) k) (λ i m. f (suc i) (omega arith)) (omega arith) (omega arith)
      (led_writes (suc n) k (omega arith) (omega (arith, f 0 (omega arith))) l (omega arith))

  number_spells : (z : ℤ) → nat_abs z ≤ coef_limit → Spells q (sum_parts (number_tree z) []) (space ∷ texts.numeral z)
  unfolding sum_parts
  number_spells (pos n) l = after {p = numeral n} 1 (ap (λ x. space ∷ x) (sym (append-nil (decimal n)))) (omega arith) done
  number_spells (negsuc n) l = after {p = sign minus} 1 refl tt (after {p = numeral (suc n)} 0 (sym (append-nil (decimal (suc n)))) (omega arith) done)

-- what is written begins with no space
terms_begin : (zs : List ℤ) (k : ℕ) (r : List ℕ) → get_or (terms k zs ++ r) 0 0 ≡ space → ⊥
unfolding terms
terms_begin [] k r e = let b = begins 0 in let w = ap (λ x. get_or x 0 0) (by_first 0 b r) in omega (arith, w, e)
terms_begin (pos zero ∷ zs) k r e = terms_begin zs (suc k) r e
terms_begin (pos (suc zero) ∷ zs) k r e = omega (arith, e)
terms_begin (pos (suc (suc n)) ∷ zs) k r e =
    let b = begins (suc (suc n)) in
    let w = ap (λ x. get_or x 0 0)
    (append_assoc (multiple (suc (suc n)) k) (later_terms (suc k) zs) r ∙ append_assoc (decimal (suc (suc n))) _ _ ∙ by_first (suc (suc n)) b _) in
    omega (arith, w, e)
terms_begin (negsuc n ∷ zs) k r e = omega (arith, e)

-- What is written has the row's tree for a reading.
pub written_reads : (row : List ℤ) (right : ℤ) → CoefsInRange row → nat_abs right ≤ coef_limit → Reads (length row) (tree_of row right) (written row right)
unfolding tree_of written parts
written_reads row right f l =
    record {
      spells = tree_writes (length row) row 1 f (omega arith) (omega arith) _ _ (after {p = equals} 1 refl tt (number_spells (length row) right l));
      begins = terms_begin row 1 _;
    }

-- ---- the meaning

-- the coefficients zs from unknown k on, at unknown i
from : ℕ → List ℤ → ℕ → ℤ
from k [] i = pos 0
from k (z ∷ zs) i = single k z i +ℤ from (suc k) zs i

single_zero : (k i : ℕ) → single k (pos 0) i ≡ pos 0
single_zero k i = go (eqb i k)
  where
    go : (b : Bool) → cond b (pos 0) (pos 0) ≡ pos 0
    go true = refl
    go false = refl

multiple_value : (m k i : ℕ) → 1 ≤ m → of_term (multiple_term m k) i ≡ single k (pos m) i
unfolding of_term of_factor lib.IntN.one
multiple_value zero k i l = absurd (omega arith)
multiple_value (suc zero) k i l = refl
multiple_value (suc (suc m)) k i l = go (eqb i k)
  where
    go : (b : Bool) → pos (suc (suc m)) *ℤ cond b (pos 1) (pos 0) ≡ cond b (pos (suc (suc m))) (pos 0)
    go true = *ℤ-one (pos (suc (suc m)))
    go false = *ℤ-zero (pos (suc (suc m)))

negated : (n k i : ℕ) → neg_ℤ (single k (pos (suc n)) i) ≡ single k (negsuc n) i
negated n k i = go (eqb i k)
  where
    go : (b : Bool) → neg_ℤ (cond b (pos (suc n)) (pos 0)) ≡ cond b (negsuc n) (pos 0)
    go true = refl
    go false = refl

later_value : (zs : List ℤ) (e : Sum) (k i : ℕ) → of_sum (later_tree e k zs) i ≡ of_sum e i +ℤ from k zs i
unfolding later_tree from of_sum
later_value [] e k i = sym (+ℤ_idr (of_sum e i))
later_value (pos zero ∷ zs) e k i = later_value zs e (suc k) i ∙ rw (single_zero k i, +ℤ_idl)
later_value (pos (suc n) ∷ zs) e k i =
    later_value zs (more e plus (multiple_term (suc n) k)) (suc k) i
    ∙ rw (multiple_value (suc n) k i (omega arith), +ℤ_assoc)
later_value (negsuc n ∷ zs) e k i =
    later_value zs (more e minus (multiple_term (suc n) k)) (suc k) i
    ∙ rw (multiple_value (suc n) k i (omega arith), negated, +ℤ_assoc)

tree_value : (zs : List ℤ) (k i : ℕ) → of_sum (tree k zs) i ≡ from k zs i
unfolding tree from of_sum
tree_value [] k i = single_zero 0 i
tree_value (pos zero ∷ zs) k i = tree_value zs (suc k) i ∙ rw (single_zero k i, +ℤ_idl)
tree_value (pos (suc n) ∷ zs) k i = later_value zs (one bare (multiple_term (suc n) k)) (suc k) i ∙ rw (multiple_value (suc n) k i (omega arith))
tree_value (negsuc n ∷ zs) k i = later_value zs (one (led minus) (multiple_term (suc n) k)) (suc k) i ∙ rw (multiple_value (suc n) k i (omega arith), negated)

from_below : (zs : List ℤ) (k i : ℕ) → i < k → from k zs i ≡ pos 0
unfolding from
from_below [] k i l = refl
from_below (z ∷ zs) k i l = rw (ne_eqb i k (λ e. omega arith), from_below zs (suc k) i (omega arith))

from_at : (zs : List ℤ) (k j : ℕ) → from k zs (k + j) ≡ get_or zs j (pos 0)
unfolding from
from_at [] k zero = refl
from_at [] k (suc j) = refl
from_at (z ∷ zs) k zero =
    let e : k + 0 ≡ k = omega arith in
    rw (e, eq-eqb k k refl, from_below zs (suc k) k (omega arith), +ℤ_idr)
from_at (z ∷ zs) k (suc j) =
    let e : k + suc j ≡ suc k + j = omega arith in
    rw (e, ne_eqb (suc k + j) k (λ h. omega arith), from_at zs (suc k) j) (+ℤ_idl (get_or zs j (pos 0)))

number_value : (z : ℤ) (i : ℕ) → of_sum (number_tree z) i ≡ single 0 z i
unfolding of_sum
number_value (pos n) i = refl
number_value (negsuc n) i = negated n 0 i

-- The reading's row is the row that was written.
pub written_coefficient : (row : List ℤ) (right : ℤ) (j : ℕ) → coefficient (tree_of row right) (suc j) ≡ get_or row j (pos 0)
unfolding tree_of coefficient
written_coefficient row right j =
    let e : suc j ≡ 1 + j = omega arith in
    rw (tree_value row 1 (suc j), number_value right (suc j), ne_eqb (suc j) 0 (λ h. omega arith), e, from_at row 1 j) (+ℤ_idr _)

pub written_right : (row : List ℤ) (right : ℤ) → right_side (tree_of row right) ≡ right
unfolding tree_of right_side
written_right row right = rw (tree_value row 1 0, number_value right 0, from_below row 1 0 (omega arith)) (+ℤ_idr right)

-- ---- the limits: no bracket

plain_depth : (m k : ℕ) → term_depth (multiple_term m k) ≡ 0
unfolding term_depth
plain_depth zero k = refl
plain_depth (suc zero) k = refl
plain_depth (suc (suc m)) k = refl

later_depth : (zs : List ℤ) (e : Sum) (k : ℕ) → sum_depth e ≡ 0 → sum_depth (later_tree e k zs) ≡ 0
unfolding later_tree sum_depth
later_depth [] e k h = h
later_depth (pos zero ∷ zs) e k h = later_depth zs e (suc k) h
later_depth (pos (suc n) ∷ zs) e k h = later_depth zs (more e plus (multiple_term (suc n) k)) (suc k) (rw (h, plain_depth (suc n) k))
later_depth (negsuc n ∷ zs) e k h = later_depth zs (more e minus (multiple_term (suc n) k)) (suc k) (rw (h, plain_depth (suc n) k))

tree_depth : (zs : List ℤ) (k : ℕ) → sum_depth (tree k zs) ≡ 0
unfolding tree sum_depth
tree_depth [] k = refl
tree_depth (pos zero ∷ zs) k = tree_depth zs (suc k)
tree_depth (pos (suc n) ∷ zs) k = later_depth zs (one bare (multiple_term (suc n) k)) (suc k) (plain_depth (suc n) k)
tree_depth (negsuc n ∷ zs) k = later_depth zs (one (led minus) (multiple_term (suc n) k)) (suc k) (plain_depth (suc n) k)

number_depth : (z : ℤ) → sum_depth (number_tree z) ≡ 0
unfolding sum_depth
number_depth (pos n) = refl
number_depth (negsuc n) = refl

pub written_depth : (row : List ℤ) (right : ℤ) → (sum_depth (tree_of row right).left ≡ 0) × (sum_depth (tree_of row right).right ≡ 0)
unfolding tree_of
written_depth row right = (tree_depth row 1, number_depth right)

plain_exceeds : (m k p : ℕ) → term_exceeds (multiple_term m k) p ≡ false
unfolding term_exceeds
plain_exceeds zero k p = refl
plain_exceeds (suc zero) k p = refl
plain_exceeds (suc (suc m)) k p = refl

later_exceeds : (zs : List ℤ) (e : Sum) (k p : ℕ) → sum_exceeds e p ≡ false → sum_exceeds (later_tree e k zs) p ≡ false
unfolding later_tree sum_exceeds
later_exceeds [] e k p h = h
later_exceeds (pos zero ∷ zs) e k p h = later_exceeds zs e (suc k) p h
later_exceeds (pos (suc n) ∷ zs) e k p h = later_exceeds zs (more e plus (multiple_term (suc n) k)) (suc k) p (rw (h, plain_exceeds (suc n) k p))
later_exceeds (negsuc n ∷ zs) e k p h = later_exceeds zs (more e minus (multiple_term (suc n) k)) (suc k) p (rw (h, plain_exceeds (suc n) k p))

tree_exceeds : (zs : List ℤ) (k p : ℕ) → sum_exceeds (tree k zs) p ≡ false
unfolding tree sum_exceeds
tree_exceeds [] k p = refl
tree_exceeds (pos zero ∷ zs) k p = tree_exceeds zs (suc k) p
tree_exceeds (pos (suc n) ∷ zs) k p = later_exceeds zs (one bare (multiple_term (suc n) k)) (suc k) p (plain_exceeds (suc n) k p)
tree_exceeds (negsuc n ∷ zs) k p = later_exceeds zs (one (led minus) (multiple_term (suc n) k)) (suc k) p (plain_exceeds (suc n) k p)

number_exceeds : (z : ℤ) (p : ℕ) → sum_exceeds (number_tree z) p ≡ false
unfolding sum_exceeds
number_exceeds (pos n) p = refl
number_exceeds (negsuc n) p = refl

pub written_exceeds : (row : List ℤ) (right : ℤ) (p : ℕ) → (sum_exceeds (tree_of row right).left p ≡ false) × (sum_exceeds (tree_of row right).right p ≡ false)
unfolding tree_of
written_exceeds row right p = (tree_exceeds row 1 p, number_exceeds right p)

-- ---- the length: at most fifteen bytes for each unknown

pub multiple_short : (m k : ℕ) → m ≤ coef_limit → k ≤ 99 → length (multiple m k) ≤ 9
multiple_short zero k l h = omega arith
multiple_short (suc zero) k l h = omega (arith, digits_most 1 k (omega arith))
multiple_short (suc (suc m)) k l h =
    rw (length-append (decimal (suc (suc m)))) (omega (arith, digits_most 1 k (omega arith), digits_most 4 (suc (suc m)) (omega arith)))

later_short : (zs : List ℤ) (k : ℕ) → CoefsInRange zs → k + length zs ≤ 99 → length (later_terms k zs) ≤ 15 * length zs
unfolding later_terms
later_short [] k f h = omega arith
later_short (pos zero ∷ zs) k f h = omega (arith, later_short zs (suc k) (λ i m. f (suc i) (omega arith)) (omega arith))
later_short (pos (suc n) ∷ zs) k f h =
    rw (length-append (spaced_sign plus ++ multiple (suc n) k))
    (omega (arith, multiple_short (suc n) k (f 0 (omega arith)) (omega arith), later_short zs (suc k) (λ i m. f (suc i) (omega arith)) (omega arith)))
later_short (negsuc n ∷ zs) k f h =
    rw (length-append (spaced_sign minus ++ multiple (suc n) k))
    (omega (arith, multiple_short (suc n) k (f 0 (omega arith)) (omega arith), later_short zs (suc k) (λ i m. f (suc i) (omega arith)) (omega arith)))

terms_short : (zs : List ℤ) (k : ℕ) → CoefsInRange zs → k + length zs ≤ 99 → length (terms k zs) ≤ 15 * length zs + 1
unfolding terms
terms_short [] k f h = omega (arith, digits_most 0 0 (omega arith))
terms_short (pos zero ∷ zs) k f h = omega (arith, terms_short zs (suc k) (λ i m. f (suc i) (omega arith)) (omega arith))
terms_short (pos (suc n) ∷ zs) k f h =
    rw (length-append (multiple (suc n) k))
    (omega (arith, multiple_short (suc n) k (f 0 (omega arith)) (omega arith), later_short zs (suc k) (λ i m. f (suc i) (omega arith)) (omega arith)))
terms_short (negsuc n ∷ zs) k f h =
    rw (length-append (sign_byte minus ∷ multiple (suc n) k))
    (omega (arith, multiple_short (suc n) k (f 0 (omega arith)) (omega arith), later_short zs (suc k) (λ i m. f (suc i) (omega arith)) (omega arith)))

numeral_short : (z : ℤ) → nat_abs z ≤ coef_limit → length (texts.numeral z) ≤ 6
numeral_short (pos n) l = omega (arith, digits_most 4 n (omega arith))
numeral_short (negsuc n) l = omega (arith, digits_most 4 (suc n) (omega arith))

pub written_short : (row : List ℤ) (right : ℤ) → length row ≤ 16 → CoefsInRange row → nat_abs right ≤ coef_limit → length (written row right) ≤ 256
unfolding written
written_short row right l f h = rw (length-append (terms 1 row)) (omega (arith, terms_short row 1 f (omega arith), numeral_short right h))
