-- The lines of a text, and what is read of them: a line is read exactly if it is in the form. Assumes nothing.
use Rattle.std.specs.Prelude.{ℕ, zero, suc, ◌+◌, ◌≤◌, ◌<◌, Bool, true, false, cond, List, [], ◌∷◌, ◌++◌, ◌≡◌, refl, eqb, ℤ, pos, negsuc, length}
use Rattle.std.proofs.Common.{append_assoc, sym, ap, ◌∙◌, arith, ne_eqb}
use Rattle.texts.specs.Decimals.{newline, decimal, numeral}
use Rattle.texts.proofs.DecimalLaws.{decimal_digit, decimal_more, by_digits}
use Rattle.texts.specs.Reading.{Parse, parsed, malformed}
use Rattle.texts.proofs.ParseLaws.{not_parsed}
use Rattle.map_spec.specs.Form.{line}
use Rattle.map_spec.specs.Reading.{read_line, rows, malformed_at, at_line, read_rows}
use Rattle.map_text.specs.Rules.{line_of, after_line, after_lines, Begins, InForm, RowInForm}
use Rattle.map_text.proofs.ReadLaws.{line_read, at_line_lem, not_rows}
use Rattle.map_text.proofs.WriteLaws.{line_back}

-- ---- splitting

-- a text is its first line and what stands after it
pub split : (t : List ℕ) → line_of t ++ after_line t ≡ t
unfolding line_of after_line
split [] = refl
split (b ∷ t) = by (eqb b newline) (split t)
  where
    by : (d : Bool) → line_of t ++ after_line t ≡ t → (b ∷ cond d [] (line_of t)) ++ cond d t (after_line t) ≡ b ∷ t
    by true e = refl
    by false e = ap (λ x. b ∷ x) e

after_none : (n : ℕ) → after_lines n [] ≡ []
unfolding after_lines after_line
after_none zero = refl
after_none (suc n) = after_none n

-- ---- a written line has one newline, at its end

abbrev Plain : List ℕ → Type 0
Plain [] = Unit {0}
Plain (b ∷ t) = (b ≡ newline → ⊥) × Plain t

plain_append : (x y : List ℕ) → Plain x → Plain y → Plain (x ++ y)
plain_append [] y f g = g
plain_append (b ∷ x) y f g = (f.0, plain_append x y f.1 g)

plain_decimal : (n : ℕ) → Plain (decimal n)
plain_decimal =
    by_digits (λ n. Plain (decimal n))
    (λ n l. rw (decimal_digit n l) (λ e. omega arith, tt))
    (λ n l f. rw (decimal_more n l) (plain_append (decimal _) _ f (λ e. omega arith, tt)))

plain_numeral : (z : ℤ) → Plain (numeral z)
plain_numeral (pos n) = plain_decimal n
plain_numeral (negsuc n) = (λ e. omega arith, plain_decimal (suc n))

passed : (x t : List ℕ) → Plain x → (line_of (x ++ t) ≡ x ++ line_of t) × (after_line (x ++ t) ≡ after_line t)
unfolding line_of after_line
passed [] t f = (refl, refl)
passed (b ∷ x) t f = let (e, g) = passed x t f.1 in rw (ne_eqb b newline f.0) (ap (λ y. b ∷ y) e, g)

line_splits : (z : ℤ) (zs : List ℤ) (r : List ℕ) → (line_of (line (z ∷ zs) ++ r) ≡ line (z ∷ zs)) × (after_line (line (z ∷ zs) ++ r) ≡ r)
unfolding line line_of after_line
line_splits z [] r = let (e, g) = passed (numeral z) (newline ∷ r) (plain_numeral z) in rw append_assoc (e, g)
line_splits z (y ∷ ys) r =
    let (e, g) = passed (numeral z) (32 ∷ (line (y ∷ ys) ++ r)) (plain_numeral z) in
    let (i, j) = line_splits y ys r in
    rw append_assoc (e ∙ ap (λ x. numeral z ++ 32 ∷ x) i, g ∙ j)

some_splits : (zs : List ℤ) (r : List ℕ) → 1 ≤ length zs → (line_of (line zs ++ r) ≡ line zs) × (after_line (line zs ++ r) ≡ r)
some_splits [] r l = absurd (omega arith)
some_splits (z ∷ zs) r l = line_splits z zs r

-- ---- a line

-- what was read is a line in the form
pub read_begins : (k : ℕ) (ys : List ℤ) (t : List ℕ) {xs : List ℤ} {r : List ℕ} → 1 ≤ k → read_line k ys t ≡ parsed xs r
    → (zs : List ℤ) × Begins k zs t × (xs ≡ ys ++ zs) × (after_line t ≡ r)
read_begins k ys t {xs} {r} l e =
    let a = line_read k ys t e in
    let (s, u) = some_splits a.numbers r (omega (arith, a.count)) in
    (a.numbers, record { count = a.count; short = a.short; text = ap line_of a.text ∙ s }, a.after, ap after_line a.text ∙ u)

-- and a line in the form is read
pub begins_read : {k : ℕ} {zs : List ℤ} {t : List ℕ} (ys : List ℤ) → Begins k zs t → read_line k ys t ≡ parsed (ys ++ zs) (after_line t)
begins_read {k} {zs} {t} ys b =
    let e : t ≡ line zs ++ after_line t = sym (split t) ∙ ap (λ x. x ++ after_line t) b.text in
    ap (read_line k ys) e ∙ (rw b.count at (line_back zs ys (after_line t) b.short))

pub malformed_line : {k : ℕ} (ys : List ℤ) (t : List ℕ) → read_line k ys t ≡ malformed → ¬ (InForm k t)
malformed_line ys t e (zs, b) = not_parsed (sym e ∙ begins_read ys b)

-- ---- the rows: k lines of q numbers, and nothing after them

-- line j from here on is the first that is not as it has to be
pub record FirstBad (k q : ℕ) (t : List ℕ) (j : ℕ) : Type 0 where
  pub within : j ≤ k
  pub bad : ¬ (RowInForm k q j (after_lines j t))
  pub before : (i : ℕ) → i < j → RowInForm k q i (after_lines i t)

row_next : {k q i : ℕ} {t : List ℕ} → RowInForm k q i t → RowInForm (suc k) q (suc i) t
row_next f = (λ l. f.0 (omega arith), λ l. f.1 (omega arith))

row_back : {k q i : ℕ} {t : List ℕ} → RowInForm (suc k) q (suc i) t → RowInForm k q i t
row_back f = (λ l. f.0 (omega arith), λ l. f.1 (omega arith))

-- a row in the form before others
rows_after : {k q : ℕ} {t r : List ℕ} → InForm q t → after_line t ≡ r → ((i : ℕ) → RowInForm k q i (after_lines i r)) → (i : ℕ)
    → RowInForm (suc k) q i (after_lines i t)
unfolding after_lines
rows_after f e g zero = (λ l. f, λ l. absurd (omega arith))
rows_after f e g (suc i) = rw e (row_next (g i))

bad_after : {k q j : ℕ} {t r : List ℕ} → InForm q t → after_line t ≡ r → FirstBad k q r j → FirstBad (suc k) q t (suc j)
unfolding after_lines
bad_after {k} {q} {j} {t} {r} f e g =
    record { within = omega (arith, g.within); bad = λ h. g.bad (row_back (rw e at h)); before = before }
  where
    before : (i : ℕ) → i < suc j → RowInForm (suc k) q i (after_lines i t)
    before zero l = (λ m. f, λ m. absurd (omega arith))
    before (suc i) l = rw e (row_next (g.before i (omega arith)))

bad_first : {k q : ℕ} {t : List ℕ} → ¬ (RowInForm k q 0 t) → FirstBad k q t 0
unfolding after_lines
bad_first h = record { within = omega arith; bad = h; before = λ i l. absurd (omega arith) }

pub rows_all : (k q n : ℕ) (zs : List ℤ) (t : List ℕ) {ys : List ℤ} → 1 ≤ q → read_rows k q n zs t ≡ rows ys → (i : ℕ) → RowInForm k q i (after_lines i t)
unfolding read_rows
rows_all zero q n zs [] l e i = (λ m. absurd (omega arith), λ m. after_none i)
rows_all zero q n zs (b ∷ t) l e i = not_rows e
rows_all (suc k) q n zs t l e i =
    let (xs, s, g, h) = at_line_lem n (read_line q zs t) (read_rows k q (suc n)) e in
    let (ws, b, x, a) = read_begins q zs t l g in
    rows_after (ws, b) a (rows_all k q (suc n) xs s l h) i

rows_nothing : {P : Type 0} {n : ℕ} {ys : List ℤ} → rows ys ≡ malformed_at n → P
rows_nothing e = not_rows (sym e)

pub rows_bad : (k q n : ℕ) (zs : List ℤ) (t : List ℕ) {m : ℕ} → 1 ≤ q → read_rows k q n zs t ≡ malformed_at m → (j : ℕ) × (m ≡ n + j) × FirstBad k q t j
unfolding read_rows
rows_bad zero q n zs [] l e = rows_nothing e
rows_bad zero q n zs (b ∷ t) {m} l e =
    let f : m ≡ n = cc in
    (0, f ∙ omega arith, bad_first (λ h. let g = h.1 (omega arith) in let z : ◌≡◌ {A = ℕ} 0 1 = cc in omega arith))
rows_bad (suc k) q n zs t {m} l e = by (λ xs r m. rows_bad k q (suc n) xs r {m = m} l) (read_line q zs t) refl e
  where
    by : ((xs : List ℤ) (r : List ℕ) (m : ℕ) → read_rows k q (suc n) xs r ≡ malformed_at m → (j : ℕ) × (m ≡ suc n + j) × FirstBad k q r j)
        → (p : Parse (List ℤ)) → read_line q zs t ≡ p → at_line n p (read_rows k q (suc n)) ≡ malformed_at m → (j : ℕ) × (m ≡ n + j) × FirstBad (suc k) q t j
    by ih malformed f g =
        let x : m ≡ n = cc in
        (0, x ∙ omega arith, bad_first (λ h. malformed_line zs t f (h.0 (omega arith))))
    by ih (parsed xs r) f g =
        let (ws, b, y, a) = read_begins q zs t l f in
        let (j, x, bad) = ih xs r m g in
        (suc j, omega arith, bad_after (ws, b) a bad)
