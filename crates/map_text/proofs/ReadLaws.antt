-- What was read stands in the text as it is written. Assumes nothing.
use Rattle.std.specs.Prelude.{ℕ, zero, suc, ◌*◌, ◌^◌, ◌<◌, List, [], ◌∷◌, ◌++◌, ◌≡◌, refl, eqb, ℤ, nat_abs, length}
use Rattle.std.proofs.Common.{append-nil, append_assoc, sym, ap, ◌∙◌, arith, length-append, take_at, drop_at, eqb-true}
use Rattle.std.proofs.Math.Seq.{append_snoc}
use Rattle.texts.specs.Decimals.{numeral, separator}
use Rattle.texts.specs.Reading.{Parse, parsed, malformed, read_number}
use Rattle.texts.proofs.ParseLaws.{not_parsed, same, cond_cases, and_then_lem}
use Rattle.texts.proofs.NumberLaws.{number_below}
use Rattle.texts.proofs.ReadLaws.{number_read}
use Rattle.map_spec.specs.Form.{most_digits, ShortNumbers, line, lines}
use Rattle.map_spec.specs.Reading.{ended_by, read_field, read_line, Rows, rows, malformed_at, at_line, read_rows}

-- ---- numbers

ended_read : (s : ℕ) (x : ℤ) (t : List ℕ) {z : ℤ} {r : List ℕ} → ended_by s x t ≡ parsed z r → (x ≡ z) × (t ≡ s ∷ r)
ended_read s x [] e = not_parsed e
ended_read s x (b ∷ t) e =
    cond_cases (eqb b s) e (λ d f. let (a, c) = same f in (a, rw (eqb-true b s d, c))) (λ d f. not_parsed f)

pub field_read : (k : ℕ) (t : List ℕ) {z : ℤ} {r : List ℕ} → read_field k t ≡ parsed z r → t ≡ numeral z ++ separator k ∷ r
unfolding read_field
field_read k t e =
    let (x, s, g, h) = and_then_lem (read_number most_digits t) (ended_by (separator k)) e in
    let (a, c) = ended_read (separator k) x s h in
    rw (← a, ← c) (number_read most_digits t g)

field_short : (k : ℕ) (t : List ℕ) {z : ℤ} {r : List ℕ} → read_field k t ≡ parsed z r → nat_abs z < 10 ^ most_digits
unfolding read_field
field_short k t e =
    let (x, s, g, h) = and_then_lem (read_number most_digits t) (ended_by (separator k)) e in
    rw (← (ended_read (separator k) x s h).0) (number_below t (record { some = omega arith; few = omega arith }) g)

-- ---- lines

short_cons : (z : ℤ) (zs : List ℤ) → nat_abs z < 10 ^ most_digits → ShortNumbers zs → ShortNumbers (z ∷ zs)
short_cons z zs h f zero l = h
short_cons z zs h f (suc i) l = f i (omega arith)

short_append : (ys zs : List ℤ) → ShortNumbers ys → ShortNumbers zs → ShortNumbers (ys ++ zs)
short_append [] zs f g = g
short_append (y ∷ ys) zs f g = short_cons y (ys ++ zs) (f 0 (omega arith)) (short_append ys zs (λ i l. f (suc i) (omega arith)) g)

-- the numbers ws after zs, as many as k, and the text before r
pub record ReadLine (k : ℕ) (zs : List ℤ) (t : List ℕ) (ys : List ℤ) (r : List ℕ) : Type 0 where
  pub numbers : List ℤ
  pub after : ys ≡ zs ++ numbers
  pub count : length numbers ≡ k
  pub short : ShortNumbers numbers
  pub text : t ≡ line numbers ++ r

pub line_read : (k : ℕ) (zs : List ℤ) (t : List ℕ) {ys : List ℤ} {r : List ℕ} → read_line k zs t ≡ parsed ys r → ReadLine k zs t ys r
unfolding read_line line
line_read zero zs t e = let (a, c) = same e in
    record { numbers = []; after = sym a ∙ sym (append-nil zs); count = refl; short = λ i l. absurd (omega arith); text = c }
line_read (suc k) zs t e =
    let (z, s, g, h) = and_then_lem (read_field k t) (λ z. read_line k (zs ++ (z ∷ []))) e in
    let l = line_read k (zs ++ (z ∷ [])) s h in
    record {
      numbers = z ∷ l.numbers;
      after = l.after ∙ append_snoc zs z l.numbers;
      count = ap suc l.count;
      short = short_cons z l.numbers (field_short k t g) l.short;
      text = rw (l.count, append_assoc, ← l.text) (field_read k t g);
    }

-- the numbers ws after zs, as many as k lines of q have, and all of the text
pub record ReadRows (k q : ℕ) (zs : List ℤ) (t : List ℕ) (ys : List ℤ) : Type 0 where
  pub numbers : List ℤ
  pub after : ys ≡ zs ++ numbers
  pub count : length numbers ≡ k * q
  pub short : ShortNumbers numbers
  pub text : t ≡ lines k q numbers

pub not_rows : {P : Type 0} {n : ℕ} {ys : List ℤ} → malformed_at n ≡ rows ys → P
not_rows e = absurd (let z : ◌≡◌ {A = ℕ} 0 1 = cc in omega arith)

pub at_line_lem : (n : ℕ) (p : Parse (List ℤ)) (f : List ℤ → List ℕ → Rows) {ys : List ℤ} → at_line n p f ≡ rows ys
    → (xs : List ℤ) × (t : List ℕ) × (p ≡ parsed xs t) × (f xs t ≡ rows ys)
at_line_lem n (parsed xs t) f e = (xs, t, refl, e)
at_line_lem n malformed f e = not_rows e

pub rows_read : (k q n : ℕ) (zs : List ℤ) (t : List ℕ) {ys : List ℤ} → read_rows k q n zs t ≡ rows ys → ReadRows k q zs t ys
unfolding read_rows lines
rows_read zero q n zs [] {ys} e =
    let a : ys ≡ zs = cc in record { numbers = []; after = a ∙ sym (append-nil zs); count = omega arith; short = λ i l. absurd (omega arith); text = refl }
rows_read zero q n zs (b ∷ t) e = not_rows e
rows_read (suc k) q n zs t e =
    let (xs, s, g, h) = at_line_lem n (read_line q zs t) (read_rows k q (suc n)) e in
    let l = line_read q zs t g in
    let m = rows_read k q (suc n) xs s h in
    record {
      numbers = l.numbers ++ m.numbers;
      after = m.after ∙ ap (λ (x : List ℤ). x ++ m.numbers) l.after ∙ append_assoc zs l.numbers m.numbers;
      count = rw length-append (omega (arith, l.count, m.count));
      short = short_append l.numbers m.numbers l.short m.short;
      text = rw (take_at l.numbers m.numbers q l.count, drop_at l.numbers m.numbers q l.count, ← m.text) l.text;
    }
