-- What is written is read back. Assumes nothing.
use Rattle.std.specs.Prelude.{ℕ, zero, suc, ◌+◌, ◌*◌, ◌^◌, ◌≤◌, ◌<◌, List, [], ◌∷◌, ◌++◌, ◌≡◌, refl, ℤ, pos, negsuc, nat_abs, length, get_or, take, drop}
use Rattle.std.proofs.Common.{append-nil, append_assoc, arith, length-append, length-take, length-drop, take-append-drop, get_or-take, get_or-drop}
use Rattle.std.proofs.Common.{length-take-le, eq-eqb}
use Rattle.std.proofs.Math.Seq.{append_snoc}
use Rattle.definitions.specs.System.{coef_limit}
use Rattle.texts.specs.Decimals.{numeral, separator}
use Rattle.texts.specs.Reading.{parsed, and_then}
use Rattle.texts.proofs.DecimalLaws.{digits_most}
use Rattle.texts.proofs.WriteLaws.{number_back, separator_ends}
use Rattle.map_spec.specs.Form.{most_digits, ShortNumbers, line, lines, CoefsInRange}
use Rattle.map_spec.specs.Reading.{read_field, read_line, rows, read_rows}

-- ---- a number, and what separates it from the next

field_back : (k : ℕ) (z : ℤ) (t : List ℕ) → nat_abs z < 10 ^ most_digits → read_field k (numeral z ++ separator k ∷ t) ≡ parsed z t
unfolding read_field and_then
field_back k z t l = rw (number_back 5 z (separator k ∷ t) l (separator_ends k), eq-eqb (separator k) (separator k) refl)

-- ---- lines

-- what holds of every number holds of every number of a part
module _ (P : ℤ → Type 0) (zs : List ℤ) (f : (i : ℕ) → i < length zs → P (get_or zs i (pos 0))) where
  take_each : (n i : ℕ) → i < length (take n zs) → P (get_or (take n zs) i (pos 0))
  take_each n i l = let m = length-take n zs in rw (get_or-take n zs i (pos 0) (omega arith)) (f i (omega arith))

  drop_each : (n i : ℕ) → i < length (drop n zs) → P (get_or (drop n zs) i (pos 0))
  drop_each n i l = rw (get_or-drop n zs i (pos 0)) (f (n + i) (omega (arith, length-drop n zs)))

abbrev Short : ℤ → Type 0
Short z = nat_abs z < 10 ^ most_digits

pub line_back : (zs ys : List ℤ) (t : List ℕ) → ShortNumbers zs → read_line (length zs) ys (line zs ++ t) ≡ parsed (ys ++ zs) t
unfolding read_line line and_then
line_back [] ys t f = rw append-nil
line_back (z ∷ zs) ys t f =
    rw (
      append_assoc,
      field_back (length zs) z (line zs ++ t) (f 0 (omega arith)),
      line_back zs (ys ++ (z ∷ [])) t (λ i l. f (suc i) (omega arith)),
      append_snoc,
    )

pub rows_back : (k q n : ℕ) (ys zs : List ℤ) → length zs ≡ k * q → ShortNumbers zs → read_rows k q n ys (lines k q zs) ≡ rows (ys ++ zs)
unfolding read_rows lines
rows_back zero q n ys [] e f = rw append-nil
rows_back zero q n ys (z ∷ zs) e f = absurd (omega arith)
rows_back (suc k) q n ys zs e f =
    let l : length (take q zs) ≡ q = length-take-le q zs (omega arith) in
    let g = line_back (take q zs) ys (lines k q (drop q zs)) (take_each Short zs f q) in
    let h = rows_back k q (suc n) (ys ++ take q zs) (drop q zs) (omega (arith, length-drop q zs)) (drop_each Short zs f q) in
    rw (rw l at g, h, append_assoc, take-append-drop)

-- ---- lengths

abbrev Small : ℤ → Type 0
Small z = nat_abs z ≤ coef_limit

numeral_short : (z : ℤ) → nat_abs z ≤ coef_limit → length (numeral z) ≤ 6
numeral_short (pos n) l = digits_most 5 n (omega arith)
numeral_short (negsuc n) l = omega (arith, digits_most 4 (suc n) (omega arith))

-- at most six bytes and a separator for each number
pub line_short : (zs : List ℤ) → CoefsInRange zs → length (line zs) ≤ 7 * length zs
unfolding line
line_short [] f = omega arith
line_short (z ∷ zs) f =
    rw (length-append (numeral z)) (omega (arith, numeral_short z (f 0 (omega arith)), line_short zs (λ i l. f (suc i) (omega arith))))

pub lines_short : (k q : ℕ) (zs : List ℤ) → length zs ≡ k * q → CoefsInRange zs → length (lines k q zs) ≤ 7 * length zs
unfolding lines
lines_short zero q zs e f = omega arith
lines_short (suc k) q zs e f =
    rw (length-append (line (take q zs)))
    (omega (
      arith,
      length-take q zs,
      length-drop q zs,
      line_short (take q zs) (take_each Small zs f q),
      lines_short k q (drop q zs) (omega (arith, length-drop q zs)) (drop_each Small zs f q),
    ))
