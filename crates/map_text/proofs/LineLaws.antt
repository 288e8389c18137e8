-- How lines are read, number by number. Assumes nothing.
use Prim.Native.Nat.{ℕ, zero, suc, ◌+◌, ◌*◌, ◌-◌, ◌≤◌, ◌<◌}
use Rattle.std.specs.Prelude.{List, [], ◌∷◌, ◌++◌, ◌≡◌, ℤ, length, get_or, drop, take, set}
use Rattle.std.proofs.Math.Path.{refl}
use Rattle.std.proofs.Common.{mul-le-mul, add-one, take-suc-set, eq-eqb, ne_eqb}
use native.Mathlib.Omega.{arith}
use Rattle.std.proofs.Math.ListN.{drop_of_length-le}
use Rattle.texts.specs.Reading.{parsed, malformed}
use Rattle.texts.proofs.ParseLaws.{then_malformed, then_parsed}
use Rattle.texts.proofs.NumberLaws.{byte_at}
use Rattle.map_spec.specs.Reading.{ended_by, read_field, read_line, rows, malformed_at, read_rows}
use Rattle.map_text.specs.Places.{Shape}

-- ---- the byte at place i, after z

module _ (t : List ℕ) (i s : ℕ) (z : ℤ) where
  pub no_byte : length t ≤ i → malformed ≡ ended_by s z (drop i t)
  no_byte l = rw (drop_of_length-le t l)

  pub other_byte : i < length t → (get_or t i 0 ≡ s → ⊥) → malformed ≡ ended_by s z (drop i t)
  other_byte l e = rw (byte_at t i l, ne_eqb _ s e)

  pub this_byte : i < length t → get_or t i 0 ≡ s → parsed z (drop (i + 1) t) ≡ ended_by s z (drop i t)
  this_byte l e = rw (byte_at t i l, eq-eqb _ s e)

-- ---- a line: k numbers are left to read

module _ (zs : List ℤ) (t : List ℕ) where
  pub line_done : (k : ℕ) → k ≤ 0 → parsed zs t ≡ read_line k zs t
  unfolding read_line
  line_done zero l = refl
  line_done (suc k) l = absurd (omega arith)

  pub line_malformed : (k : ℕ) → 0 < k → malformed ≡ read_field (k - 1) t → malformed ≡ read_line k zs t
  unfolding read_line
  line_malformed zero l e = absurd (omega arith)
  line_malformed (suc k) l e = let s : suc k - 1 ≡ k = omega arith in then_malformed _ (rw s at e)

  pub line_number : (k : ℕ) {z : ℤ} {r : List ℕ} → 0 < k → parsed z r ≡ read_field (k - 1) t → read_line (k - 1) (zs ++ (z ∷ [])) r ≡ read_line k zs t
  unfolding read_line
  line_number zero l e = absurd (omega arith)
  line_number (suc k) l e = let s : suc k - 1 ≡ k = omega arith in rw s (then_parsed _ (rw s at e))

-- one more number in the table
pub take_next : (zs : List ℤ) (i : ℕ) (z : ℤ) → i < length zs → take (i + 1) (set zs i z) ≡ take i zs ++ (z ∷ [])
take_next zs i z l = rw add-one (take-suc-set zs i z l)

-- ---- the rows: of p lines of q numbers, i were read

pub row_inside : {p q n : ℕ} (i : ℕ) → Shape p q n → i < p → i * q + q ≤ n
row_inside {p} {q} i s l = omega (arith, s.entries, mul-le-mul {n₁ = i + 1} {m₁ = q} {n₂ = 8} {m₂ = 16} (omega (arith, s.equations)) s.unknowns)

pub rows_inside : {p q n : ℕ} → Shape p q n → p * q ≤ 128
rows_inside s = mul-le-mul s.equations s.unknowns

module _ (p q i : ℕ) (zs : List ℤ) (t : List ℕ) where
  pub rows_malformed : i < p → malformed ≡ read_line q zs t → malformed_at (i + 2) ≡ read_rows (p - i) q (i + 2) zs t
  unfolding read_rows
  rows_malformed l e = let s : p - i ≡ suc (p - i - 1) = omega arith in rw (s, ← e)

  pub rows_line : (table : List ℤ) {r : List ℕ} → i < p → parsed (take (i * q + q) table) r ≡ read_line q zs t
      → read_rows (p - (i + 1)) q (i + 1 + 2) (take ((i + 1) * q) table) r ≡ read_rows (p - i) q (i + 2) zs t
  unfolding read_rows
  rows_line table l e =
      let s : p - i ≡ suc (p - (i + 1)) = omega arith in
      let n : i + 1 + 2 ≡ suc (i + 2) = omega arith in
      let m : (i + 1) * q ≡ i * q + q = omega arith in
      rw (s, n, m, ← e)

module _ (p q i : ℕ) (table : List ℤ) (t : List ℕ) (at : ℕ) (l : i ≤ p) (m : p ≤ i) where
  pub rows_end : length t ≤ at → rows (take (p * q) table) ≡ read_rows (p - i) q (i + 2) (take (i * q) table) (drop at t)
  unfolding read_rows
  rows_end e = let s : p - i ≡ 0 = omega arith in let n : i ≡ p = omega arith in rw (s, n, drop_of_length-le t e)

  pub rows_extra : at < length t → malformed_at (p + 2) ≡ read_rows (p - i) q (i + 2) (take (i * q) table) (drop at t)
  unfolding read_rows
  rows_extra e = let s : p - i ≡ 0 = omega arith in let n : i ≡ p = omega arith in rw (s, n, byte_at t at e)
