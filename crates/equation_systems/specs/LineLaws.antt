-- Lines byte by byte: where a line ends, and how many there are. Assumes nothing.
use Rattle.std.specs.Prelude.{ℕ, suc, ◌+◌, ◌-◌, ◌≤◌, ◌<◌, max, Bool, true, false, cond, List, [], ◌∷◌, ◌≡◌, eqb, length, get_or, drop}
use Rattle.std.proofs.Common.{sym, ap, ◌∙◌, arith, drop_of_length-le, length-drop}
use borrow.Author.Tests.{eq-eqb, ne_eqb}
use Rattle.texts.specs.Decimals.{newline}
use Rattle.texts.proofs.NumberLaws.{byte_at}
use Rattle.equation_spec.specs.Lines.{line_length, line_count}

-- ---- the end of a line

module _ (t : List ℕ) (i : ℕ) where
  pub at_newline : i < length t → get_or t i 0 ≡ newline → line_length (drop i t) ≡ 0
  unfolding line_length
  at_newline l e = rw (byte_at t i l, eq-eqb _ newline e)

  pub at_other : i < length t → (get_or t i 0 ≡ newline → ⊥) → line_length (drop i t) ≡ suc (line_length (drop (i + 1) t))
  unfolding line_length
  at_other l e = rw (byte_at t i l, ne_eqb _ newline e)

  pub at_end : length t ≤ i → line_length (drop i t) ≡ 0
  unfolding line_length
  at_end l = rw (drop_of_length-le t l)

  -- ---- the number of lines

  pub count_newline : i < length t → get_or t i 0 ≡ newline → line_count (drop i t) ≡ suc (line_count (drop (i + 1) t))
  unfolding line_count
  count_newline l e = rw (byte_at t i l, eq-eqb _ newline e)

  pub count_other : i < length t → (get_or t i 0 ≡ newline → ⊥) → line_count (drop i t) ≡ max 1 (line_count (drop (i + 1) t))
  unfolding line_count
  count_other l e = rw (byte_at t i l, ne_eqb _ newline e)

  pub count_end : length t ≤ i → line_count (drop i t) ≡ 0
  unfolding line_count
  count_end l = rw (drop_of_length-le t l)

pub count_most : (t : List ℕ) → line_count t ≤ length t
unfolding line_count
count_most [] = omega arith
count_most (b ∷ t) = by (eqb b newline) (count_most t)
  where
    by : (d : Bool) → line_count t ≤ length t → cond d (suc (line_count t)) (max 1 (line_count t)) ≤ suc (length t)
    by true l = omega arith
    by false l = omega arith

-- ---- one byte more, from the end on: n lines from place i on

module _ (t : List ℕ) (i n : ℕ) (some : 0 < i) (inside : i ≤ length t) (e : n ≡ line_count (drop i t)) where
  pub next_newline : get_or t (i - 1) 0 ≡ newline → (i - 1 ≤ length t) × (n + 1 ≡ line_count (drop (i - 1) t)) × (n + 1 ≤ length t)
  next_newline h =
      let s : i - 1 + 1 ≡ i = omega arith in
      let a = rw s at (count_newline t (i - 1) (omega arith) h) in
      (omega arith, omega (arith, a), omega (arith, a, count_most (drop (i - 1) t), length-drop (i - 1) t))

  pub next_other : (m : ℕ) → m ≡ max 1 n → (get_or t (i - 1) 0 ≡ newline → ⊥) → (i - 1 ≤ length t) × (m ≡ line_count (drop (i - 1) t)) × (m ≤ length t)
  next_other m g h =
      let s : i - 1 + 1 ≡ i = omega arith in
      let a = rw s at (count_other t (i - 1) (omega arith) h) in
      let b : m ≡ line_count (drop (i - 1) t) = g ∙ ap (max 1) e ∙ sym a in
      (omega arith, b, omega (arith, count_most (drop (i - 1) t), length-drop (i - 1) t))
