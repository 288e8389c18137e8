-- The lines of rows, number by number and row by row. Assumes nothing.
use Prim.Native.Nat.{ℕ, zero, suc, ◌+◌, ◌*◌, ◌-◌, ◌≤◌, ◌<◌}
use Rattle.std.specs.Prelude.{List, [], ◌∷◌, ◌++◌, map, ◌≡◌, refl, pos, length, get_or, take, drop}
use Rattle.std.proofs.Common.{ap, add-one, length-take, length-drop, drop_of_length-le, drop-cons, drop-drop}
use native.Mathlib.Omega.{arith}
use Rattle.std.proofs.lemmas.List.{length-map}
use Rattle.std.proofs.Math.Seq.{append_snoc}
use Rattle.laws.proofs.TableLaws.{row_fits}
use Rattle.texts.specs.Decimals.{decimal, separator}
use Rattle.map_spec.specs.Form.{line, lines}

-- a number that left numbers of its line follow, and what separates it from them
unfoldable pub field_text : ℕ → ℕ → List ℕ
field_text left n = decimal n ++ separator left ∷ []

-- ---- the numbers of a row

line_cons : (n : ℕ) (row : List ℕ) → line (map pos (n ∷ row)) ≡ field_text (length row) n ++ line (map pos row)
unfolding line field_text
line_cons n row = let e : length (map pos row) ≡ length row = length-map row pos in rw (e, append_snoc)

module _ (row : List ℕ) (i : ℕ) where
  pub row_next : i < length row → line (map pos (drop i row)) ≡ field_text (length row - (i + 1)) (get_or row i 0) ++ line (map pos (drop (i + 1) row))
  row_next l = rw (add-one i, drop-cons row i 0, ← length-drop (suc i) row) (line_cons (get_or row i 0) (drop (suc i) row))

  pub row_done : length row ≤ i → line (map pos (drop i row)) ≡ []
  unfolding line
  row_done l = rw (drop_of_length-le row l)

-- ---- the rows of a list

map_take : (n : ℕ) (l : List ℕ) → take n (map pos l) ≡ map pos (take n l)
map_take zero l = refl
map_take (suc n) [] = refl
map_take (suc n) (a ∷ l) = ap (◌∷◌ (pos a)) (map_take n l)

map_drop : (n : ℕ) (l : List ℕ) → drop n (map pos l) ≡ map pos (drop n l)
map_drop zero l = refl
map_drop (suc n) [] = refl
map_drop (suc n) (a ∷ l) = map_drop n l

module _ (list : List ℕ) (q found k : ℕ) where
  -- row k, as the part of the list from its first number up to the next row
  abbrev pub row_part : List ℕ
  row_part = take (k * q + q - k * q) (drop (k * q) list)

  part_is : row_part ≡ take q (drop (k * q) list)
  part_is = let e : k * q + q - k * q ≡ q = omega arith in rw e

  pub part_size : k < found → found * q ≤ length list → length row_part ≡ q
  part_size l m = rw (part_is, length-take, length-drop) (omega (arith, row_fits q k found l))

  pub rows_next : k < found
      → lines (found - k) q (map pos (drop (k * q) list)) ≡ line (map pos row_part) ++ lines (found - (k + 1)) q (map pos (drop ((k + 1) * q) list))
  unfolding lines
  rows_next l =
      let e : found - k ≡ suc (found - (k + 1)) = omega arith in
      let d : (k + 1) * q ≡ k * q + q = omega arith in
      rw (part_is, e, d, map_take, map_drop, drop-drop)

  pub rows_done : found ≤ k → lines (found - k) q (map pos (drop (k * q) list)) ≡ []
  unfolding lines
  rows_done l = let e : found - k ≡ 0 = omega arith in rw e
