-- What the reader's functions answer: whether the reader is refused, and the part of the list table that it shows. Together they are what the
-- definitions have it show (`shown_is`). Assumes nothing.
use Rattle.std.specs.Prelude.{ℕ, ◌+◌, ◌*◌, ◌-◌, ◌/◌, ◌≤◌, ◌<◌, ◌≡◌, refl, Bool, true, false, not, ◌&&◌, List, [], ◌∷◌, take, drop}
use Rattle.std.proofs.Common.{sym, ◌∙◌, ap, arith, length-take-le, le-leb}
use Rattle.std.proofs.Math.Bool.{and-false}
use Rattle.std.proofs.Math.Nat.{mul-le-mul_right, div-mul-le_self}
use Rattle.std.proofs.Math.Dec.{T, leb, leb→le}
use Rattle.std.proofs.Math.ListN.{length, length-drop}
use Rattle.std.proofs.lemmas.Bool.{lt-leb}
use Rattle.linear.proofs.TestLaws.{and_parts}
use Rattle.definitions.specs.Answers.{refuse_with}
use Rattle.definitions.specs.System.{most_unknowns}
use Rattle.definitions.specs.Input.{rights}
use Rattle.definitions.specs.Refusals.{between, most_for}
use Rattle.definitions.specs.Tables.{capacity}
use Rattle.laws.proofs.TableLaws.{row_fits}
use Rattle.definitions.specs.Reader.{
  Shown,
  Which,
  at_zero,
  at_one,
  row,
  none,
  reader_check,
  has_row,
  part_of,
  row_of_either,
  row_part,
  show_if,
  shown_at,
  shown_by,
  shown,
  table_at,
}
use Rattle.reader.specs.declared.Which.{Which as CodeWhich}
use Rattle.reader.specs.declared.Which.TheVariants.{Zero, One}

abbrev pub which_of : CodeWhich → Which
which_of Zero = at_zero
which_of One = at_one

abbrev pub part_if : Bool → List ℕ → List ℕ
part_if true part = part
part_if false part = []

-- the part of the list table that is shown: empty where no row is
unfoldable pub shown_part : ℕ → List ℕ → ℕ → ℕ → List ℕ
shown_part q list found n = part_of (shown q list found n)

-- the same of one list of a capped run, whose system has at most 15 unknowns
unfoldable pub capped_part : ℕ → List ℕ → ℕ → ℕ → List ℕ
capped_part q list found n = part_if (between 1 (most_for (rights [])) q && has_row q list found n) (row_part q list n)

-- whether a row is shown
unfoldable pub shows : ℕ → List ℕ → ℕ → ℕ → Bool
shows q list found n = between 1 most_unknowns q && has_row q list found n

-- an empty part shows that there is no row
abbrev pub show_part : List ℕ → Shown
show_part [] = none
show_part (x ∷ part) = row (x ∷ part)

-- ---- the laws of each, over its tests

part_if_lem : (b h : Bool) (part : List ℕ) → part_of (shown_by (refuse_with (not b) 2 []) (show_if h part)) ≡ part_if (b && h) part
unfolding refuse_with shown_by show_if
part_if_lem true true part = refl
part_if_lem true false part = refl
part_if_lem false h part = refl

not_empty : (part : List ℕ) → 1 ≤ length part → row part ≡ show_part part
not_empty [] l = absurd (omega arith)
not_empty (x ∷ part) l = refl

show_part_lem : (b h : Bool) (part : List ℕ) → (b && h ≡ true → 1 ≤ length part)
    → shown_by (refuse_with (not b) 2 []) (show_if h part) ≡ shown_by (refuse_with (not b) 2 []) (show_part (part_if (b && h) part))
unfolding refuse_with shown_by show_if
show_part_lem true true part l = not_empty part (l refl)
show_part_lem true false part l = refl
show_part_lem false h part l = refl

add_sub : (a b : ℕ) → a + b - a ≡ b
add_sub a b = omega arith

-- where a test b of the code says so
pub range_least : {b : Bool} (q : ℕ) → b ≡ between 1 most_unknowns q → b ≡ true → 1 ≤ q
range_least q e t = leb→le 1 q (and_parts (leb 1 q) (leb q most_unknowns) (rw (← e, t) tt)).0

-- a row that is shown lies in the table
pub record RowIn (q : ℕ) (list : List ℕ) (n : ℕ) : Type 0 where
  pub wide : 1 ≤ q
  pub counted : 1 ≤ n
  pub inside : (n - 1) * q + q ≤ length list

module _ {b : Bool} (q : ℕ) (list : List ℕ) (found n : ℕ) (e : b ≡ shows q list found n) where
  pub shown_in : b ≡ true → RowIn q list n
  unfolding shows has_row
  shown_in t =
      let range : T (between 1 most_unknowns q) × T (has_row q list found n) =
      and_parts (between 1 most_unknowns q) (has_row q list found n) (rw (← e, t) tt) in
      let here : T (leb 1 n) × T (leb n found && leb n (capacity q list)) = and_parts (leb 1 n) (leb n found && leb n (capacity q list)) range.1 in
      let first : 1 ≤ n = leb→le 1 n here.0 in
      let last : n ≤ length list / q = leb→le n (capacity q list) (and_parts (leb n found) (leb n (capacity q list)) here.1).1 in
      record {
        wide = leb→le 1 q (and_parts (leb 1 q) (leb q most_unknowns) range.0).0;
        counted = first;
        inside = omega (arith, row_fits q (n - 1) n (omega arith), mul-le-mul_right q last, div-mul-le_self (length list) q);
      }

  part_is : shown_part q list found n ≡ part_if b (row_part q list n)
  unfolding shown_part shown shows
  part_is = rw e (part_if_lem (between 1 most_unknowns q) (has_row q list found n) (row_part q list n))

  -- the part from the row's first place to its last, as the code takes it
  pub part_shown : b ≡ true → take ((n - 1) * q + q - (n - 1) * q) (drop ((n - 1) * q) list) ≡ shown_part q list found n
  unfolding row_part
  part_shown t = rw (part_is, t, add_sub ((n - 1) * q) q)

  pub part_hidden : b ≡ false → [] ≡ shown_part q list found n
  part_hidden t = rw (part_is, t)

  part_length : b ≡ true → 1 ≤ length (row_part q list n)
  unfolding row_part
  part_length t =
      let r : RowIn q list n = shown_in t in
      rw (length-take-le q (drop ((n - 1) * q) list) (omega (arith, length-drop ((n - 1) * q) list))) r.wide

-- what the reader shows is its refusal, or the part that it shows: a row, or none where the part is empty
pub shown_is : (q : ℕ) (list : List ℕ) (found n : ℕ) → shown q list found n ≡ shown_by (reader_check q) (show_part (shown_part q list found n))
unfolding shown shows
shown_is q list found n =
    rw (part_is q list found n refl) (show_part_lem (between 1 most_unknowns q) (has_row q list found n) (row_part q list n) (part_length q list found n refl))

-- ---- the two lists of a capped run

pub either_part : (w : Which) (q : ℕ) (list second : List ℕ) (found n : ℕ) → capped_part q (table_at w list second) found n
    ≡ row_of_either w q list second found n
unfolding capped_part row_of_either shown_at
either_part w q list second found n =
    sym (part_if_lem (between 1 (most_for (rights [])) q) (has_row q (table_at w list second) found n) (row_part q (table_at w list second) n))

pub capped_wide : (q : ℕ) (list : List ℕ) (found n : ℕ) → 15 < q → [] ≡ capped_part q list found n
unfolding capped_part
capped_wide q list found n l = rw (lt-leb q 15 l, and-false (leb 1 q))

pub capped_narrow : (q : ℕ) (list : List ℕ) (found n : ℕ) → q ≤ 15 → shown_part q list found n ≡ capped_part q list found n
unfolding capped_part shown_part shown
capped_narrow q list found n l =
    part_if_lem (between 1 most_unknowns q) (has_row q list found n) (row_part q list n)
    ∙ ap (λ b. part_if ((leb 1 q && b) && has_row q list found n) (row_part q list n)) (le-leb q most_unknowns (omega arith) ∙ sym (le-leb q 15 l))
