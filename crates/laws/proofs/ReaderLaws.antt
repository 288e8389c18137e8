-- Theorems about what specs/ReaderLaws.antt defines. Assumes nothing.
use Rattle.std.specs.Prelude.{◌≡◌, Bool, not, ℕ, suc, ◌*◌, ◌-◌, ◌≤◌, ◌<◌, T, leb, drop, get_or, length, take}
use Rattle.std.proofs.Math.Path.{refl, ap}
use Rattle.std.proofs.Common.{◌∙◌, le-div_iff_mul-le, arith, le→leb, length-drop, get_or-drop, get_or-take, length-take-le}
use Rattle.std.proofs.Math.Logic.{inl, inr}
use Rattle.std.proofs.Math.Bool.{true, false}
use mathlib.Core.List.{List, []}
use Rattle.std.proofs.Math.Dec.{leb→le}
use Rattle.linear.proofs.TestLaws.{and_both, and_parts}
use Rattle.definitions.specs.Answers.{refuse_if}
use Rattle.definitions.specs.Reader.{Which, has_row, none, part_of, row, row_of_either, row_part, show_if, shown, shown_at, shown_by, table_at}
use Rattle.definitions.specs.Reader.{two_lists_check}
use Rattle.definitions.specs.Refusals.{between}
use Rattle.definitions.specs.System.{most_unknowns}
use Rattle.definitions.specs.Tables.{at, capacity}
use Rattle.laws.proofs.CheckLaws.{check_cases}
use Rattle.laws.proofs.RefusalLaws.{at_most, decides_outside}
use Rattle.laws.specs.ReaderLaws.{Missing, NoRow, ShowsRow, missing, outside, past, table, two, zeroth}

module _ (q : ℕ) (table : List ℕ) (found n : ℕ) where
  has_row_lem : T (has_row q table found n) → ¬ (Missing q table found n)
  unfolding has_row
  has_row_lem h =
      let (first, rest) = and_parts (leb 1 n) _ h in
      let (listed, roomy) = and_parts (leb n found) _ rest in
      λ m. elim m [
        | zeroth l ↦ omega (arith, leb→le 1 n first)
        | past l ↦ omega (arith, leb→le n found listed)
        | outside l ↦ omega (arith, leb→le n (capacity q table) roomy)
      ]

  row_has : ¬ (Missing q table found n) → T (has_row q table found n)
  unfolding has_row
  row_has is =
      and_both (leb 1 n) _ (le→leb 1 n (at_most 1 n (λ l. is (zeroth l))))
      (and_both (leb n found) _ (le→leb n found (at_most n found (λ l. is (past l))))
      (le→leb n (capacity q table) (at_most n (capacity q table) (λ l. is (outside l)))))

  shows_row : (most : ℕ) → ShowsRow most q table found n
      (shown_by (refuse_if (not (between 1 most q)) 2) (show_if (has_row q table found n) (row_part q table n)))
  unfolding shown_by
  shows_row most =
      let d = decides_outside 2 1 most q in
      record {
        two = λ o. rw (d.due 2 [] (refl, refl, o));
        gone = λ is m. rw (d.silent is) (hidden (has_row q table found n) (λ h. has_row_lem h m));
        there = λ is m. rw (d.silent is) (seen (has_row q table found n) (row_has m));
      }
    where
      hidden : (h : Bool) → ¬ (T h) → show_if h (row_part q table n) ≡ none
      hidden true z = absurd (z tt)
      hidden false z = unfold show_if in refl

      seen : (h : Bool) → T h → show_if h (row_part q table n) ≡ row (row_part q table n)
      seen true z = unfold show_if in refl
      seen false z = absurd z

-- of the reader of one list
pub reader_shows : (q : ℕ) (list : List ℕ) (found n : ℕ) → ShowsRow most_unknowns q list found n (shown q list found n)
unfolding shown
reader_shows q list found n = shows_row q list found n most_unknowns

-- and of two: "2 is given at 16 unknowns here"
pub either_shows : (w : Which) (q : ℕ) (list second : List ℕ) (found n : ℕ)
    → ShowsRow 15 q (table_at w list second) found n (shown_at w q list second found n)
unfolding shown_at
either_shows w q list second found n = shows_row q (table_at w list second) found n 15

-- row i, from 0, is shown where it is listed and lies in the table
pub listed_there : {q : ℕ} {list : List ℕ} {found i : ℕ} → i < found → i < capacity q list → ¬ (Missing q list found (suc i))
listed_there l here m = elim m [ zeroth h ↦ omega arith | past h ↦ omega arith | outside h ↦ omega arith ]

pub shows : (q : ℕ) (list : List ℕ) (found i : ℕ) → 0 < q → q ≤ most_unknowns → i < found → i < capacity q list
    → shown q list found (suc i) ≡ row (row_part q list (suc i))
shows q list found i some few l here =
    (reader_shows q list found (suc i)).there (λ o. elim o [ inl h ↦ omega arith | inr h ↦ omega arith ]) (listed_there l here)

-- as the part of the list table from i * q on
part_from : (q : ℕ) (list : List ℕ) (i : ℕ) → row_part q list (suc i) ≡ take q (drop (i * q) list)
unfolding row_part
part_from q list i = let e : suc i - 1 ≡ i = omega arith in rw e

pub part_length : (q : ℕ) (list : List ℕ) (i : ℕ) → 0 < q → i < capacity q list → length (row_part q list (suc i)) ≡ q
part_length q list i some here =
    ap length (part_from q list i)
    ∙ length-take-le q (drop (i * q) list)
    (rw (length-drop (i * q) list) (omega (arith, (le-div_iff_mul-le {k = q} {x = suc i} {y = length list} some).0 here)))

pub part_entry : (q : ℕ) (list : List ℕ) (i j : ℕ) → j < q → get_or (row_part q list (suc i)) j 0 ≡ at list q i j
part_entry q list i j jq = ap (λ part. get_or part j 0) (part_from q list i) ∙ get_or-take q (drop (i * q) list) j 0 jq ∙ get_or-drop (i * q) list j 0

module _ (w : Which) (q : ℕ) (list second : List ℕ) (found n : ℕ) where
  -- there is none or 2 is due: an empty part
  pub either_empty : NoRow q (table w q list second found n) found n → row_of_either w q list second found n ≡ []
  unfolding row_of_either
  either_empty (two o) = ap part_of ((either_shows w q list second found n).two o)
  either_empty (missing m) =
      elim (check_cases (two_lists_check q)) [
        | inl e ↦ ap part_of ((either_shows w q list second found n).gone ((decides_outside 2 1 15 q).goes e) m)
        | inr (r, values, e) ↦ ap part_of ((either_shows w q list second found n).two ((decides_outside 2 1 15 q).refuses r values e).2)
      ]

  -- else row n of the table asked from
  pub either_row : ¬ (NoRow q (table w q list second found n) found n) → row_of_either w q list second found n ≡ row_part q (table w q list second found n) n
  unfolding row_of_either
  either_row is = ap part_of ((either_shows w q list second found n).there (λ o. is (two o)) (λ m. is (missing m)))
