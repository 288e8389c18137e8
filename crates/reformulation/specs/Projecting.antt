-- Rows copied, and the call that projects as code makes its checks. Assumes nothing.
use Rattle.std.proofs.Math.Seq.{paste, paste-suc, paste-zero}
use borrow.Rule.Slice.PartMut.{mid_of, put_mid}
use Rattle.std.specs.Prelude.{◌≡◌, true, false, List, ℕ, zero, suc, ◌+◌, ◌*◌, ◌/◌, ◌≤◌, leb, get_or, length}
use Rattle.std.proofs.lemmas.Slice.{put_mid-paste}
use Rattle.std.proofs.lemmas.List.{get_or-drop, get_or-take}
use Rattle.laws.proofs.TableLaws.{write_same}
use Rattle.std.proofs.Common.{refl, sym, ◌∙◌, drop, length-drop, length-take-le, div-mul-le_self, mul-le-mul_right, arith}
use Rattle.definitions.specs.Answers.{◌then◌, refuse_with}
use Rattle.definitions.specs.Tables.{at, write_to}
use Rattle.reformulation_spec.proofs.Projection.{project_next}
use Rattle.reformulation_spec.specs.Reformulation.{project_checks, project_to, projected}
use Rattle.reformulation_spec.specs.Rules.{few_unknowns}
use Rattle.reformulation.specs.Numbers.{project_told}

-- a part of a table copied, number by number
written_by_paste : (table part : List ℕ) (base n : ℕ) → n ≤ length part → base + n ≤ length table
    → write_to n table base (λ j. get_or part j 0) ≡ paste table base part n
unfolding write_to
written_by_paste table part base zero l m = paste-zero table base part
written_by_paste table part base (suc n) l m =
    rw (written_by_paste table part base n (omega arith) (omega arith)) (paste-suc table base part n 0 (omega arith) (omega arith))

-- the q numbers from place `from` on put at place `base` of the other table
pub row_put : (q from base : ℕ) (rows out : List ℕ) {part : List ℕ} → from + q ≤ length rows → base + q ≤ length out → part ≡ mid_of from q rows
    → put_mid base q out part ≡ write_to q out base (λ j. get_or rows (from + j) 0)
row_put q from base rows out {part} l m e =
    let n : q ≡ length part = rw e (omega (arith, length-take-le q (drop from rows) (omega (arith, length-drop from rows)))) in
    put_mid-paste base q out part part q refl refl n ∙ sym (written_by_paste out part base q (omega arith) m)
    ∙ write_same q out base (λ j u. rw (e, get_or-take q (drop from rows) j 0 u, get_or-drop from rows j 0))

-- one row more
pub row_more : (q k : ℕ) (rows out₀ : List ℕ) (i : ℕ) {out after : List ℕ} → out ≡ project_to i q (at rows (q + k)) out₀
    → after ≡ write_to q out (i * q) (λ j. get_or rows (i * (q + k) + j) 0) → after ≡ project_to (i + 1) q (at rows (q + k)) out₀
row_more q k rows out₀ i e h = rw (project_next q (at rows (q + k)) out₀ i, ← e) h

-- so many rows fit into a table that has room for them
pub rows_long : (found w : ℕ) (table : List ℕ) → found ≤ length table / w → found * w ≤ length table
rows_long found w table l = omega (arith, mul-le-mul_right w l, div-mul-le_self (length table) w)

-- ---- the checks, as code makes them

module _ (q k found : ℕ) (rows out : List ℕ) where
  abbrev told : ℕ × List ℕ
  told = project_told q k found rows out

  pub misfit : few_unknowns q k ≡ false → (2, out) ≡ told
  unfolding project_checks projected refuse_with ◌then◌
  misfit u = rw u

  module _ (u : few_unknowns q k ≡ true) where
    pub few_rows : leb found (length rows / (q + k)) ≡ false → (6, out) ≡ told
    unfolding project_checks projected refuse_with ◌then◌
    few_rows l = rw (u, l)

    module _ (l : leb found (length rows / (q + k)) ≡ true) where
      pub no_room : leb found (length out / q) ≡ false → (29, out) ≡ told
      unfolding project_checks projected refuse_with ◌then◌
      no_room m = rw (u, l, m)

      pub written : leb found (length out / q) ≡ true → {after : List ℕ} → after ≡ project_to found q (at rows (q + k)) out → (129, after) ≡ told
      unfolding project_checks projected refuse_with ◌then◌
      written m e = rw (u, l, m, e)
