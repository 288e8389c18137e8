-- Reading a row, as the code goes about it. Assumes nothing.
use Prim.Native.Nat.{ℕ, ◌≤◌, ◌<◌}
use Rattle.std.specs.Prelude.{true, false, ◌≢◌, ◌≡◌, refl, T, leb, length, drop}
use mathlib.Core.List.{List, [], ◌∷◌, ◌++◌}
use Rattle.std.proofs.Math.Path.{sym, ap}
use Rattle.std.proofs.Common.{◌∙◌, subst, arith, leb→le}
use borrow.Author.Tests.{le-leb, lt-ltb, le-ltb}
use Rattle.linear.proofs.TestLaws.{and_parts}
use Rattle.definitions.specs.Answers.{refuse, refuse_with, go}
use Rattle.definitions.specs.Reader.{Which, reader_check, row_of_either, shown, shown_at, shown_by, table_at, two_lists_check}
use Rattle.definitions.specs.Refusals.{between}
use Rattle.reader.specs.Reading.{capped_narrow, either_part, show_part, shown_is, shown_part}
use Rattle.c_walk.specs.Rows.{copy_told, count_at, either_told, shown_told, row_told, which_at}

-- ---- a part

pub told_none : (part out : List ℕ) → length part ≡ 0 → (103, out) ≡ copy_told part out
unfolding copy_told
told_none [] out e = refl
told_none (x ∷ part) out e = absurd (omega (arith, e))

pub told_short : (part out : List ℕ) → length part ≢ 0 → length out < length part → (29, out) ≡ copy_told part out
unfolding copy_told
told_short [] out ne l = absurd (ne refl)
told_short (x ∷ part) out ne l = rw (lt-ltb (length out) (length (x ∷ part)) l)

pub told_copied : (part out : List ℕ) {after : List ℕ} → length part ≢ 0 → length part ≤ length out → after ≡ part ++ drop (length part) out
    → (102, after) ≡ copy_told part out
unfolding copy_told
told_copied [] out ne l e = absurd (ne refl)
told_copied (x ∷ part) out ne l e = rw (le-ltb (length out) (length (x ∷ part)) l, e)

-- ---- a row

part_told : (part out : List ℕ) → copy_told part out ≡ shown_told (show_part part) out
unfolding copy_told
part_told [] out = refl
part_told (x ∷ part) out = refl

module _ (q : ℕ) (list : List ℕ) (found n : ℕ) (out : List ℕ) where
  told_by : row_told q list found n out ≡ shown_told (shown_by (reader_check q) (show_part (shown_part q list found n))) out
  unfolding row_told
  told_by = ap (λ s. shown_told s out) (shown_is q list found n)

  pub told_refused : {k : ℕ} {values : List ℕ} → refuse k values ≡ reader_check q → (k, out) ≡ row_told q list found n out
  unfolding shown_by
  told_refused e = rw (told_by, ← e)

  pub told_shown : go ≡ reader_check q → {part : List ℕ} → part ≡ shown_part q list found n → copy_told part out ≡ row_told q list found n out
  unfolding shown_by
  told_shown e {part} h = rw (told_by, ← e, ← h) (part_told part out)

-- ---- a row of either list of a run with right sides

module _ (q : ℕ) (e : true ≡ between 1 15 q) where
  few : (1 ≤ q) × (q ≤ 15)
  few = let parts : T (leb 1 q) × T (leb q 15) = and_parts (leb 1 q) (leb q 15) (subst T e tt) in (leb→le 1 q parts.0, leb→le q 15 parts.1)

  reads : go ≡ reader_check q
  unfolding refuse_with
  reads = rw (le-leb 1 q few.0, le-leb q 16 (omega (arith, few.1)))

  goes : go ≡ two_lists_check q
  unfolding refuse_with
  goes = rw (← e)

  -- a list of up to 15 unknowns is shown as a plain run's
  shown_alike : (w : Which) (list second : List ℕ) (found n : ℕ) → shown q (table_at w list second) found n ≡ shown_at w q list second found n
  unfolding shown shown_at
  shown_alike w list second found n = rw (← reads, ← goes)

module _ (at q : ℕ) (list second : List ℕ) (found n : ℕ) (out : List ℕ) where
  pub either_refused : false ≡ between 1 15 q → (2, out) ≡ either_told at q list second found n out
  unfolding either_told shown_at shown_by refuse_with
  either_refused e = rw (← e)

  pub either_shown : true ≡ between 1 15 q → {part : List ℕ} → part ≡ row_of_either (which_at at) q list second (count_at at found) n
      → copy_told part out ≡ either_told at q list second found n out
  unfolding either_told row_told
  either_shown e h =
      let table : List ℕ = table_at (which_at at) list second in
      told_shown q table (count_at at found) n out (reads q e)
      (h ∙ sym (either_part (which_at at) q list second (count_at at found) n) ∙ sym (capped_narrow q table (count_at at found) n (few q e).1))
      ∙ ap (λ s. shown_told s out) (shown_alike q e (which_at at) list second (count_at at found) n)
