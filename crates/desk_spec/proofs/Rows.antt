-- Rows of the second walk's stack table: what a start and the children of a step write, and when raising by a generator makes a child. Assumes nothing.
use Rattle.std.specs.Prelude.{◌≡◌, refl, ◌⊎◌, Bool, not, List, ℕ, zero, suc, ◌+◌, ◌*◌, ◌-◌, ◌^◌, ◌/◌, ◌%◌, ◌≤◌, ◌<◌, T, eqb, ltb, pos, length, ◌<ℤ◌}
use Rattle.std.proofs.Common.{◌∙◌, ap₂, arith, lt→ltb}
use Rattle.std.proofs.Math.Logic.{inl, inr}
use Rattle.std.proofs.Math.Dec.{T_not, not_T, eqb_refl, eqb→eq, ltb→lt}
use Rattle.std.specs.Int.Signed.{lt_z}
use Rattle.linear.proofs.TestLaws.{T-dec, and_both, and_parts, any_at, any_from, is_false, is_true}
use Rattle.linear.specs.Tests.{count_to}
use Rattle.linear.specs.Tuples.{AtOrBelow}
use Rattle.definitions.specs.Step.{marks_to}
use Rattle.definitions.specs.System.{covered, is_at_or_below}
use Rattle.definitions.specs.Tables.{at, frozen}
use Rattle.laws.proofs.SystemLaws.{below_from, below_to}
use Rattle.laws.specs.Pack.{pack_to}
use Rattle.laws.proofs.Pack.{pack_outside, pack_row}
use Rattle.desk_spec.specs.Desks.{Desk, always, desk_children, desk_marks, desk_row, generator, generator_count, plus, raises, towards_generator, word}

-- ---- a row: its tuple, and its marks in two numbers

module _ (q : ℕ) (x : ℕ → ℕ) (marks : ℕ) where
  pub row_tuple : (j : ℕ) → j < q → desk_row q x marks j ≡ x j
  unfolding desk_row
  row_tuple j l = rw (is_true (ltb j q) (lt→ltb j q l))

  pub row_low : desk_row q x marks q ≡ marks % word
  unfolding desk_row
  row_low = rw (is_false (ltb q q) (λ h. omega (arith, ltb→lt q q h)), is_true (eqb q q) (eqb_refl q))

  pub row_high : desk_row q x marks (q + 1) ≡ marks / word
  unfolding desk_row
  row_high = rw (is_false (ltb (q + 1) q) (λ h. omega (arith, ltb→lt (q + 1) q h)), is_false (eqb (q + 1) q) (λ h. omega (arith, eqb→eq (q + 1) q h)))

-- row k of a stack table holds the tuple x and the marks
pub record DeskRowIs (q : ℕ) (table : List ℕ) (k : ℕ) (x : ℕ → ℕ) (marks : ℕ) : Type 0 where
  pub tuple : (j : ℕ) → j < q → at table (q + 2) k j ≡ x j
  pub marks_are : desk_marks q table k ≡ marks

pub row_is : (q : ℕ) (table : List ℕ) (k : ℕ) (x : ℕ → ℕ) (marks : ℕ) → ((j : ℕ) → j < q + 2 → at table (q + 2) k j ≡ desk_row q x marks j)
    → DeskRowIs q table k x marks
row_is q table k x marks h =
    record {
      tuple = λ j jq. h j (omega arith) ∙ row_tuple q x marks j jq;
      marks_are = omega (arith, h q (omega arith), h (q + 1) (omega arith), row_low q x marks, row_high q x marks);
    }

-- ---- the start: a row for each generator

pub all_counted : (k : ℕ) → count_to k always ≡ k
unfolding count_to
all_counted zero = refl
all_counted (suc k) = omega (arith, all_counted k)

abbrev pub start_rows : Desk → List ℕ → List ℕ
start_rows d stack = pack_to (generator_count d) (d.q + 2) stack 0 always (λ k. desk_row d.q (generator d k) (2 ^ k - 1))

module _ (d : Desk) (stack : List ℕ) (long : generator_count d * (d.q + 2) ≤ length stack) where
  pub start_row : (k : ℕ) → k < generator_count d → DeskRowIs d.q (start_rows d stack) k (generator d k) (2 ^ k - 1)
  start_row k l =
      row_is d.q _ k _ _ (λ x xw.
      let place : 0 + count_to k always ≡ k = omega (arith, all_counted k) in
      rw place at
      (pack_row (d.q + 2) stack 0 always (λ k. desk_row d.q (generator d k) (2 ^ k - 1)) (generator_count d) long (generator_count d)
      (omega (arith, all_counted (generator_count d))) k l tt x xw))

-- ---- when raising makes a child

module _ (d : Desk) (list : List ℕ) (found : ℕ) (x : ℕ → ℕ) (marks : ℕ) where
  abbrev row : ℕ → ℕ → ℕ
  row = at list d.q

  covers : (ℕ → ℕ) → Bool
  covers = covered d.q found row

  pub raises_free : (j : ℕ) → T (raises d list found x marks j) → ¬ (T (frozen marks j))
  unfolding raises
  raises_free j h = T_not (frozen marks j) (and_parts (not (frozen marks j)) _ h).0

  pub raises_clear : (j : ℕ) → T (raises d list found x marks j) → (i : ℕ) → i < found → ¬ (AtOrBelow d.q (row i) (plus x (generator d j)))
  unfolding raises covered covers
  raises_clear j h i l b =
      T_not (covers (plus x (generator d j))) (and_parts (lt_z (towards_generator d x j) (pos 0)) _ (and_parts (not (frozen marks j)) _ h).1).1
      (any_from found (λ i. is_at_or_below d.q (row i) (plus x (generator d j))) i l (below_to d.q _ _ b))

  pub raises_tried : (j : ℕ) → ¬ (T (frozen marks j)) → towards_generator d x j <ℤ pos 0
      → T (raises d list found x marks j) ⊎ ((i : ℕ) × (i < found) × AtOrBelow d.q (row i) (plus x (generator d j)))
  unfolding raises covered covers
  raises_tried j f a =
      elim (T-dec (covers (plus x (generator d j)))) [
        | inl y ↦
            let (i, l, b) = any_at found (λ i. is_at_or_below d.q (row i) (plus x (generator d j))) y in
            inr (i, l, below_from d.q _ _ b)
        | inr y ↦ inl
            (and_both (not (frozen marks j)) _ (not_T (frozen marks j) f)
            (and_both (lt_z (towards_generator d x j) (pos 0)) _ a.lt (not_T (covers (plus x (generator d j))) y)))
      ]

-- ---- the children of a step

module _ (d : Desk) (stack : List ℕ) (level : ℕ) (x : ℕ → ℕ) (marks : ℕ) (f : ℕ → Bool) where
  abbrev children : List ℕ
  children = desk_children (generator_count d) d stack level x marks f

  pub child_is : generator_count d * (d.q + 2) ≤ length stack → level + count_to (generator_count d) f ≤ generator_count d → (j : ℕ) → j < generator_count d
      → T (f j)
      → DeskRowIs d.q children (level + count_to j f) (plus x (generator d j)) (marks + marks_to j f)
  child_is long few j jn mj =
      row_is d.q _ _ _ _ (λ i iw. pack_row (d.q + 2) stack level f _ (generator_count d) long (generator_count d) few j jn mj i iw)

  pub rows_kept : (l i : ℕ) → l < level → i < d.q + 2 → at children (d.q + 2) l i ≡ at stack (d.q + 2) l i
  rows_kept l i lh iw = pack_outside (d.q + 2) stack level f _ (generator_count d) l i (inl lh) iw

  pub marks_kept : (l : ℕ) → l < level → desk_marks d.q children l ≡ desk_marks d.q stack l
  marks_kept l lh = ap₂ (λ x y. x + y * word) (rows_kept l d.q lh (omega arith)) (rows_kept l (d.q + 1) lh (omega arith))
