-- The search of a list from its last row to its first. Assumes nothing.
use Rattle.std.specs.Prelude.{◌≡◌, refl, Bool, true, false, List, T, get_or}
use Rattle.std.proofs.Math.Path.{sym}
use Rattle.std.proofs.Common.{ap, ◌∙◌, add-one, arith}
use Rattle.std.proofs.Math.Option.{some, none}
use Prim.Native.Nat.{ℕ, zero, suc, ◌+◌, ◌*◌, ◌-◌, ◌/◌, ◌≤◌, ◌<◌}
use Rattle.std.proofs.Math.Nat.{div-eq_of_eq-mul_left, suc-mul}
use Rattle.linear.proofs.LoopLaws.{all_fails}
use Rattle.linear.specs.Places.{last_to}
use Rattle.linear.proofs.PlaceLaws.{last_here, last_passed}
use Rattle.linear.specs.Tests.{all_to, any_to}
use Rattle.linear.proofs.TestLaws.{any_at, any_from}
use Rattle.definitions.specs.System.{covered, is_at_or_below}
use Rattle.definitions.specs.Tables.{at}
use Rattle.laws.proofs.TableLaws.{row_fits}

-- ---- the order of the rows

-- g takes the n rows in some order, each of them at some turn
pub record Order (n : ℕ) (g : ℕ → ℕ) : Type 0 where
  pub row : (i : ℕ) → i < n → g i < n
  pub turn : (k : ℕ) → k < n → (i : ℕ) × (i < n) × (g i ≡ k)

-- Document 02, Job 2: "Yes or no is unchanged for every tuple and list.": a test over rows does not depend on the order in which they are taken
pub any_ordered : (n : ℕ) (f : ℕ → Bool) (g : ℕ → ℕ) → Order n g → any_to n (λ i. f (g i)) ≡ any_to n f
any_ordered n f g o = same (any_to n (λ i. f (g i))) (any_to n f) there back
  where
    there : T (any_to n (λ i. f (g i))) → T (any_to n f)
    there h = let (i, l, y) = any_at n (λ i. f (g i)) h in any_from n f (g i) (o.row i l) y

    back : T (any_to n f) → T (any_to n (λ i. f (g i)))
    back h =
        let (k, l, y) = any_at n f h in
        let (i, m, e) = o.turn k l in
        any_from n (λ i. f (g i)) i m (rw e y)

    same : (a b : Bool) → (T a → T b) → (T b → T a) → a ≡ b
    same true true f g = refl
    same false false f g = refl
    same true false f g = absurd (f tt)
    same false true f g = absurd (g tt)

-- the newest row first
abbrev pub newest : ℕ → ℕ → ℕ
newest n i = n - 1 - i

pub newest_order : (n : ℕ) → Order n (newest n)
newest_order n = record { row = λ i l. omega arith; turn = λ k l. (newest n k, omega arith, omega arith) }

pub covered_newest : (w n : ℕ) (row : ℕ → ℕ → ℕ) (x : ℕ → ℕ) → covered w n (λ i. row (newest n i)) x ≡ covered w n row x
unfolding covered
covered_newest w n row x = any_ordered n (λ i. is_at_or_below w (row i) x) (newest n) (newest_order n)

-- ---- the search, for a test on the components of a row and of a tuple

module _ (test : ℕ → ℕ → Bool) (w : ℕ) (list : List ℕ) (t : ℕ → ℕ) (found : ℕ) where
  -- row i passes where each component does
  abbrev pub passes : ℕ → Bool
  passes i = all_to w (λ j. test (at list w i j) (t j))

  -- the rows before place `rest` are left, and none of those after it passes
  pub record Left (rest : ℕ) : Type 0 where
    pub rows : ℕ
    pub few : rows ≤ found
    pub place : rest ≡ rows * w
    pub same : last_to found passes ≡ last_to rows passes

  pub left_all : Left (found * w)
  left_all = record { rows = found; few = omega arith; place = refl; same = refl }

  pub left_none : {rest : ℕ} → Left rest → 0 < w → rest ≤ 0 → none ≡ last_to found passes
  unfolding last_to
  left_none {rest} s positive l = sym (at_end s.rows s.place s.same)
    where
      at_end : (n : ℕ) → rest ≡ n * w → last_to found passes ≡ last_to n passes → last_to found passes ≡ none
      at_end zero e h = h
      at_end (suc n) e h = absurd (omega (arith, suc-mul n w))

  module _ {rest : ℕ} (s : Left rest) (more : 0 < rest) where
    -- the last row that is left
    record Last : Type 0 where
      row : ℕ
      there : row < found
      begins : rest - w ≡ row * w
      long : w ≤ rest
      same : last_to found passes ≡ last_to (suc row) passes

    last : Last
    last = of s.rows s.few s.place s.same
      where
        of : (n : ℕ) → n ≤ found → rest ≡ n * w → last_to found passes ≡ last_to n passes → Last
        of zero few e h = absurd (omega arith)
        of (suc n) few e h =
            record { row = n; there = omega arith; begins = omega (arith, suc-mul n w); long = omega (arith, suc-mul n w); same = h }

    pub left_long : w ≤ rest
    left_long = last.long

    pub left_fits : rest - w + w ≤ found * w
    left_fits = omega (arith, last.begins, row_fits w last.row found last.there)

    pub left_next : (j : ℕ) → j < w → test (get_or list (rest - w + j) 0) (t j) ≡ false → Left (rest - w)
    left_next j l e =
        record {
          rows = last.row;
          few = omega (arith, last.there);
          place = last.begins;
          same = last.same ∙ last_passed last.row passes (all_fails w _ j l (rw last.begins at e));
        }

    pub left_here : 0 < w → all_to w (λ k. test (get_or list (rest - w + k) 0) (t k)) ≡ true → some ((rest - w) / w + 1) ≡ last_to found passes
    left_here positive e =
        let row_is : (rest - w) / w ≡ last.row = div-eq_of_eq-mul_left positive last.begins in
        sym (last.same ∙ last_here last.row passes (rw last.begins at e) ∙ ap some (sym (ap (λ n. n + 1) row_is ∙ add-one last.row)))

    -- the place is one of the list's
    pub left_place : 0 < w → (rest - w) / w < found
    left_place positive = rw (div-eq_of_eq-mul_left {k = last.row} positive last.begins) last.there
