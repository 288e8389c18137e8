-- Which candidates the cap and the second list leave open. Of a capped walk the list is asked only where the raised tuple has 1 at its first place;
-- of one above a lower bound it is asked for the tuple less the bound. Assumes nothing.
use Rattle.std.specs.Prelude.{◌≡◌, refl, ◌≢◌, Bool, true, false, ◌&&◌, List, [], ℕ, zero, suc, ◌+◌, ◌-◌, ◌%◌, ◌/◌, ◌^◌, ◌≤◌, ◌<◌, length, set}
use Rattle.std.proofs.Math.Path.{sym, ap}
use Rattle.std.proofs.Common.{◌∙◌, length-set, get_or-set_same, get_or-set_other}
use Rattle.std.proofs.Math.Bool.{not, and-false, and-true}
use Rattle.std.proofs.Math.Decide.{ℕ_discrete}
use native.Mathlib.Omega.{arith}
use Rattle.linear.specs.Tuples.{AtOrBelow, raise, rest}
use Rattle.definitions.specs.System.{above, capped, covered, plain}
use Rattle.definitions.specs.Step.{marks_to}
use Rattle.definitions.specs.Tables.{State, at, bit, frozen}
use Rattle.laws.specs.StepLaws.{second_open}
use Rattle.laws.proofs.StepLaws.{open_capped, open_first, open_one, open_zero}
use Rattle.laws.proofs.SystemLaws.{covered_same}
use Rattle.products.specs.Marks.{Marked, marks_below, marks_frozen, marks_over}
use Rattle.laws.proofs.MarkLaws.{frozen_none}
use Rattle.linear.specs.Tests.{number}
use Rattle.linear.proofs.TestLaws.{is_false, number_le}
use Rattle.candidates.specs.Kinds.{asked}
use Rattle.table_rows.specs.Rows.{Limited, part, tuple}
use Rattle.candidates.specs.Grow.{child_by, open_for}
use Rattle.candidates.specs.GrowLaws.{closed_makes_none}

-- ---- marks with and without the first

first_none : (c : ℕ) → c % 2 ≡ 0 → frozen c 0 ≡ false
unfolding frozen bit
first_none c e = rw e

others_first : (c : ℕ) → frozen (c - c % 2) 0 ≡ false
others_first c = first_none (c - c % 2) (omega arith)

others_later : (c j : ℕ) → j ≢ 0 → frozen (c - c % 2) j ≡ frozen c j
unfolding frozen bit
others_later c zero ne = absurd (ne refl)
others_later c (suc j) ne = let e : (c - c % 2) / 2 ≡ c / 2 = omega arith in rw e

one_first : (j : ℕ) → 0 < j → frozen 1 j ≡ false
unfolding frozen bit
one_first zero l = absurd (omega arith)
one_first (suc j) l = is_false (frozen 0 j) (frozen_none j)

-- ---- the ways out

module _ (q found : ℕ) (second : List ℕ) (t : ℕ → ℕ) (c : ℕ) where
  abbrev s : State
  s = asked [] [] second 0 0 found

  abbrev is_open : ℕ → Bool
  is_open j = frozen c j && second_open capped q s (raise t j)

  opened : (o : ℕ) → Marked q is_open o → Marked q (open_for capped q s t c) o
  unfolding open_for
  opened o h = h

  abbrev pub stops : ℕ → Bool
  stops j = covered (q - 1) found (at second (q - 1)) (part 1 (raise t j))

  stops_rest : (j : ℕ) → covered (q - 1) found (at second (q - 1)) (rest (raise t j)) ≡ stops j
  stops_rest j = covered_same (q - 1) found (at second (q - 1)) {x = rest (raise t j)} {y = part 1 (raise t j)} (λ i l. ap (raise t j) (omega arith))

  -- without the extra unknown in the top, its own raise is the only one that the second list may stop
  module _ (below : c < 2 ^ q) (z : t 0 ≡ 0) where
    later : (j : ℕ) → j ≢ 0 → frozen c j ≡ is_open j
    later j ne = sym (ap (λ b. frozen c j && b) (open_zero q s t z j ne) ∙ and-true (frozen c j))

    all_open : frozen c 0 ≡ is_open 0 → Marked q is_open c
    all_open e = record { below = below; at = λ j l. elim (ℕ_discrete j 0) [ yes is ↦ rw is e | no ne ↦ later j ne ] }

    pub open_none : c % 2 ≡ 0 → Marked q (open_for capped q s t c) c
    open_none e = opened c (all_open (rw (first_none c e)))

    open_clear : stops 0 ≡ false → Marked q (open_for capped q s t c) c
    open_clear e = opened c (all_open (sym (ap (λ b. frozen c 0 && b) (open_first q s t z ∙ ap not (stops_rest 0 ∙ e)) ∙ and-true (frozen c 0))))

    open_stopped : stops 0 ≡ true → Marked q (open_for capped q s t c) (c - c % 2)
    open_stopped e =
        opened (c - c % 2) (record {
          below = omega (arith, below);
          at = λ j l. elim (ℕ_discrete j 0) [
            | yes is ↦ rw is (others_first c ∙ sym (ap (λ b. frozen c 0 && b) (open_first q s t z ∙ ap not (stops_rest 0 ∙ e)) ∙ and-false (frozen c 0)))
            | no ne ↦ others_later c j ne ∙ later j ne
          ];
        })

    -- so the list is asked for that one alone
    module _ (some : 0 < q) (e : c % 2 ≡ 1) {o : ℕ} (asks : o ≡ marks_to q (child_by (q - 1) 1 found (at second (q - 1)) t (c % 2))) where
      abbrev alone : ℕ → Bool
      alone = child_by (q - 1) 1 found (at second (q - 1)) t 1

      left : o ≡ number (not (stops 0))
      unfolding marks_to child_by frozen bit
      left =
          let one : o ≡ marks_to q alone = rw e at asks in
          let over = marks_over alone 1 q some (λ j l _. closed_makes_none (q - 1) 1 found (at second (q - 1)) t 1 j (one_first j (omega arith))) in
          one ∙ over ∙ omega arith

      pub alone_room : o ≤ 1
      alone_room = rw left (number_le (not (stops 0)))

      pub open_alone : Marked q (open_for capped q s t c) (c - c % 2 + o)
      open_alone = by (stops 0) refl
        where
          by : (b : Bool) → stops 0 ≡ b → Marked q (open_for capped q s t c) (c - c % 2 + o)
          by true d = let w : c - c % 2 + o ≡ c - c % 2 = omega (arith, rw d at left) in rw w (open_stopped d)
          by false d = let w : c - c % 2 + o ≡ c = omega (arith, e, rw d at left) in rw w (open_clear d)

  -- with it, it is at its cap, and the second list is asked for all others
  module _ (z : t 0 ≡ 1) where
    abbrev child : ℕ → Bool
    child = child_by (q - 1) 1 found (at second (q - 1)) t (c - c % 2)

    child_open : (j : ℕ) → child j ≡ is_open j
    unfolding child_by
    child_open j =
        elim (ℕ_discrete j 0) [
          | yes is ↦ rw is (closed_makes_none (q - 1) 1 found (at second (q - 1)) t (c - c % 2) 0 (others_first c)
              ∙ sym (ap (λ b. frozen c 0 && b) (open_capped q s t z) ∙ and-false (frozen c 0)))
          | no ne ↦ ap (λ b. b && not (stops j)) (others_later c j ne) ∙ ap (λ b. frozen c j && b) (ap not (sym (stops_rest j)) ∙ sym (open_one q s t z j ne))
        ]

    pub open_others : {o : ℕ} → o ≡ marks_to q child → Marked q (open_for capped q s t c) o
    open_others {o} e = opened o (record { below = rw e (marks_below q _); at = λ j l. rw e (marks_frozen q child j l) ∙ child_open j })

-- ---- of a plain walk all, of one above a lower bound what the list leaves of the differences

pub open_plain : (q : ℕ) (s : State) (t : ℕ → ℕ) (c : ℕ) → c < 2 ^ q → Marked q (open_for plain q s t c) c
unfolding open_for
open_plain q s t c below = record { below = below; at = λ j l. sym (and-true (frozen c j)) }

-- `over` holds the tuple x less the bound f
pub record Differs (q : ℕ) (x f : ℕ → ℕ) (over : List ℕ) : Type 0 where
  pub size : length over ≡ 16
  pub less : (j : ℕ) → j < q → tuple over j ≡ x j - f j

pub differs_none : {x f : ℕ → ℕ} {over : List ℕ} → length over ≡ 16 → Differs 0 x f over
differs_none e = record { size = e; less = λ j l. absurd (omega arith) }

pub differs_more : {j : ℕ} {x f : ℕ → ℕ} {over : List ℕ} → j < 16 → Differs j x f over → Differs (j + 1) x f (set over j (x j - f j))
differs_more {j} {x} {f} {over} l d =
    record {
      size = length-set over j (x j - f j) ∙ d.size;
      less = λ i k. elim (ℕ_discrete i j) [
        | yes e ↦ rw e (get_or-set_same over j (x j - f j) 0 (omega (arith, d.size)))
        | no ne ↦ get_or-set_other over j i (x j - f j) 0 ne ∙ d.less i (omega arith)
      ];
    }

pub differs_limited : {q : ℕ} {x f : ℕ → ℕ} {over : List ℕ} → Limited q x → Differs q x f over → Limited q (tuple over)
differs_limited h d = record { at_most = λ j l. omega (arith, h.at_most j l, d.less j l) }

module _ {q : ℕ} {x f : ℕ → ℕ} {over : List ℕ} (is : AtOrBelow q f x) (d : Differs q x f over) (found : ℕ) (second : List ℕ) (c : ℕ) where
  abbrev asking : State
  asking = asked [] [] second 0 0 found

  apart_open : (j : ℕ) → j < q → child_by q 0 found (at second q) (tuple over) c j ≡ open_for (above f) q asking x c j
  unfolding child_by open_for
  apart_open j l =
      ap (λ b. frozen c j && not b) (covered_same q found (at second q) {x = part 0 (raise (tuple over) j)} {y = λ i. raise x j i - f i} (λ i k.
      let e : 0 + i ≡ i = omega arith in rw e (omega (arith, d.less i k, is i k))))

  pub apart_marked : {o : ℕ} → o ≡ marks_to q (child_by q 0 found (at second q) (tuple over) c) → Marked q (open_for (above f) q asking x c) o
  apart_marked {o} e = record { below = rw e (marks_below q _); at = λ j l. rw e (marks_frozen q _ j l) ∙ apart_open j l }
