-- Code that passes over marks, lowest first: what is left of them after some turns, and a turn. Assumes nothing.
use Rattle.std.specs.Prelude.{◌≡◌, refl, Bool, true, false, ℕ, ◌+◌, ◌*◌, ◌-◌, ◌%◌, ◌^◌, ◌≤◌, ◌<◌, T}
use Rattle.std.proofs.Common.{sym, ◌∙◌, inl, inr, arith, pow_mono}
use Rattle.std.specs.Int.Count.{count_trailing_zeros}
use Rattle.linear.proofs.Cases.{split}
use Rattle.linear.proofs.LoopLaws.{any_next}
use Rattle.linear.proofs.TestLaws.{is_false, is_true}
use Rattle.linear.specs.Tests.{any_to}
use Rattle.definitions.specs.Tables.{frozen}
use Rattle.definitions.specs.Step.{marks_to}
use Rattle.laws.proofs.MarkLaws.{free_beyond, frozen_gone, frozen_none, frozen_others, lowest_frozen, lowest_le, lowest_less, shift_one}
use Rattle.products.specs.Marks.{any_over, marks_add, marks_over, marks_room, marks_skip}

-- of the first q unknowns at which f holds, `rest` marks those from n on
pub record Left (q : ℕ) (f : ℕ → Bool) (n rest : ℕ) : Type 0 where
  pub few : n ≤ q
  pub below : rest < 2 ^ q
  pub gone : (j : ℕ) → j < n → ¬ (T (frozen rest j))
  pub same : (j : ℕ) → n ≤ j → j < q → frozen rest j ≡ f j

pub left_all : (q marks : ℕ) → marks < 2 ^ q → Left q (frozen marks) 0 marks
left_all q marks h = record { few = omega arith; below = h; gone = λ j l. absurd (omega arith); same = λ j l k. refl }

pub left_none : {q : ℕ} {f : ℕ → Bool} {n : ℕ} → Left q f n 0 → (j : ℕ) → n ≤ j → j < q → f j ≡ false
left_none s j l k = sym (s.same j l k) ∙ is_false (frozen 0 j) (frozen_none j)

module _ {q : ℕ} {f : ℕ → Bool} {n rest : ℕ} (s : Left q f n rest) (few : q ≤ 16) (some : 0 < rest) where
  abbrev i : ℕ
  i = count_trailing_zeros 32 rest

  fits : rest < 2 ^ 32
  fits = omega (arith, s.below, pow_mono {i = q} {j = 32} (omega arith))

  low : (i < 32) × T (frozen rest i) × ((j : ℕ) → j < i → ¬ (T (frozen rest j)))
  low = lowest_frozen 32 rest some fits

  pub next_inside : i < q
  next_inside = elim (split i q) [ inl l ↦ l | inr l ↦ absurd (free_beyond rest q i s.below l low.1) ]

  pub next_later : n ≤ i
  next_later = elim (split i n) [ inl l ↦ absurd (s.gone i l low.1) | inr l ↦ l ]

  pub next_holds : f i ≡ true
  next_holds = sym (s.same i next_later next_inside) ∙ is_true (frozen rest i) low.1

  pub next_first : (j : ℕ) → n ≤ j → j < i → f j ≡ false
  next_first j l k = sym (s.same j l (omega (arith, next_inside))) ∙ is_false (frozen rest j) (low.2 j k)

  -- the machine's `1 << i`
  pub next_bit : (1 * 2 ^ i) % 4294967296 ≡ 2 ^ i
  next_bit = shift_one i low.0

  pub next_le : (1 * 2 ^ i) % 4294967296 ≤ rest
  next_le = lowest_le rest some fits

  pub next_less : rest - (1 * 2 ^ i) % 4294967296 < rest
  next_less = lowest_less rest some fits

  pub left_next : Left q f (i + 1) (rest - (1 * 2 ^ i) % 4294967296)
  left_next =
      rw next_bit (record {
        few = omega (arith, next_inside);
        below = omega (arith, s.below);
        gone = λ j l. elim (split j i) [
          | inl k ↦ λ y. low.2 j k (rw (frozen_others rest i low.1 j (omega arith)) at y)
          | inr k ↦ let e : j ≡ i = omega arith in rw e (frozen_gone rest i low.1)
        ];
        same = λ j l k. frozen_others rest i low.1 j (omega arith) ∙ s.same j (omega (arith, next_later)) k;
      })

  -- m marks the unknowns before n at which g holds; where g holds, so does f
  module _ (g : ℕ → Bool) (within : (j : ℕ) → f j ≡ false → g j ≡ false) {m : ℕ} (e : m ≡ marks_to n g) where
    over : m ≡ marks_to i g
    over = e ∙ sym (marks_over g n i next_later (λ j l k. within j (next_first j l k)))

    pub next_skip : g i ≡ false → m ≡ marks_to (i + 1) g
    next_skip h = marks_skip i g m over h

    pub next_add : g i ≡ true → m + (1 * 2 ^ i) % 4294967296 ≡ marks_to (i + 1) g
    next_add h = marks_add i g m over low.0 h

    pub next_room : m + (1 * 2 ^ i) % 4294967296 < 65536
    next_room = marks_room i g m over (omega (arith, next_inside))

  -- g holds at no unknown before n
  pub none_next : (g : ℕ → Bool) → ((j : ℕ) → f j ≡ false → g j ≡ false) → any_to n g ≡ false → g i ≡ false → any_to (i + 1) g ≡ false
  none_next g within e h = any_next i g (any_over g n i next_later (λ j l k. within j (next_first j l k)) e) h

pub none_end : {q : ℕ} {f : ℕ → Bool} {n : ℕ} → Left q f n 0 → (g : ℕ → Bool) → ((j : ℕ) → f j ≡ false → g j ≡ false) → any_to n g ≡ false → any_to q g ≡ false
none_end {q} {f} {n} s g within e = any_over g n q s.few (λ j l k. within j (left_none s j l k)) e

pub left_end : {q : ℕ} {f : ℕ → Bool} {n : ℕ} → Left q f n 0 → (g : ℕ → Bool) → ((j : ℕ) → f j ≡ false → g j ≡ false) → {m : ℕ}
    → m ≡ marks_to n g → m ≡ marks_to q g
left_end {q} {f} {n} s g within e = e ∙ sym (marks_over g n q s.few (λ j l k. within j (left_none s j l k)))
