-- Laws of the rows of a step's children: they read a tuple below q only, and unknowns that make no child are passed over. Assumes nothing.
use Rattle.std.specs.Prelude.{◌≡◌, Bool, true, false, List, length}
use Rattle.std.proofs.Math.Path.{refl}
use Rattle.std.proofs.Common.{ap, ◌∙◌, inl, inr, arith}
use Prim.Native.Nat.{ℕ, zero, suc, ◌+◌, ◌≤◌, ◌<◌}
use Rattle.linear.proofs.Cases.{split}
use Rattle.linear.specs.Tests.{count_to}
use Rattle.linear.proofs.TestLaws.{count_same}
use Rattle.linear.specs.Tuples.{Same, unit}
use Rattle.definitions.specs.Tables.{write_row_if}
use Rattle.definitions.specs.Step.{marks_to, write_children}
use Rattle.laws.proofs.TableLaws.{row_same, stays_length}
use Rattle.products.specs.Marks.{marks_same}

module _ (q : ℕ) (stack : List ℕ) (k : ℕ) (x : ℕ → ℕ) (marks : ℕ) where
  pub grow_length : (f : ℕ → Bool) (n : ℕ) → length (write_children n q stack k x marks f) ≡ length stack
  unfolding write_children
  grow_length f zero = refl
  grow_length f (suc n) = stays_length (f n) q _ _ _ _ ∙ grow_length f n

if_same : (b : Bool) (q : ℕ) (table : List ℕ) (row marks : ℕ) {x y : ℕ → ℕ} → Same q x y → write_row_if b q table row x marks
    ≡ write_row_if b q table row y marks
if_same true q table row marks e = row_same q table row marks e
if_same false q table row marks e = refl

-- tuples that agree below q, and tests that agree below n
pub grow_same : (n q : ℕ) (stack : List ℕ) (k : ℕ) {x y : ℕ → ℕ} (marks : ℕ) {f g : ℕ → Bool} → Same q x y → ((j : ℕ) → j < n → f j ≡ g j)
    → write_children n q stack k x marks f ≡ write_children n q stack k y marks g
unfolding write_children
grow_same zero q stack k marks e h = refl
grow_same (suc n) q stack k {x} {y} marks {f} {g} e h =
    let before : (j : ℕ) → j < n → f j ≡ g j = λ j l. h j (omega arith) in
    if_same (f n) q (write_children n q stack k x marks f) (k + count_to n f) (marks + marks_to n f) (λ i l. ap (λ z. z + unit n i) (e i l))
    ∙ rw (grow_same n q stack k marks e before, h n (omega arith), count_same f g n before, marks_same n f g before)

-- unknowns that make no child are passed over
pub grow_over : (q : ℕ) (stack : List ℕ) (k : ℕ) (x : ℕ → ℕ) (marks : ℕ) (f : ℕ → Bool) (n i : ℕ) → n ≤ i → ((j : ℕ) → n ≤ j → j < i → f j ≡ false)
    → write_children i q stack k x marks f ≡ write_children n q stack k x marks f
unfolding write_children
grow_over q stack k x marks f n zero l h = let e : n ≡ 0 = omega arith in rw e
grow_over q stack k x marks f n (suc i) l h =
    elim (split n (suc i)) [
      | inl a ↦ rw (h i (omega arith) (omega arith)) (grow_over q stack k x marks f n i (omega arith) (λ j b c. h j b (omega arith)))
      | inr a ↦ let e : n ≡ suc i = omega arith in rw e
    ]
