-- What trying the candidates for a child comes to. Assumes nothing.
use Rattle.std.specs.Prelude.{◌≡◌, Bool, true, false, ◌&&◌, cond, ℕ, ◌<◌, eqb, Result, Ok, Err}
use Rattle.std.proofs.Math.Path.{refl}
use Rattle.std.proofs.Common.{ap, ap₂}
use Rattle.linear.specs.Tests.{any_to}
use Rattle.linear.proofs.TestLaws.{any_same}
use Rattle.definitions.specs.Step.{marks_to, row_width}
use Rattle.definitions.specs.System.{Kind}
use Rattle.definitions.specs.Tables.{State, frozen, list_row}
use Rattle.products.specs.Marks.{marks_same}
use Rattle.calls.specs.declared.Refusal.{Refusal}
use Rattle.calls.specs.declared.Refusal.TheVariants.{ComponentLimit}
use Rattle.candidates.specs.Grow.{child_by, child_for, open_for, place_in}
use Rattle.candidates.specs.GrowLaws.{child_open}

-- a child that would have a component above the limit is refused; else the unknowns that make one are told, as marks
abbrev pub tried_if : Bool → ℕ → Result ℕ Refusal
tried_if b made = cond b (Err ComponentLimit) (Ok made)

unfoldable pub tried_by : ℕ → ℕ → (ℕ → Bool) → (ℕ → ℕ) → Result ℕ Refusal
tried_by limit q child t = tried_if (any_to q (λ j. child j && eqb (t j) limit)) (marks_to q child)

-- ---- the cases apart

large_if : (b : Bool) (m : ℕ) {why : Refusal} → Err why ≡ tried_if b m → (b ≡ true) × (why ≡ ComponentLimit)
large_if true m e = (refl, cc)
large_if false m e = absurd (cc)

made_if : (b : Bool) (m : ℕ) {n : ℕ} → Ok n ≡ tried_if b m → (b ≡ false) × (n ≡ m)
made_if true m e = absurd (cc)
made_if false m e = (refl, cc)

-- tests that agree below q
pub tried_same : (limit q : ℕ) (f g : ℕ → Bool) (t : ℕ → ℕ) → ((j : ℕ) → j < q → f j ≡ g j) → tried_by limit q f t ≡ tried_by limit q g t
unfolding tried_by
tried_same limit q f g t e = ap₂ tried_if (any_same q _ _ (λ j l. ap (λ b. b && eqb (t j) limit) (e j l))) (marks_same q f g e)

module _ (limit q : ℕ) (child : ℕ → Bool) (t : ℕ → ℕ) where
  pub tried_large : any_to q (λ j. child j && eqb (t j) limit) ≡ true → Err ComponentLimit ≡ tried_by limit q child t
  unfolding tried_by
  tried_large e = rw e

  pub tried_made : any_to q (λ j. child j && eqb (t j) limit) ≡ false → {made : ℕ} → made ≡ marks_to q child → Ok made ≡ tried_by limit q child t
  unfolding tried_by
  tried_made e h = rw (e, h)

  pub large_tried : {why : Refusal} → Err why ≡ tried_by limit q child t
      → (any_to q (λ j. child j && eqb (t j) limit) ≡ true) × (why ≡ ComponentLimit)
  unfolding tried_by
  large_tried e = large_if _ _ e

  pub made_tried : {made : ℕ} → Ok made ≡ tried_by limit q child t → (any_to q (λ j. child j && eqb (t j) limit) ≡ false) × (made ≡ marks_to q child)
  unfolding tried_by
  made_tried e = made_if _ _ e

-- what the second list leaves, put to the first list
pub tried_open : (limit : ℕ) (k : Kind) (q : ℕ) (s : State) (t : ℕ → ℕ) (candidates left : ℕ)
    → ((j : ℕ) → j < q → frozen left j ≡ open_for k q s t candidates j)
    → tried_by limit q (child_by (row_width k q) (place_in k) s.run.found (list_row (row_width k q) s) t left) t
    ≡ tried_by limit q (child_for k q s t candidates) t
tried_open limit k q s t candidates left h = tried_same limit q _ _ t (λ j l. child_open k q s t candidates left j (h j l))
