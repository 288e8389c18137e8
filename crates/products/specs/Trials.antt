-- What a trial of unknowns or of generators tells, in whichever type: a child would be too large, or those that make a child are told, as marks.
-- A number read of the answer tells the two apart. Assumes nothing.
use Rattle.std.specs.Prelude.{◌≡◌, refl, Bool, true, false, cond, ℕ, suc}
use Rattle.std.proofs.Common.{sym, ◌∙◌, ap, arith}

module _ {A : Type 0} (large : A) (made : ℕ → A) (read : A → ℕ) (none : read large ≡ 0) (some : (m : ℕ) → read (made m) ≡ suc m) where
  pub large_if : (b : Bool) (m : ℕ) → large ≡ cond b large (made m) → b ≡ true
  large_if true m e = refl
  large_if false m e = absurd (let z : 0 ≡ suc m = sym none ∙ ap read e ∙ some m in omega arith)

  pub made_if : (b : Bool) (m : ℕ) {n : ℕ} → made n ≡ cond b large (made m) → (b ≡ false) × (n ≡ m)
  made_if true m {n} e = absurd (let z : suc n ≡ 0 = sym (some n) ∙ ap read e ∙ none in omega arith)
  made_if false m {n} e = let z : suc n ≡ suc m = sym (some n) ∙ ap read e ∙ some m in (refl, omega arith)
