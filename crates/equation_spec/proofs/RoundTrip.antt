-- "the reader gives that row again". Assumes nothing.
use Prim.Native.Nat.{ℕ, suc, ◌+◌, ◌≤◌, ◌<◌}
use Rattle.std.specs.Prelude.{List, [], ◌∷◌, ◌≡◌, T, ltb, ℤ, pos, nat_abs, length, get_or}
use Rattle.std.proofs.Math.Path.{refl}
use Rattle.std.proofs.Common.{ap₂}
use native.Mathlib.Omega.{arith}
use borrow.Author.Tests.{le-ltb, le-leb, eq-eqb}
use Rattle.definitions.specs.Answers.{go, refuse_with, ◌then◌}
use Rattle.definitions.specs.System.{coef_limit}
use Rattle.laws.proofs.CheckLaws.{first_goes}
use Rattle.texts.specs.Reading.{most_bytes}
use Rattle.map_spec.specs.Form.{CoefsInRange}
use Rattle.equation_spec.specs.Meaning.{coefficient}
use Rattle.equation_spec.specs.Outcome.{accepted, checked, list, limits, tree_outcome, outcome}
use Rattle.equation_spec.specs.Writing.{written}
use Rattle.equation_spec.proofs.WriteLaws.{tree_of, written_reads, written_coefficient, written_right, written_depth, written_exceeds, written_short}
use Rattle.equation_spec.proofs.Agreement.{read_any}

list_is : (zs : List ℤ) (k : ℕ) (f : ℕ → ℤ) → ((j : ℕ) → f (k + j) ≡ get_or zs j (pos 0)) → list (length zs) k f ≡ zs
unfolding list
list_is [] k f h = refl
list_is (z ∷ zs) k f h =
    let e : k + 0 ≡ k = omega arith in
    ap₂ (λ x y. x ∷ y) (rw e at (h 0)) (list_is zs (suc k) f (λ j. let e : suc k + j ≡ k + suc j = omega arith in rw e (h (suc j))))

module _ (row : List ℤ) (right : ℤ) (few : length row ≤ 16) (f : CoefsInRange row) (l : nat_abs right ≤ coef_limit) where
  in_range : (i : ℕ) → i < length row → ¬ (T (ltb coef_limit (nat_abs (coefficient (tree_of row right) (suc i)))))
  in_range i m h = rw (written_coefficient row right i, le-ltb coef_limit _ (f i m)) at h

  within_limits : limits (length row) (tree_of row right) ≡ go
  unfolding limits refuse_with ◌then◌
  within_limits =
      let (a, b) = written_depth row right in
      let (c, d) = written_exceeds row right 1 in
      rw (a, b, c, d, first_goes 7 (length row) _ in_range, written_right row right, le-ltb coef_limit (nat_abs right) l)

  -- What is written is read, and comes to the row that was written.
  pub written_back : 1 ≤ length row → outcome (length row) (length row) (written row right) ≡ accepted row right
  unfolding outcome tree_outcome checked refuse_with ◌then◌
  written_back some =
      let r = read_any (length row) (tree_of row right) (written row right) few (written_reads row right f l) in
      let s = list_is row 1 (coefficient (tree_of row right)) (λ j. let e : 1 + j ≡ suc j = omega arith in rw e (written_coefficient row right j)) in
      rw (
        le-ltb most_bytes (length (written row right)) (omega (arith, written_short row right few f l)),
        le-leb 1 (length row) some,
        le-leb (length row) 16 few,
        eq-eqb (length row) (length row) refl,
        r,
        within_limits,
        s,
        written_right row right,
      )
