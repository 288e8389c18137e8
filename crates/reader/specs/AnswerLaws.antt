-- What each way through the code comes to: the tests that were made, and the answer that they give. Assumes nothing.
use Rattle.std.specs.Prelude.{◌≡◌, true, false, List, [], ℕ, ◌*◌, ◌/◌, ◌≤◌, leb, eqb, length, get_or}
use Rattle.std.proofs.Math.Option.{Option}
use Rattle.std.proofs.Common.{div-mul-le_self, mul-le-mul_right, arith}
use Rattle.definitions.specs.Answers.{◌then◌, refuse_with}
use Rattle.definitions.specs.Highest as paper
use Rattle.definitions.specs.Refusals.{between}
use Rattle.definitions.specs.Tables.{at, capacity}

module _ (most q : ℕ) (list : List ℕ) (found : ℕ) (t : List ℕ) where
  pub unknowns_outside : between 1 most q ≡ false → paper.refused 2 [] ≡ paper.locate_within most q list found t
  unfolding paper.locate_within paper.locate_checks paper.unless_refused refuse_with ◌then◌
  unknowns_outside a = rw a

  module _ (a : between 1 most q ≡ true) where
    pub other_length : eqb (length t) q ≡ false → paper.refused 5 [] ≡ paper.locate_within most q list found t
    unfolding paper.locate_within paper.locate_checks paper.unless_refused refuse_with ◌then◌
    other_length c = rw (a, c)

    module _ (c : eqb (length t) q ≡ true) where
      pub many_rows : leb found (capacity q list) ≡ false → paper.refused 6 [] ≡ paper.locate_within most q list found t
      unfolding paper.locate_within paper.locate_checks paper.unless_refused refuse_with ◌then◌
      many_rows d = rw (a, c, d)

      pub asked : leb found (capacity q list) ≡ true → {o : Option ℕ} → o ≡ paper.highest q found (at list q) (λ j. get_or t j 0)
          → paper.placed o ≡ paper.locate_within most q list found t
      unfolding paper.locate_within paper.locate_checks paper.unless_refused refuse_with ◌then◌
      asked d e = rw (a, c, d, ← e)

pub rows_fit : (n q : ℕ) {found : ℕ} → found ≤ n / q → found * q ≤ n
rows_fit n q l = omega (arith, mul-le-mul_right q l, div-mul-le_self n q)
