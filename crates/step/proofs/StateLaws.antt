-- A step's children, as code finds and writes them, are those of the state: with the top's tuple, inner products and children's marks in the
-- hands of code, each test and each table is that of the definitions. Assumes nothing.
use Rattle.std.specs.Prelude.{◌≡◌, Bool, not, ◌&&◌, List, ℕ, ◌<◌, eqb, ℤ, pos}
use Rattle.std.proofs.Math.Path.{sym, ap}
use Rattle.std.proofs.Common.{◌∙◌}
use Rattle.std.proofs.Math.Numerals.{add-one}
use Rattle.std.proofs.Math.Dec.{eqb-suc-suc}
use Rattle.std.specs.Int.Signed.{lt_z}
use Rattle.linear.specs.Tests.{any_to, count_to}
use Rattle.linear.proofs.TestLaws.{any_same, count_same}
use Rattle.linear.specs.Tuples.{Same, raise}
use Rattle.linear.specs.TupleLaws.{unit_same}
use Rattle.definitions.specs.System.{Kind, System, towards}
use Rattle.definitions.specs.Tables.{State, frozen}
use Rattle.definitions.specs.Step.{children_to, level, makes, top, top_marks, write_children}
use Rattle.definitions.specs.Refusals.{too_large}
use Rattle.laws.specs.StepLaws.{first_open, second_open}
use Rattle.laws.proofs.StepLaws.{makes_parts}
use Rattle.calls.specs.Paper.{system_with}
use Rattle.candidates.specs.Grow.{child_for}
use Rattle.candidates.specs.GrowLaws.{child_same}
use Rattle.step.proofs.GrowLaws.{grow_same}

module _ (k : Kind) (p q : ℕ) (coefs : List ℤ) (limit : ℕ) (s : State) where
  abbrev m : System
  m = system_with k p q coefs limit

  -- candidates are those unknowns that are not frozen and have an inner product below zero; t is the top's tuple
  pub child_makes : (t : ℕ → ℕ) (candidates j : ℕ) → 0 < q → Same q t (top m s)
      → frozen candidates j ≡ lt_z (towards m (top m s) j) (pos 0) && not (frozen (top_marks m s) j) → child_for k q s t candidates j ≡ makes m s j
  unfolding child_for
  child_makes t candidates j some e c =
      child_same k q s candidates j some e
      ∙ ap (λ b. (b && second_open k q s (raise (top m s) j)) && first_open k q s (raise (top m s) j)) c
      ∙ sym (makes_parts m s j)

  -- f says which unknowns make a child
  module _ {f : ℕ → Bool} (h : (j : ℕ) → j < m.q → f j ≡ makes m s j) where
    pub count_by : count_to m.q f ≡ count_to m.q (makes m s)
    count_by = count_same f (makes m s) m.q h

  -- t is the top's tuple
  module _ {t : ℕ → ℕ} (e : Same m.q t (top m s)) where
    module _ {f : ℕ → Bool} (h : (j : ℕ) → j < m.q → f j ≡ makes m s j) where
      pub grown_by : write_children m.q m.q s.stack (level s) t (top_marks m s) f ≡ children_to m.q m s
      grown_by = grow_same m.q m.q s.stack (level s) (top_marks m s) e h

      pub too_large_by : any_to q (λ j. f j && eqb (t j) limit) ≡ too_large m s
      unfolding too_large
      too_large_by = any_same m.q _ _ (λ j l. rw (unit_same, add-one (top m s j), add-one limit, e j l, h j l, eqb-suc-suc (top m s j) limit))
