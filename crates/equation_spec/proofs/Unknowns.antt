-- The unknowns of a reading are at most q. Assumes nothing.
use Rattle.std.specs.Prelude.{ℕ, ◌≤◌}
use mathlib.Core.List.{List, [], ◌∷◌}
use Rattle.std.proofs.Common.{arith}
use Rattle.equation_spec.specs.Grammar.{bare, led, Sum, one, more, Term, number, plain, times, Factor, unknown, bracket, Equation, Part, sign, closing}
use Rattle.equation_spec.specs.Grammar.{equals, sum_parts, term_parts, factor_parts, parts, Spells, Reads}
use Rattle.equation_spec.proofs.PartLaws.{first}

unfoldable mutual
  pub SumUpTo : Sum → ℕ → Type 0
  SumUpTo (one l u) q = TermUpTo u q
  SumUpTo (more e s u) q = SumUpTo e q × TermUpTo u q

  pub TermUpTo : Term → ℕ → Type 0
  TermUpTo (number n) q = Unit {0}
  TermUpTo (plain f) q = FactorUpTo f q
  TermUpTo (times n f) q = FactorUpTo f q

  pub FactorUpTo : Factor → ℕ → Type 0
  FactorUpTo (unknown k) q = k ≤ q
  FactorUpTo (bracket e) q = SumUpTo e q

-- what is left of the text after a tree
record Left (q : ℕ) (P : Type 0) (ps : List Part) : Type 0 where
  holds : P
  rest : List ℕ
  spells : Spells q ps rest

module _ (q n : ℕ) (l : q ≤ n) where
  mutual
    unfolding sum_parts SumUpTo

    sum_upto : (e : Sum) (ps : List Part) (t : List ℕ) → Spells q (sum_parts e ps) t → Left q (SumUpTo e n) ps
    sum_upto (one bare u) ps t s = let a = term_upto u ps t s in record { holds = a.holds; rest = a.rest; spells = a.spells }
    sum_upto (one (led g) u) ps t s = let i = first s in let a = term_upto u ps i.rest i.spells in
        record { holds = a.holds; rest = a.rest; spells = a.spells }
    sum_upto (more e g u) ps t s =
        let c = sum_upto e (sign g ∷ term_parts u ps) t s in
        let i = first c.spells in
        let a = term_upto u ps i.rest i.spells in
        record { holds = (c.holds, a.holds); rest = a.rest; spells = a.spells }

    term_upto : (u : Term) (ps : List Part) (t : List ℕ) → Spells q (term_parts u ps) t → Left q (TermUpTo u n) ps
    term_upto (number m) ps t s = let i = first s in record { holds = tt; rest = i.rest; spells = i.spells }
    term_upto (plain f) ps t s = let a = factor_upto f ps t s in record { holds = a.holds; rest = a.rest; spells = a.spells }
    term_upto (times m f) ps t s =
        let i = first s in
        let j = first i.spells in
        let a = factor_upto f ps j.rest j.spells in
        record { holds = a.holds; rest = a.rest; spells = a.spells }

    factor_upto : (f : Factor) (ps : List Part) (t : List ℕ) → Spells q (factor_parts f ps) t → Left q (FactorUpTo f n) ps
    factor_upto (unknown k) ps t s = let i = first s in record { holds = omega (arith, i.allowed.1); rest = i.rest; spells = i.spells }
    factor_upto (bracket e) ps t s =
        let i = first s in
        let c = sum_upto e (closing ∷ ps) i.rest i.spells in
        let j = first c.spells in
        record { holds = c.holds; rest = j.rest; spells = j.spells }

  pub reads_upto : (e : Equation) (t : List ℕ) → Reads q e t → SumUpTo e.left n × SumUpTo e.right n
  unfolding parts
  reads_upto e t r =
      let a = sum_upto e.left (equals ∷ sum_parts e.right []) t r.spells in
      let i = first a.spells in
      let c = sum_upto e.right [] i.rest i.spells in
      (a.holds, c.holds)
