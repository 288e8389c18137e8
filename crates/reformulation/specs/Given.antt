-- What the code is sure of once the checks before the numbers have passed; and those checks as code makes them. Assumes nothing.
use Rattle.std.specs.Prelude.{◌≡◌, Bool, true, false, not, ◌&&◌, List, [], ℕ, ◌+◌, ◌*◌, ◌≤◌, leb, ℤ, length}
use Rattle.std.proofs.Common.{sym, ◌∙◌, mul-le-mul, arith, leb→le}
use Rattle.std.proofs.lemmas.Bool.{not-false, not-true}
use Rattle.linear.proofs.TestLaws.{and_parts}
use Rattle.definitions.specs.Answers.{Check, ◌then◌, go, refuse, refuse_with}
use Rattle.definitions.specs.Refusals.{between, check7}
use Rattle.checks.specs.Coefficients.{coefficient_checks}
use Rattle.reformulation_spec.specs.Reformulation.{Reformulation, are_lengths, given_checks}
use Rattle.reformulation_spec.specs.Rules.{Lengths, few_equations, few_unknowns}
use Rattle.reformulation_spec.proofs.Rules.{given_sizes}

-- ---- a test that was made, whose answer r is that of the definition

pub fails : {r x : Bool} → r ≡ x → not r ≡ true → x ≡ false
fails {r} e h = sym e ∙ not-true r h

pub holds : {r x : Bool} → r ≡ x → not r ≡ false → x ≡ true
holds {r} e h = sym e ∙ not-false r h

-- ---- sizes

-- sizes whose products are small
pub record Sized (p q k m : ℕ) : Type 0 where
  pub p_few : p ≤ 32
  pub m_few : m ≤ 32
  pub few : q + k ≤ 32

-- a product of two of them, or of one more
pub product_few : {x y : ℕ} → x ≤ 65 → y ≤ 65 → x * y ≤ 4225
product_few a b = omega (arith, mul-le-mul a b)

pub unknowns_few : (q k : ℕ) → few_unknowns q k ≡ true → (1 ≤ q) × (q + k ≤ 32)
unknowns_few q k e = let (a, b) = and_parts (leb 1 q) (leb (q + k) 32) (rw e tt) in (leb→le 1 q a, leb→le (q + k) 32 b)

pub sized_by : (p q k m : ℕ) → (between 1 32 p && between 1 32 m) ≡ true → few_unknowns q k ≡ true → Sized p q k m
sized_by p q k m e u =
    let (a, b) = and_parts (between 1 32 p) (between 1 32 m) (rw e tt) in
    record {
      p_few = leb→le p 32 (and_parts (leb 1 p) (leb p 32) a).1;
      m_few = leb→le m 32 (and_parts (leb 1 m) (leb m 32) b).1;
      few = (unknowns_few q k u).1;
    }

-- ---- the checks, as code makes them

module _ (r : Reformulation) where
  pub many_equations : few_equations r ≡ false → refuse 1 [] ≡ given_checks r
  unfolding given_checks refuse_with ◌then◌
  many_equations e = rw e

  module _ (e : few_equations r ≡ true) where
    pub many_unknowns : few_unknowns r.q r.k ≡ false → refuse 2 [] ≡ given_checks r
    unfolding given_checks refuse_with ◌then◌
    many_unknowns u = rw (e, u)

    module _ (u : few_unknowns r.q r.k ≡ true) where
      pub other_lengths : are_lengths r ≡ false → refuse 3 [] ≡ given_checks r
      unfolding given_checks refuse_with ◌then◌
      other_lengths l = rw (e, u, l)

      pub passed : are_lengths r ≡ true → {c : Check} → c ≡ coefficient_checks r.coefs → c ≡ given_checks r
      unfolding given_checks refuse_with ◌then◌ check7
      passed l c = rw (e, u, l) c

-- ---- where they have passed

pub record Given (r : Reformulation) : Type 0 where
  pub sized : Sized r.p r.q r.k r.m
  pub lengths : Lengths r

pub given_of : (r : Reformulation) → given_checks r ≡ go → Given r
given_of r e =
    let (equations, unknowns, lengths) = given_sizes r e in
    record { sized = record { p_few = equations.p_few; m_few = equations.m_few; few = unknowns.few }; lengths = lengths }

-- the map and the extended one
pub record Laid (p q k : ℕ) (coefs extended : List ℤ) : Type 0 where
  pub p_few : p ≤ 32
  pub few : q + k ≤ 32
  pub map : p * q ≤ length coefs
  pub whole : (p + k) * (q + k) ≤ length extended
