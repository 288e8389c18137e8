-- The refusals of both calls as rules in words and in their order: each is given in its case and in no other. Assumes nothing.
use Rattle.std.specs.Prelude.{◌≡◌, Bool, ◌&&◌, List, ℕ, ◌+◌, ◌*◌, ◌/◌, ◌≤◌, ◌<◌, leb, length}
use Rattle.definitions.specs.Input.{input_of}
use Rattle.definitions.specs.Refusals.{between}
use Rattle.laws.specs.CheckLaws.{Rules, ◌▹◌, ◌▹▹◌, end, rule}
use Rattle.laws.specs.RefusalLaws.{range_rule}
use Rattle.reformulation_spec.specs.Reformulation.{Reformulation, equations, unknowns}
use Rattle.reformulation_spec.specs.Showing.{Shown}

-- ---- the cases

-- both maps have from 1 to 32 equations
pub record FewEquations (r : Reformulation) : Type 0 where
  pub p_some : 1 ≤ r.p
  pub p_few : r.p ≤ 32
  pub m_some : 1 ≤ r.m
  pub m_few : r.m ≤ 32

-- there is an unknown besides the further ones, and there are no more than 32 in all
pub record FewUnknowns (q k : ℕ) : Type 0 where
  pub some : 1 ≤ q
  pub few : q + k ≤ 32

-- each table has as many numbers as its rows
pub record Lengths (r : Reformulation) : Type 0 where
  pub coefs : length r.coefs ≡ r.p * r.q
  pub extended : length r.extended ≡ equations r * unknowns r
  pub other : length r.other ≡ r.m * unknowns r
  pub onto : length r.onto ≡ r.m * (1 + equations r)
  pub back : length r.back ≡ equations r * (1 + r.m)
  pub above : length r.above ≡ r.k * (1 + r.p)

abbrev pub given_rules : Reformulation → Rules
given_rules r =
    rule 1 (¬ (FewEquations r)) ▹ rule 2 (¬ (FewUnknowns r.q r.k)) ▹ rule 3 (¬ (Lengths r)) ▹ range_rule (input_of r.p r.q r.coefs) ▹ end

-- 36 comes last
abbrev pub reformulate_rules : Reformulation → Rules
reformulate_rules r = given_rules r ▹▹ (rule 36 (¬ (Shown r)) ▹ end)

abbrev pub project_rules : (q k found : ℕ) (rows out : List ℕ) → Rules
project_rules q k found rows out =
    rule 2 (¬ (FewUnknowns q k)) ▹ rule 6 (length rows / (q + k) < found) ▹ rule 29 (length out / q < found) ▹ end

module _ (q k : ℕ) where
  abbrev pub few_unknowns : Bool
  few_unknowns = leb 1 q && leb (q + k) 32

module _ (r : Reformulation) where
  abbrev pub few_equations : Bool
  few_equations = between 1 32 r.p && between 1 32 r.m
