-- The refusals of the second walk's calls as rules in the documents' words and order, and that the checks of `Desks` render them. Assumes nothing.
use Rattle.std.specs.Prelude.{◌≡◌, ◌≢◌, ◌⊎◌, Bool, List, ℕ, ◌+◌, ◌*◌, ◌^◌, ◌%◌, ◌≤◌, ◌<◌, T, nat_abs, length, get_or}
use Rattle.std.proofs.Math.Dec.{leb, ltb}
use Rattle.linear.specs.Systems.{Fails, Solution}
use Rattle.linear.specs.Tests.{any_to, count_to}
use Rattle.definitions.specs.Refusals.{step_limit}
use Rattle.definitions.specs.System.{coef, image_of, most_component, most_equations, most_unknowns, solves}
use Rattle.definitions.specs.Tables.{State, capacity, frozen}
use Rattle.laws.specs.CheckLaws.{Rule, Rules, ◌▹◌, end, rule}
use Rattle.laws.specs.RefusalLaws.{Outside, range_rule}
use Rattle.desk_spec.specs.Records.{IsDesk}
use Rattle.desk_spec.specs.Desks.{Desk, deepest_limit, desk_makes, desk_marks}
use Rattle.desk_spec.specs.Desks.{desk_top, desk_tuple, freed, generator, generator_count}
use Rattle.desk_spec.specs.Desks.{group_input, image_limit, most_generators, plus, second_group}

-- ---- the cases

-- "in a loop handed over 6": a component above the limit
abbrev pub LargeGenerator : Desk → Type 0
LargeGenerator d = (i : ℕ) × (i < length d.generators) × (most_component < get_or d.generators i 0)

-- "in rows 1 to height a component above 1,000,000, a mark beyond" the last generator, "or a mark count other than k − 1 in row k" (from 0 here)
pub data BadDeskRow (d : Desk) (stack : List ℕ) (k : ℕ) : Type 0 where
  large : (j : ℕ) → j < d.q → most_component < desk_tuple d.q stack k j → BadDeskRow d stack k
  beyond : 2 ^ generator_count d ≤ desk_marks d.q stack k → BadDeskRow d stack k
  miscounted : count_to (generator_count d) (frozen (desk_marks d.q stack k)) ≢ k → BadDeskRow d stack k

-- "A record of one kind of run .. given to a continuing call of another kind"; "height above" the number of generators, "found above the room, steps above
-- 1,000,000,000,000; or" such a row; "a value above 16,000,000"
pub data DeskOutOfOrder (d : Desk) (s : State) : Type 0 where
  other_kind : ¬ (IsDesk s.run) → DeskOutOfOrder d s
  high : generator_count d < s.run.height → DeskOutOfOrder d s
  many : capacity d.q s.list < s.run.found → DeskOutOfOrder d s
  late : step_limit < s.run.steps → DeskOutOfOrder d s
  deep : deepest_limit < s.run.deepest → DeskOutOfOrder d s
  row : (k : ℕ) → k < s.run.height → BadDeskRow d s.stack k → DeskOutOfOrder d s

-- "more than 64 loops or a second-group image of one above 7,000,000 in size"
abbrev pub Wide : Desk → Type 0
Wide d =
    (most_generators < generator_count d) ⊎
    ((k : ℕ) × (k < generator_count d) × (i : ℕ) × (i < d.p) × (image_limit < nat_abs (image_of (second_group d) (generator d k) i)))

-- "12 for any component above 1,000,000": a child would have it
abbrev pub LargeChild : Desk → State → Type 0
LargeChild d s = (j : ℕ) × (j < generator_count d) × T (desk_makes d s j) × (i : ℕ) × (i < d.q) × (most_component < plus (desk_top d s) (generator d j) i)

-- ---- the rules of each call

-- each checks 1 to 4, then its own 6, then 7 and, last before the walk, 25
abbrev pub desk_rules : Desk → State → Rule → Rules
desk_rules d s own =
    rule 1 (Outside 1 most_equations d.p)
    ▹ rule 2 (Outside 1 most_unknowns d.q)
    ▹ rule 3 ((length d.coefs ≢ d.p * d.q) ⊎ (length d.generators % d.q ≢ 0))
    ▹ rule 4 (length s.stack < generator_count d * (d.q + 2))
    ▹ own
    ▹ range_rule (group_input d)
    ▹ rule 25 (Wide d)
    ▹ end

abbrev pub desk_start_rules : Desk → State → Rules
desk_start_rules d s = desk_rules d s (rule 6 (LargeGenerator d))

abbrev pub desk_resume_rules : Desk → State → Rules
desk_resume_rules d s = desk_rules d s (rule 6 (LargeGenerator d ⊎ DeskOutOfOrder d s))

-- "14, 11, 12 keep their order"; "11 only if the sweep frees no row"
abbrev pub desk_search_rules : Desk → State → Rules
desk_search_rules d s =
    rule 14 (s.run.steps ≡ step_limit)
    ▹ rule 11 (Solution d.p d.q (coef (second_group d)) (desk_top d s) × (capacity d.q s.list ≤ (freed d s).run.found))
    ▹ rule 12 (Fails d.p d.q (coef (second_group d)) (desk_top d s) × LargeChild d s)
    ▹ end

module _ (d : Desk) where
  abbrev pub wide_at : ℕ → Bool
  wide_at k = any_to d.p (λ i. ltb image_limit (nat_abs (image_of (second_group d) (generator d k) i)))

-- ---- a row and a record in order

pub record DeskRowInOrder (d : Desk) (stack : List ℕ) (k : ℕ) : Type 0 where
  pub small : (j : ℕ) → j < d.q → desk_tuple d.q stack k j ≤ most_component
  pub fitting : desk_marks d.q stack k < 2 ^ generator_count d
  pub marked : count_to (generator_count d) (frozen (desk_marks d.q stack k)) ≡ k

pub record DeskInOrder (d : Desk) (s : State) : Type 0 where
  pub own : IsDesk s.run
  pub height : s.run.height ≤ generator_count d
  pub found : s.run.found ≤ capacity d.q s.list
  pub early : s.run.steps ≤ step_limit
  pub shallow : s.run.deepest ≤ deepest_limit
  pub rows : (k : ℕ) → k < s.run.height → DeskRowInOrder d s.stack k

module _ (d : Desk) (stack : List ℕ) (k : ℕ) where
  abbrev pub small_at : ℕ → Bool
  small_at j = leb (desk_tuple d.q stack k j) most_component

  abbrev pub marks : ℕ
  marks = desk_marks d.q stack k

module _ (d : Desk) (s : State) where
  -- ---- the search

  abbrev pub sol : Bool
  sol = solves (second_group d) (desk_top d s)

  abbrev pub large_at : ℕ → Bool
  large_at j = any_to d.q (λ i. ltb most_component (plus (desk_top d s) (generator d j) i))
