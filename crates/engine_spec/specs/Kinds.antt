-- The promises of the engine for every kind of map: right sides, lower bounds, and one group of equations after the other. Open this file after Promises.antt.
-- They hold of every run that nobody else alters, on a system made from the map as Sides.antt has it; what is handed out of its list is defined there too. A
-- run may have a cap on the extra unknown (Caps.antt), so that rows with more than 1 there are dropped as they come: the lists are the same. Groups.antt has
-- the user's first sentence: however a list was made, it is the same. Assumes nothing.
use Rattle.std.specs.Prelude.{◌≡◌, List, ◌++◌, ℕ, suc, ◌+◌, ◌*◌, ◌≤◌, ◌<◌, ℤ, pos, get_or, length, take}
use Rattle.linear.specs.Combinations.{Enumerates}
use Rattle.linear.specs.Systems.{Meets, Solution}
use Rattle.linear.specs.Tuples.{AtOrBelow, Minimal, Same, rest}
use Rattle.definitions.specs.System.{MinimalMeeting, MinimalSolution, extend_to}
use Rattle.definitions.specs.Tables.{at}
use Rattle.theorems.specs.Listed.{Exactly}
use Rattle.desk_spec.specs.Desks.{Desk}
use Rattle.desk_spec.specs.Promises.{SameList}
use Rattle.engine_spec.specs.Base.{Base}
use Rattle.engine_spec.specs.Engine.{system_of}
use Rattle.engine_spec.specs.Equations.{LoopInside}
use Rattle.engine_spec.specs.Promises.{map_of}
use Rattle.engine_spec.specs.Sides.{MeetsFrom, handed, handed_count, less_to}

-- ---- what is listed, in words

-- nothing is added to a row that is handed out
abbrev pub nothing : ℕ → ℕ
nothing j = 0

-- "the smallest tuples that meet the right sides", of those at or above a bound
abbrev pub MinimalMeetingFrom : (p q : ℕ) (coefs rights : List ℤ) (lower : ℕ → ℕ) → (ℕ → ℕ) → Type 0
MinimalMeetingFrom p q coefs rights lower = Minimal q (MeetsFrom p q (system_of q coefs) (λ i. get_or rights i (pos 0)) lower)

-- What a complete list of the extended system holds, with a cap or without: "at 0 the loops of the plain map, at 1 the smallest tuples that meet the right
-- sides" (`Whole` of theorems/specs/Held says the same of a capped run). The rows with c are written into any table with room for them.
pub record BothLists (p q : ℕ) (coefs rights : List ℤ) (list : List ℕ) (n : ℕ) : Type 0 where
  -- the rows with 0 are exactly the minimal solutions of the map, each once,
  pub at_zero : (out : List ℕ) → handed_count 0 q list n * q ≤ length out
      → Exactly q (MinimalSolution (map_of p q coefs)) (handed 0 q nothing list n out) (handed_count 0 q list n)
  -- those with 1 exactly the smallest tuples that meet the right sides, each once,
  pub at_one : (out : List ℕ) → handed_count 1 q list n * q ≤ length out
      → Exactly q (MinimalMeeting (map_of p q coefs) rights) (handed 1 q nothing list n out) (handed_count 1 q list n)
  -- "zero if all of them are zero",
  pub zero_alone : ((i : ℕ) → i < p → get_or rights i (pos 0) ≡ pos 0) → (out : List ℕ) → handed_count 1 q list n * q ≤ length out
      → (handed_count 1 q list n ≡ 1) × Same q (at (handed 1 q nothing list n out) q 0) (λ j. 0)
  -- and of the others none is a solution of the map or meets the right sides: they are left out.
  pub others : (i : ℕ) → i < n → 1 < at list (suc q) i 0
      → ¬ (Solution p q (system_of q coefs) (rest (at list (suc q) i)))
      × ¬ (Meets p q (system_of q coefs) (λ k. get_or rights k (pos 0)) (rest (at list (suc q) i)))

-- What a complete list holds from a lower bound: the rows with 1 in the first unknown, with the bound added, are exactly the smallest at or above the bound,
-- each once; and where there are none, nothing at or above the bound is such. With right sides `rights`, without them where these are [].
pub record FromBound (p q : ℕ) (coefs rights : List ℤ) (lower : ℕ → ℕ) (list : List ℕ) (n : ℕ) : Type 0 where
  pub smallest : (out : List ℕ) → handed_count 1 q list n * q ≤ length out
      → Exactly q (MinimalMeetingFrom p q coefs rights lower) (handed 1 q lower list n out) (handed_count 1 q list n)
  pub empty : handed_count 1 q list n ≡ 0 → (t : ℕ → ℕ) → AtOrBelow q lower t → ¬ (Meets p q (system_of q coefs) (λ i. get_or rights i (pos 0)) t)

module _ (cap p q : ℕ) (some : 0 < q) (coefs rights : List ℤ) (numbers : length coefs ≡ p * q) (list : List ℕ) (n : ℕ)
    (rows : Enumerates (suc q) (LoopInside cap p (suc q) (system_of (suc q) (extend_to p q coefs rights))) n (at list (suc q))) where
  abbrev pub extended : ℕ → ℕ → ℤ
  extended = system_of (suc q) (extend_to p q coefs rights)

  abbrev pub a : ℕ → ℕ → ℤ
  a = system_of q coefs

  abbrev pub b : ℕ → ℤ
  b i = get_or rights i (pos 0)

-- The smallest tuples at or above a bound, from the list of the system extended by the right sides less what the bound makes of them.
module _ (cap p q : ℕ) (some : 0 < q) (coefs rights : List ℤ) (numbers : length coefs ≡ p * q) (lower : ℕ → ℕ) (list : List ℕ) (n : ℕ)
    (rows : Enumerates (suc q) (LoopInside cap p (suc q) (system_of (suc q) (extend_to p q coefs (less_to p q coefs rights lower)))) n
    (at list (suc q))) where
  abbrev pub extended' : ℕ → ℕ → ℤ
  extended' = system_of (suc q) (extend_to p q coefs (less_to p q coefs rights lower))

  abbrev pub b' : ℕ → ℤ
  b' i = get_or (less_to p q coefs rights lower) i (pos 0)

  abbrev pub From : (ℕ → ℕ) → Type 0
  From = MeetsFrom p q (system_of q coefs) (λ i. get_or rights i (pos 0)) lower

-- both lists are the same: in any tables, as many rows, each row of either in the other
abbrev pub SameSides : (q : ℕ) (one : List ℕ) (n : ℕ) (other : List ℕ) (m : ℕ) → Type 0
SameSides q one n other m =
    (c : ℕ) → c ≤ 1 → (out out' : List ℕ) → handed_count c q one n * q ≤ length out → handed_count c q other m * q ≤ length out'
    → SameList q (handed c q nothing one n out) (handed_count c q one n) (handed c q nothing other m out') (handed_count c q other m)

-- ---- two groups of equations

-- Job 10's second desk, handed the first n rows of a list
abbrev pub desk_from : (p q : ℕ) (coefs : List ℤ) (n : ℕ) → List ℕ → Desk
desk_from p q coefs n list = record { p = p; q = q; coefs = coefs; generators = take (n * q) list }

-- ---- from a list

-- the equations before, as p rows of coefficients, with a cap and without
abbrev pub before_under : (cap p q : ℕ) (coefs : List ℤ) → Base
before_under cap p q coefs = record { p = p; a = system_of q coefs; cap = cap }

abbrev pub before : (p q : ℕ) (coefs : List ℤ) → Base
before = before_under 0

-- ---- right sides, one group of equations after the other

module _ (p₀ q : ℕ) (coefs₀ rights₀ : List ℤ) (numbers₀ : length coefs₀ ≡ p₀ * q) (sides₀ : length rights₀ ≡ p₀) (p : ℕ) (coefs rights : List ℤ)
    (numbers : length coefs ≡ p * q) where
  abbrev pub both : ℕ → ℕ → ℤ
  both = system_of (suc q) (extend_to (p₀ + p) q (coefs₀ ++ coefs) (rights₀ ++ rights))

  abbrev pub first : ℕ → ℕ → ℤ
  first = system_of (suc q) (extend_to p₀ q coefs₀ rights₀)

  abbrev pub second : ℕ → ℕ → ℤ
  second = system_of (suc q) (extend_to p q coefs rights)
