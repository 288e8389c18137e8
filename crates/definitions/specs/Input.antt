-- What is handed over anew with every call: "In the demands the map includes all that is handed over anew with every call, such as a floor, loops or a limit."
-- Assumes nothing.
use Rattle.std.specs.Prelude.{ℕ, min, max, List, ℤ, get_or}
use Rattle.definitions.specs.System.{Kind, System, above, extended, most_component, plain}

-- what comes with the map: nothing, or right sides
pub data Extra : Type 0 where
  alone : Extra
  rights : List ℤ → Extra

-- the map, what comes with it, and the component limit
pub record Input : Type 0 where
  pub p : ℕ
  pub q : ℕ
  pub coefs : List ℤ
  pub extra : Extra
  pub limit : ℕ

-- a map with what comes with it, for a seat with a limit of components
abbrev pub input_with : Extra → ℕ → ℕ → ℕ → List ℤ → Input
input_with extra limit p q coefs = record { p = p; q = q; coefs = coefs; extra = extra; limit = limit }

-- a map alone, with document 01's limit of components
abbrev pub input_of : ℕ → ℕ → List ℤ → Input
input_of p q coefs = input_with alone most_component p q coefs

-- the limit that counts: "(above 1,000,000 counts as that, 0 as 1)"
abbrev pub limit_of : ℕ → ℕ
limit_of n = max 1 (min n most_component)

-- the map as a system without right sides, for a walk of a kind
abbrev pub system_for : Kind → Input → System
system_for k i = record { p = i.p; q = i.q; coefs = i.coefs; kind = k; limit = limit_of i.limit }

-- the map by itself
abbrev pub map_of : Input → System
map_of i = system_for plain i

-- the system that the walk goes through
abbrev pub walk_system : Extra → Input → System
walk_system alone i = map_of i
walk_system (rights b) i = extended b (map_of i)

abbrev pub system_of : Input → System
system_of i = walk_system i.extra i

-- a lower bound as a tuple (document 01: a floor, "q numbers")
abbrev pub bound_of : List ℕ → ℕ → ℕ
bound_of lower j = get_or lower j 0

-- the system that the second walk of a run from a lower bound goes through; its first goes through the map by itself
abbrev pub above_system : List ℕ → Input → System
above_system lower i = system_for (above (bound_of lower)) i
