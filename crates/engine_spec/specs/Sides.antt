-- Right sides and lower bounds by the engine's calls as they stand: what a run is started with, and which rows of its list are handed out. An extra unknown
-- stands first, with the negated right sides as its column. From a lower bound, what exceeds it meets the right sides less what the bound itself makes of them.
-- All computes. Assumes nothing.
use Rattle.std.specs.Prelude.{◌≡◌, Bool, List, [], ◌∷◌, ◌++◌, ℕ, zero, suc, ◌+◌, ◌*◌, ◌≤◌, ◌<◌, eqb, ℤ, pos, neg_ℤ, ◌+ℤ◌, get_or, length}
use Rattle.linear.specs.Combinations.{Enumerates}
use Rattle.linear.specs.Systems.{Meets, value}
use Rattle.linear.specs.Tests.{count_to}
use Rattle.linear.specs.Tuples.{AtOrBelow, Same, rest}
use Rattle.definitions.specs.Tables.{at}
use Rattle.laws.specs.Pack.{pack_to}
use Rattle.engine_spec.specs.Engine.{system_of}

-- ---- what a run is started with

-- Right side i, less what the lower bound makes of equation i: the first n of them. With no right sides and the bound f these are −A f.
unfoldable pub less_to : ℕ → (q : ℕ) (coefs rights : List ℤ) (lower : ℕ → ℕ) → List ℤ
less_to zero q coefs rights lower = []
less_to (suc n) q coefs rights lower =
    less_to n q coefs rights lower ++ ((get_or rights n (pos 0) +ℤ neg_ℤ (value (system_of q coefs n) q lower)) ∷ [])

-- ---- what is handed out

-- row i of a list of q + 1 numbers has c in the first unknown
abbrev pub has_first : (c q : ℕ) → List ℕ → ℕ → Bool
has_first c q list i = eqb (at list (suc q) i 0) c

-- that row without its first unknown, and with the bound added
abbrev pub lifted : (q : ℕ) (lower : ℕ → ℕ) → List ℕ → ℕ → ℕ → ℕ
lifted q lower list i j = rest (at list (suc q) i) j + lower j

-- of the first n rows those with c there, one behind the other, and their number
abbrev pub handed : (c q : ℕ) (lower : ℕ → ℕ) (list : List ℕ) (n : ℕ) → List ℕ → List ℕ
handed c q lower list n out = pack_to n q out 0 (has_first c q list) (lifted q lower list)

abbrev pub handed_count : (c q : ℕ) (list : List ℕ) (n : ℕ) → ℕ
handed_count c q list n = count_to n (has_first c q list)

-- ---- the rows handed out

-- Where the rows with c in the first unknown stand for the tuples of W, each for its own, what is handed out is W, each tuple once.
module _ (q : ℕ) (some : 0 < q) (L W : (ℕ → ℕ) → Type 0) (alike : (s t : ℕ → ℕ) → Same q s t → W s → W t) (c : ℕ) (lower : ℕ → ℕ)
    (there : (t : ℕ → ℕ) → L t → t 0 ≡ c → W (λ j. rest t j + lower j))
    (back : (s : ℕ → ℕ) → W s → (t : ℕ → ℕ) × L t × (t 0 ≡ c) × Same q (λ j. rest t j + lower j) s) (list : List ℕ) (n : ℕ)
    (rows : Enumerates (suc q) L n (at list (suc q))) (out : List ℕ) (roomy : handed_count c q list n * q ≤ length out) where
  abbrev pub f : ℕ → Bool
  f = has_first c q list

  abbrev pub list' : List ℕ
  list' = handed c q lower list n out

-- ---- lower bounds

-- what meets the right sides and is at or above the bound
pub record MeetsFrom (p q : ℕ) (a : ℕ → ℕ → ℤ) (b : ℕ → ℤ) (lower t : ℕ → ℕ) : Type 0 where
  pub meets : Meets p q a b t
  pub above : AtOrBelow q lower t
