-- Whose turn it is: the first run in the round after the run served last, and none where none is in it. Assumes nothing.
use Rattle.std.specs.Prelude.{Bool, T, ltb}
use Prim.Native.Nat.{ℕ, ◌+◌, ◌-◌, ◌<◌}
use Rattle.dispatch_spec.specs.Dispatch.{Round, either, in_round, first_asked, further}

-- ---- the first place at which a test holds

pub record First (n : ℕ) (f : ℕ → Bool) (i : ℕ) : Type 0 where
  pub below : i < n
  pub holds : T (f i)
  pub before : (j : ℕ) → j < i → ¬ (T (f j))

-- how many runs are asked before run i
abbrev pub ahead : ℕ → ℕ → ℕ → ℕ
ahead count start i = either (ltb i start) (i + count - start) (i - start)

-- ---- whose turn it is

-- run i is in the round, and no run is that is asked before it
pub record Next (count : ℕ) (r : Round) (i : ℕ) : Type 0 where
  pub below : i < count
  pub stays : T (in_round r i)
  pub before : (j : ℕ) → j < count → ahead count (first_asked count r.last) j < ahead count (first_asked count r.last) i → ¬ (T (in_round r j))

abbrev pub asks : ℕ → Round → ℕ → Bool
asks count r k = in_round r (further count (first_asked count r.last) k)

module _ (count : ℕ) (r : Round) (some_run : 0 < count) where
  abbrev pub start : ℕ
  start = first_asked count r.last
