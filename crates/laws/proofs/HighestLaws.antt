-- Document 02, Job 7, "The check says which row": there is a place exactly where the check said yes, the row there is at or below the tuple, and none higher
-- is. Assumes nothing.
use Rattle.std.specs.Prelude.{◌≡◌, true, false, ℕ, ◌-◌, ◌≤◌, ◌<◌}
use Rattle.std.proofs.Math.Option.{Option, some, none}
use Rattle.linear.proofs.PlaceLaws.{LastIs, any_last, given, last_is}
use Rattle.linear.specs.Tuples.{AtOrBelow}
use Rattle.definitions.specs.System.{covered, is_at_or_below}
use Rattle.definitions.specs.Highest.{highest}
use Rattle.laws.proofs.SystemLaws.{below_from, below_to}

module _ (w n : ℕ) (row : ℕ → ℕ → ℕ) (x : ℕ → ℕ) where
  -- "The plain, capped and floor steps use it; their own answers do not change.": a place is given exactly where some row is at or below x
  pub covered_highest : covered w n row x ≡ given (highest w n row x)
  unfolding covered highest
  covered_highest = any_last n (λ i. is_at_or_below w (row i) x)

  pub covered_some : {k : ℕ} → highest w n row x ≡ some k → covered w n row x ≡ true
  covered_some e = rw (covered_highest, e)

  pub covered_none : highest w n row x ≡ none → covered w n row x ≡ false
  covered_none e = rw (covered_highest, e)

  -- what a place says
  pub record Highest (k : ℕ) : Type 0 where
    pub some : 0 < k
    pub few : k ≤ n
    pub below : AtOrBelow w (row (k - 1)) x
    pub none_higher : (i : ℕ) → k ≤ i → i < n → ¬ (AtOrBelow w (row i) x)

  -- what the answer says
  abbrev pub HighestIs : Option ℕ → Type 0
  HighestIs none = (i : ℕ) → i < n → ¬ (AtOrBelow w (row i) x)
  HighestIs (some k) = Highest k

  pub highest_is : HighestIs (highest w n row x)
  unfolding highest
  highest_is = says (highest w n row x) (last_is n (λ i. is_at_or_below w (row i) x))
    where
      says : (o : Option ℕ) → LastIs n (λ i. is_at_or_below w (row i) x) o → HighestIs o
      says none h = λ i l b. h i l (below_to w (row i) x b)
      says (some k) h =
          record {
            some = h.some;
            few = h.few;
            below = below_from w (row (k - 1)) x h.holds;
            none_higher = λ i l m b. h.none_after i l m (below_to w (row i) x b);
          }
