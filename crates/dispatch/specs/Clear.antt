-- The tests of 27 and 28 as code makes them. Assumes nothing.
use Rattle.std.specs.Prelude.{◌≡◌, true, false, ℕ, ◌+◌, ◌≤◌, ◌<◌}
use Rattle.std.proofs.Common.{leb→le}
use Rattle.linear.proofs.TestLaws.{all_at}
use Rattle.dispatch_spec.specs.Parts.{Part, fits, all_fit, none_overlap, apart}

-- each of these parts lies in the table
pub record Within (n len : ℕ) (part : ℕ → Part) : Type 0 where
  pub fit : (i : ℕ) → i < n → (part i).start + (part i).size ≤ len

pub within_says : (n len : ℕ) (part : ℕ → Part) → all_fit n len part ≡ true → Within n len part
within_says n len part e = record { fit = λ i l. leb→le ((part i).start + (part i).size) len (all_at n (λ k. fits len (part k)) (rw e tt) i l) }

-- ---- the parts of one table

pub apart_not : (n len : ℕ) (part : ℕ → Part) → all_fit n len part ≡ false → false ≡ apart n len part
unfolding apart
apart_not n len part e = rw e

pub apart_rest : (n len : ℕ) (part : ℕ → Part) → all_fit n len part ≡ true → none_overlap n part ≡ apart n len part
unfolding apart
apart_rest n len part e = rw e
