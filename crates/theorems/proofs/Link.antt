-- Theorems about what specs/Link.antt defines. Assumes nothing.
use Rattle.std.specs.Prelude.{◌≡◌, ℕ, zero, suc}
use Rattle.std.proofs.Math.Path.{refl}
use Rattle.std.proofs.Common.{arith}
use Rattle.definitions.specs.System.{Kind, System, above, capped, plain}
use Rattle.definitions.specs.Tables.{State, at, lowered}
use Rattle.laws.proofs.MarkLaws.{frozen_none}
use Rattle.laws.specs.RefusalLaws.{Shaped}
use Rattle.laws.proofs.TableLaws.{row_written}
use Rattle.theorems.specs.Invariant.{Invariant}
use Rattle.theorems.proofs.Starts.{lower_starts}
use Rattle.theorems.specs.Link.{at_or_above, found_of, task, view}

-- the walk above a lower bound begins with the row of the bound, and nothing listed
pub lower_invariant : (m : System) (f : ℕ → ℕ) (s : State) → Shaped m s → m.kind ≡ above f → s.run.found ≡ 0
    → Invariant (task m (at_or_above f)) (view m (lowered f m.q s))
unfolding lowered
lower_invariant m f s g is none =
    let r = row_written m.q s.stack 0 f 0 g.q_some g.stack in
    lower_starts (record { height = refl; found = found m.kind is; tuple = r.tuple; free = λ j jq h. frozen_none j (rw r.marks_are at h) })
  where
    found : (k : Kind) → k ≡ above f → (c : ℕ) → found_of k s.run.found s.run.found2 c ≡ 0
    found plain e c = absurd (let z : ◌≡◌ {A = ℕ} 0 1 = cc in omega arith)
    found capped e c = absurd (let z : ◌≡◌ {A = ℕ} 0 1 = cc in omega arith)
    found (above h) e zero = none
    found (above h) e (suc c) = refl
