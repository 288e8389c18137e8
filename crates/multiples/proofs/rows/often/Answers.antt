-- `rows::often` meets its contract: the places passed bound it. Assumes nothing.
use mathlib.Core.Path.{refl, ap, ◌∙◌}
use native.Mathlib.Nat.{le_antisymm}
use Rattle.multiples_spec.specs.Parts.{bounded, often_to}
use Rattle.multiples.proofs.Taking.{often_next}
use Rattle.multiples.proofs.rows.often.Goals as goal

pub loop-j-init : goal.loop-j-init
unfolding often_to
loop-j-init c = refl

pub loop-j-preserved : goal.loop-j-preserved
loop-j-preserved c = let i = c.loop-j.invariant in rw (often_next, ← i) c.lower-n.ensures

pub returns : goal.returns
returns c =
    let i = c.loop-j.invariant in
    c.bounded.ensures ∙ ap bounded (i ∙ rw (le_antisymm c.loop-j.auto.j-end c.loop-j-test.false))
