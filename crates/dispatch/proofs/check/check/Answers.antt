-- `dispatch::check::check` meets its contract. Assumes nothing.
use mathlib.Core.Bool.{true, false}
use mathlib.Core.Path.{◌≡◌, refl, sym, ◌∙◌}
use borrow.Author.Rules.{rules}
use Rattle.dispatch.specs.Form.{part_at, parts_at}
use Rattle.dispatch.specs.Verdicts.{runs_none, runs_many, turn_empty, kept_large, stacks_clash, lists_clash, parts_taken, passes}
use Rattle.dispatch.proofs.check.check.Goals as goal

pub returns-then-count-eq0 : goal.returns-then-count-eq0
returns-then-count-eq0 c =
    elim c.then-count-eq0.branch [
      | goal.then-count-eq0-via-then-count-eq0 w ↦ runs_none _ _ _ _ _ _ w.if-count-eq0.true
      | goal.then-count-eq0-via-else-count-eq0+then-count-gt8 w ↦ runs_many _ _ _ _ _ _ w.if-count-eq0.false w.if-count-gt8.true
      | goal.then-count-eq0-via-else-count-eq0+else-count-gt8+then-quantum-eq0 w ↦
          turn_empty _ _ _ _ _ _ w.if-count-eq0.false w.if-count-gt8.false w.if-quantum-eq0.true
      | goal.then-count-eq0-via-else-count-eq0+else-count-gt8+else-quantum-eq0+then-last-gt8 w ↦
          kept_large _ _ _ _ _ _ w.if-count-eq0.false w.if-count-gt8.false w.if-quantum-eq0.false w.if-last-gt8.true
    ]

pub returns-then-parts_apart-2 : goal.returns-then-parts_apart-2
returns-then-parts_apart-2 c =
    let stacks : parts_at c.map-stacks.result ≡ part_at false c.args.shares =
    parts_taken (λ s. s.stack) refl (search rules) c.map-stacks.ensures.items (λ p x y q k. search rules) in
    let lists : parts_at c.map-lists.result ≡ part_at true c.args.shares =
    parts_taken (λ s. s.list) refl (search rules) c.map-lists.ensures.items (λ p x y q k. search rules) in
    passes _ _ _ _ _ _ c.if-count-eq0.false c.if-count-gt8.false c.if-quantum-eq0.false c.if-last-gt8.false
    (sym (rw stacks at c.parts_apart.ensures) ∙ c.if-parts_apart.true) (sym (rw lists at c.parts_apart-then-parts_apart.ensures) ∙ c.if-parts_apart-2.true)

pub returns-else-parts_apart : goal.returns-else-parts_apart
returns-else-parts_apart c =
    let stacks : parts_at c.map-stacks.result ≡ part_at false c.args.shares =
    parts_taken (λ s. s.stack) refl (search rules) c.map-stacks.ensures.items (λ p x y q k. search rules) in
    let lists : parts_at c.map-lists.result ≡ part_at true c.args.shares =
    parts_taken (λ s. s.list) refl (search rules) c.map-lists.ensures.items (λ p x y q k. search rules) in
    elim c.else-parts_apart.branch [
      | goal.else-parts_apart-via-else-parts_apart w ↦
          stacks_clash _ _ _ _ _ _ c.if-count-eq0.false c.if-count-gt8.false c.if-quantum-eq0.false c.if-last-gt8.false
          (sym (rw stacks at c.parts_apart.ensures) ∙ w.if-parts_apart.false)
      | goal.else-parts_apart-via-then-parts_apart+else-parts_apart-2 w ↦
          lists_clash _ _ _ _ _ _ c.if-count-eq0.false c.if-count-gt8.false c.if-quantum-eq0.false c.if-last-gt8.false
          (sym (rw stacks at c.parts_apart.ensures) ∙ w.if-parts_apart.true)
          (sym (rw lists at w.parts_apart-then-parts_apart.ensures) ∙ w.if-parts_apart-2.false)
    ]
