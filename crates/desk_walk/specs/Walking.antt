-- The loop of the second walk: what it keeps, a turn of it, and its ends. Assumes nothing.
use Rattle.std.specs.Prelude.{◌≡◌, refl, List, [], ℕ, suc, ◌-◌, ◌<◌}
use Rattle.std.proofs.Common.{sym, ◌∙◌, ap, arith, eq-eqb, ne_eqb}
use Rattle.definitions.specs.Answers.{◌then◌, complete, go, paused, refuse, refuse_with, refused}
use Rattle.definitions.specs.Machine.{walk}
use Rattle.definitions.specs.Refusals.{step_limit}
use Rattle.definitions.specs.Tables.{State, at}
use Rattle.laws.proofs.MachineLaws.{walk_done, walk_more, walk_paused, walk_refused}
use Rattle.laws.specs.Sweep.{keeps}
use Rattle.table_rows.specs.Keeping.{Kept}
use Rattle.desk_spec.specs.Desks.{Desk, desk_machine, desk_search_checks, desk_step, settled, swept}
use Rattle.desk_spec.specs.Valid.{DeskValid}
use Rattle.desk_spec.proofs.Valid.{search_going, settled_done, settled_of, step_valid}
use Rattle.desk_walk.specs.Taking.{moved_to}

module _ (d : Desk) where
  -- where a step is to be taken nothing is swept ahead of it
  settled_high : (s : State) → 0 < s.run.height → settled d s ≡ s
  unfolding settled
  settled_high s h = rw (ne_eqb s.run.height 0 (omega arith))

  late : (s : State) → s.run.steps ≡ step_limit → desk_search_checks d s ≡ refuse 14 []
  unfolding desk_search_checks refuse_with ◌then◌
  late s e = rw (eq-eqb s.run.steps step_limit e)

  -- after some turns the walk from s₀ has come to s, with this budget left
  pub record Walking (budget : ℕ) (s₀ : State) (left : ℕ) (s : State) : Type 0 where
    pub valid : DeskValid d s
    pub same : walk budget (desk_machine d) s₀ ≡ walk left (desk_machine d) s

  pub walking_none : {budget : ℕ} {s : State} → DeskValid d s → Walking budget s budget s
  walking_none v = record { valid = v; same = refl }

  module _ {budget : ℕ} {s₀ : State} {left : ℕ} {s : State} (w : Walking budget s₀ left s) where
    pub ends_complete : s.run.height ≡ 0 → walk budget (desk_machine d) s₀ ≡ record { answer = complete; state = swept d.q s }
    ends_complete e =
        w.same ∙ (walk_done (desk_machine d) s left ((settled_of d s).height ∙ e)).0 ∙ ap (λ t. record { answer = complete; state = t }) (settled_done d s e)

    module _ (h : 0 < s.run.height) where
      here : settled d s ≡ s
      here = settled_high s h

      high : 0 < (settled d s).run.height
      high = rw here h

      pub ends_paused : left ≡ 0 → walk budget (desk_machine d) s₀ ≡ record { answer = paused; state = s }
      ends_paused e =
          w.same ∙ ap (λ n. walk n (desk_machine d) s) e ∙ (walk_paused (desk_machine d) s high).0 ∙ ap (λ t. record { answer = paused; state = t }) here

      module _ (more : 0 < left) where
        another : left ≡ suc (left - 1)
        another = omega arith

        pub ends_refused : {n : ℕ} {values : List ℕ} → desk_search_checks d s ≡ refuse n values
            → walk budget (desk_machine d) s₀ ≡ record { answer = refused n values; state = s }
        ends_refused {n} {values} e =
            w.same
            ∙ ap (λ k. walk k (desk_machine d) s) another
            ∙ (walk_refused (desk_machine d) s (left - 1) n values high (rw here e)).0
            ∙ ap (λ t. record { answer = refused n values; state = t }) here

        pub ends_late : s.run.steps ≡ step_limit → walk budget (desk_machine d) s₀ ≡ record { answer = refused 14 []; state = s }
        ends_late e = ends_refused (late s e)

        pub goes_on : {next : State} → desk_search_checks d s ≡ go → next ≡ desk_step d s → Walking budget s₀ (left - 1) next
        goes_on {next} f e =
            record {
              valid = rw e (step_valid d s w.valid (search_going d s w.valid.ordered h f));
              same =
                  w.same
                  ∙ ap (λ k. walk k (desk_machine d) s) another
                  ∙ (walk_more (desk_machine d) s (left - 1) high (rw here f)).0
                  ∙ ap (λ t. walk (left - 1) (desk_machine d) (desk_step d t)) here
                  ∙ ap (walk (left - 1) (desk_machine d)) (sym e);
            }

-- a sweep in code, as the definition has it
pub swept_is : (q : ℕ) (s : State) {list : List ℕ} {found : ℕ} → Kept q s.run.found (keeps q s.run.found (at s.list q)) s.list list found
    → swept q s ≡ moved_to s s.stack list s.run.height found s.run.steps s.run.deepest
unfolding swept
swept_is q s k = rw (k.rows, k.counted)
