-- A pause within a stage, from the law of CallRules on more room than there was; apart from it, so that an edit of that law is refused there. Assumes nothing.
use Rattle.std.specs.Prelude.{◌≡◌, List, ℕ, ◌+◌, ◌≤◌, ◌<◌, ℤ}
use Rattle.std.proofs.Common.{◌∙◌, ap, inl, inr, arith}
use Rattle.definitions.specs.Answers.{paused}
use Rattle.engine_spec.specs.Base.{Base}
use Rattle.engine_spec.specs.CallAnswers.{turns_taken}
use Rattle.engine_spec.proofs.CallAnswers.{engine_answers}
use Rattle.engine_spec.specs.Calls.{resume}
use Rattle.engine_spec.specs.Engine.{Work}
use Rattle.engine_spec.specs.Promise.{RunsOn}
use Rattle.engine_spec.proofs.CallRules.{longer}

module _ {base : Base} (p q : ℕ) (coefs : List ℤ) {most room : ℕ} {w : Work} (r : RunsOn base p q coefs most room w) (roomy : q ≤ most) where
  -- A pause within a stage changes nothing: a later call goes on as one call with both budgets would have.
  pub pausing : (b c : ℕ) → (resume p q most room b w).answer ≡ paused → (resume p q most room b w).work.equation < p
      → resume p q most room c (resume p q most room b w).work ≡ resume p q most room (b + c) w
  pausing b c e still =
      let all : turns_taken p q most room b w ≡ b = elim ((engine_answers p q most room b w).pauses.0 e).1 [
        | inl (rests, left) ↦ absurd (omega arith)
        | inr (going, used) ↦ used
      ] in
      longer p q coefs r roomy r (omega arith) (omega arith) b c ∙ ap (λ n. resume p q most room (n + c) w) all
