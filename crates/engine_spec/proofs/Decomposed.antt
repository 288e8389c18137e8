-- Job 13 of the engine's lists, from what Questions.antt says of each question; apart from it, so that an edit of that is refused there. Assumes nothing.
use Rattle.std.specs.Prelude.{◌≡◌, List, ℕ, ◌*◌, ◌≤◌, ◌<◌, ℤ, nat_abs, pos, get_or, length}
use Rattle.linear.specs.Systems.{Solution}
use Rattle.definitions.specs.Answers.{complete}
use Rattle.definitions.specs.Input.{input_of}
use Rattle.definitions.specs.Refusals.{large_sizes}
use Rattle.definitions.specs.System.{coef_limit, most_component}
use Rattle.multiples_spec.specs.Parts.{decomposed_within, made}
use Rattle.multiples_spec.proofs.Plans.{AddUp, plan_promise}
use Rattle.engine_spec.specs.Calls.{resume}
use Rattle.engine_spec.specs.Engine.{Work, system_of}
use Rattle.engine_spec.specs.Promise.{Runs}
use Rattle.engine_spec.proofs.Promises.{complete_exactly}
use Rattle.engine_spec.proofs.Questions.{never_refused}

module _ (p q : ℕ) (coefs : List ℤ) {most room : ℕ} {w : Work} (r : Runs p q coefs most room w) (budget : ℕ)
    (e : (resume p q most room budget w).answer ≡ complete) (t : List ℕ) where
  abbrev left : Work
  left = (resume p q most room budget w).work

  module _ (many : length coefs ≡ p * q) (small : (k : ℕ) → k < length coefs → nat_abs (get_or coefs k (pos 0)) ≤ coef_limit) (long : length t ≡ q)
      (few : (j : ℕ) → j < length t → get_or t j 0 ≤ most_component) where
    -- Every solution is taken apart into the rows: they add up to it as often as the table says, which has a place for each row.
    module _ (solves : Solution p q (system_of q coefs) (λ j. get_or t j 0)) (times : List ℕ) (space : left.count ≤ length times) where
      pub always_made : (decomposed_within large_sizes (input_of p q coefs) left.basis left.count t times).answer ≡ made
      always_made =
          plan_promise.basis large_sizes p q coefs left.basis left.count t times (complete_exactly p q coefs r budget e)
          (never_refused p q coefs r budget e t many small long few) solves space

      pub adds_up : AddUp q left.count left.basis t (decomposed_within large_sizes (input_of p q coefs) left.basis left.count t times).times
      adds_up = plan_promise.sums large_sizes p q coefs left.basis left.count t times always_made
