-- Questions about the lists of the engine (document 02, Jobs 7, 8 and 13), with the engine's own 1 and 2: they take its lists as they are. What holds of every
-- list is in theorems/proofs/Reasons.antt and multiples_spec/proofs/Plans.antt, whatever the most equations and unknowns are; here is what holds of the list
-- that a continuing call of a run left, where it answered "complete". Assumes nothing.
use Rattle.std.specs.Prelude.{◌≡◌, refl, ◌≢◌, List, ℕ, ◌*◌, ◌≤◌, ◌<◌, ℤ, nat_abs, pos, get_or, length}
use Rattle.std.proofs.Common.{inl, inr, arith}
use Rattle.definitions.specs.Answers.{complete}
use Rattle.definitions.specs.Input.{input_of}
use Rattle.definitions.specs.Reasons.{reason_within, refused, unlisted}
use Rattle.definitions.specs.Refusals.{large_sizes, sizes}
use Rattle.definitions.specs.System.{MinimalSolution, coef_limit, most_component}
use Rattle.definitions.specs.Tables.{capacity}
use Rattle.laws.specs.CheckLaws.{AllSilent}
use Rattle.laws.specs.ReasonLaws.{reason_rules}
use Rattle.laws.specs.RefusalLaws.{Outside}
use Rattle.theorems.specs.Listed.{Exactly}
use Rattle.theorems.proofs.Reasons.{reason_promise}
use Rattle.multiples_spec.specs.Parts as parts
use Rattle.multiples_spec.specs.Parts.{decomposed_within}
use Rattle.multiples_spec.proofs.Plans.{plan_promise}
use Rattle.engine_spec.specs.Beside.{most_columns, most_rows}
use Rattle.engine_spec.specs.Calls.{resume}
use Rattle.engine_spec.specs.Engine.{Work}
use Rattle.engine_spec.proofs.Own.{runs_shape}
use Rattle.engine_spec.specs.Promise.{Runs}
use Rattle.engine_spec.specs.Promises.{map_of}
use Rattle.engine_spec.proofs.Promises.{complete_exactly}

-- the sizes of the questions are the engine's
pub own_sizes : large_sizes ≡ sizes most_rows most_columns
own_sizes = refl

module _ (p q : ℕ) (coefs : List ℤ) {most room : ℕ} {w : Work} (r : Runs p q coefs most room w) (budget : ℕ)
    (e : (resume p q most room budget w).answer ≡ complete) (t : List ℕ) where
  abbrev left : Work
  left = (resume p q most room budget w).work

  whole : Exactly q (MinimalSolution (map_of p q coefs)) left.basis left.count
  whole = complete_exactly p q coefs r budget e

  -- "nothing listed lies below it" is never the reason,
  pub never_unlisted : reason_within large_sizes (input_of p q coefs) left.basis left.count t ≢ unlisted
  never_unlisted = reason_promise.whole_list large_sizes (input_of p q coefs) left.basis left.count whole t

  -- and the list is never refused for its count.
  pub own_list : (values : List ℕ) → reason_within large_sizes (input_of p q coefs) left.basis left.count t ≢ refused 6 values
  own_list values =
      reason_promise.own_list large_sizes (input_of p q coefs) (MinimalSolution (map_of p q coefs)) left.basis left.count whole.part t values

  -- A question is refused for nothing but the coefficients handed over with it and the tuple: their numbers and their sizes.
  module _ (many : length coefs ≡ p * q) (small : (k : ℕ) → k < length coefs → nat_abs (get_or coefs k (pos 0)) ≤ coef_limit) (long : length t ≡ q)
      (few : (j : ℕ) → j < length t → get_or t j 0 ≤ most_component) where
    pub never_refused : AllSilent (reason_rules large_sizes (input_of p q coefs) left.basis left.count t)
    never_refused =
        let s = runs_shape r in
        let p_in : ¬ (Outside 1 most_rows p) = λ o. elim o [ inl l ↦ omega (arith, s.p_some) | inr l ↦ omega (arith, s.p_few) ] in
        let q_in : ¬ (Outside 1 most_columns q) = λ o. elim o [ inl l ↦ omega (arith, s.q_some) | inr l ↦ omega (arith, s.q_few) ] in
        let rows_in : ¬ (capacity q left.basis < left.count) = λ l. omega (arith, whole.part.room) in
        let range : (k : ℕ) → k < length coefs → ¬ (coef_limit < nat_abs (get_or coefs k (pos 0))) = λ k l h. omega (arith, small k l) in
        (p_in, (q_in, (λ n. n many, (λ n. n long, (rows_in, (range, (λ (j, l, h). omega (arith, few j l), tt)))))))

  -- And nothing is ever left of one.
  pub never_left_over : (times : List ℕ) → (decomposed_within large_sizes (input_of p q coefs) left.basis left.count t times).answer ≢ parts.unlisted
  never_left_over times = plan_promise.never_unlisted large_sizes p q coefs left.basis left.count t times whole
