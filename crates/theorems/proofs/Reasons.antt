-- THE PROMISE OF "WHY IS MY LOOP NOT IN THE LIST?" (document 02), under its words. It is about the definition `reason_within` of crate `definitions`, with
-- which the code's contracts equate their answers, whatever the most equations and unknowns are: document 02's call, `reason`, is the one within 8 and 16.
-- Assumes nothing.
use Rattle.std.specs.Prelude.{◌≡◌, ◌≢◌, List, ℕ, suc, ℤ, get_or}
use Rattle.std.proofs.Common.{arith}
use Rattle.linear.specs.Tuples.{total}
use Rattle.definitions.specs.Answers.{complete}
use Rattle.definitions.specs.Calls.{resume}
use Rattle.definitions.specs.Reasons.{Reason, reason, reason_within, refused, unlisted}
use Rattle.definitions.specs.Refusals.{Sizes, document_sizes}
use Rattle.definitions.specs.Input.{Input, input_of, input_with, map_of, rights}
use Rattle.definitions.specs.System.{MinimalSolution, most_component}
use Rattle.definitions.specs.Tables.{State, at}
use Rattle.laws.specs.CheckLaws.{AllSilent, FirstDue}
use Rattle.laws.specs.ReasonLaws.{Claim, NoneEarlier, reason_rules}
use Rattle.laws.proofs.ReasonLaws.{count_refused, given_reason, reason_given, reason_refused, refused_reason, unlisted_asked}
use Rattle.laws.proofs.ReasonLaws.{unlisted_means}
use Rattle.theorems.specs.Basis.{basis_below}
use Rattle.theorems.proofs.Proved.{second_demand}
use Rattle.theorems.specs.Link.{nonzero, task, up_to_one}
use Rattle.theorems.specs.Listed.{Exactly, Only}
use Rattle.theorems.specs.Run.{Run}

-- of one question: the most equations and unknowns, what is handed over, a list table with a count of rows, and a tuple
pub record Reasoned (s : Sizes) (i : Input) (list : List ℕ) (found : ℕ) (t : List ℕ) : Type 0 where
  -- each refusal is given in its case and in no other, in rising number
  pub refusal_due : (n : ℕ) (values : List ℕ) → reason_within s i list found t ≡ refused n values → FirstDue (reason_rules s i list found t) n values
  pub due_refusal : (n : ℕ) (values : List ℕ) → FirstDue (reason_rules s i list found t) n values → reason_within s i list found t ≡ refused n values
  -- "the tool gives the first that is true": "Every reason is proved true of the tuple", none before it is, and no other answer is so
  pub true_first : AllSilent (reason_rules s i list found t) → (r : Reason) → reason_within s i list found t ≡ r
      → Claim (map_of i) found (at list i.q) (λ j. get_or t j 0) r × NoneEarlier (map_of i) found (at list i.q) (λ j. get_or t j 0) r
  pub first_true : AllSilent (reason_rules s i list found t) → (r : Reason)
      → Claim (map_of i) found (at list i.q) (λ j. get_or t j 0) r × NoneEarlier (map_of i) found (at list i.q) (λ j. get_or t j 0) r
      → reason_within s i list found t ≡ r

pub record ReasonPromise : Type 1 where
  -- the list of a run, finished or cut short, is never refused for its count
  pub own_list : (s : Sizes) (i : Input) (W : (ℕ → ℕ) → Type 0) (list : List ℕ) (found : ℕ) → Only i.q W list found → (t values : List ℕ)
      → reason_within s i list found t ≢ refused 6 values
  pub reasoned : (s : Sizes) (i : Input) (list : List ℕ) (found : ℕ) (t : List ℕ) → Reasoned s i list found t
  -- "and the last is never given for a complete plain list": for any list that holds the minimal solutions, and so after any plain run that
  -- answered "complete"
  pub whole_list : (s : Sizes) (i : Input) (list : List ℕ) (found : ℕ) → Exactly i.q (MinimalSolution (map_of i)) list found → (t : List ℕ)
      → reason_within s i list found t ≢ unlisted
  pub complete_list : (p q : ℕ) (coefs : List ℤ) (s : State) → Run (input_of p q coefs) nonzero s → (budget : ℕ)
      → (resume budget (input_of p q coefs) s).answer ≡ complete → (t : List ℕ)
      → reason (input_of p q coefs) (resume budget (input_of p q coefs) s).state.list (resume budget (input_of p q coefs) s).state.run.found t ≢ unlisted
  -- and for the list at 0 of a complete run with right sides
  pub complete_at_0 : (p q : ℕ) (coefs b : List ℤ) (s : State) → let i = input_with (rights b) most_component p q coefs in
      Run i up_to_one s → (budget : ℕ) → (resume budget i s).answer ≡ complete → (t : List ℕ)
      → reason (input_of p q coefs) (resume budget i s).state.list (resume budget i s).state.run.found t ≢ unlisted

-- a solution that is not all zero has a minimal solution at or below it, and that one is listed
never_unlisted : (s : Sizes) (i : Input) (list : List ℕ) (found : ℕ) → Exactly i.q (MinimalSolution (map_of i)) list found → (t : List ℕ)
    → reason_within s i list found t ≢ unlisted
never_unlisted s i list found e t h =
    let m = map_of i in
    let given = reason_given s i list found t (unlisted_asked s i list found t h) unlisted h in
    let (wanted, bare) = unlisted_means m found (at list i.q) (λ j. get_or t j 0) given in
    basis_below (task m nonzero) (suc (total (λ j. get_or t j 0) i.q)) (λ j. get_or t j 0) (omega arith) wanted
    (λ u basis b. let (k, l, same) = e.all u basis in bare k l (λ j n. omega (arith, same j n, b j n)))

pub reason_promise : ReasonPromise
reason_promise =
    record {
      own_list = λ s i W list found o t values e. omega (arith, o.room, count_refused s i list found t values e);
      reasoned = λ s i list found t. record {
        refusal_due = reason_refused s i list found t;
        due_refusal = refused_reason s i list found t;
        true_first = reason_given s i list found t;
        first_true = given_reason s i list found t;
      };
      whole_list = never_unlisted;
      complete_list = λ p q coefs s r budget c. let i = input_of p q coefs in
          never_unlisted document_sizes i (resume budget i s).state.list (resume budget i s).state.run.found
          ((second_demand.lists i s r).finished budget c);
      complete_at_0 = λ p q coefs b s r budget c. let i = input_with (rights b) most_component p q coefs in
          never_unlisted document_sizes (input_of p q coefs) (resume budget i s).state.list (resume budget i s).state.run.found
          ((second_demand.lists i s r).finished budget c).0;
    }
