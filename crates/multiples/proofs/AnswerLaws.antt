-- What each way through the calls comes to: the tests that were made, and the outcome that they give. Assumes nothing.
use Rattle.std.specs.Prelude.{Bool, true, false, List, ◌≡◌, ℕ, ◌*◌, ◌≤◌, ◌<◌, leb, ℤ, length, get_or}
use Rattle.std.proofs.Math.Logic.{inl, inr}
use Rattle.std.proofs.Math.Path.{refl}
use Rattle.std.proofs.Common.{sym, ◌∙◌, ap, zero-add, arith}
use borrow.Author.Tests.{le-leb, lt-leb}
use Rattle.linear.proofs.TestLaws.{all_same}
use Rattle.linear.specs.Tuples.{Same}
use Rattle.definitions.specs.Input.{input_of}
use Rattle.definitions.specs.Reasons as why
use Rattle.definitions.specs.Reasons.{reason_checks, reason_within, unless_refused, vanishes}
use Rattle.definitions.specs.Refusals.{Sizes}
use Rattle.definitions.specs.Tables.{at, write_to}
use Rattle.laws.proofs.CheckLaws.{check_cases}
use Rattle.laws.specs.ReasonLaws.{Askable}
use Rattle.laws.proofs.ReasonLaws.{reason_askable}
use Rattle.laws.proofs.TableLaws.{write_inside, write_length}
use Rattle.table_rows.specs.Rows.{tuple}
use Rattle.checks.specs.Counts.{Modest}
use Rattle.reasons.proofs.Amounts.{asked_rows}
use Rattle.multiples_spec.specs.Parts.{Outcome, all_taken, decomposed_within, if_space, no_space, off, refused, taken_apart, unless_off, write_times}
use Rattle.multiples_spec.specs.Parts as paper
use Rattle.multiples_spec.proofs.PartsLaws.{left_same, times_same}
use Rattle.multiples.specs.Answers.{Solves}
use Rattle.multiples.specs.Taking.{Left}

-- ---- a solution

vanish_same : (q : ℕ) {x y : ℕ → ℕ} → Same q x y → vanishes q x ≡ vanishes q y
unfolding vanishes
vanish_same q e = all_same q _ _ (λ j l. rw (e j l))

-- the tuple, written to the beginning of other numbers
pub written_same : (q : ℕ) (rest : List ℕ) {rest₁ : List ℕ} (t : List ℕ) → q ≤ length rest → rest₁ ≡ write_to q rest 0 (tuple t)
    → Same q (tuple rest₁) (tuple t)
written_same q rest t l e j jq = rw e (ap (λ k. get_or (write_to q rest 0 (tuple t)) k 0) (sym (zero-add j))
    ∙ write_inside (tuple t) rest 0 q j (omega arith) jq)

pub written_long : (q : ℕ) (rest : List ℕ) {rest₁ : List ℕ} (t : List ℕ) → rest₁ ≡ write_to q rest 0 (tuple t) → length rest₁ ≡ length rest
written_long q rest t e = rw e (write_length (tuple t) rest 0 q)

module _ (q found : ℕ) (list t times : List ℕ) where
  pub no_space_at : length times < found
      → record { answer = no_space; times = times } ≡ if_space (leb found (length times)) times (taken_apart q found (at list q) (tuple t) times)
  unfolding if_space
  no_space_at l = rw (lt-leb found (length times) l)

  -- rest₁ holds the tuple, rest₂ what is left of it
  module _ {rest₁ rest₂ times₂ : List ℕ} {b : Bool} (space : found ≤ length times) (same : Same q (tuple rest₁) (tuple t)) (l : Left q found list rest₁ rest₂)
      (e : times₂ ≡ write_times q found (at list q) (tuple rest₁) times) (v : b ≡ vanishes q (tuple rest₂)) where
    pub taken_at : record { answer = all_taken b; times = times₂ } ≡ if_space (leb found (length times)) times (taken_apart q found (at list q) (tuple t) times)
    unfolding if_space taken_apart
    taken_at =
        rw (
          le-leb found (length times) space,
          v ∙ vanish_same q l.left ∙ vanish_same q (left_same q (at list q) found same),
          e,
          times_same q (at list q) found times same,
        )

    pub made_at : b ≡ true
        → record { answer = paper.made; times = times₂ } ≡ if_space (leb found (length times)) times (taken_apart q found (at list q) (tuple t) times)
    unfolding all_taken
    made_at f = rw f at taken_at

    pub unlisted_at : b ≡ false
        → record { answer = paper.unlisted; times = times₂ } ≡ if_space (leb found (length times)) times (taken_apart q found (at list q) (tuple t) times)
    unfolding all_taken
    unlisted_at f = rw f at taken_at

-- ---- the call

module _ (s : Sizes) (p q : ℕ) (coefs : List ℤ) (list : List ℕ) (found : ℕ) (t : List ℕ) where
  abbrev r : why.Reason
  r = reason_within s (input_of p q coefs) list found t

  -- a question about a solution is not refused
  solves_asked : Solves r → Askable s (input_of p q coefs) list found t
  unfolding reason_within unless_refused
  solves_asked h =
      elim (check_cases (reason_checks s (input_of p q coefs) list found t)) [
        | inl g ↦ reason_askable s (input_of p q coefs) list found t g
        | inr (n, values, g) ↦ absurd (rw g at h)
      ]

  pub solves_fits : Modest s → Solves r → (q ≤ 32) × (q ≤ length t) × (found * q ≤ length list)
  solves_fits m h = let a = solves_asked h in (omega (arith, a.q_few, m.unknowns), omega (arith, a.tuple), asked_rows m a)

  module _ (times : List ℕ) where
    pub refused_at : {n : ℕ} {values : List ℕ} → r ≡ why.refused n values
        → record { answer = refused n values; times = times } ≡ decomposed_within s (input_of p q coefs) list found t times
    unfolding decomposed_within unless_off
    refused_at e = rw e

    pub off_at : {k : ℕ} {amount : ℤ} → r ≡ why.off k amount
        → record { answer = off k amount; times = times } ≡ decomposed_within s (input_of p q coefs) list found t times
    unfolding decomposed_within unless_off
    off_at e = rw e

    solving : (r : why.Reason) (o : Outcome) → Solves r → o ≡ unless_off r times o
    unfolding unless_off
    solving why.zero o h = refl
    solving (why.off k amount) o h = absurd h
    solving (why.stands n) o h = refl
    solving (why.above n) o h = refl
    solving why.unlisted o h = refl
    solving (why.refused n values) o h = absurd h

    pub solved_at : {o : Outcome} → Solves r → o ≡ if_space (leb found (length times)) times (taken_apart q found (at list q) (tuple t) times)
        → o ≡ decomposed_within s (input_of p q coefs) list found t times
    unfolding decomposed_within
    solved_at {o} h e = e ∙ solving r _ h
