-- Document 02, job 14: "Writing into one run's part touches no other part", nor anything outside the parts. Assumes nothing.
use Rattle.std.specs.Prelude.{◌≡◌, List, [], ◌∷◌, ℕ, ◌<◌, length, get_or}
use Rattle.std.proofs.Math.Path.{refl}
use Rattle.std.proofs.Common.{◌∙◌}
use Rattle.dispatch_spec.specs.Parts.{Part}
use Rattle.dispatch_spec.proofs.PartLaws.{In, with_length}
use Rattle.dispatch_spec.specs.RoundLaws.{Next}
use Rattle.dispatch_spec.proofs.TurnLaws.{Laid, turn_fits, turn_stack_outside, turn_list_outside}
use Rattle.dispatch_spec.proofs.CheckRules.{accepted}
use Rattle.dispatch_spec.specs.Dispatch.{Schedule, Round, leave_turn, turn_of, opened, dispatch}
use Rattle.dispatch_spec.specs.Turns.{Turn, turn_taken}
use Rattle.dispatch_spec.proofs.Serving.{after_turns_lem, opened_laid, Served}

-- place x lies in none of n parts
abbrev pub Outside : ℕ → (ℕ → Part) → ℕ → Type 0
Outside n part x = (i : ℕ) → i < n → ¬ (In (part i) x)

-- one table after another: as long, and the same outside the parts
pub record Same (n : ℕ) (part : ℕ → Part) (before after : List ℕ) : Type 0 where
  pub long : length after ≡ length before
  pub outside : (x : ℕ) → Outside n part x → get_or after x 0 ≡ get_or before x 0

module _ (d : Schedule) (r₀ : Round) where
  record Tables (r : Round) (log : List Turn) : Type 0 where
    stacks : Same d.count (λ i. (d.shares i).stack_part) r₀.stack r.stack
    lists : Same d.count (λ i. (d.shares i).list_part) r₀.list r.list

  same_turn : (r : Round) (log : List Turn) → Laid d r → Tables r log → (i : ℕ) → Next d.count r i
      → Tables (leave_turn d i r (turn_of d i r)) (turn_taken d i r ∷ log)
  unfolding leave_turn
  same_turn r log l t i n =
      let f = turn_fits d r l i n.below d.quantum in
      record {
        stacks =
            record {
              long = with_length (d.shares i).stack_part r.stack _ (l.stacks.fit i n.below) f.stack ∙ t.stacks.long;
              outside = λ x out. turn_stack_outside d r l i n.below (turn_of d i r) f x (out i n.below) ∙ t.stacks.outside x out;
            };
        lists =
            record {
              long = with_length (d.shares i).list_part r.list _ (l.lists.fit i n.below) f.list ∙ t.lists.long;
              outside = λ x out. turn_list_outside d r l i n.below (turn_of d i r) f x (out i n.below) ∙ t.lists.outside x out;
            };
      }

  same_opened : Tables (opened r₀) []
  unfolding opened
  same_opened = record { stacks = record { long = refl; outside = λ x out. refl }; lists = record { long = refl; outside = λ x out. refl } }

module _ {turns : ℕ} {d : Schedule} {r : Round} (s : Served turns d r) where
  same : Tables d r (dispatch turns d r).round []
  same =
      let a = accepted d r s.goes in
      let t = (after_turns_lem d a.some_run (Tables d r) (same_turn d r) (opened r) (opened_laid d r a.laid) (same_opened d r) turns).1 in
      rw s.round_is (record { stacks = t.stacks; lists = t.lists })

  pub same_stack : Same d.count (λ i. (d.shares i).stack_part) r.stack (dispatch turns d r).round.stack
  same_stack = same.stacks

  pub same_list : Same d.count (λ i. (d.shares i).list_part) r.list (dispatch turns d r).round.list
  same_list = same.lists
