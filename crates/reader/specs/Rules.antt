-- Document 02, Job 7: the refusals of the call as rules in words and order; each is given in its case and in no other, and where none is due the answer is
-- the highest place, or that there is none. Whatever the most unknowns are, document 02's 16 among them. Assumes nothing.
use Rattle.std.specs.Prelude.{◌≡◌, ◌≢◌, List, [], ℕ, ◌<◌, length, get_or}
use Rattle.std.proofs.Math.Option.{Option, some, none}
use Rattle.std.proofs.Common.{arith}
use Rattle.definitions.specs.Answers.{Check, go, refuse}
use Rattle.definitions.specs.Highest as paper
use Rattle.definitions.specs.Highest.{highest, locate_checks, locate_within, placed, refused}
use Rattle.definitions.specs.Input.{input_of}
use Rattle.definitions.specs.Tables.{at, capacity}
use Rattle.laws.specs.CheckLaws.{AllSilent, FirstDue, Renders, Rules, ◌▹◌, end, rule}
use Rattle.laws.proofs.CheckLaws.{renders_last, renders_then}
use Rattle.laws.proofs.ReasonLaws.{decides_count}
use Rattle.laws.specs.RefusalLaws.{Outside}
use Rattle.laws.proofs.RefusalLaws.{decides_outside, decides_unequal}

-- 2 for q outside 1 to the most unknowns, 5 for a tuple not of length q, 6 for a count above the room, in rising number
abbrev pub locate_rules : (most q : ℕ) → List ℕ → ℕ → List ℕ → Rules
locate_rules most q list found t = rule 2 (Outside 1 most q) ▹ rule 5 (length t ≢ q) ▹ rule 6 (capacity q list < found) ▹ end

-- a place is no refusal
placed_not : (o : Option ℕ) {n : ℕ} {values : List ℕ} → placed o ≡ refused n values → ⊥
placed_not none e = let z : ◌≡◌ {A = ℕ} 0 1 = cc in omega arith
placed_not (some k) e = let z : ◌≡◌ {A = ℕ} 0 1 = cc in omega arith

refused_by : (c : Check) (o : Option ℕ) (n : ℕ) (values : List ℕ) → paper.unless_refused c (placed o) ≡ refused n values → c ≡ refuse n values
unfolding paper.unless_refused
refused_by (refuse k vs) o n values e = cc
refused_by go o n values e = absurd (placed_not o e)

module _ (most q : ℕ) (list : List ℕ) (found : ℕ) (t : List ℕ) where
  pub locate_renders : Renders (locate_checks most q list found t) (locate_rules most q list found t)
  unfolding locate_checks
  locate_renders =
      renders_then (decides_outside 2 1 most q)
      (renders_then (decides_unequal 5 (length t) q) (renders_last (decides_count (input_of 0 q []) list found)))

  abbrev answer : Option ℕ
  answer = highest q found (at list q) (λ j. get_or t j 0)

  -- a refusal is given exactly where it is due
  pub locate_refused : (n : ℕ) (values : List ℕ) → locate_within most q list found t ≡ refused n values → FirstDue (locate_rules most q list found t) n values
  unfolding locate_within
  locate_refused n values e = locate_renders.refuses n values (refused_by (locate_checks most q list found t) answer n values e)

  pub refused_locate : (n : ℕ) (values : List ℕ) → FirstDue (locate_rules most q list found t) n values → locate_within most q list found t ≡ refused n values
  unfolding locate_within paper.unless_refused
  refused_locate n values h = rw (locate_renders.due n values h)

  -- and where none is due, the highest place is
  pub locate_asked : AllSilent (locate_rules most q list found t) → locate_within most q list found t ≡ placed answer
  unfolding locate_within paper.unless_refused
  locate_asked none_due = rw (locate_renders.silent none_due)
