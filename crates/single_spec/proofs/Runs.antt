-- JOB 12 OF DOCUMENT 02, the calls: the statements, each under its words, and then why they hold. They are about the definitions of crate `single_file`
-- (Calls, Listing), which the code's contracts equate with what the code does. Assumes nothing.
use Rattle.std.proofs.Common.{◌∙◌, sym, ltb→lt, lt→ltb}
use Rattle.std.specs.Prelude.{◌≡◌, List, ◌*◌, ◌<◌, ◌≤◌, ℕ, ◌≢◌, length}
use Rattle.std.proofs.Math.Path.{ap, refl}
use Rattle.definitions.specs.Answers.{Check, ◌then◌, go, refuse, started}
use Rattle.definitions.specs.Answers as paper
use Rattle.definitions.specs.Calls.{resume, start}
use Rattle.definitions.specs.Input.{Input, map_of}
use Rattle.definitions.specs.Machine.{Outcome, call, checked}
use Rattle.definitions.specs.Refusals.{resume_checks, start_checks}
use Rattle.definitions.specs.System.{MinimalSolution, System, column, most_equations, most_unknowns}
use Rattle.definitions.specs.Tables.{State, at, capacity}
use Rattle.laws.proofs.AnswerLaws.{then_go}
use Rattle.laws.specs.CheckLaws.{Renders, Rules, ◌▹◌, ◌▹▹◌, end, placed, rule}
use Rattle.laws.proofs.CheckLaws.{decides_if, renders_after, renders_last, renders_then}
use Rattle.laws.specs.RefusalLaws.{Outside, range_rule, resume_rules}
use Rattle.laws.proofs.RefusalLaws.{decides_outside, decides_range, decides_unequal, resume_renders, start_renders}
use Rattle.laws.specs.RefusalLaws.{start_rules}
use Rattle.theorems.specs.Listed.{Only}
use Rattle.theorems.proofs.Proved.{second_demand}
use Rattle.theorems.specs.Run.{Run, continued, started_units}
use Rattle.theorems.specs.Link.{nonzero}
use Rattle.theorems.specs.Maps.{Map, by_itself}
use Rattle.theorems.specs.Series.{Lending, meanwhile}
use Rattle.theorems.proofs.Series.{unchanged_leaves}
use Rattle.single_spec.specs.Calls.{single_resume, single_resume_checks, single_start, single_start_checks}
use Rattle.single_spec.specs.Graph.{size}
use Rattle.single_spec.specs.Listing.{listed_by, listing, listing_call, listing_checks, refused, row_checks}
use Rattle.single_spec.specs.Profile.{InProfile, SingleFile, check26, check30, circuit_order}
use Rattle.single_spec.proofs.ProfileLaws.{profile_decides}
use Rattle.single_spec.specs.Promises.{Ordered}
use Rattle.single_spec.proofs.Promises.{listed_goes, refuses_26, single_file_solutions}

-- ---- the statements

-- "26, a column outside the profile, with the first such column, after 7": it is the last rule of the two calls
abbrev pub rule26 : System → Rules
rule26 m = placed 26 m.q (λ j. ¬ (InProfile m.p (column m j))) ▹ end

-- "This profile has a plain start and continuing call with 26"
pub record SingleCalls (i : Input) : Type 0 where
  pub start_refuses : (s : State) → Renders (single_start_checks i s) (start_rules i s ▹▹ rule26 (map_of i))
  pub resume_refuses : (s : State) → Renders (single_resume_checks i s) (resume_rules i s ▹▹ rule26 (map_of i))
  -- "a refusal not given within a walk changes nothing lent"
  pub start_unchanged : (s : State) (n : ℕ) (values : List ℕ) → single_start_checks i s ≡ refuse n values
      → single_start i s ≡ record { answer = paper.refused n values; state = s }
  pub resume_unchanged : (budget : ℕ) (s : State) (n : ℕ) (values : List ℕ) → single_resume_checks i s ≡ refuse n values
      → single_resume budget i s ≡ record { answer = paper.refused n values; state = s }
  -- where the map is in the profile the calls are the plain ones
  pub start_same : SingleFile (map_of i) → (s : State) → single_start i s ≡ start i s
  pub resume_same : SingleFile (map_of i) → (budget : ℕ) (s : State) → single_resume budget i s ≡ resume budget i s
  -- and it is where the start answers "started"
  pub in_profile : (s : State) → (single_start i s).answer ≡ started → SingleFile (map_of i)

-- a run of the profile: it is a plain run, of a map in the profile by itself
pub record SingleRun (m : Map) (s : State) : Type 0 where
  pub profile : SingleFile (map_of (by_itself m))
  pub run : Run (by_itself m) nonzero s

-- what the run's list holds: minimal solutions of components 0 and 1, each in its order; and the listing of such a run never gives 30
pub record ListsOrdered (m : System) (list : List ℕ) (found : ℕ) : Type 0 where
  pub only : Only m.q (MinimalSolution m) list found
  pub zero_or_one : (k : ℕ) → k < found → (j : ℕ) → j < m.q → at list m.q k j ≤ 1
  pub ordered : (k : ℕ) → k < found → Ordered m (at list m.q k) (size m.q (at list m.q k)) (circuit_order m (at list m.q k))
  pub not_30 : check30 m found (at list m.q) ≡ go

-- 1, 2, 3, 6 and 7; "26 .. after 7. The listing then gives 30, a row that is no minimal loop, with the first such row, and last 29."
abbrev pub listing_rules : Input → List ℕ → ℕ → List ℕ → Rules
listing_rules i list found out =
    rule 1 (Outside 1 most_equations i.p)
    ▹ rule 2 (Outside 1 most_unknowns i.q)
    ▹ rule 3 (length i.coefs ≢ i.p * i.q)
    ▹ rule 6 (capacity i.q list < found)
    ▹ range_rule i
    ▹ placed 26 i.q (λ j. ¬ (InProfile i.p (column (map_of i) j)))
    ▹ placed 30 found (λ k. ¬ (MinimalSolution (map_of i) (at list i.q k)))
    ▹ rule 29 (length out < length (listing (map_of i) list found))
    ▹ end

pub record ListingRefuses (i : Input) (list : List ℕ) (found : ℕ) (out : List ℕ) : Type 0 where
  -- each refusal in its case and in no other
  pub refuses : Renders (listing_checks i list found out) (listing_rules i list found out)
  pub unchanged : (n : ℕ) (values : List ℕ) → listing_checks i list found out ≡ refuse n values
      → listing_call i list found out ≡ record { answer = refused n values; out = out }

-- ---- why: the two calls

file_26 : (m : System) → SingleFile m → check26 m ≡ go
file_26 m profile = (refuses_26 m).silent (λ j l none. none (profile j l))

26-file : (m : System) → check26 m ≡ go → SingleFile m
26-file m e j l = profile_decides m.p (column m j) ((refuses_26 m).goes e j l)

then_last : (c d : Check) → d ≡ go → (c then d) ≡ c
unfolding ◌then◌
then_last (refuse n values) d e = refl
then_last go d e = e

started_goes : (c : Check) (s : State) (work : State → Outcome State) → (checked c s work).answer ≡ started → c ≡ go
unfolding checked
started_goes (refuse n values) s work e = cc
started_goes go s work e = refl

checked_refused : (c : Check) (s : State) (work : State → Outcome State) (n : ℕ) (values : List ℕ) → c ≡ refuse n values
    → checked c s work ≡ record { answer = paper.refused n values; state = s }
unfolding checked
checked_refused c s work n values e = rw e

-- a call that its own check decides is the same behind that check
behind_own : (c : Check) (s : State) (work call : State → Outcome State) → call s ≡ checked c s work → checked c s call ≡ call s
unfolding checked
behind_own (refuse n values) s work call e = sym e
behind_own go s work call e = refl

module _ (i : Input) where
  abbrev m : System
  m = map_of i

  start_plain : SingleFile m → (s : State) → single_start i s ≡ start i s
  unfolding single_start single_start_checks start
  start_plain f s =
      ap (λ c. checked c s (start i)) (then_last (start_checks i s) (check26 m) (file_26 m f)) ∙ behind_own (start_checks i s) s _ (start i) refl

  resume_plain : SingleFile m → (budget : ℕ) (s : State) → single_resume budget i s ≡ resume budget i s
  unfolding single_resume single_resume_checks call
  resume_plain f n s =
      ap (λ c. checked c s (resume n i)) (then_last (resume_checks i s) (check26 m) (file_26 m f)) ∙ behind_own (resume_checks i s) s _ (resume n i) refl

  started_file : (s : State) → (single_start i s).answer ≡ started → SingleFile m
  unfolding single_start single_start_checks
  started_file s e = 26-file m (then_go (start_checks i s) (check26 m) (started_goes (start_checks i s then check26 m) s _ e)).1

  pub single_calls : SingleCalls i
  unfolding single_start_checks single_resume_checks single_start single_resume
  single_calls =
      record {
        start_refuses = λ s. renders_after (start_checks i s) (check26 m) (start_rules i s) (rule26 m) (start_renders i s) (λ h. renders_last (refuses_26 m));
        resume_refuses = λ s. renders_after (resume_checks i s) (check26 m) (resume_rules i s) (rule26 m) (resume_renders i s)
            (λ h. renders_last (refuses_26 m));
        start_unchanged = λ s n values e. checked_refused (start_checks i s then check26 m) s _ n values e;
        resume_unchanged = λ budget s n values e. checked_refused (resume_checks i s then check26 m) s _ n values e;
        start_same = start_plain;
        resume_same = resume_plain;
        in_profile = started_file;
      }

-- a start or a continuing call refused with 26, or before, is a foreign call of the third demand (theorems/specs/Series): it leaves the run as it is
pub start_leaves : (l : Lending State) (i : Input) (s : State) (n : ℕ) (values : List ℕ) → single_start_checks i (l.handed s) ≡ refuse n values
    → meanwhile (λ t. (single_start i t).state) l s ≡ s
start_leaves l i s n values e =
    unchanged_leaves (λ t. (single_start i t).state) l s (ap (λ o. o.state) ((single_calls i).start_unchanged (l.handed s) n values e))

pub refused_leaves : (l : Lending State) (budget : ℕ) (i : Input) (s : State) (n : ℕ) (values : List ℕ) → single_resume_checks i (l.handed s) ≡ refuse n values
    → meanwhile (λ t. (single_resume budget i t).state) l s ≡ s
refused_leaves l budget i s n values e =
    unchanged_leaves (λ t. (single_resume budget i t).state) l s (ap (λ o. o.state) ((single_calls i).resume_unchanged budget (l.handed s) n values e))

-- ---- a run

-- a start that answers "started", and continuing calls, make a run
module _ (m : Map) where
  abbrev i : Input
  i = by_itself m

  pub single_started : (s : State) → (single_start i s).answer ≡ started → SingleRun m (single_start i s).state
  single_started s e =
      let f = (single_calls i).in_profile s e in
      let g = (single_calls i).start_same f s in
      record { profile = f; run = rw g (started_units s (rw g at e)) }

  pub single_continued : (s : State) → SingleRun m s → (budget : ℕ) → SingleRun m (single_resume budget i s).state
  single_continued s r budget = record { profile = r.profile; run = rw ((single_calls i).resume_same r.profile budget s) (continued r.run budget) }

  pub single_lists : (s : State) → SingleRun m s → ListsOrdered (map_of i) s.list s.run.found
  single_lists s r =
      let l = single_file_solutions (map_of i) r.profile in
      let o : Only i.q (MinimalSolution (map_of i)) s.list s.run.found = (second_demand.lists i s r.run).cut_short in
      record {
        only = o;
        zero_or_one = λ k h. l.zero_or_one _ (o.only k h);
        ordered = λ k h. l.ordered _ (o.only k h);
        not_30 = listed_goes (map_of i) r.profile s.run.found (at s.list i.q) o.only;
      }

-- ---- the listing

module _ (i : Input) (list : List ℕ) (found : ℕ) (out : List ℕ) where
  -- 30 is about minimal solutions because 26 has found nothing
  listing_renders : Renders (listing_checks i list found out) (listing_rules i list found out)
  unfolding listing_checks row_checks
  listing_renders =
      renders_then (decides_outside 1 1 most_equations i.p)
      (renders_then (decides_outside 2 1 most_unknowns i.q)
      (renders_then (decides_unequal 3 (length i.coefs) (i.p * i.q))
      (renders_then (decides_if _ 6 _ (ltb→lt (capacity i.q list) found) (lt→ltb (capacity i.q list) found))
      (renders_then (decides_range i)
      (renders_after (check26 (map_of i)) _ (rule26 (map_of i)) _ (renders_last (refuses_26 (map_of i))) (λ h.
      renders_then ((single_file_solutions (map_of i) (λ j l. profile_decides i.p (column (map_of i) j) (h.0 j l))).refuses_30 found (at list i.q))
      (renders_last
      (decides_if _ 29 _ (ltb→lt (length out) (length (listing (map_of i) list found))) (lt→ltb (length out) (length (listing (map_of i) list found)))))))))))

  by_refused : (c : Check) (text : List ℕ) (n : ℕ) (values : List ℕ) → c ≡ refuse n values
      → listed_by c text out ≡ record { answer = refused n values; out = out }
  unfolding listed_by
  by_refused c text n values e = rw e

  pub listing_refuses : ListingRefuses i list found out
  unfolding listing_call
  listing_refuses =
      record {
        refuses = listing_renders;
        unchanged = λ n values e. by_refused (listing_checks i list found out) (listing (map_of i) list found) n values e;
      }
