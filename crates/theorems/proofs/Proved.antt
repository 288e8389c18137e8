-- The three demands of Demands.antt, proved: each field is a theorem of the files beside it. Assumes nothing.
use Rattle.std.specs.Prelude.{◌≡◌, refl, List, ◌-◌, suc, ℕ}
use Rattle.std.proofs.Common.{arith}
use Rattle.definitions.specs.Calls.{machine, machine_from, start, start_from, resume, resume_from}
use Rattle.definitions.specs.Input.{Input, alone, input_of, input_with, rights, system_of, bound_of, map_of}
use Rattle.definitions.specs.Reader.{at_one, at_zero}
use Rattle.definitions.specs.System.{most_component}
use Rattle.definitions.specs.Tables.{State}
use Rattle.laws.proofs.LowerLaws.{settled_once, valid_resume_from}
use Rattle.laws.proofs.ReaderLaws.{either_shows, reader_shows}
use Rattle.laws.proofs.RefusalLaws.{lower_renders, start_renders}
use Rattle.theorems.proofs.AnyRun.{Grounds, first_demand_of}
use Rattle.theorems.proofs.Counts.{step_counts}
use Rattle.theorems.proofs.Deepest.{settled_shows, step_deepest, stepped_shows}
use Rattle.theorems.proofs.First.{left_goes, longer_table, lower_answers, resume_after, ruled, resume_answers}
use Rattle.theorems.proofs.Frames.{aside_kept, record_kept, rows_below, rows_below_from, rows_each, rows_each_from, rows_stay, rows_stay_from}
use Rattle.theorems.proofs.Held.{sound_whole, sound_part, sound_read, zero_bound, zero_sides}
use Rattle.theorems.proofs.LowerFirst.{left_goes_from, left_settled, longer_from, resume_from_answers, ruled_from, settled_total, stepped_total}
use Rattle.theorems.proofs.LowerFirst.{steps_above_from}
use Rattle.theorems.specs.Maps.{Map, by_itself}
use Rattle.theorems.specs.OwnCalls.{Log}
use Rattle.theorems.specs.Series.{Series, continuing, continuing_from, starting, starting_from}
use Rattle.theorems.specs.CallTerms.{from_terms, plain_terms}
use Rattle.theorems.specs.Third.{Premises}
use Rattle.theorems.proofs.Third.{series_answers, series_counted, series_deep, series_ends, series_few, series_handed, series_low, series_sound}
use Rattle.theorems.proofs.Third.{series_stays, series_stepped, single_premises}
use Rattle.theorems.proofs.TwoWalks.{above_call, above_counted, above_follows, booked, plain_counted, plain_stops}
use Rattle.theorems.proofs.Untouched.{call_marked, call_untouched, steps_above}
use Rattle.theorems.proofs.Listed.{only_one, only_reads}
use Rattle.theorems.proofs.Low.{run_deep}
use Rattle.theorems.specs.LowerRun.{RunFrom}
use Rattle.theorems.proofs.LowerRun.{run_from_handed, run_from_sound, sound_from_exactly, sound_from_only}
use Rattle.theorems.specs.Run.{aim_of, continued}
use Rattle.theorems.proofs.Run.{run_handed, run_sound, sound_resumes}
use Rattle.definitions.specs.Answers.{go}
use Rattle.definitions.specs.Refusals.{resume_from_checks}
use Rattle.theorems.specs.LowerRun as from
use Rattle.theorems.specs.Demands.{FirstDemandFrom, FirstDemands, ListsFrom, SecondDemand, ThirdDemand, ThirdDemands}

-- ---- 1

plain_grounds : (i : Input) → Grounds (machine i) (plain_terms i)
unfolding start
plain_grounds i =
    record {
      start_is = λ s. refl;
      start_renders = start_renders i;
      ruled = ruled i;
      steady = λ s. refl;
      settles_steps = λ s. refl;
      step_steps = step_counts (system_of i);
      settles_deepest = λ s. refl;
      step_deepest = step_deepest (system_of i);
      goes_on = λ budget. left_goes budget i;
      longer = λ budget. longer_table budget i;
      start_untouched = call_untouched (starting i);
      untouched = λ budget. call_untouched (continuing budget i);
      start_marked = call_marked (starting i);
      marked = λ budget. call_marked (continuing budget i);
    }

module _ (lower : List ℕ) (m : Map) where
  abbrev i : Input
  i = by_itself m

  from_grounds : Grounds (machine_from lower i) (from_terms lower m)
  unfolding start_from
  from_grounds =
      record {
        start_is = λ s. refl;
        start_renders = λ s. lower_renders i s lower;
        ruled = ruled_from lower m;
        steady = settled_once lower i;
        settles_steps = settled_total lower m;
        step_steps = stepped_total lower m;
        settles_deepest = settled_shows lower i;
        step_deepest = stepped_shows lower i;
        goes_on = left_goes_from lower m;
        longer = longer_from lower m;
        start_untouched = call_untouched (starting_from lower m);
        untouched = λ budget. call_untouched (continuing_from budget lower m);
        start_marked = call_marked (starting_from lower m);
        marked = λ budget. call_marked (continuing_from budget lower m);
      }

  from_demand : FirstDemandFrom lower m
  from_demand =
      record {
        calls = first_demand_of (machine_from lower i) (from_terms lower m) from_grounds;
        rows = record {
          above_kept = steps_above_from lower m;
          rows_stay = rows_stay_from lower m;
          rows_each = rows_each_from lower m;
          rows_below = rows_below_from lower m;
        };
        booked = booked lower m;
        plain_stops = plain_stops lower m;
        above_follows = above_follows lower m;
        plain_counted = plain_counted lower m;
        above_counted = above_counted lower m;
        above_call = above_call lower m;
      }

pub first_demand : FirstDemands
first_demand =
    record {
      plain = λ i. record {
        calls = first_demand_of (machine i) (plain_terms i) (plain_grounds i);
        rows = record {
          above_kept = λ budget. steps_above budget i;
          rows_stay = λ budget. rows_stay budget i;
          rows_each = rows_each i;
          rows_below = rows_below i;
        };
        always_whole = λ budget. resume_after budget i;
        record_kept = λ budget. record_kept budget i;
      };
      from_lower = from_demand;
      lower_start = lower_answers;
      aside_kept = aside_kept;
      reader = reader_shows;
      reader_at_0 = either_shows at_zero;
      reader_at_1 = either_shows at_one;
    }

-- ---- 2

lists_from : (lower : List ℕ) (m : Map) (s : State) → RunFrom lower m s → ListsFrom lower m s
lists_from lower m s r =
    let i : Input = by_itself m in
    let o = run_from_sound lower m r in
    let (only, only₂) = sound_from_only lower m s o in
    let goes : resume_from_checks lower i s ≡ go = valid_resume_from lower i s refl (run_from_handed lower m r) o.valid in
    record {
      cut_short = only;
      cut_short₂ = only₂;
      finished = λ budget a.
          sound_from_exactly lower m (resume_from budget lower i s).state (run_from_sound lower m (from.continued r budget))
          (left_settled lower m budget s goes) ((resume_from_answers lower m budget s).completes.0 a).1;
      read = only_reads o.valid.shaped.q_some o.valid.shaped.q_few only;
      read₂ = only_reads o.valid.shaped.q_some o.valid.shaped.q_few only₂;
      goes = goes;
    }

pub second_demand : SecondDemand
second_demand =
    record {
      lists = λ i s r. record {
        cut_short = sound_part i (run_handed i r) s (run_sound i r);
        finished = λ n a. sound_whole i (run_handed i r) (resume n i s).state (run_sound i (continued r n)) ((resume_answers n i s).completes.0 a).1;
        read = sound_read i (run_handed i r) s (run_sound i r);
        goes = sound_resumes i (aim_of i.extra) (run_handed i r) (run_sound i r);
      };
      zero = zero_sides;
      from_lower = lists_from;
      zero_lower = λ lower m zeros s r budget a.
          let (w, least) = zero_bound (map_of (by_itself m)) (bound_of lower) zeros in
          only_one ((lists_from lower m s r).finished budget a).0 (λ j. 0) w least;
      never_above = λ i s one r. run_deep i one r;
    }

-- ---- 3

demand : (i : Input) (s₀ : State) → Premises i s₀ → (g : Log State) → Series i s₀ g → ThirdDemand i s₀ g
demand i s₀ given g r =
    record {
      few = series_few i s₀ given r;
      counted = series_counted i s₀ given r;
      stepped = series_stepped i s₀ given r;
      low = series_low i s₀ given r;
      deep = series_deep i s₀ given r;
      answers = series_answers i s₀ given r;
      ends = λ enough. let (c, z) = series_ends i s₀ given r enough in (c, sound_whole i (series_handed i s₀ given r) g.state (series_sound i s₀ given r) z);
      stays = series_stays i s₀ given r;
    }

pub third_demands : ThirdDemands
third_demands =
    record {
      third_demand = demand;
      third_demand_alone = λ q coefs s₀ begins roomy brief g r.
          demand (input_of 1 q coefs) s₀ (single_premises alone q coefs s₀ begins roomy tt brief) g r;
      third_demand_rights = λ q coefs b s₀ begins roomy roomy₂ brief g r.
          let less : suc q - 1 ≡ q = omega arith in
          demand (input_with (rights b) most_component 1 q coefs) s₀ (single_premises (rights b) q coefs s₀ begins (rw less roomy) (rw less roomy₂) brief) g r;
    }
