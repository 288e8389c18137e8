-- Theorems about what specs/LowerRun.antt defines. Assumes nothing.
use Rattle.std.proofs.Common.{◌∙◌, ap, subst, sym, arith}
use Rattle.std.specs.Prelude.{◌≡◌, List}
use Rattle.std.proofs.Math.Path.{refl}
use Prim.Native.Nat.{◌<◌, suc, zero, ℕ}
use Rattle.linear.specs.Tuples.{Same}
use Rattle.definitions.specs.Answers.{go}
use Rattle.definitions.specs.Calls.{changed, machine_from, resume_from, settle_from, start_from, step_from}
use Rattle.definitions.specs.Input.{Input, above_system, bound_of, map_of}
use Rattle.definitions.specs.Refusals.{lower_checks}
use Rattle.definitions.specs.Step.{step}
use Rattle.definitions.specs.System.{MinimalFrom, MinimalSolution}
use Rattle.definitions.specs.Tables.{RunKind, State, at, by_walk, capped_run, desk_by_desk, lower_above, lower_plain, lower_start, lowered, plain_part}
use Rattle.definitions.specs.Tables.{plain_run}
use Rattle.definitions.specs.Tables.{units_start, whole_of}
use Rattle.laws.specs.LowerLaws.{GoingFrom, InOrderBy, ValidFrom}
use Rattle.laws.proofs.LowerLaws.{above_valid, lowered_valid, plain_valid, search_going_from, shaped_above, start_from_valid}
use Rattle.laws.proofs.LowerLaws.{step_aside, step_from_valid, step_kept}
use Rattle.laws.specs.RefusalLaws.{Handed}
use Rattle.laws.proofs.RefusalLaws.{lower_handed, lower_shaped}
use Rattle.laws.proofs.ValidLaws.{shaped_same}
use Rattle.theorems.specs.Maps.{Map}
use Rattle.theorems.specs.Basis.{basis_same}
use Rattle.theorems.specs.CallAnswers.{started_goes}
use Rattle.theorems.specs.Link.{at_or_above, nonzero, plain_invariant, task}
use Rattle.theorems.proofs.Link.{lower_invariant}
use Rattle.theorems.specs.Listed.{Exactly, Only}
use Rattle.theorems.specs.Run.{SameRows, relisted_sound, same_fits, same_row, seconded_sound, step_sound, with_list}
use Rattle.theorems.proofs.Run.{sound_exactly, sound_only}
use Rattle.theorems.specs.Run.{with_second}
use Rattle.theorems.specs.WholeSteps.{call_keeps}
use Rattle.theorems.specs.LowerRun.{RunFrom, SoundBy, SoundFrom, continued, i, relisted, relisted₂, started_from}

-- a list table with the same rows holds the same minimal solutions
same_exactly : (i : Input) {n : ℕ} {old table : List ℕ} → 0 < i.q → SameRows i.q n old table → Exactly i.q (MinimalSolution (map_of i)) old n
    → Exactly i.q (MinimalSolution (map_of i)) table n
same_exactly i {n} {old} {table} some r e =
    let same : (k : ℕ) → k < n → Same i.q (at table i.q k) (at old i.q k) = same_row i.q n r in
    record {
      part =
          record {
            room = same_fits some r;
            only = λ k l. basis_same (task (map_of i) nonzero) (λ j jq. sym (same k l j jq)) (e.part.only k l);
            once = λ k l kl ln a. e.part.once k l kl ln (λ j jq. sym (same k (omega arith) j jq) ∙ a j jq ∙ same l ln j jq);
          };
      all = λ t w. let (k, l, a) = e.all t w in (k, l, λ j jq. same k l j jq ∙ a j jq);
    }

module _ (lower : List ℕ) (m : Map) where
  -- ---- the change of walk, and a step

  module _ (s : State) (o : SoundFrom lower (i lower m) s) where
    named : {r : RunKind} → s.run.kind ≡ r → SoundBy r lower (i lower m) s
    named e = subst (λ r. SoundBy r lower (i lower m) s) e o.holds

    -- the plain walk has ended: its list is whole, so that what it stops is not missed
    lowered_sound : s.run.kind ≡ lower_plain → s.run.height ≡ 0 → SoundFrom lower (i lower m) (lowered (bound_of lower) (i lower m).q s)
    unfolding lowered
    lowered_sound e z =
        let (p, none) = named e in
        let whole : Exactly (i lower m).q (MinimalSolution (map_of (i lower m))) s.second s.run.found2 =
        sound_exactly (map_of (i lower m)) nonzero (plain_part s) p z in
        let v = lowered_valid lower (i lower m) s e o.valid in
        let t : State = lowered (bound_of lower) (i lower m).q s in
        record {
          valid = v;
          holds = (
            record {
              suits = refl;
              valid = above_valid lower (i lower m) t refl v;
              hand = λ k l. let b = (whole.part.only k l).holds in (b.solution, b.admitted);
              inv = lower_invariant (above_system lower (i lower m)) (bound_of lower) s (shaped_above lower (i lower m) o.valid.shaped) refl none;
            },
            whole,
          );
        }

    settled_sound : SoundFrom lower (i lower m) (settle_from lower (i lower m) s)
    unfolding settle_from
    settled_sound = go s.run.kind s.run.height refl refl
      where
        go : (r : RunKind) (h : ℕ) → s.run.kind ≡ r → s.run.height ≡ h → SoundFrom lower (i lower m) (changed r h lower (i lower m) s)
        go plain_run h e z = o
        go capped_run h e z = o
        go lower_plain zero e z = lowered_sound e z
        go lower_plain (suc h) e z = o
        go lower_above h e z = o
        go desk_by_desk h e z = o

    plain_stepped : s.run.kind ≡ lower_plain → ValidFrom lower (i lower m) (whole_of s.run.deepest (step (map_of (i lower m)) (plain_part s)))
        → GoingFrom lower (i lower m) s
        → SoundFrom lower (i lower m) (whole_of s.run.deepest (step (map_of (i lower m)) (plain_part s)))
    plain_stepped e v g =
        let (p, none) = named e in
        let t : State = whole_of s.run.deepest (step (map_of (i lower m)) (plain_part s)) in
        let q = step_sound (map_of (i lower m)) nonzero (plain_part s) (g.0 e) p in
        record {
          valid = v;
          holds = (
            record { suits = tt; valid = plain_valid lower (i lower m) t refl v; hand = tt; inv = q.inv },
            (step_aside (map_of (i lower m)) (λ x. refl) (plain_part s)).found2 ∙ none,
          );
        }

    above_stepped : s.run.kind ≡ lower_above → ValidFrom lower (i lower m) (step (above_system lower (i lower m)) s) → GoingFrom lower (i lower m) s
        → SoundFrom lower (i lower m) (step (above_system lower (i lower m)) s)
    above_stepped e v g =
        let (p, whole) = named e in
        let t : State = step (above_system lower (i lower m)) s in
        let a = step_aside (above_system lower (i lower m)) (λ x. refl) s in
        record {
          valid = v;
          holds =
              subst (λ r. SoundBy r lower (i lower m) t) (sym ((step_kept (above_system lower (i lower m)) s).kind ∙ e))
              (step_sound (above_system lower (i lower m)) (at_or_above (bound_of lower)) s (g.1 e) p, rw (a.second, a.found2) whole);
        }

    step_from_sound : GoingFrom lower (i lower m) s → SoundFrom lower (i lower m) (step_from lower (i lower m) s)
    unfolding step_from
    step_from_sound g = go s.run.kind refl o.holds (step_from_valid lower (i lower m) s o.valid g)
      where
        go : (r : RunKind) → s.run.kind ≡ r → SoundBy r lower (i lower m) s
            → ValidFrom lower (i lower m)
            (by_walk r (whole_of s.run.deepest (step (map_of (i lower m)) (plain_part s))) (step (above_system lower (i lower m)) s))
            → SoundFrom lower (i lower m)
            (by_walk r (whole_of s.run.deepest (step (map_of (i lower m)) (plain_part s))) (step (above_system lower (i lower m)) s))
        go plain_run e h v = absurd h
        go capped_run e h v = absurd h
        go lower_plain e h v = plain_stepped e v g
        go lower_above e h v = above_stepped e v g
        go desk_by_desk e h v = absurd h

  resume_from_sound : (n : ℕ) (s : State) → SoundFrom lower (i lower m) s → SoundFrom lower (i lower m) (resume_from n lower (i lower m) s).state
  resume_from_sound =
      call_keeps (machine_from lower (i lower m)) (SoundFrom lower (i lower m)) settled_sound
      (λ s o (h, e). step_from_sound s o (search_going_from lower (i lower m) s o.valid h e))

  -- ---- other tables with the same rows

  module _ (s : State) (o : SoundFrom lower (i lower m) s) where
    relisted_from : (list : List ℕ) → SameRows (i lower m).q s.run.found s.list list → SoundFrom lower (i lower m) (with_list s list)
    relisted_from list r =
        let (h, v) = go s.run.kind o.holds o.valid.ordered in
        record { valid = record { shaped = shaped_same o.valid.shaped refl; ordered = v; long = o.valid.long; small = o.valid.small }; holds = h }
      where
        go : (k : RunKind) → SoundBy k lower (i lower m) s → InOrderBy k lower (i lower m) s → SoundBy k lower (i lower m) (with_list s list)
            × InOrderBy k lower (i lower m) (with_list s list)
        go plain_run h v = absurd h
        go capped_run h v = absurd h
        go lower_plain (p, none) (a, f, l) =
            let p' = seconded_sound (map_of (i lower m)) nonzero (plain_part s) list r p in
            ((p', none), (p'.valid.ordered, same_fits o.valid.shaped.q_some r, l))
        go lower_above (p, whole) (a, l) =
            let p' = relisted_sound (above_system lower (i lower m)) (at_or_above (bound_of lower)) s list r p in ((p', whole), (p'.valid.ordered, l))
        go desk_by_desk h v = absurd h

    seconded_from : (second : List ℕ) → SameRows (i lower m).q s.run.found2 s.second second → SoundFrom lower (i lower m) (with_second s second)
    seconded_from second r =
        let (h, v) = go s.run.kind o.holds o.valid.ordered in
        record { valid = record { shaped = shaped_same o.valid.shaped refl; ordered = v; long = o.valid.long; small = o.valid.small }; holds = h }
      where
        go : (k : RunKind) → SoundBy k lower (i lower m) s → InOrderBy k lower (i lower m) s → SoundBy k lower (i lower m) (with_second s second)
            × InOrderBy k lower (i lower m) (with_second s second)
        go plain_run h v = absurd h
        go capped_run h v = absurd h
        go lower_plain (p, none) (a, f, l) =
            let p' = relisted_sound (map_of (i lower m)) nonzero (plain_part s) second r p in ((p', none), (p'.valid.ordered, f, l))
        go lower_above (p, whole) (a, l) =
            let p' = seconded_sound (above_system lower (i lower m)) (at_or_above (bound_of lower)) s second r p in
            ((p', same_exactly (i lower m) o.valid.shaped.q_some r whole), (p'.valid.ordered, l))
        go desk_by_desk h v = absurd h

  -- ---- the run

  start_from_sound : (s : State) → lower_checks lower (i lower m) s ≡ go → SoundFrom lower (i lower m) (lower_start (map_of (i lower m)) s)
  unfolding lower_start units_start
  start_from_sound s e =
      let v = start_from_valid lower (i lower m) s refl e in
      let g = (lower_shaped (i lower m) s lower refl e).0 in
      record {
        valid = v;
        holds = (
          record {
            suits = tt;
            valid = plain_valid lower (i lower m) (lower_start (map_of (i lower m)) s) refl v;
            hand = tt;
            inv = plain_invariant (map_of (i lower m)) (plain_part s) (shaped_same g refl);
          },
          refl,
        );
      }

  pub run_from_sound : {s : State} → RunFrom lower m s → SoundFrom lower (i lower m) s
  unfolding start_from
  run_from_sound (started_from s e) = let (g, w) = started_goes (lower_checks lower (i lower m) s) s _ e in rw w (start_from_sound s g)
  run_from_sound (continued {s = s} r budget) = resume_from_sound budget s (run_from_sound r)
  run_from_sound (relisted {s = s} r list same) = relisted_from s (run_from_sound r) list same
  run_from_sound (relisted₂ {s = s} r second same) = seconded_from s (run_from_sound r) second same

  pub run_from_handed : {s : State} → RunFrom lower m s → Handed (i lower m)
  unfolding start_from
  run_from_handed (started_from s e) = lower_handed (i lower m) s lower refl (started_goes (lower_checks lower (i lower m) s) s _ e).0
  run_from_handed (continued r budget) = run_from_handed r
  run_from_handed (relisted r list same) = run_from_handed r
  run_from_handed (relisted₂ r second same) = run_from_handed r

  -- ---- what it lists

  -- cut short, such tuples only, in either list
  pub sound_from_only : (s : State) → SoundFrom lower (i lower m) s
      → Only (i lower m).q (MinimalFrom (map_of (i lower m)) (bound_of lower)) s.list s.run.found
      × Only (i lower m).q (MinimalSolution (map_of (i lower m))) s.second s.run.found2
  sound_from_only s o = go s.run.kind o.holds o.valid.ordered
    where
      go : (k : RunKind) → SoundBy k lower (i lower m) s → InOrderBy k lower (i lower m) s
          → Only (i lower m).q (MinimalFrom (map_of (i lower m)) (bound_of lower)) s.list s.run.found
          × Only (i lower m).q (MinimalSolution (map_of (i lower m))) s.second s.run.found2
      go plain_run h v = absurd h
      go capped_run h v = absurd h
      go lower_plain (p, none) (a, f, l) = (
        record {
          room = f;
          only = λ k h. absurd (omega arith);
          once = λ k j kj h. absurd (omega arith);
        },
        sound_only (map_of (i lower m)) nonzero (plain_part s) p,
      )
      go lower_above (p, whole) (a, l) = (sound_only (above_system lower (i lower m)) (at_or_above (bound_of lower)) s p, whole.part)
      go desk_by_desk h v = absurd h

  -- at height 0 with no change of walk ahead, all of them
  pub sound_from_exactly : (s : State) → SoundFrom lower (i lower m) s → settle_from lower (i lower m) s ≡ s → s.run.height ≡ 0
      → Exactly (i lower m).q (MinimalFrom (map_of (i lower m)) (bound_of lower)) s.list s.run.found
      × Exactly (i lower m).q (MinimalSolution (map_of (i lower m))) s.second s.run.found2
  unfolding settle_from lowered
  sound_from_exactly s o e z = go s.run.kind s.run.height z (ap (λ t. t.run.height) e) o.holds
    where
      go : (k : RunKind) (h : ℕ) → h ≡ 0 → (changed k h lower (i lower m) s).run.height ≡ s.run.height → SoundBy k lower (i lower m) s
          → Exactly (i lower m).q (MinimalFrom (map_of (i lower m)) (bound_of lower)) s.list s.run.found
          × Exactly (i lower m).q (MinimalSolution (map_of (i lower m))) s.second s.run.found2
      go plain_run h n c b = absurd b
      go capped_run h n c b = absurd b
      go lower_plain zero n c b = absurd (omega (arith, z))
      go lower_plain (suc h) n c b = absurd (omega arith)
      go lower_above h n c (p, whole) = (sound_exactly (above_system lower (i lower m)) (at_or_above (bound_of lower)) s p z, whole)
      go desk_by_desk h n c b = absurd b
