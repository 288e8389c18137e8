-- Theorems about what specs/Run.antt defines. Assumes nothing.
use Rattle.std.specs.Prelude.{◌≡◌, ℕ, zero, suc, ◌-◌, ◌<◌}
use Rattle.std.proofs.Common.{subst, arith}
use Rattle.linear.specs.Tuples.{Same, put}
use Rattle.definitions.specs.Answers.{go}
use Rattle.definitions.specs.Calls.{machine, resume, start}
use Rattle.definitions.specs.Input.{Input, system_of}
use Rattle.definitions.specs.Refusals.{resume_checks, start_checks}
use Rattle.definitions.specs.Step.{row_width, width}
use Rattle.definitions.specs.System.{Kind, System, above, capped, plain}
use Rattle.definitions.specs.Tables.{State, at}
use Rattle.laws.specs.RefusalLaws.{Handed}
use Rattle.laws.proofs.RefusalLaws.{search_going, start_handed, valid_resume}
use Rattle.laws.proofs.ValidLaws.{width_few}
use Rattle.theorems.specs.Basis.{Basis}
use Rattle.theorems.specs.CallAnswers.{started_goes}
use Rattle.theorems.proofs.Invariant.{finished}
use Rattle.theorems.specs.Link.{Aim, put_same}
use Rattle.theorems.specs.Link.{task, view, with_kind}
use Rattle.theorems.specs.Listed.{Exactly, Only, Reads}
use Rattle.theorems.proofs.Listed.{only_reads}
use Rattle.theorems.specs.View.{Listed}
use Rattle.theorems.specs.WholeSteps.{call_keeps}
use Rattle.theorems.specs.Run.{
  Row,
  Run,
  Sound,
  continued,
  relisted,
  relisted_sound,
  relisted₂,
  seconded_sound,
  stands_for,
  started_units,
  step_sound,
  units_sound,
}

-- what is listed is what the run is about, each once; by the kind of walk
listed_only : (k : Kind) (m : System) (c : Aim) (s : State) → Sound (with_kind m k) c s
    → Only (row_width k m.q) (Row (with_kind m k) c 0) s.list s.run.found
listed_only plain m c s o =
    record { room = o.valid.ordered.found; only = o.inv.sound 0; once = λ i j ij js e. o.inv.distinct 0 i j ij js (λ x xq. omega (arith, e x xq)) }
listed_only capped m c s o =
    record {
      room = o.valid.ordered.found;
      only = o.inv.sound 0;
      once =
          λ i j ij js e. o.inv.distinct 0 i j ij js
          (λ x xq. omega (arith, put_same m.q 0 {x = at s.list (m.q - 1) i} {y = at s.list (m.q - 1) j} e x xq));
    }
listed_only (above f) m c s o =
    record { room = o.valid.ordered.found; only = o.inv.sound 0; once = λ i j ij js e. o.inv.distinct 0 i j ij js (λ x xq. omega (arith, e x xq)) }

second_only : (m : System) (c : Aim) (s : State) → Sound (with_kind m capped) c s → Only (m.q - 1) (Row (with_kind m capped) c 1) s.second s.run.found2
second_only m c s o =
    record {
      room = o.valid.ordered.found2;
      only = o.inv.sound 1;
      once =
          λ i j ij js e. o.inv.distinct 1 i j ij js
          (λ x xq. omega (arith, put_same m.q 1 {x = at s.second (m.q - 1) i} {y = at s.second (m.q - 1) j} e x xq));
    }

listed_all : (k : Kind) (m : System) (c : Aim) (s : State) → 0 < m.q → {y : ℕ → ℕ} → Listed m.q (view (with_kind m k) s) (stands_for k 0 y)
    → (i : ℕ) × (i < s.run.found) × Same (row_width k m.q) (at s.list (row_width k m.q) i) y
listed_all plain m c s some (zero, i, l, e) = (i, l, e)
listed_all plain m c s some (suc d, i, l, e) = absurd (omega arith)
listed_all capped m c s some (zero, i, l, e) = (i, l, λ j jq. e (suc j) (omega arith))
listed_all capped m c s some (suc zero, i, l, e) = absurd (let z : ◌≡◌ {A = ℕ} 1 0 = e 0 some in omega arith)
listed_all capped m c s some (suc (suc d), i, l, e) = absurd (omega arith)
listed_all (above f) m c s some (zero, i, l, e) = (i, l, e)
listed_all (above f) m c s some (suc d, i, l, e) = absurd (omega arith)

second_all : (m : System) (c : Aim) (s : State) → 0 < m.q → {y : ℕ → ℕ} → Listed m.q (view (with_kind m capped) s) (put 1 y)
    → (i : ℕ) × (i < s.run.found2) × Same (m.q - 1) (at s.second (m.q - 1) i) y
second_all m c s some (zero, i, l, e) = absurd (let z : ◌≡◌ {A = ℕ} 0 1 = e 0 some in omega arith)
second_all m c s some (suc zero, i, l, e) = (i, l, λ j jq. e (suc j) (omega arith))
second_all m c s some (suc (suc d), i, l, e) = absurd (omega arith)

module _ (m : System) (c : Aim) where
  pub sound_only : (s : State) → Sound m c s → Only (width m) (Row m c 0) s.list s.run.found
  sound_only s o = listed_only m.kind m c s o

  pub sound_exactly : (s : State) → Sound m c s → s.run.height ≡ 0 → Exactly (width m) (Row m c 0) s.list s.run.found
  sound_exactly s o e = record { part = sound_only s o; all = λ t b. listed_all m.kind m c s o.valid.shaped.q_some (finished o.inv e _ b) }

-- the list at 1 of a capped run
module _ (m : System) (c : Aim) (is : m.kind ≡ capped) where
  as_capped : (s : State) → Sound m c s → Sound (with_kind m capped) c s
  as_capped s o = subst (λ k. Sound (with_kind m k) c s) is o

  pub sound_second : (s : State) → Sound m c s → Only (m.q - 1) (λ y. Basis (task m c) (put 1 y)) s.second s.run.found2
  sound_second s o = second_only m c s (as_capped s o)

  pub sound_seconds : (s : State) → Sound m c s → s.run.height ≡ 0 → Exactly (m.q - 1) (λ y. Basis (task m c) (put 1 y)) s.second s.run.found2
  sound_seconds s o e = record { part = sound_second s o; all = λ t b. second_all m c s o.valid.shaped.q_some (finished (as_capped s o).inv e _ b) }

module _ (i : Input) (c : Aim) where
  -- no continuing call on a run is refused before its walk
  pub sound_resumes : Handed i → {s : State} → Sound (system_of i) c s → resume_checks i s ≡ go
  sound_resumes h {s} o = valid_resume i s h o.valid

  pub resume_sound : (n : ℕ) (s : State) → Sound (system_of i) c s → Sound (system_of i) c (resume n i s).state
  resume_sound =
      call_keeps (machine i) (Sound (system_of i) c) (λ s o. o)
      (λ s o (h, e). step_sound (system_of i) c s (search_going (system_of i) s o.valid.ordered h e) o)

-- ---- the starts

module _ (i : Input) where
  pub run_sound : {c : Aim} {s : State} → Run i c s → Sound (system_of i) c s
  unfolding start
  run_sound (started_units s e) = let (g, w) = started_goes (start_checks i s) s _ e in rw w ((units_sound i) s g)
  run_sound (continued {c = c} {s = s} r budget) = resume_sound i c budget s (run_sound r)
  run_sound (relisted {c = c} {s = s} r list same) = relisted_sound (system_of i) c s list same (run_sound r)
  run_sound (relisted₂ {c = c} {s = s} r second same) = seconded_sound (system_of i) c s second same (run_sound r)

  -- what is handed over with every call of a run is accepted
  pub run_handed : {c : Aim} {s : State} → Run i c s → Handed i
  unfolding start
  run_handed (started_units s e) = start_handed i s (started_goes (start_checks i s) s _ e).0
  run_handed (continued r budget) = run_handed r
  run_handed (relisted r list same) = run_handed r
  run_handed (relisted₂ r second same) = run_handed r

  -- ---- what a run lists

  pub run_only : {c : Aim} {s : State} → Run i c s → Only (width (system_of i)) (Row (system_of i) c 0) s.list s.run.found
  run_only {c} {s} r = sound_only (system_of i) c s (run_sound r)

  pub run_exactly : {c : Aim} {s : State} → Run i c s → s.run.height ≡ 0 → Exactly (width (system_of i)) (Row (system_of i) c 0) s.list s.run.found
  run_exactly {c} {s} r e = sound_exactly (system_of i) c s (run_sound r) e

  -- and what a user reads of it
  pub run_reads : {c : Aim} (s : State) → Run i c s → (n : ℕ) → n < s.run.found → Reads (width (system_of i)) s.list s.run.found n
  run_reads {c} s r =
      let o = run_sound r in
      only_reads o.valid.shaped.wide (width_few (system_of i).kind (system_of i).q o.valid.shaped.q_few) (run_only r)
