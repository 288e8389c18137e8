-- Theorems about what specs/Frames.antt defines. Assumes nothing.
use Rattle.std.specs.Prelude.{◌≡◌, refl, Bool, true, false, cond, ℕ, ◌+◌, ◌*◌, ◌≤◌, ◌<◌, T, eqb, leb, length}
use Rattle.std.proofs.Common.{◌∙◌, ap, inl, le-div_iff_mul-le, arith, eqb→eq, leb→le, le→leb}
use Rattle.laws.proofs.TableLaws.{write_inside, write_outside}
use Rattle.definitions.specs.System.{solves}
use Rattle.definitions.specs.Tables.{State, at, capacity}
use Rattle.laws.proofs.Pack.{pack_outside}
use Rattle.theorems.specs.WholeSteps.{call_keeps}
use Rattle.desk_spec.specs.Desks.{Desk, desk_grown, desk_level, desk_listed, desk_machine, desk_makes, desk_step, desk_top, freed, generator_count}
use Rattle.desk_spec.specs.Desks.{second_group}
use Rattle.desk_spec.specs.Desks.{settled, swept}
use Rattle.desk_spec.proofs.Valid.{freed_has, freed_of, same_top, settled_done, settled_has, step_has}
use Rattle.desk_spec.specs.Runs.{left}
use Rattle.desk_spec.specs.Frames.{Aside, NextRow, TopTaken}

-- ---- when a sweep is made

-- "It runs before each "complete"": at height 0, and above it nothing is done ahead of a step
pub settled_when : (d : Desk) (s : State) → (s.run.height ≡ 0 → settled d s ≡ swept d.q s) × (0 < s.run.height → settled d s ≡ s)
unfolding settled
settled_when d s = (settled_done d s, above)
  where
    above : 0 < s.run.height → settled d s ≡ s
    above l = by (eqb s.run.height 0) refl
      where
        by : (b : Bool) → eqb s.run.height 0 ≡ b → cond b (swept d.q s) s ≡ s
        by true y = let h : T (eqb s.run.height 0) = rw y tt in absurd (omega (arith, eqb→eq s.run.height 0 h))
        by false y = refl

-- "and when a solution is due and the list is full": with room a step that lists begins with nothing else
pub freed_when : (d : Desk) (s : State)
    → (capacity d.q s.list ≤ s.run.found → freed d s ≡ swept d.q s) × (s.run.found < capacity d.q s.list → freed d s ≡ s)
unfolding freed
freed_when d s = (full, roomy)
  where
    full : capacity d.q s.list ≤ s.run.found → cond (leb (capacity d.q s.list) s.run.found) (swept d.q s) s ≡ swept d.q s
    full l = by (leb (capacity d.q s.list) s.run.found) (le→leb (capacity d.q s.list) s.run.found l)
      where
        by : (b : Bool) → T b → cond b (swept d.q s) s ≡ swept d.q s
        by true y = refl
        by false y = absurd y

    roomy : s.run.found < capacity d.q s.list → cond (leb (capacity d.q s.list) s.run.found) (swept d.q s) s ≡ s
    roomy l = by (leb (capacity d.q s.list) s.run.found) refl
      where
        by : (b : Bool) → leb (capacity d.q s.list) s.run.found ≡ b → cond b (swept d.q s) s ≡ s
        by true y = let h : T (leb (capacity d.q s.list) s.run.found) = rw y tt in
            absurd (omega (arith, leb→le (capacity d.q s.list) s.run.found h))
        by false y = refl

next_row : (d : Desk) (s : State) → NextRow d.q (desk_top d s) s (desk_listed d s)
unfolding desk_listed
next_row d s =
    record {
      found = refl;
      rows = λ e l. write_outside (desk_top d s) s.list (s.run.found * d.q) d.q e (inl l);
      row = λ room j jq. write_inside (desk_top d s) s.list (s.run.found * d.q) d.q j (row_fits room (omega arith)) jq;
    }
  where
    row_fits : s.run.found < capacity d.q s.list → 0 < d.q → s.run.found * d.q + d.q ≤ length s.list
    row_fits room some = omega (arith, (le-div_iff_mul-le {k = d.q} {x = s.run.found + 1} {y = length s.list} some).0 (omega arith))

pub step_takes : (d : Desk) (s : State) → TopTaken d s (desk_step d s)
unfolding desk_listed desk_grown
step_takes d s = step_has (TopTaken d s) d s enlisting growing
  where
    enlisting : T (solves (second_group d) (desk_top d s)) → TopTaken d s (desk_listed d (freed d s))
    enlisting y =
        record {
          below = λ l j h jq. ap (λ stack. at stack (d.q + 2) l j) (freed_of d s).stack;
          lists = λ z. rw (← same_top d (freed_of d s)) (next_row d (freed d s));
          grows = λ n. absurd (n y);
        }

    growing : ¬ (T (solves (second_group d) (desk_top d s))) → TopTaken d s (desk_grown d s)
    growing n =
        record {
          below = λ l j h jq. pack_outside (d.q + 2) s.stack (desk_level s) (desk_makes d s) _ (generator_count d) l j (inl h) jq;
          lists = λ y. absurd (n y);
          grows = λ z. record { list = refl; found = refl };
        }

aside_same : (s : State) → Aside s s
aside_same s = record { kind = refl; second = refl; found2 = refl; steps2 = refl }

aside_more : {s t u : State} → Aside s t → Aside t u → Aside s u
aside_more a b = record { kind = b.kind ∙ a.kind; second = b.second ∙ a.second; found2 = b.found2 ∙ a.found2; steps2 = b.steps2 ∙ a.steps2 }

swept_aside : (q : ℕ) (s : State) → Aside s (swept q s)
unfolding swept
swept_aside q s = record { kind = refl; second = refl; found2 = refl; steps2 = refl }

settled_aside : (d : Desk) (s : State) → Aside s (settled d s)
settled_aside d s = settled_has (Aside s) d s (swept_aside d.q s) (aside_same s)

step_aside : (d : Desk) (s : State) → Aside s (desk_step d s)
unfolding desk_listed desk_grown
step_aside d s =
    step_has (Aside s) d s (λ y. enlisting (freed d s) (freed_has (Aside s) d s (swept_aside d.q s) (aside_same s)))
    (λ n. record { kind = refl; second = refl; found2 = refl; steps2 = refl })
  where
    enlisting : (t : State) → Aside s t → Aside s (desk_listed d t)
    enlisting t a = record { kind = a.kind; second = a.second; found2 = a.found2; steps2 = a.steps2 }

pub aside_kept : (budget : ℕ) (d : Desk) (s : State) → Aside s (left budget d s)
aside_kept budget d s =
    call_keeps (desk_machine d) (Aside s) (λ t a. aside_more a (settled_aside d t)) (λ t a g. aside_more a (step_aside d t)) budget s (aside_same s)
