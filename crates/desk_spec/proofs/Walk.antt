-- Theorems about what specs/Walk.antt defines. Assumes nothing.
use Rattle.std.specs.Prelude.{◌≡◌, ◌≢◌, List, T, ℤ, length}
use Rattle.std.proofs.Math.Path.{refl, ap}
use Rattle.std.proofs.Math.Logic.{inl, inr}
use Prim.Native.Nat.{ℕ, zero, suc, ◌+◌, ◌*◌, ◌≤◌, ◌<◌}
use Rattle.std.proofs.Common.{le-div_iff_mul-le, arith}
use Rattle.linear.specs.Tests.{count_to}
use Rattle.linear.specs.Tuples.{AtOrBelow, Same}
use Rattle.definitions.specs.Refusals.{step_limit}
use Rattle.definitions.specs.System.{solves}
use Rattle.definitions.specs.Tables.{State, at, capacity, frozen}
use Rattle.laws.proofs.MarkLaws.{marks_inherit, marks_made, marks_only, ones_free, ones_frozen}
use Rattle.laws.proofs.SystemLaws.{fails_fails, solves_solution}
use Rattle.laws.proofs.TableLaws.{row_before, write_inside, write_outside}
use Rattle.theorems.specs.Reaching.{Begins, Child, Grows, Lists, listed_below}
use Rattle.theorems.specs.Run.{SameRows}
use Rattle.theorems.specs.View.{Kept}
use Rattle.linear.proofs.Loops.{Solutions}
use Rattle.desk_spec.specs.Desks.{Desk, desk_grown, desk_level, desk_listed, desk_makes, desk_start, desk_step, desk_top, desk_top_marks, desk_tuple, freed}
use Rattle.desk_spec.specs.Desks.{generator, generator_count, second_group, settled, swept}
use Rattle.desk_spec.proofs.Rows.{child_is, marks_kept, raises_clear, raises_tried, rows_kept, start_row}
use Rattle.desk_spec.specs.Valid.{DeskGoing, DeskShaped, DeskValid}
use Rattle.desk_spec.proofs.Valid.{children_few, free, freed_has, freed_of, freed_room, grown_valid, listed_valid, same_top}
use Rattle.desk_spec.proofs.Valid.{settled_has, start_valid, step_has, sweep_leaves, sweep_valid, swept_of}
use Rattle.desk_spec.specs.Second.{begun, growing, enlisting, relisting, sweeping}
use Rattle.desk_spec.proofs.Second.{first_onwards}
use Rattle.desk_spec.specs.Sweeping.{Sweeps}
use Rattle.desk_spec.specs.Walk.{Sound, one_found, r, view, with_list}

pub relisted_valid : (d : Desk) (s : State) (list : List ℕ) → SameRows d.q s.run.found s.list list → DeskValid d s → DeskValid d (with_list s list)
relisted_valid d s list same v =
    record {
      shaped = v.shaped;
      ordered =
          record {
            own = v.ordered.own;
            height = v.ordered.height;
            found = (le-div_iff_mul-le {k = d.q} {x = s.run.found} {y = length list} v.shaped.q_some).1 same.long;
            early = v.ordered.early;
            shallow = v.ordered.shallow;
            rows = v.ordered.rows;
          };
    }

module _ (d : Desk) (p₁ : ℕ) (a₁ : ℕ → ℕ → ℤ) (solve : Solutions p₁ d.q a₁ (generator_count d) (generator d)) where
  begins : (s : State) → generator_count d * (d.q + 2) ≤ length s.stack → Begins (r d p₁ a₁ solve) ((view d p₁ a₁ solve) (desk_start d s))
  unfolding desk_start
  begins s long =
      record {
        height = refl;
        found = none_found;
        tuples = λ l ln j jq. (start_row d s.stack long l ln).tuple j jq;
        frozen = λ l j ln jl. rw (start_row d s.stack long l ln).marks_are (ones_frozen l j jl);
        free = λ l j ln jn f. ones_free l j (rw (start_row d s.stack long l ln).marks_are at f);
      }
    where
      none_found : (c : ℕ) → one_found 0 c ≡ 0
      none_found zero = refl
      none_found (suc c) = refl

  pub sweeps : (s : State) → Sweeps (r d p₁ a₁ solve) ((view d p₁ a₁ solve) s) ((view d p₁ a₁ solve) (swept d.q s))
  sweeps s =
      let o = swept_of d.q s in
      record {
        height = o.height;
        kept = record { tuples = λ l lh j jq. rw o.stack refl; marks = λ l lh j jq. rw o.stack refl };
        one = λ c. refl;
        one' = λ c. refl;
        swept = (sweep_leaves d.q s).rows;
      }

  module _ (s : State) (valid : DeskValid d s) (high : 0 < s.run.height) where
    lists : s.run.found * d.q + d.q ≤ length s.list → T (solves (second_group d) (desk_top d s))
        → Lists (r d p₁ a₁ solve) ((view d p₁ a₁ solve) s) ((view d p₁ a₁ solve) (desk_listed d s)) 0
    unfolding desk_listed
    lists room y =
        record {
          height = omega arith;
          found = omega arith;
          others = others;
          kept = record { tuples = λ l lh j jq. refl; marks = λ l lh j jq. refl };
          rows = rows;
          new = λ j jq. write_inside (desk_top d s) s.list (s.run.found * d.q) d.q j room jq;
          solution = solves_solution (second_group d) (desk_top d s) y;
        }
      where
        others : (c : ℕ) → c ≢ 0 → one_found (s.run.found + 1) c ≡ one_found s.run.found c
        others zero ne = absurd (ne refl)
        others (suc c) ne = refl

        rows : (c i : ℕ) → i < one_found s.run.found c → Same d.q (at (desk_listed d s).list d.q i) (at s.list d.q i)
        rows zero i l j jq = let b = row_before d.q s.run.found i 0 j l jq in
            write_outside (desk_top d s) s.list (s.run.found * d.q) d.q (i * d.q + j) (inl (omega arith))
        rows (suc c) i l j jq = absurd (omega arith)

    child : (j : ℕ) → j < generator_count d → T (desk_makes d s j)
        → Child (r d p₁ a₁ solve) ((view d p₁ a₁ solve) s) ((view d p₁ a₁ solve) (desk_grown d s)) (desk_makes d s) (desk_level s) j
        (desk_level s + count_to j (desk_makes d s))
    unfolding desk_grown
    child j jn mj =
        let c = child_is d s.stack (desk_level s) (desk_top d s) (desk_top_marks d s) (desk_makes d s) valid.shaped.stack
        (children_few d s valid high) j jn mj in
        let unfrozen = free d s valid high in
        record {
          raised = c.tuple;
          inherits = λ i il f. rw c.marks_are (marks_inherit (desk_top_marks d s) (desk_makes d s) (generator_count d) unfrozen j (omega arith) i f);
          marks = λ i ij mi. rw c.marks_are (marks_made (desk_top_marks d s) (desk_makes d s) (generator_count d) unfrozen j (omega arith) i ij mi);
          only = λ i il f. marks_only (desk_top_marks d s) (desk_makes d s) (generator_count d) unfrozen j (omega arith) i (rw c.marks_are at f);
        }

    grows : ¬ (T (solves (second_group d) (desk_top d s)))
        → Grows (r d p₁ a₁ solve) ((view d p₁ a₁ solve) s) ((view d p₁ a₁ solve) (desk_grown d s)) (desk_level s) (desk_makes d s)
    unfolding desk_grown
    grows n =
        record {
          height = omega arith;
          fails = fails_fails (second_group d) (desk_top d s) n;
          height' = refl;
          found = λ c. refl;
          kept = kept;
          rows = λ c i l j jq. refl;
          child = child;
          free = λ j jn mj. free d s valid high j jn mj;
          clear = clear;
          admits = λ j jn mj. first_onwards p₁ d.q a₁ (generator_count d) (generator d) solve (desk_top d s) _ j jn (child j jn mj).raised;
          tried = λ j jn f a. elim
              (raises_tried d s.list s.run.found (desk_top d s) (desk_top_marks d s) j f a) [
                | inl mj ↦ inl mj
                | inr (i, l, b) ↦ inr
                    (listed_below 0 i l b)
              ];
        }
      where
        kept : Kept d.q (generator_count d) ((view d p₁ a₁ solve) s) ((view d p₁ a₁ solve) (desk_grown d s)) (desk_level s)
        kept =
            record {
              tuples = λ l lh j jq. rows_kept d s.stack (desk_level s) (desk_top d s) (desk_top_marks d s) (desk_makes d s) l j lh (omega arith);
              marks = λ l lh j jn. ap (λ x. frozen x j) (marks_kept d s.stack (desk_level s) (desk_top d s) (desk_top_marks d s) (desk_makes d s) l lh);
            }

        clear : (j : ℕ) → j < generator_count d → T (desk_makes d s j) → (c i : ℕ) → i < one_found s.run.found c
            → ¬ (AtOrBelow d.q (at s.list d.q i) (desk_tuple d.q (desk_grown d s).stack (desk_level s + count_to j (desk_makes d s))))
        clear j jn mj zero i l b =
            raises_clear d s.list s.run.found (desk_top d s) (desk_top_marks d s) j mj i l (λ x xq. omega (arith, b x xq, (child j jn mj).raised x xq))
        clear j jn mj (suc c) i l b = omega arith

  pub start_sound : (s : State) → DeskShaped d (length s.stack) → (Sound d p₁ a₁ solve) (desk_start d s)
  start_sound s g = record { valid = start_valid d s g; walked = begun (begins s g.stack) }

  swept_sound : (s : State) → (Sound d p₁ a₁ solve) s → (Sound d p₁ a₁ solve) (swept d.q s)
  swept_sound s o = record { valid = sweep_valid (swept_of d.q s) o.valid; walked = sweeping o.walked (sweeps s) }

  pub settled_sound : (s : State) → (Sound d p₁ a₁ solve) s → (Sound d p₁ a₁ solve) (settled d s)
  settled_sound s o = settled_has (Sound d p₁ a₁ solve) d s (swept_sound s o) o

  freed_sound : (s : State) → (Sound d p₁ a₁ solve) s → (Sound d p₁ a₁ solve) (freed d s)
  freed_sound s o = freed_has (Sound d p₁ a₁ solve) d s (swept_sound s o) o

  listed_sound : (s : State) → (Sound d p₁ a₁ solve) s → 0 < s.run.height → s.run.steps < step_limit → s.run.found < capacity d.q s.list
      → T (solves (second_group d) (desk_top d s)) → (Sound d p₁ a₁ solve) (desk_listed d s)
  listed_sound s o high early room y =
      let fits = (le-div_iff_mul-le {k = d.q} {x = suc s.run.found} {y = length s.list} o.valid.shaped.q_some).0 room in
      record { valid = listed_valid d s o.valid high early room; walked = enlisting o.walked (lists s o.valid high (omega arith) y) }

  pub step_sound : (s : State) → (Sound d p₁ a₁ solve) s → DeskGoing d s → (Sound d p₁ a₁ solve) (desk_step d s)
  step_sound s o g =
      let f = freed_of d s in
      step_has (Sound d p₁ a₁ solve) d s
      (λ y. listed_sound (freed d s) (freed_sound s o) (rw f.height g.high) (rw f.steps g.early) (freed_room d s g y) (rw (same_top d f) y))
      (λ n. record { valid = grown_valid d s o.valid g.high (g.small n) g.early; walked = growing o.walked (grows s o.valid g.high n) })

  pub relisted_sound : (s : State) (list : List ℕ) → SameRows d.q s.run.found s.list list → (Sound d p₁ a₁ solve) s → (Sound d p₁ a₁ solve) (with_list s list)
  relisted_sound s list same o =
      record {
        valid = relisted_valid d s list same o.valid;
        walked = relisting o.walked (record {
          height = refl;
          found = λ c. refl;
          kept = record { tuples = λ l lh j jq. refl; marks = λ l lh j jq. refl };
          rows = rows;
        });
      }
    where
      rows : (c i : ℕ) → i < one_found s.run.found c → Same d.q (at list d.q i) (at s.list d.q i)
      rows zero i l j jq = same.same (i * d.q + j) (omega (arith, row_before d.q s.run.found i 0 j l jq))
      rows (suc c) i l j jq = absurd (omega arith)
