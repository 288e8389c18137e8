-- Document 02, Job 11: "from any run record that passes the check for 6, no step needs a row beyond the last one, in plain, capped, floor and desk-by-desk
-- walks". One theorem over marks and rows (`rows_suffice`), and its instances; that of the walk by groups of equations is `desk_rows` of
-- desk_spec/specs/Promises. Assumes nothing.
use Rattle.std.specs.Prelude.{◌≡◌, refl, ◌⊎◌, Bool, false, true, List, ◌*◌, ◌+◌, ◌<◌, ◌≤◌, ℕ, T, get_or}
use Rattle.std.proofs.Common.{ap, inl, inr, mul-le-mul_right, arith}
use Rattle.linear.specs.Tests.{count_to}
use Rattle.definitions.specs.Answers.{go}
use Rattle.definitions.specs.Calls.{machine, machine_from, resume_from_steps, resume_steps}
use Rattle.definitions.specs.Input.{Input, above_system, map_of, system_of}
use Rattle.definitions.specs.Machine.{Machine, after, call_steps}
use Rattle.definitions.specs.Refusals.{check6, check6_from}
use Rattle.definitions.specs.Step.{enlist_in, grown, level, listed, makes, pick, row_of, row_width, step, to_second, top, top_marks}
use Rattle.definitions.specs.System.{System, solves}
use Rattle.definitions.specs.Tables.{RunKind, State, capped_run, desk_by_desk, frozen, lower_above, lower_plain, plain_part, plain_run}
use Rattle.laws.proofs.CheckLaws.{check_cases}
use Rattle.laws.specs.LowerLaws.{InOrderBy, ValidFrom}
use Rattle.laws.proofs.LowerLaws.{from_order, named_order, resume_from_valid, search_going_from, settled_valid, step_from_valid}
use Rattle.laws.proofs.MachineLaws.{call_refused}
use Rattle.laws.proofs.MarkLaws.{marks_few}
use Rattle.laws.specs.RefusalLaws.{InOrder, Valid}
use Rattle.laws.proofs.RefusalLaws.{checked_order, resume_valid, search_going}
use Rattle.laws.proofs.StepLaws.{children_outside, makes_free}
use Rattle.laws.proofs.ValidLaws.{step_valid}
use Rattle.theorems.specs.Maps.{Map, by_itself}
use Rattle.theorems.specs.WholeSteps.{Goes, after_keeps, call_going}

-- The row at a level, from 0, carries as many marks as there are rows below it. So where every child raises an unknown that is not marked, the level and the
-- children together are no more than the unknowns, and these are as many as the rows.
pub rows_suffice : (rows level marks : ℕ) (child : ℕ → Bool) → count_to rows (frozen marks) ≡ level
    → ((j : ℕ) → j < rows → T (child j) → ¬ (T (frozen marks j)))
    → level + count_to rows child ≤ rows
rows_suffice rows level marks child marked free = omega (arith, marks_few marks child rows free)

-- plain and capped walks, and that above a lower bound: by the system that the walk goes through
pub walk_rows : (m : System) (s : State) → InOrder m s → 0 < s.run.height → level s + count_to m.q (makes m s) ≤ m.q
walk_rows m s o h = rows_suffice m.q (level s) (top_marks m s) (makes m s) (o.rows (level s) (omega arith)).marked (λ j l mj. makes_free m s j mj)

-- a record of a plain or a capped run that passes the check for 6
pub checked_rows : (m : System) (s : State) → check6 m s ≡ go → 0 < s.run.height → level s + count_to m.q (makes m s) ≤ m.q
checked_rows m s e = walk_rows m s (checked_order m s e)

-- a record of a run from a lower bound, in either of its walks
pub lower_rows : (lower : List ℕ) (i : Input) (s : State) → check6_from lower i s ≡ go → 0 < s.run.height
    → (s.run.kind ≡ lower_plain → level s + count_to i.q (makes (map_of i) (plain_part s)) ≤ i.q)
    × (s.run.kind ≡ lower_above → level s + count_to i.q (makes (above_system lower i) s) ≤ i.q)
lower_rows lower i s e h =
    let o = from_order lower i s e in (
      λ k. walk_rows (map_of i) (plain_part s) (named_order lower i s k o).0 h,
      λ k. walk_rows (above_system lower i) s (named_order lower i s k o).0 h,
    )

-- So a step never writes past the last row: every entry of the stack table from there on is as it was.
pub never_past_the_last_row : (m : System) (s : State) → InOrder m s → 0 < s.run.height → (e : ℕ) → m.q * (m.q + 1) ≤ e
    → get_or (step m s).stack e 0 ≡ get_or s.stack e 0
unfolding step listed grown
never_past_the_last_row m s o h e l = go (solves m (top m s))
  where
    enlisted : (b : Bool) (w : ℕ) (y : ℕ → ℕ) (d : ℕ) → (enlist_in b w s y d).stack ≡ s.stack
    enlisted false w y d = refl
    enlisted true w y d = refl

    go : (b : Bool) → get_or (pick b (listed m s) (grown m s)).stack e 0 ≡ get_or s.stack e 0
    go true = ap (λ stack. get_or stack e 0) (enlisted (to_second m.kind (top m s)) (row_width m.kind m.q) (row_of m.kind (top m s)) _)
    go false = children_outside m s m.q e (omega (arith, mul-le-mul_right (m.q + 1) (walk_rows m s o h)))

-- ---- "no step needs a row beyond the last one": each step of a continuing call, which is let go on where it takes one

-- what holds where a machine's checks let a call go on, and what its steps keep, holds before each step
module _ {S : Type 0} (k : Machine S) (P : S → Type 0) (begins : (s : S) → k.before s ≡ go → P s) (settles : (s : S) → P s → P (k.settle s))
    (keep : (s : S) → P s → Goes k s → P (k.step s)) where
  pub each_step : (budget : ℕ) (s : S) (n : ℕ) → n < call_steps budget k s → P (after n k s) × Goes k (after n k s)
  each_step budget s n l =
      elim (check_cases (k.before s)) [
        | inl e ↦ (after_keeps k P settles keep n s (begins s e) (λ j jn. call_going k budget s e j (omega arith)), call_going k budget s e n l)
        | inr (r, values, e) ↦ absurd (omega (arith, (call_refused k s budget r values e).1))
      ]

-- plain and capped runs
pub call_rows : (budget : ℕ) (i : Input) (s : State) (n : ℕ) → n < resume_steps budget i s → let m = system_of i in let t = after n (machine i) s in
    level t + count_to m.q (makes m t) ≤ m.q
call_rows budget i s n l =
    let m : System = system_of i in
    let (v, (h, f)) = each_step (machine i) (Valid m) (resume_valid i) (λ t v. v)
    (λ t v (h, f). step_valid m t v h (search_going m t v.ordered h f)) budget s n l in
    walk_rows m (after n (machine i) s) v.ordered h

-- runs from a lower bound, by the walk under way
module _ (lower : List ℕ) (m : Map) where
  abbrev i : Input
  i = by_itself m

  -- no row beyond the last is needed by the walk under way
  abbrev pub Suffice : State → Type 0
  Suffice t =
      ((t.run.kind ≡ lower_plain) × (level t + count_to m.q (makes (map_of i) (plain_part t)) ≤ m.q))
      ⊎ ((t.run.kind ≡ lower_above) × (level t + count_to m.q (makes (above_system lower i) t) ≤ m.q))

  by_walk : (t : State) → 0 < t.run.height → (r : RunKind) → t.run.kind ≡ r → InOrderBy r lower i t → Suffice t
  by_walk t h plain_run e o = absurd o
  by_walk t h capped_run e o = absurd o
  by_walk t h lower_plain e (o, f, st) = inl (e, walk_rows (map_of i) (plain_part t) o h)
  by_walk t h lower_above e (o, st) = inr (e, walk_rows (above_system lower i) t o h)
  by_walk t h desk_by_desk e o = absurd o

  pub call_rows_from : (budget : ℕ) (s : State) (n : ℕ) → n < resume_from_steps budget lower i s → Suffice (after n (machine_from lower i) s)
  call_rows_from budget s n l =
      let t : State = after n (machine_from lower i) s in
      let (v, (h, f)) = each_step (machine_from lower i) (ValidFrom lower i) (λ t e. (resume_from_valid lower i t refl e).1) (settled_valid lower i)
      (λ t v (h, f). step_from_valid lower i t v (search_going_from lower i t v h f)) budget s n l in
      by_walk t h t.run.kind refl v.ordered
