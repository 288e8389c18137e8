-- Theorems about what specs/TrainingRules.antt defines. Assumes nothing.
use Rattle.std.specs.Prelude.{◌≡◌, ◌≢◌, Bool, true, false, List, eqb, ltb, ℤ, length}
use Rattle.std.proofs.Math.Path.{refl, ap}
use Rattle.std.proofs.Common.{sym, ◌∙◌, inl, inr, arith, ne_eqb, lt→ltb, ltb→lt}
use Prim.Native.Nat.{ℕ, zero, suc, ◌<◌}
use Rattle.definitions.specs.Answers.{Check, ◌then◌, go, refuse, refuse_if, refuse_with, refused}
use Rattle.definitions.specs.Calls.{machine, machine_from, resume, resume_from, search_from, start, start_from}
use Rattle.definitions.specs.Input.{Input, above_system, map_of, system_of}
use Rattle.definitions.specs.Machine.{Machine, Outcome, call, checked, unless_done, walk}
use Rattle.definitions.specs.Refusals.{check1, check4, lower_checks, most_for, numbers_check, resume_checks, resume_from_checks, search_checks, shape_then}
use Rattle.definitions.specs.Refusals.{start_checks}
use Rattle.definitions.specs.Refusals.{step_limit, unknowns_check}
use Rattle.definitions.specs.System.{System, most_equations}
use Rattle.definitions.specs.Tables.{RunKind, State, by_walk, capped_run, desk_by_desk, lower_above, lower_plain, plain_part, plain_run}
use Rattle.laws.specs.CheckLaws.{Decides, Renders, Rules, rule}
use Rattle.laws.proofs.CheckLaws.{decides_if, renders_last, renders_then}
use Rattle.laws.proofs.LowerLaws.{decides_from, renders_by, resume_from_renders}
use Rattle.laws.proofs.RefusalLaws.{decides_bound, decides_full, decides_large, decides_late, decides_number}
use Rattle.laws.proofs.RefusalLaws.{decides_order, decides_outside, decides_range, decides_short, decides_unequal, resume_renders}
use Rattle.seat_spec.specs.Training.{check23, seat_lower_checks, seat_machine, seat_machine_from, seat_resume, seat_resume_checks, seat_resume_from}
use Rattle.seat_spec.specs.Training.{seat_resume_from_checks, seat_search, seat_search_from, seat_start, seat_start_checks, seat_start_from, seat_then}
use Rattle.seat_spec.specs.Training.{seat_unknowns}
use Rattle.seat_spec.specs.TrainingRules.{
  i,
  pick,
  renumber_check,
  renumbered,
  seat_first,
  seat_lower_rules,
  seat_resume_from_rules,
  seat_resume_rules,
  seat_rules,
  seat_search_from_rules,
  seat_search_rules,
  seat_start_rules,
}

pub seat_search_renders : (m : System) (s : State) → Renders (seat_search m s) (seat_search_rules m s)
unfolding seat_search
seat_search_renders m s = renders_then (decides_late m s) (renders_then (decides_full m s) (renders_last (decides_large m s 24)))

module _ (i : Input) (s : State) where
  decides_seat : Decides (check23 i) (rule 23 (seat_unknowns < i.q))
  decides_seat = decides_if (ltb seat_unknowns i.q) 23 _ (ltb→lt seat_unknowns i.q) (lt→ltb seat_unknowns i.q)

  seat_renders : {c : Check} {rs : Rules} → Renders c rs → Renders (seat_then i s c) (seat_rules i s rs)
  seat_renders own =
      renders_then (decides_outside 1 1 most_equations i.p)
      (renders_then (decides_outside 2 1 (most_for i.extra) i.q)
      (renders_then decides_seat (renders_then (decides_number i.extra i) (renders_then (decides_short (system_of i) s) own))))

  pub seat_start_renders : Renders (seat_start_checks i s) (seat_start_rules i s)
  unfolding seat_start_checks
  seat_start_renders = seat_renders (renders_last (decides_range i))

  pub seat_lower_renders : (lower : List ℕ) → Renders (seat_lower_checks lower i s) (seat_lower_rules lower i s)
  unfolding seat_lower_checks
  seat_lower_renders lower =
      seat_renders (renders_then (decides_unequal 5 (length lower) i.q) (renders_then (decides_range i) (renders_last (decides_bound i lower))))

  pub seat_resume_renders : Renders (seat_resume_checks i s) (seat_resume_rules i s)
  unfolding seat_resume_checks
  seat_resume_renders = seat_renders (renders_then (decides_order (system_of i) s) (renders_last (decides_range i)))

  pub seat_resume_from_renders : (lower : List ℕ) → Renders (seat_resume_from_checks lower i s) (seat_resume_from_rules lower i s)
  unfolding seat_resume_from_checks
  seat_resume_from_renders lower =
      seat_renders
      (renders_then (decides_unequal 5 (length lower) i.q)
      (renders_then (decides_from lower i s) (renders_then (decides_range i) (renders_last (decides_bound i lower)))))

pub seat_search_from_renders : (lower : List ℕ) (i : Input) (s : State) → Renders (seat_search_from lower i s) (seat_search_from_rules lower i s)
unfolding seat_search_from
seat_search_from_renders lower i s =
    renders_by s.run.kind (seat_search_renders (map_of i) (plain_part s)) (seat_search_renders (above_system lower i) s)

renumber_search : (a b c : Bool) → (refuse_if a 14 then refuse_if b 11 then refuse_if c 24)
    ≡ renumber_check (refuse_if a 14 then refuse_if b 11 then refuse_if c 12)
unfolding refuse_with ◌then◌
renumber_search true b c = refl
renumber_search false true c = refl
renumber_search false false true = refl
renumber_search false false false = refl

pub seat_search_lem : (m : System) (s : State) → seat_search m s ≡ renumber_check (search_checks m s)
unfolding seat_search search_checks
seat_search_lem m s = renumber_search (eqb s.run.steps step_limit) _ _

pub seat_search_from_lem : (lower : List ℕ) (i : Input) (s : State) → seat_search_from lower i s ≡ renumber_check (search_from lower i s)
unfolding seat_search_from search_from
seat_search_from_lem lower i s = go s.run.kind
  where
    a : seat_search (map_of i) (plain_part s) ≡ renumber_check (search_checks (map_of i) (plain_part s))
    a = seat_search_lem (map_of i) (plain_part s)

    b : seat_search (above_system lower i) s ≡ renumber_check (search_checks (above_system lower i) s)
    b = seat_search_lem (above_system lower i) s

    go : (r : RunKind)
        → by_walk r (seat_search (map_of i) (plain_part s)) (seat_search (above_system lower i) s)
        ≡ renumber_check (by_walk r (search_checks (map_of i) (plain_part s)) (search_checks (above_system lower i) s))
    go plain_run = b
    go capped_run = b
    go lower_plain = a
    go lower_above = b
    go desk_by_desk = b

unless_renumbered : (b : Bool) (s : State) (f g : State → Outcome State) → f s ≡ renumbered (g s) → unless_done b s f ≡ renumbered (unless_done b s g)
unfolding unless_done
unless_renumbered true s f g e = refl
unless_renumbered false s f g e = e

checked_renumbered : (c : Check) (s : State) (f g : State → Outcome State) → ((t : State) → f t ≡ renumbered (g t))
    → checked (renumber_check c) s f ≡ renumbered (checked c s g)
unfolding checked
checked_renumbered (refuse n values) s f g e = refl
checked_renumbered go s f g e = e s

-- a machine that is another with 24 for 12 in its refusals
module _ (k c : Machine State) (settles : (s : State) → k.settle s ≡ c.settle s) (height : (s : State) → k.height s ≡ c.height s)
    (refusals : (s : State) → k.refusals s ≡ renumber_check (c.refusals s)) (steps : (s : State) → k.step s ≡ c.step s) where
  pub walk_renumbered : (n : ℕ) (s : State) → walk n k s ≡ renumbered (walk n c s)
  unfolding walk
  walk_renumbered zero s = rw (settles s, height (c.settle s)) (unless_renumbered (eqb (c.height (c.settle s)) 0) (c.settle s) _ _ refl)
  walk_renumbered (suc n) s =
      rw (settles s, height (c.settle s))
      (unless_renumbered (eqb (c.height (c.settle s)) 0) (c.settle s) _ _
      (ap (λ r. checked r (c.settle s) (λ u. walk n k (k.step u))) (refusals (c.settle s))
      ∙ checked_renumbered (c.refusals (c.settle s)) (c.settle s) _ _ (λ t. ap (walk n k) (steps t) ∙ walk_renumbered n (c.step t))))

-- 1 and 2 are asked first, so asking them again changes nothing
seat_splits : (a b c d : Check) → (a then b then c then d) ≡ ((a then b then c) then a then b then d)
unfolding ◌then◌
seat_splits (refuse n values) b c d = refl
seat_splits go (refuse n values) c d = refl
seat_splits go go (refuse n values) d = refl
seat_splits go go go d = refl

checked_then : (a b : Check) (s : State) (f : State → Outcome State) → checked (a then b) s f ≡ checked a s (λ t. checked b s f)
unfolding checked ◌then◌
checked_then (refuse n values) b s f = refl
checked_then go b s f = refl

seat_first_lem : (i : Input) (s : State) (own : Check) (f : State → Outcome State)
    → checked (seat_then i s own) s f ≡ checked (seat_first i) s (λ t. checked (shape_then i s own) s f)
seat_first_lem i s own f =
    ap (λ c. checked c s f) (seat_splits (check1 i) (unknowns_check i) (check23 i) (numbers_check i then check4 (system_of i) s then own))
    ∙ checked_then (seat_first i) (shape_then i s own) s f

checked_same : (c : Check) (s : State) (f g : State → Outcome State) → f s ≡ g s → checked c s f ≡ checked c s g
unfolding checked
checked_same (refuse n values) s f g e = refl
checked_same go s f g e = e

-- a check that refuses by no 12
checked_quiet : (c : Check) (s : State) (f g : State → Outcome State) → ((n : ℕ) (values : List ℕ) → c ≡ refuse n values → n ≢ 12) → f s ≡ renumbered (g s)
    → checked c s f ≡ renumbered (checked c s g)
unfolding checked
checked_quiet (refuse n values) s f g quiet e = ap (λ k. record { answer = refused k values; state = s }) (sym (keeps n (quiet n values refl)))
  where
    keeps : (n : ℕ) → n ≢ 12 → pick (eqb n 12) n ≡ n
    keeps n ne = rw (ne_eqb n 12 ne)
checked_quiet go s f g quiet e = e

module _ (p q : ℕ) (coefs : List ℤ) where
  pub seat_starts : (s : State) → seat_start (i p q coefs) s ≡ checked (seat_first (i p q coefs)) s (start (i p q coefs))
  unfolding seat_start start seat_start_checks start_checks
  seat_starts s = seat_first_lem (i p q coefs) s _ _ ∙ checked_same (seat_first (i p q coefs)) s _ (start (i p q coefs)) refl

  pub seat_starts_from : (lower : List ℕ) (s : State) → seat_start_from lower (i p q coefs) s
      ≡ checked (seat_first (i p q coefs)) s (start_from lower (i p q coefs))
  unfolding seat_start_from start_from seat_lower_checks lower_checks
  seat_starts_from lower s = seat_first_lem (i p q coefs) s _ _ ∙ checked_same (seat_first (i p q coefs)) s _ (start_from lower (i p q coefs)) refl

  no_12 : (s : State) (n : ℕ) (values : List ℕ) → resume_checks (i p q coefs) s ≡ refuse n values → n ≢ 12
  no_12 s n values e t =
      elim ((resume_renders (i p q coefs) s).refuses n values e) [
        | inl (a, v, h) ↦ omega arith
        | inr (z, inl (a, v, h)) ↦ omega arith
        | inr (z, inr (y, inl (a, v, h))) ↦ omega arith
        | inr (z, inr (y, inr (x, inl (a, v, h)))) ↦ omega arith
        | inr (z, inr (y, inr (x, inr (w, inl (a, v, h))))) ↦ omega arith
        | inr (z, inr (y, inr (x, inr (w, inr (u, inl (a, k, l, v, h, b)))))) ↦ omega arith
        | inr (z, inr (y, inr (x, inr (w, inr (u, inr (r, h)))))) ↦ absurd h
      ]

  pub seat_resumes : (n : ℕ) (s : State) → seat_resume n (i p q coefs) s ≡ checked (seat_first (i p q coefs)) s (λ t. renumbered (resume n (i p q coefs) t))
  unfolding call seat_resume_checks resume_checks
  seat_resumes n s = seat_first_lem (i p q coefs) s _ (walk n (seat_machine (i p q coefs))) ∙ checked_same (seat_first (i p q coefs)) s _ _
      (checked_quiet (resume_checks (i p q coefs) s) s _ _ (no_12 s)
      (walk_renumbered (seat_machine (i p q coefs)) (machine (i p q coefs)) (λ t. refl) (λ t. refl) (seat_search_lem (system_of (i p q coefs))) (λ t. refl) n
      s))

  no_12_from : (lower : List ℕ) (s : State) (n : ℕ) (values : List ℕ) → resume_from_checks lower (i p q coefs) s ≡ refuse n values → n ≢ 12
  no_12_from lower s n values e t =
      elim ((resume_from_renders lower (i p q coefs) s).refuses n values e) [
        | inl (a, v, h) ↦ omega arith
        | inr (z, inl (a, v, h)) ↦ omega arith
        | inr (z, inr (y, inl (a, v, h))) ↦ omega arith
        | inr (z, inr (y, inr (x, inl (a, v, h)))) ↦ omega arith
        | inr (z, inr (y, inr (x, inr (w, inl (a, v, h))))) ↦ omega arith
        | inr (z, inr (y, inr (x, inr (w, inr (u, inl (a, v, h)))))) ↦ omega arith
        | inr (z, inr (y, inr (x, inr (w, inr (u, inr (r, inl (a, k, l, v, h, b))))))) ↦ omega arith
        | inr (z, inr (y, inr (x, inr (w, inr (u, inr (r, inr (o, inl (a, v, h)))))))) ↦ omega arith
        | inr (z, inr (y, inr (x, inr (w, inr (u, inr (r, inr (o, inr (d, h)))))))) ↦ absurd h
      ]

  pub seat_resumes_from : (lower : List ℕ) (n : ℕ) (s : State) → seat_resume_from n lower (i p q coefs) s
      ≡ checked (seat_first (i p q coefs)) s (λ t. renumbered (resume_from n lower (i p q coefs) t))
  unfolding call seat_resume_from_checks resume_from_checks
  seat_resumes_from lower n s =
      seat_first_lem (i p q coefs) s _ (walk n (seat_machine_from lower (i p q coefs)))
      ∙ checked_same (seat_first (i p q coefs)) s _ _
      (checked_quiet (resume_from_checks lower (i p q coefs) s) s _ _ (no_12_from lower s)
      (walk_renumbered (seat_machine_from lower (i p q coefs)) (machine_from lower (i p q coefs)) (λ t. refl) (λ t. refl)
      (seat_search_from_lem lower (i p q coefs)) (λ t. refl) n s))
