-- A number of 64 bits holds each answer, as a place is one of at most 128 coefficients, and of no more than 1024 in any call. Assumes nothing.
use Rattle.std.specs.Prelude.{ℕ, zero, suc, ◌*◌, ◌^◌, ◌≤◌, ◌<◌, Bool, true, false, not, List, [], ◌∷◌, ◌≢◌, ◌≡◌, refl, T, leb, length}
use Rattle.std.proofs.Common.{inl, subst, mul-le-mul, arith, leb→le}
use Rattle.std.proofs.Math.Decide.{ℕ_discrete}
use Rattle.linear.proofs.TestLaws.{and_parts}
use Rattle.definitions.specs.Answers.{Answer, Check, refuse, go, refuse_with, refuse_if, refuse_first, ◌then◌}
use Rattle.definitions.specs.Input.{Extra, Input, above_system, alone, map_of, rights, system_of}
use Rattle.definitions.specs.Machine.{Machine, Outcome, call, checked, unless_done, walk}
use Rattle.definitions.specs.System.{System, most_equations, most_unknowns}
use Rattle.definitions.specs.Tables.{RunKind, State, by_walk, capped_run, desk_by_desk, lower_above, lower_plain, plain_part, plain_run}
use Rattle.definitions.specs.Refusals.{between, check1, check15, check4, check5, check6, check6_from, check7, check8, numbers_check, range_checks}
use Rattle.definitions.specs.Refusals.{unknowns_check}
use Rattle.definitions.specs.Refusals.{lower_checks, misnumbered, most_for, resume_checks, resume_from_checks, search_checks, shape_then, start_checks}
use Rattle.definitions.specs.Calls.{machine, machine_from, resume, resume_from, search_from, start, start_from}
use Rattle.laws.proofs.AnswerLaws.{refuse_if_go}
use Rattle.laws.specs.RefusalLaws.{Misnumbered}
use Rattle.laws.proofs.RefusalLaws.{decides_number}
use Rattle.c_record.specs.Codes.{refusal_code, code}

abbrev pub Fits : Answer → Type 0
Fits a = code a < 2 ^ 64

-- ---- checks

abbrev pub Small : Check → Type 0
Small (refuse n values) = refusal_code n values < 2 ^ 64
Small go = Unit

small_with : (b : Bool) (n : ℕ) (values : List ℕ) → refusal_code n values < 2 ^ 64 → Small (refuse_with b n values)
unfolding refuse_with
small_with true n values h = h
small_with false n values h = tt

pub small_then : (c d : Check) → Small c → (c ≡ go → Small d) → Small (c then d)
unfolding ◌then◌
small_then (refuse n values) d a b = a
small_then go d a b = b refl

pub small_first : (n k : ℕ) (f : ℕ → Bool) → n < 256 → k ≤ 1024 → Small (refuse_first n k f)
unfolding refuse_first
small_first n zero f h l = tt
small_first n (suc k) f h l =
    small_then (refuse_first n k f) (refuse_with (f k) n (suc k ∷ [])) (small_first n k f h (omega arith)) (λ _. small_with (f k) n (suc k ∷ []) (omega arith))

pub small_if : (b : Bool) (n : ℕ) → n < 256 → Small (refuse_if b n)
small_if b n h = small_with b n [] (omega arith)

not_false : (b : Bool) → not b ≡ false → T b
not_false true e = tt
not_false false e = subst T e tt

pub within : (a b n r : ℕ) → refuse_if (not (between a b n)) r ≡ go → n ≤ b
within a b n r e = leb→le n b (and_parts (leb a n) (leb n b) (not_false (between a b n) (refuse_if_go (not (between a b n)) r e))).1

-- the most unknowns, and the number of coefficients, whatever comes with the map
most_few : (e : Extra) → most_for e ≤ most_unknowns
most_few alone = omega arith
most_few (rights b) = omega arith

counted : (e : Extra) (m : Input) → refuse_if (misnumbered e m) 3 ≡ go → length m.coefs ≡ m.p * m.q
counted e m c = elim (ℕ_discrete (length m.coefs) (m.p * m.q)) [ yes same ↦ same | no ne ↦ absurd ((decides_number e m).goes c (wrong e ne)) ]
  where
    wrong : (e : Extra) → length m.coefs ≢ m.p * m.q → Misnumbered e m
    wrong alone ne = ne
    wrong (rights b) ne = inl ne

few : (m : Input) → check1 m ≡ go → unknowns_check m ≡ go → numbers_check m ≡ go → length m.coefs ≤ 128
few m a b c =
    let unknowns : m.q ≤ most_unknowns = omega (arith, within 1 (most_for m.extra) m.q 2 b, most_few m.extra) in
    omega (arith, counted m.extra m c, mul-le-mul (within 1 most_equations m.p 1 a) unknowns)

-- what follows the checks of the shape
small_shape : (m : Input) (s : State) (d : Check) → (length m.coefs ≤ 128 → Small d) → Small (shape_then m s d)
small_shape m s d h =
    small_then (check1 m) _ (small_if _ 1 (omega arith)) (λ a.
    small_then (unknowns_check m) _ (small_if _ 2 (omega arith)) (λ b.
    small_then (numbers_check m) _ (small_if _ 3 (omega arith)) (λ c.
    small_then (check4 (system_of m) s) d (small_if _ 4 (omega arith)) (λ _. h (few m a b c)))))

pub small_range : (m : Input) → length m.coefs ≤ 128 → Small (check7 m)
unfolding check7
small_range m l = small_first 7 (length m.coefs) _ (omega arith) (omega arith)

-- 7, and what comes after it
small_ranges : (e : Extra) (m : Input) → length m.coefs ≤ 128 → Small (range_checks e m)
small_ranges alone m l = small_range m l
small_ranges (rights b) m l = small_then (check7 m) (check15 b) (small_range m l) (λ _. small_if _ 15 (omega arith))

module _ (m : Input) (s : State) where
  pub small_start : Small (start_checks m s)
  unfolding start_checks
  small_start = small_shape m s (range_checks m.extra m) (small_ranges m.extra m)

  small_lower : (lower : List ℕ) → Small (lower_checks lower m s)
  unfolding lower_checks
  small_lower lower =
      small_shape m s (check5 m lower then check7 m then check8 m lower) (λ l.
      small_then (check5 m lower) (check7 m then check8 m lower) (small_if _ 5 (omega arith)) (λ _.
      small_then (check7 m) (check8 m lower) (small_range m l) (λ _. small_if _ 8 (omega arith))))

  pub small_resume : Small (resume_checks m s)
  unfolding resume_checks
  small_resume =
      small_shape m s (check6 (system_of m) s then range_checks m.extra m) (λ l.
      small_then (check6 (system_of m) s) (range_checks m.extra m) (small_if _ 6 (omega arith)) (λ _. small_ranges m.extra m l))

  small_resume_from : (lower : List ℕ) → Small (resume_from_checks lower m s)
  unfolding resume_from_checks
  small_resume_from lower =
      small_shape m s (check5 m lower then check6_from lower m s then check7 m then check8 m lower) (λ l.
      small_then (check5 m lower) (check6_from lower m s then check7 m then check8 m lower) (small_if _ 5 (omega arith)) (λ _.
      small_then (check6_from lower m s) (check7 m then check8 m lower) (small_if _ 6 (omega arith)) (λ _.
      small_then (check7 m) (check8 m lower) (small_range m l) (λ _. small_if _ 8 (omega arith)))))

small_search : (m : System) (s : State) → Small (search_checks m s)
unfolding search_checks
small_search m s =
    small_then (refuse_if _ 14) _ (small_if _ 14 (omega arith)) (λ _.
    small_then (refuse_if _ 11) _ (small_if _ 11 (omega arith)) (λ _.
    small_if _ 12 (omega arith)))

-- the walk under way
small_walk : (r : RunKind) (c d : Check) → Small c → Small d → Small (by_walk r c d)
small_walk plain_run c d a b = b
small_walk capped_run c d a b = b
small_walk lower_plain c d a b = a
small_walk lower_above c d a b = b
small_walk desk_by_desk c d a b = b

small_search_from : (lower : List ℕ) (m : Input) (s : State) → Small (search_from lower m s)
unfolding search_from
small_search_from lower m s = small_walk s.run.kind _ _ (small_search (map_of m) (plain_part s)) (small_search (above_system lower m) s)

-- ---- calls

pub fits_checked : (c : Check) (s : State) (work : State → Outcome State) → Small c → Fits (work s).answer → Fits (checked c s work).answer
unfolding checked
fits_checked (refuse n values) s work h w = h
fits_checked go s work h w = w

pub fits_unless : (b : Bool) (s : State) (work : State → Outcome State) → Fits (work s).answer → Fits (unless_done b s work).answer
unfolding unless_done
fits_unless true s work w = omega arith
fits_unless false s work w = w

fits_walk : (n : ℕ) (m : Machine State) → ((s : State) → Small (m.refusals s)) → (s : State) → Fits (walk n m s).answer
unfolding walk
fits_walk zero m small s = fits_unless _ (m.settle s) _ (omega arith)
fits_walk (suc n) m small s =
    let t : State = m.settle s in
    fits_unless _ t _ (fits_checked (m.refusals t) t _ (small t) (fits_walk n m small (m.step t)))

module _ (m : Input) (s : State) where
  pub start_fits : Fits (start m s).answer
  unfolding start
  start_fits = fits_checked (start_checks m s) s _ (small_start m s) (omega arith)

  pub start_from_fits : (lower : List ℕ) → Fits (start_from lower m s).answer
  unfolding start_from
  start_from_fits lower = fits_checked (lower_checks lower m s) s _ (small_lower m s lower) (omega arith)

  pub resume_fits : (budget : ℕ) → Fits (resume budget m s).answer
  unfolding call
  resume_fits budget = fits_checked (resume_checks m s) s _ (small_resume m s) (fits_walk budget (machine m) (small_search (system_of m)) s)

  pub resume_from_fits : (budget : ℕ) (lower : List ℕ) → Fits (resume_from budget lower m s).answer
  unfolding call
  resume_from_fits budget lower =
      fits_checked (resume_from_checks lower m s) s _ (small_resume_from m s lower) (fits_walk budget (machine_from lower m) (small_search_from lower m) s)

-- ---- what a call by value answered

pub answer_fits : {S : Type 0} {a : Answer} {s : S} {left : Outcome S} → ◌≡◌ {A = Outcome S} (record { answer = a; state = s }) left → Fits left.answer
    → Fits a
answer_fits e h = rw (← e) at h
