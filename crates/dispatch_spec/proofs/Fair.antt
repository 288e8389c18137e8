-- Theorems about what specs/Fair.antt defines. Assumes nothing.
use Rattle.std.specs.Prelude.{◌≡◌, ◌⊎◌, List, [], ◌∷◌, ◌++◌, T, length}
use Rattle.std.proofs.Math.Path.{refl}
use Rattle.std.proofs.Common.{sym, ◌∙◌, ap, inl, inr, mul-le-mul_right, suc-mul, lt-ltb, le-ltb, lt→ltb}
use Rattle.std.proofs.Math.Option.{Option, none, some}
use Prim.Native.Nat.{ℕ, zero, suc, ◌*◌, ◌≤◌, ◌<◌}
use Rattle.std.proofs.Math.Decide.{ℕ_discrete}
use native.Mathlib.Omega.{arith}
use Rattle.linear.proofs.Cases.{split}
use Rattle.definitions.specs.Answers.{Answer, paused, refused}
use Rattle.definitions.specs.Calls.{machine, resume, resume_steps}
use Rattle.definitions.specs.Input.{Input, system_of}
use Rattle.definitions.specs.Machine.{Machine, Outcome, walk_steps}
use Rattle.definitions.specs.Refusals.{resume_checks, search_checks}
use Rattle.definitions.specs.Step.{step}
use Rattle.definitions.specs.Tables.{State}
use Rattle.laws.proofs.CheckLaws.{check_cases}
use Rattle.laws.proofs.MachineLaws.{call_refused, call_walks, walk_done, walk_more, walk_refused}
use Rattle.theorems.specs.WholeSteps.{Ends, called, completes, pauses, refuses}
use Rattle.dispatch_spec.specs.RoundLaws.{ahead}
use Rattle.dispatch_spec.proofs.RoundLaws.{put_same, put_other, asked_below}
use Rattle.dispatch_spec.specs.RoundLaws.{Next}
use Rattle.dispatch_spec.proofs.RoundLaws.{ahead_less, ahead_round, further_ahead, next_some}
use Rattle.dispatch_spec.proofs.CheckRules.{accepted}
use Rattle.dispatch_spec.specs.Dispatch.{Schedule, Share, Round, most_runs, in_round, first_asked, further, own}
use Rattle.dispatch_spec.specs.Dispatch.{next, leave_turn, turn_of, serve_run, serve, after_turns, opened, dispatch_checks}
use Rattle.dispatch_spec.specs.Turns.{Turn, turn_taken, written, turns_to, taken}
use Rattle.dispatch_spec.proofs.Serving.{dispatch_refused, dispatch_served}
use Rattle.dispatch_spec.specs.Fair.{Calls, Kept, Moments, NoneOf, Waiting, again, begun, call, d, here, more, scheduled, turn}

-- ---- a turn takes at most its steps

walk_few : (n : ℕ) (i : Input) (s : State) → walk_steps n (machine i) s ≤ n
unfolding walk_steps
walk_few zero i s = omega arith
walk_few (suc n) i s =
    elim (ℕ_discrete s.run.height 0) [
      | yes e ↦ omega (arith, (walk_done (machine i) s (suc n) e).1)
      | no ne ↦ elim (check_cases (search_checks (system_of i) s)) [
        | inl e ↦ omega (arith, (walk_more (machine i) s n (omega (arith, ne)) e).1, walk_few n i (step (system_of i) s))
        | inr (r, values, e) ↦ omega (arith, (walk_refused (machine i) s n r values (omega (arith, ne)) e).1)
      ]
    ]

pub resume_few : (n : ℕ) (i : Input) (s : State) → resume_steps n i s ≤ n
resume_few n i s =
    elim (check_cases (resume_checks i s)) [
      | inl e ↦ rw (call_walks (machine i) s n e).1 (walk_few n i s)
      | inr (r, values, e) ↦ omega (arith, (call_refused (machine i) s n r values e).1)
    ]

-- a run that pauses is unfinished
paused_high : {n i : ℕ} {k : Machine State} {t : State} {a : Answer} → Ends n i k t a → a ≡ paused → 0 < k.height t
paused_high (completes h) e = absurd (let z : ◌≡◌ {A = ℕ} 0 1 = cc in omega arith)
paused_high (pauses h q) e = h
paused_high (refuses r values h l q) e = h

pub resume_paused : (n : ℕ) (i : Input) (s : State) → (resume n i s).answer ≡ paused → 0 < (resume n i s).state.run.height
resume_paused n i s e =
    elim (check_cases (resume_checks i s)) [
      | inl c ↦ paused_high (called (machine i) n s c).ends e
      | inr (r, values, c) ↦
          let q : refused r values ≡ paused = sym (ap (λ (o : Outcome State). o.answer) (call_refused (machine i) s n r values c).0) ∙ e in
          absurd (let z : ◌≡◌ {A = ℕ} 0 1 = cc in omega arith)
    ]

-- ---- round the runs

-- after run i's own turn all the others are asked before it
all_ahead : (count i : ℕ) → i < count → suc (ahead count (first_asked count (suc i)) i) ≡ count
all_ahead count i l =
    elim (split (suc i) count) [
      | inl h ↦ rw (lt-ltb (suc i) count h) (omega (arith, ahead_round count (suc i) i (omega arith)))
      | inr h ↦ rw (le-ltb (suc i) count h) (omega (arith, ahead_less count 0 i (omega arith)))
    ]

module _ (count start i j : ℕ) (ls : start < count) (li : i < count) (lj : j < count) (less : ahead count start j < ahead count start i) where
  after_next : suc j ≤ i → (start ≤ j) ⊎ (i < start) → ahead count (first_asked count (suc j)) i < ahead count start i
  after_next h o =
      rw (lt-ltb (suc j) count (omega arith), ahead_less count (suc j) i h)
      (elim o [ inl b ↦ omega (arith, ahead_less count start i (omega arith), h) | inr a ↦ omega (arith, ahead_round count start i a) ])

  after_turn : start ≤ j → i < start → ahead count (first_asked count (suc j)) i < ahead count start i
  after_turn b a =
      elim (split (suc j) count) [
        | inl h ↦ rw (lt-ltb (suc j) count h) (omega (arith, ahead_round count (suc j) i (omega arith), ahead_round count start i a))
        | inr h ↦ rw (le-ltb (suc j) count h) (omega (arith, ahead_less count 0 i (omega arith), ahead_round count start i a))
      ]

  -- a turn of a run that is asked before run i brings run i nearer
  nearer : ahead count (first_asked count (suc j)) i < ahead count start i
  nearer =
      elim (split j start) [
        | inl b ↦ elim (split i start) [
          | inl a ↦ after_next (omega (arith, ahead_round count start j b, ahead_round count start i a)) (inr a)
          | inr a ↦ absurd (omega (arith, ahead_round count start j b, ahead_less count start i a))
        ]
        | inr b ↦ elim (split i start) [
          | inl a ↦ after_turn b a
          | inr a ↦ after_next (omega (arith, ahead_less count start j b, ahead_less count start i a)) (inl b)
        ]
      ]

-- another run that is next is asked before one that is in the round
next_ahead : (count : ℕ) (r : Round) → 0 < count → (i j : ℕ) → i < count → Next count r j → T (in_round r i) → ¬ (j ≡ i)
    → ahead count (first_asked count r.last) j < ahead count (first_asked count r.last) i
next_ahead count r some_run i j li n stays ne =
    let ls = asked_below count r.last some_run in
    elim (split (ahead count (first_asked count r.last) j) (ahead count (first_asked count r.last) i)) [
      | inl h ↦ h
      | inr h ↦ elim (ℕ_discrete (ahead count (first_asked count r.last) i) (ahead count (first_asked count r.last) j)) [
        | yes e ↦ absurd (ne
            (sym (further_ahead count (first_asked count r.last) j ls n.below) ∙ ap (further count (first_asked count r.last)) (sym e)
            ∙ further_ahead count (first_asked count r.last) i ls li))
        | no q ↦ absurd (n.before i li (omega (arith, q)) stays)
      ]
    ]

module _ (d : Schedule) (some_run : 0 < d.count) (r : Round) (i : ℕ) where
  -- after its own turn, where that pauses
  waits_own : i < d.count → (turn_of d i r).answer ≡ paused → Waiting d.count d.quantum (leave_turn d i r (turn_of d i r)) i []
  unfolding leave_turn taken
  waits_own li e =
      record {
        below = li;
        stays = rw (same, e) tt;
        high = rw same (resume_paused d.quantum (d.shares i).input (own d r i) e);
        few = omega (arith, all_ahead d.count i li);
        worth = omega arith;
      }
    where
      same : (leave_turn d i r (turn_of d i r)).progress i ≡ record { run = (turn_of d i r).state.run; answer = some (turn_of d i r).answer }
      same = put_same i _ r.progress

  -- after another run's turn
  waits_other : (between : List Turn) (j : ℕ) → Waiting d.count d.quantum r i between → Next d.count r j → ¬ (j ≡ i)
      → Waiting d.count d.quantum (leave_turn d j r (turn_of d j r)) i (turn_taken d j r ∷ between)
  unfolding leave_turn taken
  waits_other between j w n ne =
      record {
        below = w.below;
        stays = rw same w.stays;
        high = rw same w.high;
        few = omega (
          arith,
          w.few,
          nearer d.count (first_asked d.count r.last) i j (asked_below d.count r.last some_run) w.below
              n.below (next_ahead d.count r some_run i j w.below n w.stays ne),
        );
        worth = rw (suc-mul (length between) d.quantum) (omega (arith, w.worth, resume_few d.quantum (d.shares j).input (own d r j)));
      }
    where
      same : (leave_turn d j r (turn_of d j r)).progress i ≡ r.progress i
      same = put_other j _ r.progress i (λ e. ne (sym e))

-- from one call to the next
waits_opened : (count quantum : ℕ) (r r' : Round) (i : ℕ) (between : List Turn) → Kept r r' → Waiting count quantum r i between
    → Waiting count quantum (opened r') i between
unfolding opened
waits_opened count quantum r r' i between k w =
    let h = k.unfinished i w.high in
    record { below = w.below; stays = lt→ltb 0 (r'.progress i).run.height h; high = h; few = rw k.last w.few; worth = w.worth }

same_kept : (r : Round) → Kept r r
same_kept r = record { last = refl; unfinished = λ i h. h }

kept_on : {a b c : Round} → Kept a b → Kept b c → Kept a c
kept_on x y = record { last = y.last ∙ x.last; unfinished = λ i h. y.unfinished i (x.unfinished i h) }

empty : (t : Turn) (between earlier : List Turn) → [] ≡ between ++ (t ∷ earlier) → ⊥
empty t [] earlier e = let z : ◌≡◌ {A = ℕ} 0 1 = cc in omega arith
empty t (b ∷ between) earlier e = let z : ◌≡◌ {A = ℕ} 0 1 = cc in omega arith

module _ (count quantum : ℕ) (some_run : 0 < count) (r₀ : Round) where
  module _ (shares : ℕ → Share) where
    next_moment : (o : Option ℕ) {r : Round} (done log : List Turn) → Moments count quantum r₀ r (done ++ log) → next count r ≡ o
        → Moments count quantum r₀ (serve_run o (d count quantum some_run r₀ shares) r) (written o (d count quantum some_run r₀ shares) r done ++ log)
    next_moment none done log m e = m
    next_moment (some i) {r} done log m e = turn m shares i (next_some count r some_run i e)

    turn_moments : {r : Round} {log : List Turn} → Moments count quantum r₀ r log → (k : ℕ)
        → Moments count quantum r₀ (after_turns k (d count quantum some_run r₀ shares) r) (turns_to k (d count quantum some_run r₀ shares) r ++ log)
    unfolding after_turns turns_to serve
    turn_moments m zero = m
    turn_moments {r} {log} m (suc k) =
        next_moment (next count (after_turns k (d count quantum some_run r₀ shares) r)) (turns_to k (d count quantum some_run r₀ shares) r) log
        (turn_moments m k) refl

  -- (a call that is refused as a whole leaves what it was lent, which need not be what the call before left)
  call_moments : {r : Round} {log : List Turn} → Calls count quantum r₀ r log → (m : Round) × Moments count quantum r₀ m log × Kept m r
  call_moments begun = (r₀, here, same_kept r₀)
  call_moments (call {r} {log} c r' kept shares turns) =
      let (m, moments, on) = call_moments c in
      elim (check_cases (dispatch_checks ((d count quantum some_run r₀) shares) r')) [
        | inl e ↦
            let s = dispatch_served turns ((d count quantum some_run r₀) shares) r' e in
            rw (s.0, s.1) (
              after_turns turns ((d count quantum some_run r₀) shares) (opened r'),
              turn_moments shares (again moments r' (kept_on on kept)) turns,
              same_kept _,
            )
        | inr (n, values, e) ↦ let s =
            dispatch_refused turns ((d count quantum some_run r₀) shares) r' n values e in rw (s.0, s.1) (m, moments, kept_on on kept)
      ]

  -- a turn of run i that pauses, and since then none of its own
  module _ (i : ℕ) (t : Turn) (own_turn : t.run ≡ i) (pausing : t.answer ≡ paused) where
    waiting : {r : Round} {log : List Turn} → Moments count quantum r₀ r log → (between earlier : List Turn) → NoneOf i between
        → log ≡ between ++ (t ∷ earlier) → Waiting count quantum r i between
    waiting here between earlier others e = absurd (empty t between earlier e)
    waiting (again {r} m r' kept) between earlier others e = waits_opened count quantum r r' i between kept (waiting m between earlier others e)
    waiting (turn {r} m shares j n) [] earlier others e =
        let same : turn_taken ((d count quantum some_run r₀) shares) j r ≡ t = cc in
        let q : j ≡ i = ap (λ (u : Turn). u.run) same ∙ own_turn in
        rw (sym q) (waits_own ((d count quantum some_run r₀) shares) some_run r j n.below (ap (λ (u : Turn). u.answer) same ∙ pausing))
    waiting (turn {r} {log} m shares j n) (b ∷ between) earlier (more ne others) e =
        let same : turn_taken ((d count quantum some_run r₀) shares) j r ≡ b = cc in
        let rest : log ≡ between ++ (t ∷ earlier) = cc in
        rw (sym same)
        (waits_other ((d count quantum some_run r₀) shares) some_run r i between j (waiting m between earlier others rest) n
        (λ q. ne (ap (λ (u : Turn). u.run) (sym same) ∙ q)))

    fair_moments : {r : Round} {log : List Turn} → Moments count quantum r₀ r log → (later between earlier : List Turn) → NoneOf i between
        → log ≡ later ++ (between ++ (t ∷ earlier)) → (suc (length between) ≤ count) × (taken between ≤ length between * quantum)
    fair_moments m [] between earlier others e = let w = waiting m between earlier others e in (omega (arith, w.few), w.worth)
    fair_moments here (u ∷ later) between earlier others e = absurd (let z : ◌≡◌ {A = ℕ} 0 1 = cc in omega arith)
    fair_moments (again {r} {log} m r' kept) (u ∷ later) between earlier others e =
        fair_moments {r = r} {log = log} m (u ∷ later) between earlier others e
    fair_moments (turn {r} {log} m shares j n) (u ∷ later) between earlier others e =
        let rest : log ≡ later ++ (between ++ (t ∷ earlier)) = cc in
        fair_moments {r = r} {log = log} m later between earlier others rest

-- ---- the promise

-- where a turn was had, the runs are 1 to 8
runs_few : {count quantum : ℕ} {r₀ r : Round} {log : List Turn} → Calls count quantum r₀ r log → (log ≡ []) ⊎ ((0 < count) × (count ≤ most_runs))
runs_few begun = inl refl
runs_few {count} {quantum} (call {r} {log} c r' kept shares turns) =
    let d : Schedule = scheduled count quantum shares in
    elim (check_cases (dispatch_checks d r')) [
      | inl e ↦ let a = accepted d r' e in inr (a.some_run, a.few_runs)
      | inr (n, values, e) ↦ elim (runs_few c) [
        | inl q ↦ inl (rw ((dispatch_refused turns d r' n values e).1, q) refl)
        | inr h ↦ inr h
      ]
    ]

nonempty : (t : Turn) (later between earlier : List Turn) → [] ≡ later ++ (between ++ (t ∷ earlier)) → ⊥
nonempty t [] between earlier e = empty t between earlier e
nonempty t (u ∷ later) between earlier e = let z : ◌≡◌ {A = ℕ} 0 1 = cc in omega arith

-- "From one turn of a run left in the round to its next .. the others take at most seven turns' worth of steps.": t is a turn of run i that pauses,
-- and the turns between are those of others; the next later turn may be run i's, or may not have come yet
pub fair : {count quantum : ℕ} {r₀ r : Round} {log : List Turn} → Calls count quantum r₀ r log → (i : ℕ) (t : Turn) (later between earlier : List Turn)
    → log ≡ later ++ (between ++ (t ∷ earlier)) → t.run ≡ i → t.answer ≡ paused → NoneOf i between → (length between ≤ 7) × (taken between ≤ 7 * quantum)
fair {count} {quantum} {r₀} c i t later between earlier e own_turn pausing others =
    elim (runs_few c) [
      | inl q ↦ absurd (nonempty t later between earlier (sym q ∙ e))
      | inr (some_run, few_runs) ↦
          let (m, moments, on) = call_moments count quantum some_run r₀ c in
          let (few, worth) = fair_moments count quantum some_run r₀ i t own_turn pausing moments later between earlier others e in
          let seven : length between ≤ 7 = omega arith in
          (seven, omega (arith, worth, mul-le-mul_right quantum seven))
    ]
