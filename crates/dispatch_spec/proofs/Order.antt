-- Theorems about what specs/Order.antt defines. Assumes nothing.
use Rattle.std.proofs.Math.Path.{◌≡◌}
use Rattle.std.specs.Prelude.{refl, ◌≢◌, ◌⊎◌, ℕ, zero, suc, ◌<◌, T, length}
use Rattle.std.proofs.Common.{sym, ◌∙◌, ap, subst, inl, inr, eq-eqb, ne_eqb}
use mathlib.Core.List.{List, [], ◌∷◌, ◌++◌}
use Rattle.std.proofs.Math.Option.{Option, none, some}
use Rattle.std.proofs.Math.Decide.{ℕ_discrete}
use native.Mathlib.Omega.{arith}
use Rattle.definitions.specs.Answers as answers
use Rattle.definitions.specs.Answers.{Answer, paused}
use Rattle.dispatch_spec.specs.RoundLaws.{Next}
use Rattle.dispatch_spec.proofs.RoundLaws.{next_none, none_not_some, put_other, put_same}
use Rattle.dispatch_spec.proofs.CheckRules.{accepted}
use Rattle.dispatch_spec.specs.Dispatch.{Round, Schedule, after_turns, dispatch, in_round, leave_turn, next, opened}
use Rattle.dispatch_spec.specs.Dispatch.{serve, serve_run, stays_in, turn_of}
use Rattle.dispatch_spec.specs.Fair.{NoneOf, end, more}
use Rattle.dispatch_spec.proofs.Serving.{Served, after_turns_lem, opened_laid}
use Rattle.dispatch_spec.specs.Turns.{Turn, turns_of, turns_to, written}
use Rattle.dispatch_spec.specs.Order.{Given, InTurn, Told, last_answer, now, still_in}

-- ---- the turns of a call are such

answer_own : (i : ℕ) (t : Turn) (log : List Turn) → i ≡ t.run → last_answer i (t ∷ log) ≡ some t.answer
unfolding last_answer
answer_own i t log e = rw (eq-eqb i t.run e)

answer_other : (i : ℕ) (t : Turn) (log : List Turn) → ¬ (i ≡ t.run) → last_answer i (t ∷ log) ≡ last_answer i log
unfolding last_answer
answer_other i t log ne = rw (ne_eqb i t.run ne)

-- once a run had a turn its height is not asked
stays_by : (h k : ℕ) (a : Answer) → stays_in h (some a) ≡ stays_in k (some a)
stays_by h k answers.started = refl
stays_by h k answers.complete = refl
stays_by h k answers.paused = refl
stays_by h k (answers.refused n values) = refl

pub stays_paused : (h : ℕ) (a : Answer) → T (stays_in h (some a)) → a ≡ paused
stays_paused h answers.started s = absurd s
stays_paused h answers.complete s = absurd s
stays_paused h answers.paused s = refl
stays_paused h (answers.refused n values) s = absurd s

module _ (d : Schedule) (r₀ : Round) where
  told_opened : (Told d r₀) (opened r₀) []
  unfolding opened last_answer
  told_opened = record { rounds = λ j. refl; served = refl; ordered = λ later earlier t e. absurd (none_of later earlier t e) }
    where
      none_of : (later earlier : List Turn) (t : Turn) → [] ≡ later ++ (t ∷ earlier) → ⊥
      none_of [] earlier t e = let z : ◌≡◌ {A = ℕ} 0 1 = cc in omega arith
      none_of (u ∷ later) earlier t e = let z : ◌≡◌ {A = ℕ} 0 1 = cc in omega arith

  module _ (r : Round) (log : List Turn) (told : (Told d r₀) r log) (i : ℕ) (n : Next d.count r i) where
    now_in_turn : InTurn d.count r₀ log (now d r₀ r log told i n)
    now_in_turn =
        record {
          below = n.below;
          stays = subst T (told.rounds i) n.stays;
          before = λ j l less s. n.before j l (rw told.served less) (subst T (sym (told.rounds j)) s);
        }

    now_ordered : (later earlier : List Turn) (t : Turn) → (now d r₀ r log told i n) ∷ log ≡ later ++ (t ∷ earlier) → InTurn d.count r₀ earlier t
    now_ordered [] earlier t e =
        let a : (now d r₀ r log told i n) ≡ t = cc in
        let b : log ≡ earlier = cc in
        subst (λ x. InTurn d.count r₀ earlier x) a (subst (λ x. InTurn d.count r₀ x (now d r₀ r log told i n)) b now_in_turn)
    now_ordered (u ∷ later) earlier t e = let rest : log ≡ later ++ (t ∷ earlier) = cc in told.ordered later earlier t rest

    told_turn : (Told d r₀) (leave_turn d i r (turn_of d i r)) ((now d r₀ r log told i n) ∷ log)
    unfolding leave_turn
    told_turn = record { rounds = rounds; served = refl; ordered = now_ordered }
      where
        rounds : (j : ℕ) → in_round (leave_turn d i r (turn_of d i r)) j ≡ still_in r₀ ((now d r₀ r log told i n) ∷ log) j
        rounds j =
            elim (ℕ_discrete j i) [
              | yes e ↦
                  rw (
                    e,
                    put_same i (record {
                      run = (turn_of d i r).state.run;
                      answer = some (turn_of d i r).answer;
                    }) r.progress,
                    answer_own i (now d r₀ r log told i n) log refl,
                  )
                  (stays_by (turn_of d i r).state.run.height (r₀.progress i).run.height (turn_of d i r).answer)
              | no ne ↦
                  rw (
                    put_other i (record { run = (turn_of d i r).state.run; answer = some (turn_of d i r).answer }) r.progress j ne,
                    answer_other j (now d r₀ r log told i n) log ne,
                  )
                  (told.rounds j)
            ]

-- so many turns, or no run is left
turns_asked : (d : Schedule) (r : Round) (k : ℕ)
    → (length (turns_to k d r) ≡ k) ⊎ ((length (turns_to k d r) < k) × (next d.count (after_turns k d r) ≡ none))
unfolding turns_to after_turns serve
turns_asked d r zero = inl refl
turns_asked d r (suc k) = by (next d.count (after_turns k d r)) refl (turns_asked d r k)
  where
    by : (o : Option ℕ) → next d.count (after_turns k d r) ≡ o
        → (length (turns_to k d r) ≡ k) ⊎ ((length (turns_to k d r) < k) × (next d.count (after_turns k d r) ≡ none))
        → (length (written o d (after_turns k d r) (turns_to k d r)) ≡ suc k)
        ⊎ ((length (written o d (after_turns k d r) (turns_to k d r)) < suc k) × (next d.count (serve_run o d (after_turns k d r)) ≡ none))
    by none e (inl l) = inr (omega arith, e)
    by none e (inr (l, f)) = inr (omega arith, e)
    by (some i) e (inl l) = inl (ap suc l)
    by (some i) e (inr (l, f)) = absurd (none_not_some (sym f ∙ e))

-- a run whose last turn did not pause has no later one
module _ (count : ℕ) (r : Round) (t : Turn) (earlier : List Turn) (ends : t.answer ≢ paused) where
  answer_stands : (later : List Turn) → NoneOf t.run later → last_answer t.run (later ++ (t ∷ earlier)) ≡ some t.answer
  answer_stands [] end = answer_own t.run t earlier refl
  answer_stands (u ∷ later) (more ne others) = answer_other t.run u (later ++ (t ∷ earlier)) (λ e. ne (sym e)) ∙ answer_stands later others

  none_later : (later : List Turn) → ((l e : List Turn) (u : Turn) → later ++ (t ∷ earlier) ≡ l ++ (u ∷ e) → InTurn count r e u) → NoneOf t.run later
  none_later [] h = end
  none_later (u ∷ later) h =
      let others = none_later later (λ l e v q. h (u ∷ l) e v (ap (λ x. u ∷ x) q)) in
      more (λ same.
      let s = (h [] (later ++ (t ∷ earlier)) u refl).stays in
      let s' : T (stays_in (r.progress t.run).run.height (last_answer t.run (later ++ (t ∷ earlier)))) =
      subst (λ i. T (still_in r (later ++ (t ∷ earlier)) i)) same s in
      ends (stays_paused (r.progress t.run).run.height t.answer (rw (answer_stands later others) at s'))) others

pub turns_given : {turns : ℕ} {d : Schedule} {r : Round} → Served turns d r
    → Given turns d.count r (turns_of turns d r) (dispatch turns d r).round.last
turns_given {turns} {d} {r} s =
    let a = accepted d r s.goes in
    let t : Told d r (after_turns turns d (opened r)) (turns_to turns d (opened r)) =
    (after_turns_lem d a.some_run (Told d r) (λ u log l p. told_turn d r u log p) (opened r) (opened_laid d r a.laid) (told_opened d r) turns).1 in
    rw (s.round_is, s.turns_are)
    (record {
      asked = elim (turns_asked d (opened r) turns) [
        | inl l ↦ inl l
        | inr (l, e) ↦ inr (l, λ j lj y. next_none d.count (after_turns turns d (opened r)) a.some_run e j lj (subst T (sym (t.rounds j)) y))
      ];
      in_turn = t.ordered;
      leaves = λ later earlier u e ends. none_later d.count r u earlier ends later (λ l x v q. t.ordered l x v (e ∙ q));
      kept = t.served;
    })
