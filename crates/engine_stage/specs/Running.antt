-- The loop over turns, and what it leaves. Assumes nothing.
use Rattle.std.specs.Prelude.{Option, Some, None, Result, Ok, Err, ◌≡◌, refl, List, [], ℕ, suc, ◌-◌, ◌≤◌, ◌<◌}
use Rattle.std.proofs.Common.{◌∙◌, arith}
use Rattle.definitions.specs.Answers.{Answer, complete, paused, refused}
use Rattle.definitions.specs.Tables.{at}
use Rattle.engine_spec.specs.Stage.{Outcome, Stage, after, outcome, run}
use Rattle.engine_beside.specs.Writing.{Kept}
use Rattle.engine_stage.specs.Standing.{Beyond, Gone, Left, Lent, Ready, Sides, Still, Unchanged, beyond_none, equation, stage_of, stopped, turn_of, unchanged}
use Rattle.engine_stage.specs.declared.stages.Ran.{Ran}
use Rattle.engine_stage.specs.declared.turns.Frame.{Frame}
use Rattle.engine_stage.specs.declared.turns.Next.{Next}
use Rattle.engine_stage.specs.declared.turns.Stop.{Stop}
use Rattle.engine_stage.specs.declared.turns.Stop.TheVariants.{Ends, Full, Large, Late}

abbrev pub ran_of : Option Stop → Next → Ran
ran_of e s = record { stopped = e; next = s }

abbrev pub answer_of : Option Stop → Answer
answer_of None = paused
answer_of (Some Late) = refused 14 []
answer_of (Some Large) = refused 12 []
answer_of (Some Full) = refused 31 []
answer_of (Some Ends) = complete

-- the stage's own turns
abbrev pub run_of : Frame → Lent → ℕ → List ℕ → Next → Outcome
run_of f l budget table s = run f.q (equation f l) f.m (at l.basis f.q) f.room budget (stage_of f table s)

pub record RunLeft (f : Frame) (l : Lent) (budget : ℕ) (table : List ℕ) (x : Sides) (s : Next) (r : Ran) (table' : List ℕ) (x' : Sides) : Type 0 where
  pub is : run_of f l budget table s ≡ outcome (answer_of r.stopped) (stage_of f table' r.next)
  pub ready : Ready f l table' x' r.next
  pub rises : s.rows ≤ r.next.rows
  pub beyond : Beyond r.next.rows x x'
  pub mothers : Unchanged s.rows x.mothers x'.mothers

-- ---- the loop

after_stopped : (e : Stop) (then : Stage → Outcome) (s : Stage) → after (stopped e) then s ≡ outcome (answer_of (Some e)) s
unfolding after
after_stopped Late then s = refl
after_stopped Large then s = refl
after_stopped Full then s = refl
after_stopped Ends then s = refl

-- after some turns: what is left to do comes to the same
pub record Going (f : Frame) (l : Lent) (budget : ℕ) (table : List ℕ) (x : Sides) (s : Next) (left : ℕ) (table' : List ℕ) (x' : Sides) (s' : Next) : Type 0
  where
    pub same : run_of f l budget table s ≡ run_of f l left table' s'
    pub ready : Ready f l table' x' s'
    pub rises : s.rows ≤ s'.rows
    pub beyond : Beyond s'.rows x x'
    pub mothers : Unchanged s.rows x.mothers x'.mothers

pub going_start : {f : Frame} {l : Lent} {table : List ℕ} {x : Sides} {s : Next} (budget : ℕ) → Ready f l table x s → Going f l budget table x s budget table x
    s
going_start budget r = record { same = refl; ready = r; rises = omega arith; beyond = beyond_none; mothers = unchanged }

kept_then : {A : Type 0} {z : A} {n m : ℕ} {a b c : List A} → n ≤ m → Kept z n a b → Kept z m b c → Kept z m a c
kept_then l p q = record { long = q.long ∙ p.long; rest = λ i h. q.rest i h ∙ p.rest i (omega arith) }

beyond_then : {n m : ℕ} {a b c : Sides} → n ≤ m → Beyond n a b → Beyond m b c → Beyond m a c
beyond_then l p q =
    record {
      values = kept_then l p.values q.values;
      words = kept_then l p.words q.words;
      degrees = kept_then l p.degrees q.degrees;
      marks = kept_then l p.marks q.marks;
      mothers = kept_then l p.mothers q.mothers;
    }

module _ {f : Frame} {l : Lent} {budget : ℕ} {table : List ℕ} {x : Sides} {s : Next} {left : ℕ} {table' : List ℕ} {x' : Sides} {s' : Next}
    (g : Going f l budget table x s left table' x' s') where
  one_more : (k : ℕ) → left ≡ suc k → run_of f l left table' s' ≡ after (turn_of f l table' s')
      (run f.q (equation f l) f.m (at l.basis f.q) f.room k) (stage_of f table' s')
  unfolding run
  one_more k e = rw e

  pub going_on : {table'' : List ℕ} {x'' : Sides} {s'' : Next} → 0 < left → Gone f l (turn_of f l table' s') s'.rows table' x' s'' table'' x''
      → Going f l budget table x s (left - 1) table'' x'' s''
  unfolding after
  going_on some t =
      record {
        same = g.same ∙ (one_more (left - 1) (omega arith) ∙ rw t.is);
        ready = t.ready;
        rises = omega (arith, g.rises, t.rises);
        beyond = beyond_then t.rises g.beyond t.beyond;
        mothers = record { each = λ i h. t.mothers.each i (omega (arith, g.rises)) ∙ g.mothers.each i h };
      }

  pub stopped_left : {table'' : List ℕ} {x'' : Sides} (e : Stop) → 0 < left → Still (turn_of f l table' s') (stopped e) table' table'' x' x''
      → RunLeft f l budget table x s (ran_of (Some e) s') table'' x''
  stopped_left e some t =
      rw (t.same, t.aside)
      (record {
        is = g.same ∙ (one_more (left - 1) (omega arith) ∙ rw t.is (after_stopped e _ _));
        ready = g.ready;
        rises = g.rises;
        beyond = g.beyond;
        mothers = g.mothers;
      })

  pub paused_left : left ≡ 0 → RunLeft f l budget table x s (ran_of None s') table' x'
  paused_left e = record { is = g.same ∙ none e; ready = g.ready; rises = g.rises; beyond = g.beyond; mothers = g.mothers }
    where
      none : left ≡ 0 → run_of f l left table' s' ≡ outcome paused (stage_of f table' s')
      none e = rw e (unfold run in refl)

-- ---- a turn of the loop

module _ {f : Frame} {l : Lent} {budget : ℕ} {table : List ℕ} {x : Sides} {s : Next} {left : ℕ} {table' : List ℕ} {x' : Sides} {s' : Next}
    (g : Going f l budget table x s left table' x' s') (some : 0 < left) {r : Result Next Stop} {table'' : List ℕ} {x'' : Sides}
    (t : Left f l (turn_of f l table' s') s'.rows table' x' r table'' x'') where
  pub goes_again : {s'' : Next} → r ≡ Ok s'' → Going f l budget table x s (left - 1) table'' x'' s''
  goes_again e = going_on g some (rw e at t)

  pub stops_so : {e : Stop} → r ≡ Err e → RunLeft f l budget table x s (ran_of (Some e) s') table'' x''
  stops_so {e} h = stopped_left g e some (rw h at t)
