-- Theorems about what specs/Ends.antt defines. Assumes nothing.
use Rattle.std.proofs.Math.Path.{◌≡◌, refl}
use Rattle.std.proofs.Common.{sym, ◌∙◌, ap, eqb→eq, nltb→le}
use Rattle.std.specs.Prelude.{◌≢◌, Bool, not, List, T, eqb, ltb, ℤ, length}
use Rattle.std.proofs.Math.Logic.{inl, inr}
use Rattle.std.proofs.Math.Bool.{true, false, cond}
use Prim.Native.Nat.{ℕ, zero, suc, ◌+◌, ◌*◌, ◌≤◌, ◌<◌}
use Rattle.std.proofs.Math.Decide.{ℕ_discrete}
use native.Mathlib.Omega.{arith}
use Rattle.std.proofs.Math.Dec.{T_not, ltb→lt}
use Rattle.linear.proofs.Cases.{split}
use Rattle.linear.specs.Combinations.{Enumerates}
use Rattle.linear.proofs.SystemLaws.{value_same}
use Rattle.linear.specs.Systems.{value}
use Rattle.linear.proofs.TestLaws.{number_true, or_cases, or_left, or_right}
use Rattle.linear.specs.Tests.{count_to}
use Rattle.linear.proofs.TupleLaws.{differ, total_less}
use Rattle.linear.specs.Tuples.{AtOrBelow, Same}
use Rattle.definitions.specs.Answers.{complete, paused}
use Rattle.definitions.specs.Refusals.{step_limit}
use Rattle.laws.proofs.SystemLaws.{is_zero_lem}
use Rattle.laws.proofs.TableLaws.{row_fits, write_length}
use Rattle.laws.specs.Sweep.{keeps}
use Rattle.laws.specs.SweepLaws.{Swept}
use Rattle.laws.proofs.SweepLaws.{stays_keeps}
use Rattle.engine_spec.specs.Caps.{is_over}
use Rattle.engine_spec.proofs.Caps.{inside_over, over_outside}
use Rattle.engine_spec.specs.Equations.{Extends, LoopInside, Picked, zero_row}
use Rattle.engine_spec.proofs.Equations.{next_equation, wanted_some}
use Rattle.engine_spec.specs.Reduction.{is_small, reducible}
use Rattle.engine_spec.proofs.ReductionLaws.{reducible_from, small_from}
use Rattle.engine_spec.specs.Signs.{Within}
use Rattle.engine_spec.proofs.Reducing.{reducible_to}
use Rattle.engine_spec.specs.Sound.{Given, Sound}
use Rattle.engine_spec.specs.Stage.{Outcome, Stage, Turned, above, after, begin, below, degree_turn, ends, goes, grown, is_needless, next_degree, paired}
use Rattle.engine_spec.specs.Stage.{pair_turn, passed, raised, row, due_row, row_turn, run, stops, sum_of, turn}
use Rattle.engine_spec.proofs.Turns.{end_closed, end_holding, passed_sound, raised_sound, row_sound, sum_sound}
use Rattle.engine_spec.specs.Ends.{Ended, picked_from}

-- ---- a turn

-- sound, in a table of n numbers, with room for `room` rows
pub record Fit (cap p q : ℕ) (a : ℕ → ℕ → ℤ) (c : ℕ → ℤ) (m : ℕ) (basis : ℕ → ℕ → ℕ) (n room : ℕ) (s : Stage) : Type 0 where
  pub sound : Sound cap p q a c m basis s
  pub long : length s.table ≡ n
  pub few : s.rows ≤ room

module _ (cap p q : ℕ) (a : ℕ → ℕ → ℤ) (c : ℕ → ℤ) (m : ℕ) (basis : ℕ → ℕ → ℕ) where
  -- what a turn of s leaves; a refused one leaves what was there
  abbrev pub Fine : (room : ℕ) → Stage → Turned → Type 0
  Fine room s (goes t) = Fit cap p q a c m basis (length s.table) room t
  Fine room s (stops why) = Unit {0}
  Fine room s ends = Ended cap p q a c s

  cond_fine : (room : ℕ) (s : Stage) (b : Bool) (x y : Turned) → (T b → Fine room s x) → (T (not b) → Fine room s y) → Fine room s (cond b x y)
  cond_fine room s true x y f g = f tt
  cond_fine room s false x y f g = g tt

  paired_fine : (room : ℕ) (s : Stage) (b small fits : Bool) (skip more : Stage) → (T b → Fit cap p q a c m basis (length s.table) room skip)
      → (T (not b) → T small → T fits → Fit cap p q a c m basis (length s.table) room more) → Fine room s (paired b small fits skip more)
  unfolding paired
  paired_fine room s true small fits skip more f g = f tt
  paired_fine room s false false fits skip more f g = tt
  paired_fine room s false true false skip more f g = tt
  paired_fine room s false true true skip more f g = g tt tt tt

  module _ (given : Given cap p q a m basis) (s : Stage) (sound : Sound cap p q a c m basis s) (room : ℕ) (long : room * q ≤ length s.table)
      (few : s.rows ≤ room) where
    room_fits : T (ltb s.rows room) → s.rows * q + q ≤ length s.table
    room_fits l = omega (arith, row_fits q s.rows room (ltb→lt s.rows room l))

    row_fine : due_row q m basis s < m → Fine room s (row_turn q basis room s (due_row q m basis s))
    unfolding row_turn grown
    row_fine more =
        let i = due_row q m basis s in
        cond_fine room s (ltb s.rows room) (goes (grown q (basis i) (i + 1) s.upper s.lower s)) (stops 31)
        (λ l. record {
          sound = row_sound cap p q a c m basis given s sound more (room_fits l);
          long = write_length (basis i) s.table (s.rows * q) q;
          few = omega (arith, ltb→lt s.rows room l);
        })
        (λ l. tt)

    pair_fine : above q c s < s.rows → m ≤ due_row q m basis s → Fine room s (pair_turn q c room s (above q c s) (below q c s))
    unfolding pair_turn passed grown
    pair_fine found later =
        let z = sum_of q s (above q c s) (below q c s) in
        let reduced = reducible q c s.rows (row q s) z (value c q z) in
        paired_fine room s (is_needless q c s z) (is_small q z) (ltb s.rows room) (passed (above q c s) (below q c s + 1) s)
        (grown q z s.taken (above q c s) (below q c s + 1) s)
        (λ r. record {
          sound = passed_sound cap p q a c m basis given s sound (λ inside. elim (or_cases (is_over s.cap z) reduced r) [
            | inl over ↦
                let (j, jq, h) = wanted_some cap p q a (sound.wanted (above q c s) found) in
                absurd (over_outside cap q z (omega arith) (rw sound.capped at over) inside)
            | inr g ↦ reducible_from q c s.rows (row q s) z g
          ]);
          long = refl;
          few = few;
        })
        (λ more low l. record {
          sound =
              sum_sound cap p q a c m basis given s sound found (room_fits l) (small_from q z low)
              (inside_over cap q z (λ over. T_not (is_needless q c s z) more (or_left (is_over s.cap z) reduced (rw sound.capped over))))
              (λ r. T_not (is_needless q c s z) more (or_right (is_over s.cap z) reduced (reducible_to q c s.rows (row q s) z r))) later;
          long = write_length z s.table (s.rows * q) q;
          few = omega (arith, ltb→lt s.rows room l);
        })

    degree_fine : s.rows ≤ above q c s → m ≤ due_row q m basis s → Fine room s (degree_turn (next_degree q c m basis s) s)
    unfolding degree_turn raised
    degree_fine none later =
        let d = next_degree q c m basis s in
        cond_fine room s (eqb d 0) ends (goes (raised d s))
        (λ e. record {
          holding = end_holding cap p q a c m basis given s sound none later (eqb→eq d 0 e);
          closed = end_closed cap p q a c m basis given s sound none later (eqb→eq d 0 e);
        })
        (λ ne. record {
          sound = raised_sound cap p q a c m basis given s sound none later (λ e. T_not (eqb d 0) ne (rw e tt));
          long = refl;
          few = few;
        })

    pub turn_fine : Fine room s (turn q c m basis room s)
    unfolding turn
    turn_fine =
        let i = due_row q m basis s in
        let h = above q c s in
        let pairs = cond (ltb h s.rows) (pair_turn q c room s h (below q c s)) (degree_turn (next_degree q c m basis s) s) in
        cond_fine room s (eqb s.steps step_limit) (stops 14) (cond (ltb i m) (row_turn q basis room s i) pairs) (λ e. tt)
        (λ e. cond_fine room s (ltb i m) (row_turn q basis room s i) pairs (λ due. row_fine (ltb→lt i m due))
        (λ none. cond_fine room s (ltb h s.rows) (pair_turn q c room s h (below q c s)) (degree_turn (next_degree q c m basis s) s)
        (λ found. pair_fine (ltb→lt h s.rows found) (nltb→le i m none)) (λ past. degree_fine (nltb→le h s.rows past) (nltb→le i m none))))

  -- ---- turns

  -- what turns leave is sound, and a complete stage has ended
  pub record Good (o : Outcome) : Type 0 where
    pub sound : Sound cap p q a c m basis o.stage
    pub done : o.answer ≡ complete → Ended cap p q a c o.stage

  module _ (given : Given cap p q a m basis) (room : ℕ) where
    after_good : (t : Turned) (f : Stage → Outcome) (s : Stage) → Sound cap p q a c m basis s → Fine room s t
        → ((r : Stage) → Fit cap p q a c m basis (length s.table) room r → Good (f r)) → Good (after t f s)
    unfolding after
    after_good (goes r) f s sound fine g = g r fine
    after_good (stops why) f s sound fine g = record { sound = sound; done = λ e. absurd (let z : ◌≡◌ {A = ℕ} 0 1 = cc in omega arith) }
    after_good ends f s sound fine g = record { sound = sound; done = λ e. fine }

    pub run_good : (budget : ℕ) (s : Stage) → room * q ≤ length s.table → s.rows ≤ room → Sound cap p q a c m basis s → Good (run q c m basis room budget s)
    unfolding run
    run_good zero s long few sound = record { sound = sound; done = λ e. absurd (let z : ◌≡◌ {A = ℕ} 0 1 = cc in omega arith) }
    run_good (suc budget) s long few sound =
        after_good (turn q c m basis room s) (run q c m basis room budget) s sound (turn_fine given s sound room long few)
        (λ r f. run_good budget r (omega (arith, f.long)) f.few f.sound)

  -- before the first turn
  pub begin_sound : {own : ℕ} → own ≡ cap → (table : List ℕ) (steps : ℕ) → Sound cap p q a c m basis (begin own table steps)
  begin_sound capped table steps =
      record {
        capped = capped;
        fits = omega arith;
        small = λ i j l jq. absurd (omega arith);
        wanted = λ i l. absurd (omega arith);
        sorted = λ i k ik kn. absurd (omega arith);
        low = λ i l. absurd (omega arith);
        within = λ i l g. absurd (elim g [ inl u ↦ omega arith | inr (e, u) ↦ omega arith ]);
        pairs = λ h k hn kn o g inside. absurd (omega arith);
        apart = λ i k ik kn w b. absurd (omega arith);
        first = λ i il im e k kn g. absurd (omega arith);
      }

  -- after a pause, the rest of the budget gives what the whole budget gives at once
  pub run_on : (room b b' : ℕ) (s : Stage) → (run q c m basis room b s).answer ≡ paused
      → run q c m basis room b' (run q c m basis room b s).stage ≡ run q c m basis room (b' + b) s
  unfolding run after
  run_on room zero b' s h = let e : b' + 0 ≡ b' = omega arith in rw e refl
  run_on room (suc b) b' s h = let e : b' + suc b ≡ suc (b' + b) = omega arith in rw e (from_here (turn q c m basis room s) (λ r. run_on room b b' r) h)
    where
      from_here : (t : Turned)
          → ((r : Stage) → (run q c m basis room b r).answer ≡ paused
          → run q c m basis room b' (run q c m basis room b r).stage ≡ run q c m basis room (b' + b) r)
          → (after t (run q c m basis room b) s).answer ≡ paused
          → run q c m basis room b' (after t (run q c m basis room b) s).stage ≡ after t (run q c m basis room (b' + b)) s
      from_here (goes r) ih h = ih r h
      from_here (stops why) ih h = absurd (let z : ◌≡◌ {A = ℕ} 0 1 = cc in omega arith)
      from_here ends ih h = absurd (let z : ◌≡◌ {A = ℕ} 0 1 = cc in omega arith)

count_all : (f : ℕ → Bool) (n : ℕ) → ((i : ℕ) → i < n → T (f i)) → (i : ℕ) → i ≤ n → count_to i f ≡ i
unfolding count_to
count_all f n all zero l = refl
count_all f n all (suc i) l = omega (arith, count_all f n all i (omega arith), number_true (f i) (all i l))

-- rows of which none lies at or above another one are left as they are by a sweep
pub nothing_swept : (q n : ℕ) (row : ℕ → ℕ → ℕ) → ((x y : ℕ) → x < n → y < n → x ≢ y → ¬ (AtOrBelow q (row x) (row y))) → Swept q n row n row
nothing_swept q n row none =
    let stays : (x : ℕ) → x < n → T (keeps q n row x) = λ x xn. stays_keeps q n row x (record {
      least = λ y yn b. elim (ℕ_discrete y x) [ yes e ↦ b.other (rw e (λ j jq. refl)) | no ne ↦ none y x yn xn ne b.at_most ];
      first = λ y l e. none y x (omega arith) xn (omega arith) (λ j jq. omega (arith, e j jq));
    }) in
    record {
      count = sym (count_all (keeps q n row) n stays n (omega arith));
      rows = λ i l st. rw (count_all (keeps q n row) n stays i (omega arith)) (λ j jq. refl);
    }

-- no row of a stage reduces another one
pub irreducible : (cap p q : ℕ) (a : ℕ → ℕ → ℤ) (c : ℕ → ℤ) (m : ℕ) (basis : ℕ → ℕ → ℕ) (s : Stage) → Sound cap p q a c m basis s → (i k : ℕ)
    → i < s.rows → k < s.rows → i ≢ k → Within (value c q (row q s i)) (value c q (row q s k)) → ¬ (AtOrBelow q (row q s i) (row q s k))
irreducible cap p q a c m basis s sound i k il kl ne w b =
    elim (split i k) [
      | inl l ↦ sound.apart i k l kl w b
      | inr l ↦ elim (differ q (row q s i) (row q s k)) [
        | inl e ↦
            sound.apart k i (omega arith) il (rw (value_same c q e) (record { ups = omega arith; downs = omega arith })) (λ j jq. omega (arith, e j jq))
        | inr (j, jq, other) ↦ omega (arith, total_less q b j jq other, sound.sorted k i l il)
      ]
    ]

-- A stage that ended, and its rows of value 0, in their order: the minimal solutions of the system with the equation inside the cap, each once. No sweep is
-- needed.
module _ (cap p q : ℕ) (a a' : ℕ → ℕ → ℤ) (c : ℕ → ℤ) (extends : Extends p q a a' c) (m : ℕ) (basis : ℕ → ℕ → ℕ) (s : Stage)
    (sound : Sound cap p q a c m basis s) (ended : Ended cap p q a c s) (n' : ℕ) (row' : ℕ → ℕ → ℕ)
    (picked : Picked q s.rows (row q s) (zero_row q c (row q s)) n' row') where
  abbrev from : (x : ℕ) → x < n' → (i : ℕ) × (i < s.rows) × T (zero_row q c (row q s) i) × (count_to i (zero_row q c (row q s)) ≡ x)
      × Same q (row' x) (row q s i)
  from = picked_from q s.rows (row q s) (zero_row q c (row q s)) n' row' picked

  none_above : (x y : ℕ) → x < n' → y < n' → x ≢ y → ¬ (AtOrBelow q (row' x) (row' y))
  none_above x y xn yn ne b =
      let (i, il, fi, ei, si) = from x xn in
      let (k, kl, fk, ek, sk) = from y yn in
      irreducible cap p q a c m basis s sound i k il kl (λ e. ne (sym ei ∙ (ap (λ i. count_to i (zero_row q c (row q s))) e ∙ ek)))
      (rw (is_zero_lem (value c q (row q s i)) fi, is_zero_lem (value c q (row q s k)) fk) (record { ups = omega arith; downs = omega arith }))
      (λ j jq. omega (arith, b j jq, si j jq, sk j jq))

  pub stage_loops : Enumerates q (LoopInside cap p q a') n' row'
  stage_loops =
      next_equation cap p q a a' c extends s.rows (row q s) ended.holding ended.closed n' row' picked n' row' (nothing_swept q n' row' none_above)

  -- they are fit for the next stage
  pub stage_given : Given cap p q a' n' row'
  stage_given =
      record { loops = stage_loops; small = λ x j xn jq. let (i, il, fi, ei, si) = from x xn in omega (arith, sound.small i j il jq, si j jq) }
