-- Theorems about what specs/Whole.antt defines. Assumes nothing.
use Rattle.std.specs.Prelude.{◌≡◌, ◌≢◌, Bool, cond, ◌&&◌, List, [], T, eqb, ltb, ℤ, negsuc, length}
use Rattle.std.proofs.Math.Path.{refl}
use Rattle.std.proofs.Math.Bool.{true, false, not}
use Prim.Native.Nat.{ℕ, zero, suc, ◌+◌, ◌*◌, ◌^◌, ◌-◌, ◌≤◌, ◌<◌}
use Rattle.std.proofs.Math.Decide.{ℕ_discrete}
use Rattle.std.proofs.Common.{arith, ltb→lt, lt→ltb, nltb→le}
use Rattle.std.proofs.Math.Dec.{eqb→eq}
use Rattle.std.proofs.Math.IntN.{pos}
use Rattle.std.specs.Int.Signed.{le_z_yes}
use Rattle.linear.specs.Differences.{up, up_le}
use Rattle.linear.proofs.Differences.{one_side}
use Rattle.linear.specs.Systems.{value}
use Rattle.linear.proofs.TestLaws.{all_at}
use Rattle.linear.specs.Tests.{count_to}
use Rattle.definitions.specs.Answers.{Answer, complete, paused, refused}
use Rattle.definitions.specs.Refusals.{step_limit}
use Rattle.definitions.specs.System.{most_component}
use Rattle.definitions.specs.Tables.{at, frozen}
use Rattle.laws.proofs.MarkLaws.{bit_add_fits, free_bit}
use Rattle.laws.specs.Pack.{pack_to}
use Rattle.laws.proofs.Pack.{pack_length, pack_row}
use Rattle.engine_spec.specs.Base.{Base, on_top}
use Rattle.engine_spec.proofs.Base.{top_extends}
use Rattle.engine_spec.proofs.Counts.{Timed, turn_timed}
use Rattle.engine_spec.specs.Done.{among}
use Rattle.engine_spec.proofs.Done.{done_extends}
use Rattle.engine_spec.specs.Ends.{Ended, picked_from}
use Rattle.engine_spec.proofs.Ends.{Fine, stage_given, turn_fine}
use Rattle.engine_spec.specs.Engine.{
  Result,
  Work,
  after,
  all_done,
  basis_row,
  equation_of,
  finish,
  finished,
  left,
  onward,
  rested,
  result,
  run,
  stays,
  system,
  values_small,
}
use Rattle.engine_spec.specs.Equations.{Picked, zero_row}
use Rattle.engine_spec.specs.Fresh.{filled, not_below, without_at}
use Rattle.engine_spec.proofs.Fresh.{fresh_loops, put_other, put_same, without_at_lem}
use Rattle.engine_spec.specs.Sound.{Given, Sound}
use Rattle.engine_spec.specs.Stage.{Stage, Turned, ends, goes, row, stops, turn}
use Rattle.engine_spec.specs.Whole.{Standing, Whole, between, done_of, so_far, under_way, with_fresh}

-- rows that a test picks, written one behind the other from the first on
pub picked_packed : (q n most : ℕ) (table : List ℕ) (f : ℕ → Bool) (row : ℕ → ℕ → ℕ) → most * q ≤ length table → count_to n f ≤ most
    → Picked q n row f (count_to n f) (at (pack_to n q table 0 f row) q)
picked_packed q n most table f row long few =
    record {
      count = refl;
      rows = λ i l st j jq.
          let place : 0 + count_to i f ≡ count_to i f = omega arith in
          rw place at (pack_row q table 0 f row most long n (omega arith) i l st j jq);
    }

-- ---- tests

small_else : (b s : Bool) → T (not (b && not s)) → T b → T s
small_else true true h e = tt
small_else true false h e = absurd h
small_else false s h e = absurd e

-- ---- the end of a stage

module _ (b : Base) (p q : ℕ) (a : ℕ → ℕ → ℤ) (most room : ℕ) (w : Work) (whole : Whole b p q a most room w) (going : w.equation < p)
    (not_done : ¬ (T (frozen w.done w.equation))) (some_left : w.stage.steps < step_limit) where
  abbrev c : ℕ → ℤ
  c = equation_of q w

  abbrev kept : ℕ → Bool
  kept = stays q w

  -- a finished stage leaves a run between two stages, once its rows are the minimal solutions with the equation
  finished_whole : count_to w.stage.rows kept ≤ most → Given b.cap (b.p + p) q (on_top b (among (w.done + 2 ^ w.equation) (system q w))) (count_to
      w.stage.rows kept)
      (at (pack_to w.stage.rows q w.basis 0 kept (left q w)) q) → Whole b p q a most room (finished p q w)
  unfolding finished
  finished_whole low given =
      record {
        numbers = whole.numbers;
        long = omega (arith, whole.long, pack_length q w.basis 0 kept (left q w) w.stage.rows);
        wide = whole.wide;
        few = low;
        fits = omega arith;
        marks = bit_add_fits w.done w.equation p (free_bit w.done w.equation not_done) going whole.marks;
        early = omega arith;
        capped = whole.capped;
        range = whole.range;
        alike = whole.alike;
        standing = between refl refl given;
      }

  plain_ended : q ≤ w.fresh → Sound b.cap (b.p + p) q (so_far b q w) c w.count (basis_row q w) w.stage
      → Ended b.cap (b.p + p) q (so_far b q w) c w.stage
      → count_to w.stage.rows kept ≤ most → Whole b p q a most room (finished p q w)
  plain_ended none sound e low =
      finished_whole low
      (plain (ltb w.fresh q) (λ h. omega (arith, ltb→lt w.fresh q h)) low)
    where
      plain : (x : Bool) → (T x → ⊥)
          → count_to w.stage.rows (cond x (not_below q c (row q w.stage)) (zero_row q c (row q w.stage))) ≤ most
          → Given b.cap (b.p + p) q (on_top b (among (w.done + 2 ^ w.equation) (system q w)))
          (count_to w.stage.rows (cond x (not_below q c (row q w.stage)) (zero_row q c (row q w.stage))))
          (at (pack_to w.stage.rows q w.basis 0 (cond x (not_below q c (row q w.stage)) (zero_row q c (row q w.stage)))
          (λ i. cond x (filled q c w.fresh (row q w.stage i)) (row q w.stage i))) q)
      plain true never low = absurd (never tt)
      plain false never low =
          stage_given b.cap (b.p + p) q (so_far b q w) (on_top b (among (w.done + 2 ^ w.equation) (system q w))) c
          (top_extends b p q (done_of q w) _ c (done_extends p q (system q w) w.done w.equation going not_done)) w.count (basis_row q w)
          w.stage sound e
          (count_to w.stage.rows (zero_row q c (row q w.stage))) _
          (picked_packed q w.stage.rows most w.basis (zero_row q c (row q w.stage)) (row q w.stage) whole.long low)

  module _ (some : w.fresh < q) (uncapped : 0 < b.cap → 0 < w.fresh) (minus : c w.fresh ≡ negsuc 0)
      (free : (i : ℕ) → i < b.p + p → so_far b q w i w.fresh ≡ pos 0)
      (sound : Sound b.cap (suc (b.p + p)) q (without_at (b.p + p) (so_far b q w) w.fresh) c w.count (basis_row q w) w.stage)
      (e : Ended b.cap (suc (b.p + p)) q (without_at (b.p + p) (so_far b q w) w.fresh) c w.stage) (small : T (values_small q w)) where
    abbrev f : ℕ
    f = w.fresh

    abbrev g : ℕ → Bool
    g = not_below q c (row q w.stage)

    abbrev filling : ℕ → ℕ → ℕ
    filling i = filled q c f (row q w.stage i)

    filled_small : (i : ℕ) → i < w.stage.rows → (j : ℕ) → j < q → filling i j ≤ most_component
    unfolding values_small
    filled_small i l j jq =
        elim (ℕ_discrete j f) [
          | yes same ↦
              let v = value c q (row q w.stage i) in
              let low = up_le (le_z_yes {a = v} {b = pos most_component} (all_at w.stage.rows _ small i l)) in
              rw same (omega (arith, put_same f (up v) (row q w.stage i), low, one_side v))
          | no ne ↦ omega (arith, put_other f (up (value c q (row q w.stage i))) (row q w.stage i) j ne, sound.small i j l jq)
        ]

    fresh_given : count_to w.stage.rows g ≤ most
        → Given b.cap (b.p + p) q (on_top b (among (w.done + 2 ^ w.equation) (system q w))) (count_to w.stage.rows g)
        (at (pack_to w.stage.rows q w.basis 0 g filling) q)
    fresh_given low =
        let picked = picked_packed q w.stage.rows most w.basis g filling whole.long low in
        record {
          loops =
              fresh_loops b.cap (b.p + p) q (so_far b q w) (on_top b (among (w.done + 2 ^ w.equation) (system q w))) c
              (top_extends b p q (done_of q w) _ c (done_extends p q (system q w) w.done w.equation going not_done)) f some uncapped minus free
              (suc (b.p + p)) (without_at (b.p + p) (so_far b q w) f) (without_at_lem (b.p + p) q (so_far b q w) f some) w.count (basis_row q w)
              w.stage sound e (count_to w.stage.rows g) _ picked;
          small = λ x j xn jq.
              let (i, il, fi, ei, si) = picked_from q w.stage.rows filling g (count_to w.stage.rows g) _ picked x xn in
              omega (arith, filled_small i il j jq, si j jq);
        }

    fresh_ended : count_to w.stage.rows kept ≤ most → Whole b p q a most room (finished p q w)
    fresh_ended low = finished_whole low (made (ltb w.fresh q) (lt→ltb w.fresh q some) low)
      where
        made : (x : Bool) → T x → count_to w.stage.rows (cond x g (zero_row q c (row q w.stage))) ≤ most
            → Given b.cap (b.p + p) q (on_top b (among (w.done + 2 ^ w.equation) (system q w))) (count_to w.stage.rows (cond x g (zero_row q c (row q
            w.stage))))
            (at (pack_to w.stage.rows q w.basis 0 (cond x g (zero_row q c (row q w.stage)))
            (λ i. cond x (filling i) (row q w.stage i))) q)
        made true h low = fresh_given low
        made false h low = absurd h

-- ---- turns

module _ (b : Base) (p q : ℕ) (a : ℕ → ℕ → ℤ) (most room : ℕ) where
  -- what turns leave is whole, and a complete run has done all equations
  pub record Good (o : Result) : Type 0 where
    pub whole : Whole b p q a most room o.work
    pub done : o.answer ≡ complete → (o.work.equation ≡ p) × (o.work.done ≡ 2 ^ p - 1)

  cond_good : (b : Bool) (x y : Result) → (T b → Good x) → (T (not b) → Good y) → Good (cond b x y)
  cond_good true x y f g = f tt
  cond_good false x y f g = g tt

  stopped_good : (w : Work) (x : Answer) → Whole b p q a most room w → (x ≡ complete → ⊥) → Good (result x w)
  stopped_good w x whole no_end = record { whole = whole; done = λ e. absurd (no_end e) }

  refused_good : (w : Work) (n : ℕ) → Whole b p q a most room w → Good (result (refused n []) w)
  refused_good w n whole = stopped_good w (refused n []) whole (λ e. let z : ◌≡◌ {A = ℕ} 0 1 = cc in omega arith)

  pub paused_good : (w : Work) → Whole b p q a most room w → Good (result paused w)
  paused_good w whole = stopped_good w paused whole (λ e. let z : ◌≡◌ {A = ℕ} 0 1 = cc in omega arith)

  pub rested_good : (w : Work) → Whole b p q a most room w → w.equation ≡ p → Good (rested p w)
  unfolding rested all_done
  rested_good w whole none = go (eqb w.done (2 ^ p - 1)) (λ h. eqb→eq w.done (2 ^ p - 1) h)
    where
      go : (b : Bool) → (T b → w.done ≡ 2 ^ p - 1) → Good (result (cond b complete paused) w)
      go true f = record { whole = whole; done = λ e. (none, f tt) }
      go false f = paused_good w whole

  module _ (w : Work) (whole : Whole b p q a most room w) (going : w.equation < p) where
    onward_whole : (s : Stage) → length s.table ≡ length w.stage.table → s.rows ≤ room
        → s.steps ≤ step_limit → s.cap ≡ b.cap → Standing b p q (onward s w)
        → Whole b p q a most room (onward s w)
    unfolding onward
    onward_whole s long few early capped standing =
        record {
          numbers = whole.numbers;
          long = whole.long;
          wide = omega (arith, whole.wide, long);
          few = whole.few;
          fits = few;
          marks = whole.marks;
          early = early;
          capped = capped;
          range = whole.range;
          alike = whole.alike;
          standing = standing;
        }

    -- what a turn leaves, by where the run stands
    abbrev Left : Turned → Type 0
    Left (goes s) = Whole b p q a most room (onward s w)
    Left (stops n) = Unit {0}
    Left ends = count_to w.stage.rows (stays q w) ≤ most → (T (ltb w.fresh q) → T (values_small q w)) → Whole b p q a most room (finished p q w)

    not_late : w.stage.steps ≢ step_limit → w.stage.steps < step_limit
    not_late ne = omega (arith, whole.early, ne)

    in_time : (s : Stage) → Timed w.stage (goes s) → s.steps ≤ step_limit
    in_time s (ne, e) = omega (arith, not_late ne, e)

    plain_left : (not_done : ¬ (T (frozen w.done w.equation))) (none : q ≤ w.fresh) → Given b.cap (b.p + p) q (so_far b q w) w.count (basis_row q w)
        → Sound b.cap (b.p + p) q (so_far b q w) (equation_of q w) w.count (basis_row q w) w.stage → (t : Turned)
        → Fine b.cap (b.p + p) q (so_far b q w) (equation_of q w) w.count (basis_row q w) room w.stage t → Timed w.stage t → Left t
    unfolding onward
    plain_left not_done none given sound (goes s) fit timed =
        onward_whole s fit.long fit.few (in_time s timed) fit.sound.capped (under_way going not_done none given fit.sound)
    plain_left not_done none given sound (stops n) fit timed = tt
    plain_left not_done none given sound ends e timed = λ low small. plain_ended b p q a most room w whole going not_done (not_late timed) none sound e low

    fresh_left : (not_done : ¬ (T (frozen w.done w.equation))) (some : w.fresh < q) (uncapped : 0 < b.cap → 0 < w.fresh)
        (minus : equation_of q w w.fresh ≡ negsuc 0)
        (free : (i : ℕ) → i < b.p + p → so_far b q w i w.fresh ≡ pos 0) → Given b.cap (suc (b.p + p)) q (without_at (b.p + p) (so_far b q w) w.fresh)
        w.count (basis_row q w)
        → Sound b.cap (suc (b.p + p)) q (without_at (b.p + p) (so_far b q w) w.fresh) (equation_of q w) w.count (basis_row q w) w.stage → (t : Turned)
        → Fine b.cap (suc (b.p + p)) q (without_at (b.p + p) (so_far b q w) w.fresh) (equation_of q w) w.count (basis_row q w) room w.stage t → Timed
        w.stage t → Left t
    unfolding onward
    fresh_left not_done some uncapped minus free given sound (goes s) fit timed =
        onward_whole s fit.long fit.few (in_time s timed) fit.sound.capped (with_fresh going not_done some uncapped minus free given fit.sound)
    fresh_left not_done some uncapped minus free given sound (stops n) fit timed = tt
    fresh_left not_done some uncapped minus free given sound ends e timed =
        λ low small.
        fresh_ended b p q a most room w whole going not_done (not_late timed) some uncapped minus free sound e (small (lt→ltb w.fresh q some)) low

    turn_left : Left (turn q (equation_of q w) w.count (basis_row q w) room w.stage)
    turn_left = by whole.standing
      where
        by : Standing b p q w → Left (turn q (equation_of q w) w.count (basis_row q w) room w.stage)
        by (between e none given) = absurd (omega arith)
        by (under_way l not_done none given sound) =
            plain_left not_done none given sound (turn q (equation_of q w) w.count (basis_row q w) room w.stage)
            (turn_fine b.cap (b.p + p) q (so_far b q w) (equation_of q w) w.count (basis_row q w) given w.stage sound room whole.wide whole.fits)
            (turn_timed q (equation_of q w) w.count (basis_row q w) room w.stage)
        by (with_fresh l not_done some uncapped minus free given sound) =
            fresh_left not_done some uncapped minus free given sound (turn q (equation_of q w) w.count (basis_row q w) room w.stage)
            (turn_fine b.cap (suc (b.p + p)) q (without_at (b.p + p) (so_far b q w) w.fresh) (equation_of q w) w.count (basis_row q w)
            given w.stage sound room
            whole.wide whole.fits)
            (turn_timed q (equation_of q w) w.count (basis_row q w) room w.stage)

    finish_good : Left ends → Good (finish p q most w)
    unfolding finish finished
    finish_good f =
        cond_good (ltb w.fresh q && not (values_small q w)) (result (refused 12 []) w) _ (λ h. refused_good w 12 whole)
        (λ h. cond_good (ltb most (count_to w.stage.rows (stays q w))) (result (refused 31 []) w) _ (λ g. refused_good w 31 whole)
        (λ g. rested_good (finished p q w)
        (f (nltb→le most (count_to w.stage.rows (stays q w)) g) (λ e. small_else (ltb w.fresh q) (values_small q w) h e)) refl))

    after_good : (t : Turned) (f : Work → Result) → Left t → ((s : Stage) → t ≡ goes s → Good (f (onward s w))) → Good (after p q most t f w)
    unfolding after
    after_good (goes s) f fine g = g s refl
    after_good (stops n) f fine g = refused_good w n whole
    after_good ends f fine g = finish_good fine

  pub run_good : (budget : ℕ) (w : Work) → Whole b p q a most room w → w.equation < p → Good (run p q most room budget w)
  unfolding run onward
  run_good zero w whole going = paused_good w whole
  run_good (suc budget) w whole going =
      let t = turn q (equation_of q w) w.count (basis_row q w) room w.stage in
      after_good w whole going t (run p q most room budget) (turn_left w whole going)
      (λ s e. run_good budget (onward s w) (went t s e (turn_left w whole going)) going)
    where
      went : (t : Turned) (s : Stage) → t ≡ goes s → Left w whole going t → Whole b p q a most room (onward s w)
      went t s e l = rw e at l
