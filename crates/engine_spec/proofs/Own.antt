-- A run's own calls are let go on: what its calls leave is in order, whatever was handed over before. Assumes nothing.
use Rattle.std.specs.Prelude.{◌≡◌, refl, Bool, not, ◌&&◌, ◌||◌, List, ℕ, suc, ◌+◌, ◌*◌, ◌^◌, ◌-◌, ◌≤◌, ◌<◌, T, ℤ, pos, nat_abs, get_or, length}
use Rattle.std.proofs.Math.Bool.{true, false}
use Rattle.std.proofs.Common.{arith, leb→le, le→leb, lt→ltb}
use Rattle.std.proofs.Math.Dec.{leb, ltb, ltb→lt, not_T}
use Rattle.linear.proofs.TestLaws.{all_from, and_both, and_parts}
use Rattle.linear.specs.Tests.{all_to}
use Rattle.linear.specs.Tuples.{total}
use Rattle.definitions.specs.Answers.{Check, ◌then◌, go, refuse_if, refuse_with}
use Rattle.definitions.specs.Refusals.{between, step_limit}
use Rattle.definitions.specs.System.{most_component}
use Rattle.definitions.specs.Tables.{frozen}
use Rattle.laws.proofs.AnswerLaws.{refuse_if_go, then_go}
use Rattle.engine_spec.specs.Base.{Base}
use Rattle.engine_spec.specs.Beside.{coefficient_limit, most_columns, most_rows}
use Rattle.engine_spec.specs.Calls.{check1, check2, checked, coefficients_small, in_order, is_rising, is_row, marks_in_order, resume_checks, standing_then}
use Rattle.engine_spec.specs.Calls.{start_checks, start_from_checks, start_from_under, start_under}
use Rattle.engine_spec.specs.Engine.{Work, basis_row, system_of}
use Rattle.engine_spec.proofs.Equations.{wanted_some}
use Rattle.engine_spec.specs.Promise.{RunsOn, after_begin, after_combine, after_resume, after_start, after_start_from, after_take, lent_anew}
use Rattle.engine_spec.proofs.Promise.{not_false, runs_whole, started_goes}
use Rattle.engine_spec.specs.Reduction.{is_small}
use Rattle.engine_spec.specs.Sound.{Given, Sound}
use Rattle.engine_spec.proofs.Sound.{degree_some}
use Rattle.engine_spec.specs.Stage.{Stage, row}
use Rattle.engine_spec.specs.Whole.{Standing, Whole, between as at_rest, under_way, with_fresh}

-- ---- tests

silent_if : (b : Bool) (n : ℕ) → ¬ (T b) → refuse_if b n ≡ go
unfolding refuse_with
silent_if true n no-case = absurd (no-case tt)
silent_if false n no-case = refl

silent_not : (b : Bool) (n : ℕ) → T b → refuse_if (not b) n ≡ go
unfolding refuse_with
silent_not true n h = refl
silent_not false n h = absurd h

all_go : (c d : Check) → c ≡ go → d ≡ go → c then d ≡ go
unfolding ◌then◌
all_go c d e g = rw e g

small_to : (q : ℕ) (z : ℕ → ℕ) → ((j : ℕ) → j < q → z j ≤ most_component) → T (is_small q z)
unfolding is_small
small_to q z h = all_from q _ (λ j l. le→leb (z j) most_component (h j l))

row_to : (q : ℕ) (z : ℕ → ℕ) → ((j : ℕ) → j < q → z j ≤ most_component) → 0 < total z q → T (is_row q z)
unfolding is_row
row_to q z h some = and_both (is_small q z) _ (small_to q z h) (lt→ltb 0 (total z q) some)

rising_to : (n : ℕ) (f : ℕ → ℕ) (d : ℕ) → ((i : ℕ) → i < n → 0 < f i) → ((i k : ℕ) → i ≤ k → k < n → f i ≤ f k) → ((i : ℕ) → i < n → f i ≤ d) → T
    (is_rising n f d)
unfolding is_rising
rising_to n f d some sorted low =
    all_from n _ (λ i l. and_both (ltb 0 (f i)) _ (lt→ltb 0 (f i) (some i l))
    (and_both (leb (f (i - 1)) (f i)) _ (le→leb (f (i - 1)) (f i) (sorted (i - 1) i (omega arith) l)) (le→leb (f i) d (low i l))))

marks_to : (p done equation : ℕ) → equation ≤ p → (equation < p → ¬ (T (frozen done equation))) → T (marks_in_order p done equation)
unfolding marks_in_order
marks_to p done equation low left =
    and_both (leb equation p) _ (le→leb equation p low)
    (not_T (ltb equation p && frozen done equation) (λ h. let (a, b) = and_parts (ltb equation p) _ h in left (ltb→lt equation p a) b))

-- ---- what a run leaves is in order

pub record Rows (q : ℕ) (w : Work) : Type 0 where
  pub basis : (i : ℕ) → i < w.count → T (is_row q (basis_row q w i))
  pub small : (i : ℕ) → i < w.stage.rows → T (is_small q (row q w.stage i))
  pub rising : T (is_rising w.stage.rows (λ i. total (row q w.stage i) q) w.stage.degree)

given_rows : (cap p q : ℕ) (a : ℕ → ℕ → ℤ) (m : ℕ) (basis : ℕ → ℕ → ℕ) → Given cap p q a m basis → (i : ℕ) → i < m → T (is_row q (basis i))
given_rows cap p q a m basis g i l =
    row_to q (basis i) (λ j jq. g.small i j l jq) (degree_some q (basis i) (wanted_some cap p q a (g.loops.only i l).holds))

sound_small : (cap p q : ℕ) (a : ℕ → ℕ → ℤ) (c : ℕ → ℤ) (m : ℕ) (basis : ℕ → ℕ → ℕ) (s : Stage) → Sound cap p q a c m basis s
    → ((i : ℕ) → i < s.rows → T (is_small q (row q s i))) × T (is_rising s.rows (λ i. total (row q s i) q) s.degree)
sound_small cap p q a c m basis s sound = (
  λ i l. small_to q (row q s i) (λ j jq. sound.small i j l jq),
  rising_to s.rows (λ i. total (row q s i) q) s.degree (λ i l. degree_some q (row q s i) (wanted_some cap p q a (sound.wanted i l)))
      sound.sorted sound.low,
)

standing_rows : (b : Base) (p q : ℕ) (w : Work) → Standing b p q w → Rows q w
standing_rows b p q w (at_rest e z given) =
    record {
      basis = given_rows b.cap (b.p + p) q _ w.count (basis_row q w) given;
      small = λ i l. absurd (omega arith);
      rising =
          rising_to w.stage.rows (λ i. total (row q w.stage i) q) w.stage.degree (λ i l. absurd (omega arith)) (λ i k ik kn. absurd (omega arith))
          (λ i l. absurd (omega arith));
    }
standing_rows b p q w (under_way l n f given sound) =
    let (small, rising) = sound_small b.cap (b.p + p) q _ _ w.count (basis_row q w) w.stage sound in
    record { basis = given_rows b.cap (b.p + p) q _ w.count (basis_row q w) given; small = small; rising = rising }
standing_rows b p q w (with_fresh l n f o m r given sound) =
    let (small, rising) = sound_small b.cap (suc (b.p + p)) q _ _ w.count (basis_row q w) w.stage sound in
    record { basis = given_rows b.cap (suc (b.p + p)) q _ w.count (basis_row q w) given; small = small; rising = rising }

standing_marks : (b : Base) (p q : ℕ) (w : Work) → Standing b p q w → T (marks_in_order p w.done w.equation)
standing_marks b p q w (at_rest e z given) = marks_to p w.done w.equation (omega arith) (λ l. absurd (omega arith))
standing_marks b p q w (under_way l n f given sound) = marks_to p w.done w.equation (omega arith) (λ k. n)
standing_marks b p q w (with_fresh l n f o m r given sound) = marks_to p w.done w.equation (omega arith) (λ k. n)

coefficients_to : (n : ℕ) (equations : List ℤ) → ((k : ℕ) → k < n → nat_abs (get_or equations k (pos 0)) ≤ coefficient_limit)
    → T (coefficients_small n equations)
unfolding coefficients_small
coefficients_to n equations h = all_from n _ (λ k l. le→leb (nat_abs (get_or equations k (pos 0))) coefficient_limit (h k l))

module _ (b : Base) (p q : ℕ) (a : ℕ → ℕ → ℤ) (most room : ℕ) (w : Work) (whole : Whole b p q a most room w) where
  whole_order : T (in_order p q most room w)
  unfolding in_order
  whole_order =
      let rows = standing_rows b p q w whole.standing in
      and_both (leb w.count most && leb w.stage.rows room) _
      (and_both (leb w.count most) _ (le→leb w.count most whole.few) (le→leb w.stage.rows room whole.fits))
      (and_both (leb w.stage.steps step_limit && ltb w.done (2 ^ p)) _
      (and_both (leb w.stage.steps step_limit) _ (le→leb w.stage.steps step_limit whole.early) (lt→ltb w.done (2 ^ p) whole.marks))
      (and_both (marks_in_order p w.done w.equation) _ (standing_marks b p q w whole.standing)
      (and_both (coefficients_small (p * q) w.equations) _ (coefficients_to (p * q) w.equations whole.range)
      (and_both (all_to w.count (λ i. is_row q (basis_row q w i))) _ (all_from w.count _ rows.basis)
      (and_both (all_to w.stage.rows (λ i. is_small q (row q w.stage i))) _ (all_from w.stage.rows _ rows.small) rows.rising)))))

  -- the checks of a call on the run, up to what is its own
  pub standing_goes : 1 ≤ p → p ≤ most_rows → 1 ≤ q → q ≤ most_columns → q ≤ most → (own : Check) → standing_then p q most room w own ≡ own
  unfolding ◌then◌
  standing_goes p1 p32 q1 q32 roomy own =
      rw (
        silent_not (between 1 most_rows p) 1 (and_both (leb 1 p) _ (le→leb 1 p p1) (le→leb p most_rows p32)),
        silent_not (between 1 most_columns q) 2 (and_both (leb 1 q) _ (le→leb 1 q q1) (le→leb q most_columns q32)),
        silent_if (ltb (length w.equations) (p * q) || ltb most q) 4
            (either (ltb (length w.equations) (p * q)) (ltb most q) (λ h. omega (arith, ltb→lt (length w.equations) (p * q) h, whole.numbers))
            (λ h. omega (arith, ltb→lt most q h))),
        silent_not (in_order p q most room w) 6 whole_order,
      )
    where
      either : (b c : Bool) → ¬ (T b) → ¬ (T c) → ¬ (T (b || c))
      either true c f g h = f tt
      either false c f g h = g h

-- ---- own calls

-- the limits that the start checked
pub record Shape (p q : ℕ) : Type 0 where
  pub p_some : 1 ≤ p
  pub p_few : p ≤ most_rows
  pub q_some : 1 ≤ q
  pub q_few : q ≤ most_columns

pub shape_from : (p q : ℕ) → check1 p ≡ go → check2 q ≡ go → Shape p q
shape_from p q x₁ x₂ =
    let (a, b) = and_parts (leb 1 p) _ (not_false (between 1 most_rows p) (refuse_if_go (not (between 1 most_rows p)) 1 x₁)) in
    let (c, d) = and_parts (leb 1 q) _ (not_false (between 1 most_columns q) (refuse_if_go (not (between 1 most_columns q)) 2 x₂)) in
    record { p_some = leb→le 1 p a; p_few = leb→le p most_rows b; q_some = leb→le 1 q c; q_few = leb→le q most_columns d }

pub runs_shape : {base : Base} {p q : ℕ} {coefs : List ℤ} {most room : ℕ} {w : Work} → RunsOn base p q coefs most room w → Shape p q
unfolding start_under start_checks start_from_under start_from_checks
runs_shape {base} {p} {q} {coefs} (after_start most room w plain long wide e) =
    let (x₁, y₁) = then_go (check1 p) _ (started_goes _ w _ e) in
    shape_from p q x₁ (then_go (check2 q) _ y₁).0
runs_shape (after_begin most room w plain s long wide) =
    record { p_some = s.equations.0; p_few = s.equations.1; q_some = s.unknowns.0; q_few = s.unknowns.1 }
runs_shape {base} {p} {q} {coefs} (after_start_from n rows most room w list long wide e) =
    let (x₁, y₁) = then_go (check1 p) _ (started_goes _ w _ e) in
    shape_from p q x₁ (then_go (check2 q) _ y₁).0
runs_shape (after_combine r x y u t) = runs_shape r
runs_shape (after_take r e f) = runs_shape r
runs_shape (after_resume r budget) = runs_shape r
runs_shape (lent_anew r most' room' basis table same same' few fits long wide) = runs_shape r

-- No continuing call of a run is refused before its first turn, where there is room for q rows in the basis.
pub own_calls : {base : Base} (p q : ℕ) (coefs : List ℤ) {most room : ℕ} {w : Work} → RunsOn base p q coefs most room w → q ≤ most
    → resume_checks p q most room w ≡ go
unfolding resume_checks
own_calls {base} p q coefs {most} {room} {w} r roomy =
    let s = runs_shape r in
    standing_goes base p q (system_of q coefs) most room w (runs_whole base p q coefs r) s.p_some s.p_few s.q_some s.q_few roomy go
