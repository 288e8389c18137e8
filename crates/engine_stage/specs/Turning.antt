-- What each way through a turn leaves. Assumes nothing.
use Rattle.std.specs.Prelude.{Option, MatchOption, ◌≡◌, List, ℕ, ◌+◌, ◌*◌, ◌≤◌, ◌<◌, ◌≢◌, T, eqb, ltb, ℤ, ◌+ℤ◌, get_or, set}
use Rattle.std.proofs.Math.Path.{refl}
use Rattle.std.proofs.Common.{sym, ◌∙◌, arith, eqb→eq, ltb→lt, lt→ltb}
use Rattle.std.proofs.Math.Bool.{true, false}
use Rattle.linear.specs.Systems.{value}
use Rattle.linear.proofs.TestLaws.{is_false, is_true, true_is}
use Rattle.linear.specs.TupleLaws.{total_sum}
use Rattle.linear.specs.Tuples.{total}
use Rattle.definitions.specs.Refusals.{step_limit}
use Rattle.definitions.specs.System.{most_component}
use Rattle.definitions.specs.Tables.{at, write_to}
use Rattle.engine_spec.specs.Beside.{no_mark, word_of}
use Rattle.engine_spec.specs.Marks.{Marked}
use Rattle.engine_spec.specs.Reduction.{is_small}
use Rattle.engine_spec.specs.ReductionLaws.{Against}
use Rattle.engine_spec.proofs.ReductionLaws.{small_from}
use Rattle.engine_spec.specs.Search.{first_in}
use Rattle.engine_spec.proofs.Search.{found_holds, pair_found}
use Rattle.engine_spec.specs.Stage.{Stage, Turned, above, below, degree_turn, due_row, ends, grown, is_due, next_degree, pair_turn, paired, passed, raised}
use Rattle.engine_spec.specs.Stage.{row_turn, stops, sum_of, turn}
use Rattle.engine_spec.proofs.Tests.{due_pair, is_due_lem, next_above}
use Rattle.engine_reduce.specs.Sums.{integer_at, never}
use Rattle.engine_search.specs.Agree.{due_row_by, next_degree_by_lem, none_by, pair_by}
use Rattle.engine_search.specs.Falls.{falling_start}
use Rattle.engine_search.specs.Places.{Falling, IsNext, degree_of, next_degree_by, upper_of, value_of}
use Rattle.laws.proofs.TableLaws.{row_fits, write_length}
use Rattle.engine_rows.specs.Marking.{valued_bounded}
use Rattle.engine_stage.specs.Appended.{PairAppended, PairFits, Room, RowAppended}
use Rattle.engine_stage.specs.Marked.{Paired, mark_is, mark_of, needless_of, sum_is}
use Rattle.engine_stage.specs.Standing.{
  Gone,
  Lent,
  Ready,
  Sides,
  Still,
  beyond_none,
  equation,
  grown_beyond,
  grown_falling,
  grown_ready,
  next_of,
  passed_ready,
  raised_ready,
  sides_of,
  stage_of,
  turn_of,
  unchanged,
  unchanged_set,
}
use Rattle.engine_stage.specs.declared.turns.Frame.{Frame}
use Rattle.engine_stage.specs.declared.turns.Next.{Next}

-- ---- tests

pub ltb_yes : (a b : ℕ) → a < b → ltb a b ≡ true
ltb_yes a b l = is_true (ltb a b) (lt→ltb a b l)

pub ltb_no : (a b : ℕ) → b ≤ a → ltb a b ≡ false
ltb_no a b l = is_false (ltb a b) (λ h. omega (arith, ltb→lt a b h))

pub eqb_no : (a b : ℕ) → a ≢ b → eqb a b ≡ false
eqb_no a b ne = is_false (eqb a b) (λ h. ne (eqb→eq a b h))

-- ---- what is due

-- row i of the basis, of the degree under way
pub record RowDue (f : Frame) (l : Lent) (s : Next) (i : ℕ) : Type 0 where
  pub early : s.steps < step_limit
  pub low : i < f.m
  pub exact : total (at l.basis f.q i) f.q ≡ s.degree

-- a pair of the degree under way, of which no row of the basis is left
pub record PairDue (f : Frame) (l : Lent) (table degrees : List ℕ) (s : Next) (h k first : ℕ) : Type 0 where
  pub early : s.steps < step_limit
  pub upper : h < s.rows
  pub lower : k < s.rows
  pub signs : Against (value (equation f l) f.q (at table f.q h)) (value (equation f l) f.q (at table f.q k))
  pub exact : total (at table f.q h) f.q + total (at table f.q k) f.q ≡ s.degree
  pub falling : Falling s.rows degrees s.degree h first
  pub spent : f.m ≤ due_row f.q f.m (at l.basis f.q) (stage_of f table s)

module _ {f : Frame} {l : Lent} {table : List ℕ} {x : Sides} {s : Next} (r : Ready f l table x s) where
  -- ---- a pair

  module _ {h k first : ℕ} (due : PairDue f l table x.degrees s h k first) where
    abbrev pair_of : Turned
    pair_of = pair_turn f.q (equation f l) f.room (stage_of f table s) h k

    pub pair_passed : needless_of f.cap f.q (equation f l) s.rows table h k ≡ true
        → Gone f l pair_of s.rows table x (next_of s.rows s.taken s.degree h (k + 1) (s.steps + 1) first false) table x
    unfolding pair_turn paired passed
    pair_passed e =
        record {
          is = rw e;
          long = refl;
          rises = omega arith;
          ready = passed_ready r due.spent h (k + 1) (s.steps + 1) first (omega (arith, due.early)) due.falling;
          beyond = beyond_none;
          mothers = unchanged;
        }

    pub pair_large : needless_of f.cap f.q (equation f l) s.rows table h k ≡ false → is_small f.q (sum_of f.q (stage_of f table s) h k) ≡ false
        → Still pair_of (stops 12) table table x x
    unfolding pair_turn paired
    pair_large e g = record { is = rw (e, g); same = refl; aside = refl }

    pub pair_full : needless_of f.cap f.q (equation f l) s.rows table h k ≡ false → is_small f.q (sum_of f.q (stage_of f table s) h k) ≡ true
        → ltb s.rows f.room ≡ false → Still pair_of (stops 31) table table x x
    unfolding pair_turn paired
    pair_full e g i = record { is = rw (e, g, i); same = refl; aside = refl }

    -- the sum appended
    abbrev sum : ℕ → ℕ
    sum = sum_of f.q (stage_of f table s) h k

    sum_degree : total sum f.q ≡ s.degree
    sum_degree = total_sum sum (at table f.q h) (at table f.q k) f.q (λ j jq. refl) ∙ due.exact

    sum_some : 0 < s.degree
    sum_some = omega (arith, due.exact, r.ranked.some h due.upper, r.measured.each h due.upper)

    pub pair_grown : (v : ℤ) (w mark mother : ℕ) → s.rows < f.room → v ≡ value (equation f l) f.q sum → w ≡ word_of f.q sum
        → (mark < no_mark → Marked f.q (equation f l) s.rows (at table f.q) sum mark)
        → needless_of f.cap f.q (equation f l) s.rows table h k ≡ false → is_small f.q sum ≡ true → ltb s.rows f.room ≡ true
        → Gone f l pair_of s.rows table x (next_of (s.rows + 1) s.taken s.degree h (k + 1) (s.steps + 1) first false)
        (write_to f.q table (s.rows * f.q) sum)
        (sides_of (set x.values s.rows v) (set x.words s.rows w) (set x.degrees s.rows s.degree) (set x.marks s.rows mark)
        (set x.mothers s.rows mother))
    unfolding pair_turn paired grown
    pair_grown v w mark mother room value_is word_is mark_is e g i =
        let small = small_from f.q sum (true_is (is_small f.q sum) g) in
        record {
          is = rw (e, g, i);
          long = write_length sum table (s.rows * f.q) f.q;
          rises = omega arith;
          ready =
              grown_ready r sum v w mark mother room value_is word_is sum_degree sum_some small mark_is s.taken h (k + 1) (s.steps + 1) first false
              (omega (arith, due.early)) (grown_falling r sum v w mark mother room value_is word_is sum_degree sum_some small mark_is due.falling)
              (λ e. due.spent);
          beyond = grown_beyond r sum v w mark mother room value_is word_is sum_degree sum_some small mark_is;
          mothers = unchanged_set x.mothers s.rows mother;
        }

  -- ---- a row of the basis

  module _ {i : ℕ} (due : RowDue f l s i) where
    abbrev row_of : Turned
    row_of = row_turn f.q (at l.basis f.q) f.room (stage_of f table s) i

    pub row_full : ltb s.rows f.room ≡ false → Still row_of (stops 31) table table x x
    unfolding row_turn
    row_full e = record { is = rw e; same = refl; aside = refl }

    pub row_grown : (v : ℤ) (w mark mother : ℕ) → s.rows < f.room → v ≡ value (equation f l) f.q (at l.basis f.q i)
        → w ≡ word_of f.q (at l.basis f.q i) → no_mark ≤ mark → ltb s.rows f.room ≡ true
        → Gone f l row_of s.rows table x (next_of (s.rows + 1) (i + 1) s.degree s.upper s.lower (s.steps + 1) (s.rows + 1) true)
        (write_to f.q table (s.rows * f.q) (at l.basis f.q i))
        (sides_of (set x.values s.rows v) (set x.words s.rows w) (set x.degrees s.rows s.degree) (set x.marks s.rows mark)
        (set x.mothers s.rows mother))
    unfolding row_turn grown
    row_grown v w mark mother room value_is word_is unmarked e =
        let y = at l.basis f.q i in
        let some : 0 < s.degree = omega (arith, r.given.positive i due.low, due.exact) in
        let small : (j : ℕ) → j < f.q → y j ≤ most_component = λ j jq. r.given.rows.small i j due.low jq in
        let none : mark < no_mark → Marked f.q (equation f l) s.rows (at table f.q) y mark = λ less. absurd (omega arith) in
        record {
          is = rw e;
          long = write_length y table (s.rows * f.q) f.q;
          rises = omega arith;
          ready =
              grown_ready r y v w mark mother room value_is word_is due.exact some small none (i + 1) s.upper s.lower (s.steps + 1) (s.rows + 1) true
              (omega (arith, due.early)) (falling_start (s.rows + 1) _ s.degree s.upper) (λ g. never (sym g));
          beyond = grown_beyond r y v w mark mother room value_is word_is due.exact some small none;
          mothers = unchanged_set x.mothers s.rows mother;
        }

  -- ---- the next degree, or the end

  abbrev degree_of_turn : ℕ → Turned
  degree_of_turn d = degree_turn d (stage_of f table s)

  pub degree_ends : (d : ℕ) → d ≡ 0 → Still (degree_of_turn d) ends table table x x
  unfolding degree_turn
  degree_ends d e = record { is = rw e; same = refl; aside = refl }

  pub degree_raised : s.steps < step_limit → (d : ℕ) → eqb d 0 ≡ false → s.degree < d → Gone f l (degree_of_turn d) s.rows table x
      (next_of s.rows 0 d 0 0 (s.steps + 1) s.rows true) table x
  unfolding degree_turn raised
  degree_raised early d e more = record {
    is = rw e;
    long = refl;
    rises = omega arith;
    ready = raised_ready r d (s.steps + 1) (omega arith) (omega arith);
    beyond = beyond_none;
    mothers = unchanged;
  }

-- ---- which way a turn goes

module _ (f : Frame) (l : Lent) (table : List ℕ) (s : Next) where
  abbrev stage : Stage
  stage = stage_of f table s

  pub turn_late : s.steps ≡ step_limit → turn_of f l table s ≡ stops 14
  unfolding turn
  turn_late e = rw e

  pub turn_row : eqb s.steps step_limit ≡ false → (i : ℕ) → due_row f.q f.m (at l.basis f.q) stage ≡ i → ltb i f.m ≡ true
      → turn_of f l table s ≡ row_turn f.q (at l.basis f.q) f.room stage i
  unfolding turn
  turn_row e i d g = rw (e, d, g)

  pub turn_pair : eqb s.steps step_limit ≡ false → ltb (due_row f.q f.m (at l.basis f.q) stage) f.m ≡ false → (h k : ℕ)
      → above f.q (equation f l) stage ≡ h → below f.q (equation f l) stage ≡ k → ltb h s.rows ≡ true
      → turn_of f l table s ≡ pair_turn f.q (equation f l) f.room stage h k
  unfolding turn
  turn_pair e d h k a b g = rw (e, d, b, a, g)

  pub turn_degree : eqb s.steps step_limit ≡ false → ltb (due_row f.q f.m (at l.basis f.q) stage) f.m ≡ false
      → ltb (above f.q (equation f l) stage) s.rows ≡ false → (d : ℕ) → next_degree f.q (equation f l) f.m (at l.basis f.q) stage ≡ d
      → turn_of f l table s ≡ degree_turn d stage
  unfolding turn
  turn_degree e g a d n = rw (e, g, a, n)

-- ---- rows as code appends them

module _ {f : Frame} {l : Lent} {table : List ℕ} {values : List ℤ} {words degrees marks mothers : List ℕ} {s : Next}
    (r : Ready f l table (sides_of values words degrees marks mothers) s) where
  -- room for row n
  pub room_left : s.rows < f.room → Room f.q s.rows table values words degrees marks mothers
  room_left l =
      record {
        fits = omega (arith, r.roomy.fits, row_fits f.q s.rows f.room l);
        valued = omega (arith, r.roomy.valued);
        worded = omega (arith, r.roomy.worded);
        measured = omega (arith, r.roomy.measured);
        marked = omega (arith, r.roomy.marked);
        mothered = omega (arith, r.roomy.mothered);
      }

  pub row_appended : {i word degree : ℕ} {table' : List ℕ} {values' : List ℤ} {words' degrees' marks' mothers' : List ℕ} → RowDue f l s i → s.rows < f.room →
      word ≡ word_of f.q (at l.basis f.q i)
      → degree ≡ get_or l.sizes i 0
      → RowAppended f.q s.rows (equation f l) (at l.basis f.q i) word degree table values words degrees marks mothers table' values' words' degrees'
      marks' mothers'
      → Gone f l (row_turn f.q (at l.basis f.q) f.room (stage_of f table s) i) s.rows table (sides_of values words degrees marks mothers)
      (next_of (s.rows + 1) (i + 1) s.degree s.upper s.lower (s.steps + 1) (s.rows + 1) true) table'
      (sides_of values' words' degrees' marks' mothers')
  row_appended {i} {word} {degree} due room word_is degree_is a =
      let exact : degree ≡ s.degree = degree_is ∙ (r.given.sized.each i due.low ∙ due.exact) in
      rw (a.row_is, a.value_is, a.word_is, a.degree_is, exact, a.mark_is, a.mother_is)
      (row_grown r due (value (equation f l) f.q (at l.basis f.q i)) word a.mark a.mother room refl word_is a.unmarked
      (ltb_yes s.rows f.room room))

  module _ {h k first : ℕ} (due : PairDue f l table degrees s h k first) where
    pub pair_paired : Paired f.q (equation f l) s.rows table values words marks h k
    pair_paired =
        record {
          rows = r.rows;
          valued = r.valued;
          worded = r.worded;
          marked = r.marked;
          bounded = (valued_bounded r.given.small r.rows r.valued).each;
          upper = due.upper;
          lower = due.lower;
          signs = due.signs;
          few = omega (arith, r.few, r.roomy.few);
        }

    pub pair_fits : s.rows < f.room → PairFits f.q s.rows table values words degrees marks mothers h k
    pair_fits room =
        record {
          room = room_left room;
          rows = r.rows;
          upper = due.upper;
          lower = due.lower;
          first = pair_paired.bounded h due.upper;
          second = pair_paired.bounded k due.lower;
          low = r.ranked.low;
          few = omega (arith, r.few, r.roomy.few);
        }

    pub pair_appended : {word : ℕ} {table' : List ℕ} {values' : List ℤ} {words' degrees' marks' mothers' : List ℕ} → s.rows < f.room → word ≡ word_of f.q
        (sum_of f.q (stage_of f table s) h k)
        → needless_of f.cap f.q (equation f l) s.rows table h k ≡ false → is_small f.q (sum_of f.q (stage_of f table s) h k) ≡ true
        → PairAppended f.q s.rows h k word table values words degrees marks mothers table' values' words' degrees' marks' mothers'
        → Gone f l (pair_turn f.q (equation f l) f.room (stage_of f table s) h k) s.rows table (sides_of values words degrees marks mothers)
        (next_of (s.rows + 1) s.taken s.degree h (k + 1) (s.steps + 1) first false) table' (sides_of values' words' degrees' marks' mothers')
    pair_appended {word} room word_is new small a =
        let exact : get_or degrees h 0 + get_or degrees k 0 ≡ s.degree =
        omega (arith, r.measured.each h due.upper, r.measured.each k due.lower, due.exact) in
        rw (a.row_is, a.value_is, a.word_is, a.degree_is, exact, a.mark_is, a.mother_is)
        (pair_grown r due (integer_at values h +ℤ integer_at values k) word (mark_of (integer_at values h) (integer_at values k)) a.mother room
        (sum_is pair_paired) word_is (mark_is pair_paired) new small (ltb_yes s.rows f.room room))

-- ---- what is found is due

-- the row of the basis that is next, or none
abbrev pub RowFound : (m first : ℕ) → Option ℕ → Type 0
RowFound m first r = MatchOption r (m ≤ first) (λ i. (i < m) × (i ≡ first))

module _ {f : Frame} {l : Lent} {table : List ℕ} {x : Sides} {s : Next} (r : Ready f l table x s) where
  abbrev due_at : ℕ
  due_at = first_in f.m s.taken (λ i. eqb (degree_of l.sizes i) s.degree)

  pub row_is : due_at ≡ due_row f.q f.m (at l.basis f.q) (stage_of f table s)
  row_is = due_row_by f.q (stage_of f table s) r.given.sized

  pub row_due : {i : ℕ} → s.steps ≢ step_limit → i ≡ due_at → i < f.m → RowDue f l s i
  row_due {i} ne e low =
      let holds : T (eqb (degree_of l.sizes due_at) s.degree) =
      found_holds f.m s.taken (λ i. eqb (degree_of l.sizes i) s.degree) (omega arith) in
      let exact = eqb→eq (degree_of l.sizes due_at) s.degree holds in
      record { early = omega (arith, r.early, ne); low = low; exact = rw (← e) at (sym (r.given.sized.each due_at (omega arith)) ∙ exact) }

  pub pair_due : {h k first : ℕ} → s.steps ≢ step_limit → f.m ≤ due_row f.q f.m (at l.basis f.q) (stage_of f table s)
      → IsNext s.rows x.values x.degrees s.degree s.upper s.lower h k first → h < s.rows
      → PairDue f l table x.degrees s h k first
  pair_due {h} {k} {first} ne spent found less =
      let c = equation f l in
      let (up, low) = pair_by (stage_of f table s) r.valued r.measured less found in
      let (inside, due) =
      pair_found s.rows (is_due f.q c (at table f.q) s.degree) s.upper s.lower (rw (← up) at less) in
      record {
        early = omega (arith, r.early, ne);
        upper = less;
        lower = rw low at inside;
        signs = rw (low, up) at (due_pair f.q c (at table f.q) (above f.q c (stage_of f table s)) (below f.q c (stage_of f table s)) s.degree due);
        exact = rw (low, up) at (is_due_lem f.q c (at table f.q) (above f.q c (stage_of f table s)) (below f.q c (stage_of f table s)) s.degree due);
        falling = found.falling;
        spent = spent;
      }

  -- ---- a turn, by what is found

  pub by_late : s.steps ≡ step_limit → Still (turn_of f l table s) (stops 14) table table x x
  by_late e = record { is = turn_late f l table s e; same = refl; aside = refl }

  pub spent_by : f.m ≤ due_at → f.m ≤ due_row f.q f.m (at l.basis f.q) (stage_of f table s)
  spent_by past = rw row_is at past

  pub by_row : {i : ℕ} → s.steps ≢ step_limit → i ≡ due_at → i < f.m
      → turn_of f l table s ≡ row_turn f.q (at l.basis f.q) f.room (stage_of f table s) i
  by_row {i} ne e low = turn_row f l table s (eqb_no s.steps step_limit ne) i (sym (e ∙ row_is)) (ltb_yes i f.m low)

  module _ (ne : s.steps ≢ step_limit) (spent : f.m ≤ due_row f.q f.m (at l.basis f.q) (stage_of f table s)) where
    abbrev no_row : ltb (due_row f.q f.m (at l.basis f.q) (stage_of f table s)) f.m ≡ false
    no_row = ltb_no (due_row f.q f.m (at l.basis f.q) (stage_of f table s)) f.m spent

    pub by_pair : {h k first : ℕ} → IsNext s.rows x.values x.degrees s.degree s.upper s.lower h k first → h < s.rows
        → turn_of f l table s ≡ pair_turn f.q (equation f l) f.room (stage_of f table s) h k
    by_pair {h} {k} found less =
        let (up, low) = pair_by (stage_of f table s) r.valued r.measured less found in
        turn_pair f l table s (eqb_no s.steps step_limit ne) no_row h k up low (ltb_yes h s.rows less)

    module _ {d : ℕ} (past : s.rows ≤ upper_of s.rows x.values x.degrees s.degree s.upper s.lower)
        (d_is : d ≡ next_degree_by s.degree f.m (degree_of l.sizes) s.rows (value_of x.values) (degree_of x.degrees)) where
      next_is : next_degree f.q (equation f l) f.m (at l.basis f.q) (stage_of f table s) ≡ d
      next_is = sym (d_is ∙ next_degree_by_lem (stage_of f table s) r.valued r.measured r.given.sized)

      by_degree : turn_of f l table s ≡ degree_turn d (stage_of f table s)
      by_degree =
          turn_degree f l table s (eqb_no s.steps step_limit ne) no_row
          (ltb_no _ s.rows (none_by (stage_of f table s) r.valued r.measured past)) d next_is

      pub by_end : d ≡ 0 → Still (turn_of f l table s) ends table table x x
      by_end e = rw by_degree (degree_ends r d e)

      pub by_raise : d ≢ 0 → Gone f l (turn_of f l table s) s.rows table x (next_of s.rows 0 d 0 0 (s.steps + 1) s.rows true) table x
      by_raise some =
          rw by_degree
          (degree_raised r (omega (arith, r.early, ne)) d (eqb_no d 0 some)
          (rw next_is at (next_above f.q (equation f l) f.m (at l.basis f.q) (stage_of f table s) (λ z. some (sym next_is ∙ z)))))
