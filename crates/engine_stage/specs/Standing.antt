-- What code has of a stage, and what a turn leaves. Assumes nothing.
use Rattle.std.specs.Prelude.{Result, Ok, Err, ◌≡◌, refl, Bool, true, false, List, ℕ, ◌+◌, ◌*◌, ◌≤◌, ◌<◌, ℤ, pos, get_or, length, set}
use Rattle.std.proofs.Common.{sym, inl, inr, arith, length-set, get_or-set_other, get_or-set_same}
use Rattle.linear.proofs.Cases.{split}
use Rattle.linear.specs.Systems.{value}
use Rattle.linear.specs.Tuples.{Same, total}
use Rattle.definitions.specs.Refusals.{step_limit}
use Rattle.definitions.specs.System.{most_component}
use Rattle.definitions.specs.Tables.{at, write_to}
use Rattle.laws.proofs.TableLaws.{row_fits, write_length}
use Rattle.engine_spec.specs.Beside.{AllMarked, Measured, SmallEquation, SmallTable, Valued, Worded, equation_at, no_mark, word_of}
use Rattle.engine_spec.specs.Marks.{Marked}
use Rattle.engine_spec.proofs.Marks.{marked_more}
use Rattle.engine_spec.proofs.ReductionLaws.{append_kept, append_new}
use Rattle.engine_spec.specs.Stage.{Stage, Turned, due_row, ends, goes, stops, turn}
use Rattle.engine_beside.specs.Appending.{append_measured, append_small, append_valued, append_worded}
use Rattle.engine_beside.specs.Degrees.{degree_small}
use Rattle.engine_beside.specs.Writing.{Kept, kept_more, kept_none}
use Rattle.engine_search.specs.Agree.{falling_grown}
use Rattle.engine_search.specs.Falls.{falling_start}
use Rattle.engine_search.specs.Places.{Falling, Ranked, degree_of}
use Rattle.engine_reduce.specs.Sums.{never}
use Rattle.engine_stage.specs.declared.turns.Frame.{Frame}
use Rattle.engine_stage.specs.declared.turns.Next.{Next}
use Rattle.engine_stage.specs.declared.turns.Stop.{Stop}
use Rattle.engine_stage.specs.declared.turns.Stop.TheVariants.{Ends, Full, Large, Late}

-- the tables beside the rows
pub record Sides : Type 0 where
  pub values : List ℤ
  pub words : List ℕ
  pub degrees : List ℕ
  pub marks : List ℕ
  pub mothers : List ℕ

abbrev pub sides_of : List ℤ → List ℕ → List ℕ → List ℕ → List ℕ → Sides
sides_of values words degrees marks mothers = record { values = values; words = words; degrees = degrees; marks = marks; mothers = mothers }

-- what a stage is given: its equation, the basis and the degrees beside it
pub record Lent : Type 0 where
  pub coefs : List ℤ
  pub basis : List ℕ
  pub sizes : List ℕ

abbrev pub lent_of : List ℤ → List ℕ → List ℕ → Lent
lent_of coefs basis sizes = record { coefs = coefs; basis = basis; sizes = sizes }

abbrev pub equation : Frame → Lent → ℕ → ℤ
equation f l = equation_at l.coefs f.from

abbrev pub stage_of : Frame → List ℕ → Next → Stage
stage_of f table s =
    record { table = table; rows = s.rows; taken = s.taken; degree = s.degree; upper = s.upper; lower = s.lower; steps = s.steps; cap = f.cap }

abbrev pub next_of : (rows taken degree upper lower steps first : ℕ) (more : Bool) → Next
next_of rows taken degree upper lower steps first more =
    record { rows = rows; taken = taken; degree = degree; upper = upper; lower = lower; steps = steps; first = first; more = more }

-- ---- what holds between two turns

-- room for so many rows in the table and beside it
pub record Roomy (f : Frame) (table : List ℕ) (x : Sides) : Type 0 where
  pub fits : f.room * f.q ≤ length table
  pub valued : f.room ≤ length x.values
  pub worded : f.room ≤ length x.words
  pub measured : f.room ≤ length x.degrees
  pub marked : f.room ≤ length x.marks
  pub mothered : f.room ≤ length x.mothers
  pub few : f.room ≤ 1000000000

-- what does not change during a stage
pub record Given (f : Frame) (l : Lent) : Type 0 where
  pub some : 0 < f.q
  pub small : SmallEquation f.q l.coefs f.from
  pub rows : SmallTable f.q f.m l.basis
  pub sized : Measured f.q f.m l.basis l.sizes
  pub positive : (i : ℕ) → i < f.m → 0 < total (at l.basis f.q i) f.q
  pub few : f.m ≤ 1000000000

pub record Ready (f : Frame) (l : Lent) (table : List ℕ) (x : Sides) (s : Next) : Type 0 where
  pub given : Given f l
  pub roomy : Roomy f table x
  pub few : s.rows ≤ f.room
  pub rows : SmallTable f.q s.rows table
  pub valued : Valued (equation f l) f.q s.rows table x.values
  pub worded : Worded f.q s.rows table x.words
  pub measured : Measured f.q s.rows table x.degrees
  pub marked : AllMarked f.q (equation f l) s.rows table x.marks
  pub ranked : Ranked s.rows x.values x.degrees
  pub low : (i : ℕ) → i < s.rows → degree_of x.degrees i ≤ s.degree
  pub early : s.steps ≤ step_limit
  pub falling : Falling s.rows x.degrees s.degree s.upper s.first
  -- no row of the basis of this degree is left
  pub spent : s.more ≡ false → f.m ≤ due_row f.q f.m (at l.basis f.q) (stage_of f table s)

-- ---- what a turn leaves

-- the tables beside the rows: as long as before, and from row n on as they were
pub record Beyond (n : ℕ) (old new : Sides) : Type 0 where
  pub values : Kept (pos 0) n old.values new.values
  pub words : Kept 0 n old.words new.words
  pub degrees : Kept 0 n old.degrees new.degrees
  pub marks : Kept 0 n old.marks new.marks
  pub mothers : Kept 0 n old.mothers new.mothers

-- the first n numbers of a table are as they were
pub record Unchanged (n : ℕ) (old new : List ℕ) : Type 0 where
  pub each : (i : ℕ) → i < n → get_or new i 0 ≡ get_or old i 0

pub unchanged : {n : ℕ} {table : List ℕ} → Unchanged n table table
unchanged = record { each = λ i l. refl }

pub unchanged_set : (table : List ℕ) (n v : ℕ) → Unchanged n table (set table n v)
unchanged_set table n v = record { each = λ i l. get_or-set_other table n i v 0 (omega arith) }

-- the stage's own turn
abbrev pub turn_of : Frame → Lent → List ℕ → Next → Turned
turn_of f l table s = turn f.q (equation f l) f.m (at l.basis f.q) f.room (stage_of f table s)

-- A turn that goes on leaves what the stage's turn leaves; one that stops or ends leaves everything as it was.
pub record Gone (f : Frame) (l : Lent) (t : Turned) (n : ℕ) (table : List ℕ) (x : Sides) (s' : Next) (table' : List ℕ) (x' : Sides) : Type 0 where
  pub is : t ≡ goes (stage_of f table' s')
  pub long : length table' ≡ length table
  pub rises : n ≤ s'.rows
  pub ready : Ready f l table' x' s'
  pub beyond : Beyond s'.rows x x'
  pub mothers : Unchanged n x.mothers x'.mothers

pub record Still (t u : Turned) (table table' : List ℕ) (x x' : Sides) : Type 0 where
  pub is : t ≡ u
  pub same : table' ≡ table
  pub aside : x' ≡ x

-- the turn that stops so
abbrev pub stopped : Stop → Turned
stopped Late = stops 14
stopped Large = stops 12
stopped Full = stops 31
stopped Ends = ends

abbrev pub Left : (f : Frame) (l : Lent) (t : Turned) (n : ℕ) (table : List ℕ) (x : Sides) → Result Next Stop → (table' : List ℕ) (x' : Sides) → Type 0
Left f l t n table x (Ok s') table' x' = Gone f l t n table x s' table' x'
Left f l t n table x (Err e) table' x' = Still t (stopped e) table table' x x'

-- ---- rows appended and passed

pub beyond_none : {n : ℕ} {x : Sides} → Beyond n x x
beyond_none = record { values = kept_none; words = kept_none; degrees = kept_none; marks = kept_none; mothers = kept_none }

module _ {f : Frame} {l : Lent} {table : List ℕ} {x : Sides} {s : Next} (r : Ready f l table x s) where
  -- nothing appended, in the same degree, of which no row of the basis is left: another place, one step more
  pub passed_ready : f.m ≤ due_row f.q f.m (at l.basis f.q) (stage_of f table s) → (upper lower steps first : ℕ) → steps ≤ step_limit
      → Falling s.rows x.degrees s.degree upper first
      → Ready f l table x (next_of s.rows s.taken s.degree upper lower steps first false)
  passed_ready none upper lower steps first early falling =
      record {
        given = r.given;
        roomy = r.roomy;
        few = r.few;
        rows = r.rows;
        valued = r.valued;
        worded = r.worded;
        measured = r.measured;
        marked = r.marked;
        ranked = r.ranked;
        low = r.low;
        early = early;
        falling = falling;
        spent = λ e. none;
      }

  -- a higher degree begins
  pub raised_ready : (d steps : ℕ) → s.degree ≤ d → steps ≤ step_limit → Ready f l table x (next_of s.rows 0 d 0 0 steps s.rows true)
  raised_ready d steps more early =
      record {
        given = r.given;
        roomy = r.roomy;
        few = r.few;
        rows = r.rows;
        valued = r.valued;
        worded = r.worded;
        measured = r.measured;
        marked = r.marked;
        ranked = r.ranked;
        low = λ i l. omega (arith, r.low i l);
        early = early;
        falling = falling_start s.rows x.degrees d 0;
        spent = λ e. never (sym e);
      }

  module _ (row : ℕ → ℕ) (v : ℤ) (w mark mother : ℕ) (room : s.rows < f.room) (value_is : v ≡ value (equation f l) f.q row)
      (word_is : w ≡ word_of f.q row)
      (degree_is : total row f.q ≡ s.degree) (some : 0 < s.degree) (small : (j : ℕ) → j < f.q → row j ≤ most_component)
      (mark_is : mark < no_mark → Marked f.q (equation f l) s.rows (at table f.q) row mark) where
    abbrev pub grown_table : List ℕ
    grown_table = write_to f.q table (s.rows * f.q) row

    abbrev pub grown_sides : Sides
    grown_sides =
        sides_of (set x.values s.rows v) (set x.words s.rows w) (set x.degrees s.rows s.degree) (set x.marks s.rows mark)
        (set x.mothers s.rows mother)

    fits : s.rows * f.q + f.q ≤ length table
    fits = omega (arith, r.roomy.fits, row_fits f.q s.rows f.room room)

    same_rows : (i : ℕ) → i < s.rows → Same f.q (at grown_table f.q i) (at table f.q i)
    same_rows = append_kept f.q table s.rows row

    grown_marked : AllMarked f.q (equation f l) (s.rows + 1) grown_table (set x.marks s.rows mark)
    grown_marked =
        record {
          long = omega (arith, length-set x.marks s.rows mark, r.roomy.marked);
          each = λ i il is. elim (split i s.rows) [
            | inl h ↦
                let e = get_or-set_other x.marks s.rows i mark 0 (omega arith) in
                rw e (marked_more f.q (equation f l) s.rows (s.rows + 1) (at table f.q) (at grown_table f.q) (at table f.q i)
                (at grown_table f.q i) (get_or x.marks i 0) (get_or x.marks i 0) (omega arith) same_rows (same_rows i h) (omega arith)
                (r.marked.each i h (rw e at is)))
            | inr h ↦
                let g : i ≡ s.rows = omega arith in
                let e = get_or-set_same x.marks s.rows mark 0 (omega (arith, r.roomy.marked)) in
                rw (g, e) (marked_more f.q (equation f l) s.rows (s.rows + 1) (at table f.q) (at grown_table f.q) row
                (at grown_table f.q s.rows) mark mark (omega arith) same_rows (append_new f.q table s.rows row fits) (omega arith)
                (mark_is (rw (g, e) at is)))
          ];
        }

    grown_degrees : (i : ℕ) → i < s.rows → degree_of (set x.degrees s.rows s.degree) i ≡ degree_of x.degrees i
    grown_degrees i l = get_or-set_other x.degrees s.rows i s.degree 0 (omega arith)

    new_degree : degree_of (set x.degrees s.rows s.degree) s.rows ≡ s.degree
    new_degree = get_or-set_same x.degrees s.rows s.degree 0 (omega (arith, r.roomy.measured))

    -- a number of each row, from the old ones and the new one
    each_degree : (P : ℕ → Type 0) → ((i : ℕ) → i < s.rows → P (degree_of x.degrees i)) → P s.degree → (i : ℕ) → i < s.rows + 1
        → P (degree_of (set x.degrees s.rows s.degree) i)
    each_degree P old new i il =
        elim (split i s.rows) [ inl h ↦ rw (grown_degrees i h) (old i h) | inr h ↦ let e : i ≡ s.rows = omega arith in rw (e, new_degree) new ]

    degree_low : s.degree ≤ 32000000
    degree_low = omega (arith, degree_small f.q row r.rows.few small)

    grown_ranked : Ranked (s.rows + 1) (set x.values s.rows v) (set x.degrees s.rows s.degree)
    grown_ranked =
        record {
          valued = omega (arith, length-set x.values s.rows v, r.roomy.valued);
          measured = omega (arith, length-set x.degrees s.rows s.degree, r.roomy.measured);
          sorted = λ i k ik kn. elim (split k s.rows) [
            | inl h ↦ rw (grown_degrees i (omega arith), grown_degrees k h) (r.ranked.sorted i k ik h)
            | inr h ↦
                let e : k ≡ s.rows = omega arith in
                rw (e, new_degree) (each_degree (λ y. y ≤ s.degree) r.low (omega arith) i (omega arith))
          ];
          some = each_degree (λ y. 1 ≤ y) r.ranked.some (omega arith);
          low = each_degree (λ y. y ≤ 32000000) r.ranked.low degree_low;
        }

    pub grown_roomy : Roomy f grown_table grown_sides
    grown_roomy =
        record {
          fits = omega (arith, r.roomy.fits, write_length row table (s.rows * f.q) f.q);
          valued = omega (arith, r.roomy.valued, length-set x.values s.rows v);
          worded = omega (arith, r.roomy.worded, length-set x.words s.rows w);
          measured = omega (arith, r.roomy.measured, length-set x.degrees s.rows s.degree);
          marked = omega (arith, r.roomy.marked, length-set x.marks s.rows mark);
          mothered = omega (arith, r.roomy.mothered, length-set x.mothers s.rows mother);
          few = r.roomy.few;
        }

    pub grown_ready : (taken upper lower steps first : ℕ) (more : Bool) → steps ≤ step_limit
        → Falling (s.rows + 1) (set x.degrees s.rows s.degree) s.degree upper first
        → (more ≡ false → f.m ≤ due_row f.q f.m (at l.basis f.q) (stage_of f grown_table
        (next_of (s.rows + 1) taken s.degree upper lower steps first more)))
        → Ready f l grown_table grown_sides (next_of (s.rows + 1) taken s.degree upper lower steps first more)
    grown_ready taken upper lower steps first more early falling spent =
        record {
          given = r.given;
          roomy = grown_roomy;
          few = omega arith;
          rows = append_small f.q table s.rows row fits small r.rows;
          valued = append_valued f.q table s.rows row fits v (omega (arith, r.roomy.valued)) value_is r.valued;
          worded = append_worded f.q table s.rows row fits w (omega (arith, r.roomy.worded)) word_is r.worded;
          measured = append_measured f.q table s.rows row fits s.degree (omega (arith, r.roomy.measured)) (sym degree_is) r.measured;
          marked = grown_marked;
          ranked = grown_ranked;
          low = each_degree (λ y. y ≤ s.degree) r.low (omega arith);
          early = early;
          falling = falling;
          spent = spent;
        }

    pub grown_falling : {upper first : ℕ} → Falling s.rows x.degrees s.degree upper first
        → Falling (s.rows + 1) (set x.degrees s.rows s.degree) s.degree upper first
    grown_falling g = falling_grown g (set x.degrees s.rows s.degree) grown_degrees new_degree

    pub grown_beyond : Beyond (s.rows + 1) x grown_sides
    grown_beyond =
        record {
          values = kept_more s.rows v (omega arith) kept_none;
          words = kept_more s.rows w (omega arith) kept_none;
          degrees = kept_more s.rows s.degree (omega arith) kept_none;
          marks = kept_more s.rows mark (omega arith) kept_none;
          mothers = kept_more s.rows mother (omega arith) kept_none;
        }
