-- Theorems about what specs/Resuming.antt defines. Assumes nothing.
use Rattle.std.specs.Prelude.{◌≡◌, Bool, true, false, ◌&&◌, List, ℕ, zero, suc, ◌+◌, ◌*◌, ◌^◌, ◌-◌, ◌≤◌, ◌<◌, T, leb, ltb, ℤ, get_or, length}
use Rattle.std.proofs.Math.Path.{sym, ap}
use Rattle.std.proofs.Common.{◌∙◌, inl, inr, mul-le-mul_right, arith, T_not, lt→ltb, ltb→lt}
use Rattle.std.proofs.Math.Dec.{leb→le}
use Rattle.linear.proofs.Cases.{split}
use Rattle.linear.proofs.TestLaws.{all_at, and_parts}
use Rattle.linear.specs.Tests.{all_to}
use Rattle.linear.specs.Tuples.{total}
use Rattle.definitions.specs.Refusals.{step_limit}
use Rattle.definitions.specs.Tables.{at, frozen}
use Rattle.laws.proofs.TableLaws.{row_fits}
use Rattle.engine_spec.specs.Beside.{SmallEquation, SmallTable, coefficient_limit}
use Rattle.engine_spec.specs.Calls.{coefficients_small, in_order, is_rising, is_row, marks_in_order}
use Rattle.engine_spec.specs.Engine.{Work, onward}
use Rattle.engine_spec.specs.Reduction.{is_small}
use Rattle.engine_spec.proofs.ReductionLaws.{small_from}
use Rattle.engine_spec.specs.Stage.{outcome, row}
use Rattle.engine_beside.specs.Degrees.{degree_small}
use Rattle.engine_beside.specs.Writing.{Kept}
use Rattle.engine_rows.specs.Marking.{MarksWritten}
use Rattle.engine_search.specs.Falls.{falling_start}
use Rattle.engine_search.specs.Places.{Ranked}
use Rattle.engine_reduce.specs.Sums.{never}
use Rattle.engine_stage.specs.Running.{RunLeft, answer_of}
use Rattle.engine_stage.specs.Standing.{Beyond, Given, Ready, Roomy, Sides, lent_of}
use Rattle.engine_stage.specs.declared.stages.Ran.{Ran}
use Rattle.engine_beside.specs.Records.{outcome_of, work_of}
use Rattle.engine_beside.specs.declared.Outcome as made
use Rattle.engine_beside.specs.declared.Record.{Record}
use Rattle.engine_ends.specs.Closing.{Closing}
use Rattle.engine_resume.specs.EngineLaws.{ended}
use Rattle.engine_resume.proofs.EngineLaws.{run_by_stage}
use Rattle.engine_resume.specs.Resuming.{Advanced, Entered, Ordered, ResumedTo, Writable, Written, f, frame_of, record_at, rows_after, start_of}

pub ordered : (p q most room : ℕ) (w : Work) → in_order p q most room w ≡ true → Ordered p q most room w
unfolding in_order marks_in_order coefficients_small
ordered p q most room w e =
    let t : T (in_order p q most room w) = rw e tt in
    let (a, e₁) = and_parts (leb w.count most && leb w.stage.rows room) _ t in
    let (a₀, a₁) = and_parts (leb w.count most) _ a in
    let (b, e₂) = and_parts (leb w.stage.steps step_limit && ltb w.done (2 ^ p)) _ e₁ in
    let (b₀, b₁) = and_parts (leb w.stage.steps step_limit) _ b in
    let (c, e₃) = and_parts (marks_in_order p w.done w.equation) _ e₂ in
    let (c₀, c₁) = and_parts (leb w.equation p) _ c in
    let (d, e₄) = and_parts (coefficients_small (p * q) w.equations) _ e₃ in
    let (f, e₅) = and_parts (all_to w.count (λ i. is_row q (at w.basis q i))) _ e₄ in
    let (g, h) = and_parts (all_to w.stage.rows (λ i. is_small q (row q w.stage i))) _ e₅ in
    record {
      few = leb→le w.count most a₀;
      fits = leb→le w.stage.rows room a₁;
      early = leb→le w.stage.steps step_limit b₀;
      marks = ltb→lt w.done (2 ^ p) b₁;
      free = λ l x. T_not (ltb w.equation p && frozen w.done w.equation) c₁
          (both (ltb w.equation p) (frozen w.done w.equation) (lt→ltb w.equation p l) x);
      coefs = λ k l. leb→le _ coefficient_limit (all_at (p * q) _ d k l);
      basis = λ i l. all_at w.count _ f i l;
      rows = λ i l. all_at w.stage.rows _ g i l;
      rising = h;
    }
  where
    both : (x y : Bool) → T x → T y → T (x && y)
    both true y h k = k
    both false y h k = absurd h

pub marks_kept : {q n : ℕ} {table : List ℕ} {values : List ℤ} {marks marks' : List ℕ} → MarksWritten q n table values marks marks' → Kept 0 n marks marks'
marks_kept w = record { long = w.same_length; rest = w.beyond }

module _ {p q most room : ℕ} {equations : List ℤ} {basis sizes table : List ℕ} {x : Sides} {r : Record}
    (e : Entered p q most room equations basis sizes table x r) where
  equation_small : SmallEquation q equations (r.equation * q)
  equation_small =
      record {
        unknowns = e.size.unknowns;
        whole = omega (arith, e.whole, row_fits q r.equation p e.going);
        small = λ j l. e.order.coefs (r.equation * q + j) (omega (arith, row_fits q r.equation p e.going));
      }

  basis_small : SmallTable q r.count.0 basis
  basis_small =
      record {
        few = e.size.unknowns;
        whole = omega (arith, e.long, mul-le-mul_right q e.order.few);
        small = λ i j l jq. small_from q (at basis q i) (row_parts i l).0 j jq;
      }
    where
      row_parts : (i : ℕ) → i < r.count.0 → T (is_small q (at basis q i)) × T (ltb 0 (total (at basis q i) q))
      row_parts i l = unfold is_row in (and_parts (is_small q (at basis q i)) _ (e.order.basis i l))

  positive : (i : ℕ) → i < r.count.0 → 0 < total (at basis q i) q
  positive i l = ltb→lt 0 (total (at basis q i) q) (unfold is_row in (and_parts (is_small q (at basis q i)) _ (e.order.basis i l)).1)

  rows_small : SmallTable q r.rows table
  rows_small =
      record {
        few = e.size.unknowns;
        whole = omega (arith, e.fits.rows, mul-le-mul_right q e.order.fits);
        small = λ i j l jq. small_from q (at table q i) (e.order.rows i l) j jq;
      }

  pub writable : Writable equations (r.equation * q) basis r.count.0 (length sizes) table r.rows q (length x.values) (length x.words)
      (length x.degrees)
      (length x.marks) (length x.mothers)
  writable =
      record {
        small = equation_small;
        given = basis_small;
        sized = omega (arith, e.sized, e.order.few);
        rows = rows_small;
        valued = omega (arith, e.fits.valued, e.order.fits);
        worded = omega (arith, e.fits.worded, e.order.fits);
        measured = omega (arith, e.fits.measured, e.order.fits);
        marked = omega (arith, e.fits.marked, e.order.fits);
        mothered = omega (arith, e.fits.mothered, e.order.fits);
      }

  steps : (i : ℕ) → i < r.rows → (0 < (f e) i) × ((f e) (i - 1) ≤ (f e) i) × ((f e) i ≤ r.degree)
  unfolding is_rising
  steps i l =
      let (a, h) = and_parts (ltb 0 ((f e) i)) _ (all_at r.rows _ e.order.rising i l) in
      let (b, c) = and_parts (leb ((f e) (i - 1)) ((f e) i)) _ h in
      (ltb→lt 0 ((f e) i) a, leb→le ((f e) (i - 1)) ((f e) i) b, leb→le ((f e) i) r.degree c)

  climbs : (i k : ℕ) → i ≤ k → k < r.rows → (f e) i ≤ (f e) k
  climbs i zero l kn = let s : i ≡ 0 = omega arith in rw s (omega arith)
  climbs i (suc k) l kn =
      elim (split i (suc k)) [
        | inl m ↦ let before : suc k - 1 ≡ k = omega arith in omega (arith, climbs i k (omega arith) (omega arith), rw before at (steps (suc k) kn).1)
        | inr m ↦ let s : i ≡ suc k = omega arith in rw s (omega arith)
      ]

  module _ {sizes' : List ℕ} {x' : Sides} (w : Written equations (r.equation * q) basis r.count.0 table r.rows q sizes x sizes' x') where
    entered_given : Given (frame_of q room r) (lent_of equations basis sizes')
    entered_given =
        record {
          some = e.size.some;
          small = equation_small;
          rows = basis_small;
          sized = w.size;
          positive = positive;
          few = omega (arith, e.order.few, e.capped);
        }

    entered_roomy : Roomy (frame_of q room r) table x'
    entered_roomy =
        record {
          fits = e.fits.rows;
          valued = omega (arith, e.fits.valued, w.values.long);
          worded = omega (arith, e.fits.worded, w.words.long);
          measured = omega (arith, e.fits.measured, w.degrees.long);
          marked = omega (arith, e.fits.marked, w.marks.long);
          mothered = rw w.mothers e.fits.mothered;
          few = e.fits.few;
        }

    entered_ranked : Ranked r.rows x'.values x'.degrees
    entered_ranked =
        record {
          valued = w.valued.long;
          measured = w.measured.long;
          sorted = λ i k ik kn. rw (w.measured.each i (omega arith), w.measured.each k kn) (climbs i k ik kn);
          some = λ i l. rw (w.measured.each i l) (steps i l).0;
          low = λ i l. rw (w.measured.each i l) (degree_small q (at table q i) e.size.unknowns (λ j jq. rows_small.small i j l jq));
        }

    pub entered_ready : Ready (frame_of q room r) (lent_of equations basis sizes') table x' (start_of r)
    entered_ready =
        record {
          given = entered_given;
          roomy = entered_roomy;
          few = e.order.fits;
          rows = rows_small;
          valued = w.valued;
          worded = w.worded;
          measured = w.measured;
          marked = w.marked;
          ranked = entered_ranked;
          low = λ i l. rw (w.measured.each i l) (steps i l).2;
          early = e.order.early;
          falling = falling_start r.rows x'.degrees r.degree r.upper;
          spent = λ h. never (sym h);
        }

    pub advanced : {budget : ℕ} {a : Ran} {table' : List ℕ} {x'' : Sides}
        → RunLeft (frame_of q room r) (lent_of equations basis sizes') budget table x' (start_of r) a table' x''
        → Advanced q room budget equations basis sizes table x r a sizes' table' x''
    advanced h =
        record {
          is = h.is;
          ready = h.ready;
          rises = h.rises;
          beyond = after h.rises h.beyond;
          mothers = record { each = λ i l. h.mothers.each i l ∙ ap (λ y. get_or y i 0) w.mothers };
          kept = w.kept;
        }
      where
        kept_then : {A : Type 0} {z : A} {n m : ℕ} {a b c : List A} → n ≤ m → Kept z n a b → Kept z m b c → Kept z m a c
        kept_then l p q = record { long = q.long ∙ p.long; rest = λ i h. q.rest i h ∙ p.rest i (omega arith) }

        after : {m : ℕ} {x'' : Sides} → r.rows ≤ m → Beyond m x' x'' → Beyond m x x''
        after l b =
            record {
              values = kept_then l w.values b.values;
              words = kept_then l w.words b.words;
              degrees = kept_then l w.degrees b.degrees;
              marks = kept_then l w.marks b.marks;
              mothers = record { long = b.mothers.long ∙ ap length w.mothers; rest = λ i h. b.mothers.rest i h ∙ ap (λ y. get_or y i 0) w.mothers };
            }

  module _ {budget : ℕ} {a : Ran} {sizes' table' : List ℕ} {x' : Sides} (h : Advanced q room budget equations basis sizes table x r a sizes' table' x') where
    -- the end of the stage may be written
    pub closing : Closing p q most equations basis table' x'.values (record_at r a.next)
    closing =
        record {
          valued = h.ready.valued;
          whole = h.ready.rows.whole;
          long = e.long;
          ends =
              record {
                few = e.size.equations;
                going = e.going;
                marks = e.order.marks;
                free = e.order.free e.going;
                early = h.ready.early;
              };
        }

    pub resumed : {basis' : List ℕ} {o : made.Outcome}
        → outcome_of o equations basis' table' ≡ ended p q most (answer_of a.stopped) (work_of equations basis table' (record_at r a.next))
        → ResumedTo p q most room budget equations basis sizes table x r o basis' sizes' table' x'
    unfolding onward
    resumed g =
        record {
          outcome = g ∙ sym (ap (λ y. ended p q most y.answer (onward y.stage (work_of equations basis table r))) h.is)
              ∙ sym (run_by_stage p q most room budget (work_of equations basis table r));
          few = rw rows_are h.ready.few;
          sided =
              rw rows_are
              (record { valued = h.ready.valued; worded = h.ready.worded; measured = h.ready.measured; marked = h.ready.marked; beyond = h.beyond });
          mothers = h.mothers;
          sized = h.ready.given.sized;
          kept = h.kept;
        }
      where
        rows_are : rows_after q room budget (work_of equations basis table r) ≡ a.next.rows
        rows_are = ap (λ y. y.stage.rows) h.is
