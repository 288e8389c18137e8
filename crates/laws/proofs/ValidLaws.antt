-- The starts leave the record and the tables in order, and so does a step: what refusal 6 looks for does not come about by itself, and no step needs a
-- row above q. Assumes nothing.
use Rattle.std.specs.Prelude.{◌≡◌, Bool, List, ℕ, suc, ◌+◌, ◌*◌, ◌-◌, ◌≤◌, ◌<◌}
use Rattle.std.proofs.Math.Path.{refl, ap}
use Rattle.std.proofs.Common.{◌∙◌, inl, inr, le-div_iff_mul-le, mul-le-mul, arith, leb→le}
use Rattle.std.proofs.Math.Bool.{true, false}
use Rattle.std.proofs.Math.Decide.{ℕ_discrete}
use Rattle.std.proofs.Math.Dec.{T}
use Rattle.std.proofs.Math.ListN.{length}
use Rattle.linear.proofs.Cases.{split}
use Rattle.linear.proofs.TestLaws.{count_at}
use Rattle.linear.specs.Tests.{count_to}
use Rattle.linear.specs.TupleLaws.{unit_other, unit_same}
use Rattle.linear.proofs.TupleLaws.{total_most}
use Rattle.linear.specs.Tuples.{Same, raise, unit}
use Rattle.definitions.specs.Input.{Extra, Input, alone, rights, walk_system}
use Rattle.definitions.specs.Refusals.{deepest_limit}
use Rattle.definitions.specs.Step.{children_to, deeper, enlist, enlist_in, grown, level, listed, makes, pick, row_of, row_width, step, to_second, top}
use Rattle.definitions.specs.Step.{top_marks}
use Rattle.definitions.specs.Step.{width, within}
use Rattle.definitions.specs.System.{Kind, System, above, capped, most_unknowns, plain, solves}
use Rattle.definitions.specs.Tables.{State, capacity, frozen, units_start}
use Rattle.laws.proofs.MarkLaws.{marks_count, marks_few, marks_fit, ones_count, ones_fit}
use Rattle.laws.specs.RefusalLaws.{Going, Inside, Room, RoomIn, RowInOrder, SecondFits, Shaped, Valid}
use Rattle.laws.proofs.StepLaws.{children_keep, children_length, children_row, makes_free, makes_within}
use Rattle.laws.proofs.TableLaws.{units_length, units_row, write_length}

-- the shape does not depend on what the tables hold
pub shaped_same : {m : System} {s t : State} → Shaped m s → length t.stack ≡ length s.stack → Shaped m t
shaped_same g e =
    record {
      p_some = g.p_some;
      p_few = g.p_few;
      q_some = g.q_some;
      q_few = g.q_few;
      wide = g.wide;
      coefs = g.coefs;
      stack = rw e g.stack;
      range = g.range;
      limit_some = g.limit_some;
      limit_few = g.limit_few;
    }

-- a row of the list has no more than 16 numbers
pub width_few : (k : Kind) (q : ℕ) → q ≤ most_unknowns → row_width k q ≤ most_unknowns
width_few plain q few = few
width_few capped q few = omega arith
width_few (above f) q few = few

-- n rows of w numbers take no more than a table has that has room for them
pub rows_fit : (w n : ℕ) (table : List ℕ) → 0 < w → n ≤ capacity w table → n * w ≤ length table
rows_fit w n table some l = (le-div_iff_mul-le {k = w} {x = n} {y = length table} some).0 l

-- found rows take no more than the list has
pub found_fits : (m : System) (s : State) → Valid m s → s.run.found * width m ≤ length s.list
found_fits m s v = rows_fit (width m) s.run.found s.list v.shaped.wide v.ordered.found

-- where there is room for one more row of w numbers, it fits
pub next_fits : (w n : ℕ) (table : List ℕ) → 0 < w → n < capacity w table → n * w + w ≤ length table
next_fits w n table some l = omega (arith, rows_fit w (suc n) table some l)

-- what listing a solution leaves, in whichever list
pub record Enlists (w depth : ℕ) (s t : State) : Type 0 where
  pub stack : t.stack ≡ s.stack
  pub kind : t.run.kind ≡ s.run.kind
  pub height : t.run.height ≡ level s
  pub found : s.run.found ≤ capacity w s.list → t.run.found ≤ capacity w t.list
  pub found2 : s.run.found2 ≤ capacity w s.second → t.run.found2 ≤ capacity w t.second
  pub few : t.run.found ≤ s.run.found + 1
  pub few₂ : t.run.found2 ≤ s.run.found2 + 1
  pub steps : t.run.steps ≡ s.run.steps + 1
  pub deepest : t.run.deepest ≡ depth
  pub room : length t.list ≡ length s.list
  pub room₂ : length t.second ≡ length s.second

enlists_in : (b : Bool) (w : ℕ) (s : State) (y : ℕ → ℕ) (deepest : ℕ) → RoomIn b w s → Enlists w deepest s (enlist_in b w s y deepest)
enlists_in false w s y deepest room =
    let same = write_length y s.list (s.run.found * w) w in
    record {
      stack = refl;
      kind = refl;
      height = refl;
      found = λ h. rw same (omega arith);
      found2 = λ h. h;
      few = omega arith;
      few₂ = omega arith;
      steps = refl;
      deepest = refl;
      room = same;
      room₂ = refl;
    }
enlists_in true w s y deepest room =
    let same = write_length y s.second (s.run.found2 * w) w in
    record {
      stack = refl;
      kind = refl;
      height = refl;
      found = λ h. h;
      found2 = λ h. rw same (omega arith);
      few = omega arith;
      few₂ = omega arith;
      steps = refl;
      deepest = refl;
      room = refl;
      room₂ = same;
    }

pub enlists : (k : Kind) (q : ℕ) (s : State) (x : ℕ → ℕ) → Room k q s x → Enlists (row_width k q) (deeper q s x) s (enlist k q s x)
enlists k q s x room = enlists_in (to_second k x) (row_width k q) s (row_of k x) (deeper q s x) room

-- the second list's count stays within its room
second_enlisted : (k : Kind) (q : ℕ) {depth : ℕ} {s t : State} → Enlists (row_width k q) depth s t → SecondFits k q s → SecondFits k q t
second_enlisted plain q e h = tt
second_enlisted capped q e h = e.found2 h
second_enlisted (above f) q e h = e.found2 h

-- ---- what 6 asks of a tuple besides its components

pub inside_same : (k : Kind) (q : ℕ) {x y : ℕ → ℕ} → 0 < q → Same q y x → Inside k q x → Inside k q y
inside_same plain q some e h = tt
inside_same capped q some e h = omega (arith, e 0 some)
inside_same (above f) q some e h = λ j l. omega (arith, e j l, h j l)

-- a child of a tuple that is inside, and that the cap lets be
inside_raised : (k : Kind) (q : ℕ) (x : ℕ → ℕ) (j : ℕ) → T (within k (raise x j)) → Inside k q x → Inside k q (raise x j)
inside_raised plain q x j w h = tt
inside_raised capped q x j w h = leb→le (raise x j 0) 1 w
inside_raised (above f) q x j w h = λ i l. omega (arith, h i l)

second_kept : (k : Kind) (q : ℕ) (s t : State) → t.second ≡ s.second → t.run.found2 ≡ s.run.found2 → SecondFits k q s → SecondFits k q t
second_kept plain q s t e f h = tt
second_kept capped q s t e f h = rw (e, f) h
second_kept (above g) q s t e f h = rw (e, f) h

-- ---- a step

module _ (m : System) (s : State) (v : Valid m s) (h : 0 < s.run.height) where
  pub top_row : RowInOrder m.kind m.limit m.q s.stack (level s)
  top_row = v.ordered.rows (level s) (omega arith)

  free : (i : ℕ) → i < m.q → T (makes m s i) → ¬ (T (frozen (top_marks m s) i))
  free i iq mi = makes_free m s i mi

  -- the children are no more than the free unknowns of the top: no step needs a row beyond the last (document 02, Job 11)
  pub children_few : level s + count_to m.q (makes m s) ≤ m.q
  children_few = omega (arith, top_row.marked, marks_few (top_marks m s) (makes m s) m.q free)

  -- the top's sum is no more than what 6 allows
  deeper_few : deeper m.q s (top m s) ≤ deepest_limit
  deeper_few =
      let sum = total_most (top m s) m.q m.limit top_row.small in
      let most = mul-le-mul v.shaped.q_few v.shaped.limit_few in
      omega (arith, v.ordered.shallow, sum, most)

  raised_small : (j : ℕ) → top m s j < m.limit → (i : ℕ) → i < m.q → raise (top m s) j i ≤ m.limit
  raised_small j less i iq =
      elim (ℕ_discrete i j) [
        | yes e ↦ rw e (omega (arith, unit_same j))
        | no ne ↦ omega (arith, unit_other j i ne, top_row.small i iq)
      ]

  child_row : (j : ℕ) → j < m.q → T (makes m s j) → top m s j < m.limit
      → RowInOrder m.kind m.limit m.q (children_to m.q m s) (level s + count_to j (makes m s))
  child_row j jq mj less =
      let r = children_row m s v.shaped.stack children_few m.q (omega arith) j jq mj in
      record {
        marked = rw r.marks_are (omega (arith, marks_count (top_marks m s) (makes m s) m.q free j (omega arith), top_row.marked));
        fitting = rw r.marks_are (marks_fit (top_marks m s) (makes m s) m.q free j (omega arith) top_row.fitting);
        small = λ i iq. rw (r.tuple i iq) (raised_small j less i iq);
        is_inside =
            inside_same m.kind m.q v.shaped.q_some r.tuple
            (inside_raised m.kind m.q (top m s) j (makes_within m s j mj) top_row.is_inside);
      }

  kept_row : (l : ℕ) → l < level s → RowInOrder m.kind m.limit m.q (children_to m.q m s) l
  kept_row l lr =
      let r = v.ordered.rows l (omega arith) in
      let same = children_keep m s m.q l m.q lr (omega arith) in
      record {
        marked = rw same r.marked;
        fitting = rw same r.fitting;
        small = λ j jq. rw (children_keep m s m.q l j lr (omega arith)) (r.small j jq);
        is_inside = inside_same m.kind m.q v.shaped.q_some (λ j jq. children_keep m s m.q l j lr (omega arith)) r.is_inside;
      }

  grown_row : ((j : ℕ) → j < m.q → T (makes m s j) → top m s j < m.limit) → (l : ℕ) → l < level s + count_to m.q (makes m s)
      → RowInOrder m.kind m.limit m.q (children_to m.q m s) l
  grown_row less l lh =
      elim (split l (level s)) [
        | inl lr ↦ kept_row l lr
        | inr rl ↦
            let (j, jq, mj, e) = count_at (makes m s) m.q (l - level s) (omega arith) in
            let here : level s + count_to j (makes m s) ≡ l = omega arith in
            rw here at (child_row j jq mj (less j jq mj))
      ]

  listed_valid : Going m s → Room m.kind m.q s (top m s) → Valid m (listed m s)
  unfolding listed
  listed_valid g room =
      let e = enlists m.kind m.q s (top m s) room in
      record {
        shaped = shaped_same v.shaped (ap length e.stack);
        ordered =
            record {
              kind = e.kind ∙ v.ordered.kind;
              height = omega (arith, v.ordered.height, e.height);
              found = e.found v.ordered.found;
              early = omega (arith, g.early, e.steps);
              shallow = rw e.deepest deeper_few;
              found2 = second_enlisted m.kind m.q e v.ordered.found2;
              rows = λ k lh. rw e.stack (v.ordered.rows k (omega (arith, rw e.height at lh)));
            };
      }

  grown_valid : Going m s → ((j : ℕ) → j < m.q → T (makes m s j) → top m s j < m.limit) → Valid m (grown m s)
  unfolding grown
  grown_valid g less =
      record {
        shaped = shaped_same v.shaped (children_length m s m.q);
        ordered =
            record {
              kind = v.ordered.kind;
              height = children_few;
              found = v.ordered.found;
              early = omega (arith, g.early);
              shallow = deeper_few;
              found2 = second_kept m.kind m.q s _ refl refl v.ordered.found2;
              rows = grown_row less;
            };
      }

  pub step_valid : Going m s → Valid m (step m s)
  unfolding step
  step_valid g = go (solves m (top m s)) g.roomy g.small
    where
      go : (b : Bool) → (T b → Room m.kind m.q s (top m s)) → (¬ (T b) → (j : ℕ) → j < m.q → T (makes m s j) → top m s j < m.limit)
          → Valid m (pick b (listed m s) (grown m s))
      go true room less = listed_valid g (room tt)
      go false room less = grown_valid g (less (λ y. y))

  pub step_length : Going m s → length (step m s).stack ≡ length s.stack
  unfolding step listed grown
  step_length g = go (solves m (top m s)) g.roomy
    where
      go : (b : Bool) → (T b → Room m.kind m.q s (top m s)) → length (pick b (listed m s) (grown m s)).stack ≡ length s.stack
      go true room = ap length (enlists m.kind m.q s (top m s) (room tt)).stack
      go false room = children_length m s m.q

-- ---- the starts

pub unit_small : (l j : ℕ) → unit l j ≤ 1
unit_small l j = elim (ℕ_discrete j l) [ yes e ↦ rw e (omega (arith, unit_same l)) | no ne ↦ omega (arith, unit_other l j ne) ]

module _ (m : System) (s : State) (g : Shaped m s) where
  second_none : (k : Kind) (q : ℕ) (t : State) → t.run.found2 ≡ 0 → SecondFits k q t
  second_none plain q t e = tt
  second_none capped q t e = omega arith
  second_none (above f) q t e = omega arith

  pub units_valid : ((l : ℕ) → Inside m.kind m.q (unit l)) → Valid m (units_start m s)
  unfolding units_start
  units_valid within-units =
      record {
        shaped = shaped_same g (units_length m.q s.stack m.q);
        ordered =
            record {
              kind = refl;
              height = omega arith;
              found = omega arith;
              early = omega arith;
              shallow = omega arith;
              found2 = second_none m.kind m.q _ refl;
              rows = λ l lq.
                  let r = units_row m.q s.stack m.q (omega arith) g.stack l lq in
                  record {
                    marked = rw r.marks_are (ones_count l m.q (omega arith));
                    fitting = rw r.marks_are (ones_fit l m.q lq);
                    small = λ j jq. rw (r.tuple j jq) (omega (arith, unit_small l j, g.limit_some));
                    is_inside = inside_same m.kind m.q g.q_some r.tuple (within-units l);
                  };
            };
      }

-- units are inside, in the walk of every input that is begun with them
pub units_inside : (e : Extra) (i : Input) (l : ℕ) → Inside (walk_system e i).kind (walk_system e i).q (unit l)
units_inside alone i l = tt
units_inside (rights b) i l = unit_small l 0
