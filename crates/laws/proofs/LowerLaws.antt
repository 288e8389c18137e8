-- Theorems about what specs/LowerLaws.antt defines. Assumes nothing.
use Rattle.std.specs.Prelude.{◌≡◌, Bool, true, false, not, List, T, leb, length}
use Rattle.std.proofs.Math.Path.{refl}
use Rattle.std.proofs.Common.{sym, subst, inl, inr, T_not, leb→le, le→leb, lit<}
use Prim.Native.Nat.{ℕ, zero, suc, ◌<◌}
use Rattle.std.proofs.Math.Nat.{one-le-pow}
use native.Mathlib.Omega.{arith}
use Rattle.std.proofs.Math.Dec.{not_T}
use Rattle.linear.proofs.Cases.{split}
use Rattle.linear.proofs.TestLaws.{T-dec, and_both, and_parts, count_none}
use Rattle.definitions.specs.Answers.{Check, go}
use Rattle.definitions.specs.Calls.{changed, search_from, settle_from, step_from}
use Rattle.definitions.specs.Input.{Input, above_system, alone, bound_of, limit_of, map_of}
use Rattle.definitions.specs.Refusals.{check6_from, in_order, in_order_from, lower_checks, in_order_by, resume_from_checks, search_checks, step_limit}
use Rattle.definitions.specs.Step.{enlist_in, grown, listed, pick, step, to_second, top, width}
use Rattle.definitions.specs.System.{System, solves}
use Rattle.definitions.specs.Tables.{RunKind, State, by_walk, capacity, capped_run, desk_by_desk, frozen, lower_above, lower_plain, lower_start, lowered}
use Rattle.definitions.specs.Tables.{plain_part, plain_run, units_start, whole_of}
use Rattle.laws.specs.CheckLaws.{Decides, Renders, Rules, rule}
use Rattle.laws.proofs.CheckLaws.{decides_if, renders_last, renders_then}
use Rattle.laws.proofs.MarkLaws.{frozen_none}
use Rattle.laws.specs.RefusalLaws.{Going, Handed, Shaped, Valid}
use Rattle.laws.proofs.RefusalLaws.{at_most, decides_bound, decides_range, decides_unequal, equal}
use Rattle.laws.proofs.RefusalLaws.{handed_shaped, lower_shaped, not_order, order_from, order_to, out_of, search_going, search_renders}
use Rattle.laws.proofs.RefusalLaws.{shape_renders}
use Rattle.laws.proofs.TableLaws.{row_length, row_written}
use Rattle.laws.proofs.ValidLaws.{shaped_same, step_length, step_valid, units_valid}
use Rattle.laws.specs.LowerLaws.{Aside, GoingFrom, InOrderBy, Kept, OutOfOrderFrom, ValidFrom, above_walk, earlier_steps, later_list, later_steps, other}
use Rattle.laws.specs.LowerLaws.{plain_walk, resume_from_rules, rules_by, search_from_rules}

module _ (lower : List ℕ) (i : Input) (s : State) where
  in_order_from_lem : (r : RunKind) → T (in_order_by r lower i s) → InOrderBy r lower i s
  in_order_from_lem plain_run h = h
  in_order_from_lem capped_run h = h
  in_order_from_lem lower_plain h =
      let (a, b) = and_parts (in_order (map_of i) (plain_part s)) _ h in
      let (c, d) = and_parts (leb s.run.found (capacity i.q s.list)) _ b in
      (order_from (map_of i) (plain_part s) a, leb→le s.run.found (capacity i.q s.list) c, leb→le s.run.steps step_limit d)
  in_order_from_lem lower_above h =
      let (a, b) = and_parts (in_order (above_system lower i) s) _ h in (order_from (above_system lower i) s a, leb→le s.run.steps2 step_limit b)
  in_order_from_lem desk_by_desk h = h

  in_order_to : (r : RunKind) → InOrderBy r lower i s → T (in_order_by r lower i s)
  in_order_to plain_run h = h
  in_order_to capped_run h = h
  in_order_to lower_plain (a, b, c) =
      and_both (in_order (map_of i) (plain_part s)) _ (order_to (map_of i) (plain_part s) a)
      (and_both (leb s.run.found (capacity i.q s.list)) _ (le→leb s.run.found (capacity i.q s.list) b) (le→leb s.run.steps step_limit c))
  in_order_to lower_above (a, b) = and_both (in_order (above_system lower i) s) _ (order_to (above_system lower i) s a) (le→leb s.run.steps2 step_limit b)
  in_order_to desk_by_desk h = h

  out_by : (r : RunKind) → s.run.kind ≡ r → ¬ (T (in_order_by r lower i s)) → OutOfOrderFrom lower i s
  out_by plain_run e n = other (λ x. let z : ◌≡◌ {A = ℕ} 0 1 = cc in omega arith) (λ x. let z : ◌≡◌ {A = ℕ} 0 1 = cc in omega arith)
  out_by capped_run e n = other (λ x. let z : ◌≡◌ {A = ℕ} 0 1 = cc in omega arith) (λ x. let z : ◌≡◌ {A = ℕ} 0 1 = cc in omega arith)
  out_by desk_by_desk e n = other (λ x. let z : ◌≡◌ {A = ℕ} 0 1 = cc in omega arith) (λ x. let z : ◌≡◌ {A = ℕ} 0 1 = cc in omega arith)
  out_by lower_plain e n =
      elim (T-dec (in_order (map_of i) (plain_part s))) [
        | inr x ↦ plain_walk e (out_of (map_of i) (plain_part s) x)
        | inl o ↦ elim (split (capacity i.q s.list) s.run.found) [
          | inl x ↦ later_list e x
          | inr x ↦ elim (split step_limit s.run.steps) [
            | inl y ↦ later_steps e y
            | inr y ↦ absurd (n (in_order_to lower_plain (order_from (map_of i) (plain_part s) o, x, y)))
          ]
        ]
      ]
  out_by lower_above e n =
      elim (T-dec (in_order (above_system lower i) s)) [
        | inr x ↦ above_walk e (out_of (above_system lower i) s x)
        | inl o ↦ elim (split step_limit s.run.steps2) [
          | inl y ↦ earlier_steps e y
          | inr y ↦ absurd (n (in_order_to lower_above (order_from (above_system lower i) s o, y)))
        ]
      ]

  -- what is in order by the record is so by the walk that it is known to name
  pub named_order : {r : RunKind} → s.run.kind ≡ r → InOrderBy s.run.kind lower i s → InOrderBy r lower i s
  named_order e o = subst (λ r. InOrderBy r lower i s) e o

  pub not_from : OutOfOrderFrom lower i s → InOrderBy s.run.kind lower i s → ⊥
  not_from (other a b) o = none s.run.kind refl o
    where
      none : (r : RunKind) → s.run.kind ≡ r → InOrderBy r lower i s → ⊥
      none plain_run e o = o
      none capped_run e o = o
      none lower_plain e o = a e
      none lower_above e o = b e
      none desk_by_desk e o = o
  not_from (plain_walk e h) o = not_order (map_of i) (plain_part s) h (named_order e o).0
  not_from (later_list e h) o = omega (arith, (named_order e o).1)
  not_from (later_steps e h) o = omega (arith, (named_order e o).2)
  not_from (above_walk e h) o = not_order (above_system lower i) s h (named_order e o).0
  not_from (earlier_steps e h) o = omega (arith, (named_order e o).1)

  pub decides_from : Decides (check6_from lower i s) (rule 6 (OutOfOrderFrom lower i s))
  unfolding in_order_from
  decides_from =
      decides_if (not (in_order_from lower i s)) 6 (OutOfOrderFrom lower i s)
      (λ h. out_by s.run.kind refl (T_not (in_order_from lower i s) h))
      (λ b. not_T (in_order_from lower i s) (λ h. not_from b (in_order_from_lem s.run.kind h)))

  -- a record and tables that pass the check for 6
  pub from_order : check6_from lower i s ≡ go → InOrderBy s.run.kind lower i s
  from_order e =
      elim (T-dec (in_order_by s.run.kind lower i s)) [
        | inl y ↦ in_order_from_lem s.run.kind y
        | inr n ↦ absurd (decides_from.goes e (out_by s.run.kind refl n))
      ]

pub resume_from_renders : (lower : List ℕ) (i : Input) (s : State) → Renders (resume_from_checks lower i s) (resume_from_rules lower i s)
unfolding resume_from_checks
resume_from_renders lower i s =
    shape_renders i s
    (renders_then (decides_unequal 5 (length lower) i.q)
    (renders_then (decides_from lower i s) (renders_then (decides_range i) (renders_last (decides_bound i lower)))))

pub renders_by : {c d : Check} {a b : Rules} (r : RunKind) → Renders c a → Renders d b → Renders (by_walk r c d) (rules_by r a b)
renders_by plain_run x y = y
renders_by capped_run x y = y
renders_by lower_plain x y = x
renders_by lower_above x y = y
renders_by desk_by_desk x y = y

pub search_from_renders : (lower : List ℕ) (i : Input) (s : State) → Renders (search_from lower i s) (search_from_rules lower i s)
unfolding search_from
search_from_renders lower i s = renders_by s.run.kind (search_renders (map_of i) (plain_part s)) (search_renders (above_system lower i) s)

-- the same map, for the walk above the bound
pub shaped_above : (lower : List ℕ) (i : Input) {s : State} → Shaped (map_of i) s → Shaped (above_system lower i) s
shaped_above lower i g =
    record {
      p_some = g.p_some;
      p_few = g.p_few;
      q_some = g.q_some;
      q_few = g.q_few;
      wide = g.wide;
      coefs = g.coefs;
      stack = g.stack;
      range = g.range;
      limit_some = g.limit_some;
      limit_few = g.limit_few;
    }

module _ (lower : List ℕ) (i : Input) (s : State) where
  -- the plain walk is that of a plain run, and so is the one above the bound that of a run of its own
  pub plain_valid : s.run.kind ≡ lower_plain → ValidFrom lower i s → Valid (map_of i) (plain_part s)
  plain_valid e v = record { shaped = shaped_same v.shaped refl; ordered = (named_order lower i s e v.ordered).0 }

  pub above_valid : s.run.kind ≡ lower_above → ValidFrom lower i s → Valid (above_system lower i) s
  above_valid e v = record { shaped = shaped_above lower i v.shaped; ordered = (named_order lower i s e v.ordered).0 }

  module _ (is : i.extra ≡ alone) where
    pub resume_from_valid : resume_from_checks lower i s ≡ go → Handed i × ValidFrom lower i s
    resume_from_valid e =
        let (p, (q, (c, (k, (n, (o, (r, (b, u)))))))) = (resume_from_renders lower i s).goes e in
        let len = equal (length lower) i.q n in
        let handed : Handed i = record { equations = p; unknowns = q; numbers = c; ranges = rw is (r, tt) } in (
          handed,
          record {
            shaped = rw is at (handed_shaped i s handed k);
            ordered = from_order lower i s ((decides_from lower i s).silent o);
            long = len;
            small = λ j l. at_most (bound_of lower j) (limit_of i.limit) (λ h. b (j, rw len l, h));
          },
        )

    pub valid_resume_from : Handed i → ValidFrom lower i s → resume_from_checks lower i s ≡ go
    valid_resume_from h v =
        let range : (k : ℕ) → k < length i.coefs → ¬ (_ < _) = (rw is at h.ranges).0 in
        (resume_from_renders lower i s).silent (
          h.equations,
          (
            h.unknowns,
            (
              h.numbers,
              (
                λ l. let g = v.shaped.stack in omega (arith, rw is at l),
                (
                  λ ne. ne v.long,
                  (λ b. not_from lower i s b v.ordered, (range, (λ (j, l, x). let g = v.small j (rw (← v.long) l) in omega (arith, g), tt))),
                ),
              ),
            ),
          ),
        )

pub step_kept : (m : System) (s : State) → Kept s (step m s)
unfolding step listed grown
step_kept m s = go (solves m (top m s))
  where
    enlisted : (b : Bool) (w : ℕ) (y : ℕ → ℕ) (d : ℕ) → Kept s (enlist_in b w s y d)
    enlisted false w y d = record { kind = refl; before = refl; counted = refl }
    enlisted true w y d = record { kind = refl; before = refl; counted = refl }

    go : (b : Bool) → Kept s (pick b (listed m s) (grown m s))
    go true = enlisted (to_second m.kind (top m s)) (width m) _ _
    go false = record { kind = refl; before = refl; counted = refl }

pub step_aside : (m : System) → ((x : ℕ → ℕ) → to_second m.kind x ≡ false) → (s : State) → Aside s (step m s)
unfolding step listed grown
step_aside m first s = go (solves m (top m s))
  where
    enlisted : (b : Bool) (w : ℕ) (y : ℕ → ℕ) (d : ℕ) → b ≡ false → Aside s (enlist_in b w s y d)
    enlisted false w y d e = record { second = refl; found2 = refl }
    enlisted true w y d e = absurd (let z : ◌≡◌ {A = ℕ} 0 1 = cc in omega arith)

    go : (b : Bool) → Aside s (pick b (listed m s) (grown m s))
    go true = enlisted (to_second m.kind (top m s)) (width m) _ _ (first (top m s))
    go false = record { second = refl; found2 = refl }

-- the change of walk is made once
pub settled_once : (lower : List ℕ) (i : Input) (s : State) → settle_from lower i (settle_from lower i s) ≡ settle_from lower i s
unfolding settle_from lowered
settled_once lower i s = go s.run.kind s.run.height refl refl
  where
    go : (r : RunKind) (h : ℕ) → s.run.kind ≡ r → s.run.height ≡ h → let t = changed r h lower i s in changed t.run.kind t.run.height lower i t ≡ t
    go plain_run h e z = rw (e, z)
    go capped_run h e z = rw (e, z)
    go lower_plain zero e z = refl
    go lower_plain (suc h) e z = rw (e, z)
    go lower_above h e z = rw (e, z)
    go desk_by_desk h e z = rw (e, z)

module _ (lower : List ℕ) (i : Input) (s : State) where
  pub lowered_valid : s.run.kind ≡ lower_plain → ValidFrom lower i s → ValidFrom lower i (lowered (bound_of lower) i.q s)
  unfolding lowered
  lowered_valid e v =
      let (o, f, l) = named_order lower i s e v.ordered in
      let g = v.shaped in
      let r = row_written i.q s.stack 0 (bound_of lower) 0 g.q_some g.stack in
      record {
        shaped = shaped_same g (row_length i.q s.stack 0 (bound_of lower) 0);
        ordered = (
          record {
            kind = refl;
            height = g.q_some;
            found = f;
            early = l;
            shallow = o.shallow;
            found2 = o.found;
            rows = λ k kh. let z : k ≡ 0 = omega arith in rw z (record {
              marked = rw r.marks_are (count_none (frozen 0) i.q frozen_none);
              fitting = rw r.marks_are (one-le-pow i.q 2 (lit< tt));
              small = λ j jq. rw (r.tuple j jq) (v.small j jq);
              is_inside = λ j jq. omega (arith, r.tuple j jq);
            });
          },
          o.early,
        );
        long = v.long;
        small = v.small;
      }

  pub settled_valid : ValidFrom lower i s → ValidFrom lower i (settle_from lower i s)
  unfolding settle_from
  settled_valid v = go s.run.kind s.run.height refl
    where
      go : (r : RunKind) (h : ℕ) → s.run.kind ≡ r → ValidFrom lower i (changed r h lower i s)
      go plain_run h e = v
      go capped_run h e = v
      go lower_plain zero e = lowered_valid e v
      go lower_plain (suc h) e = v
      go lower_above h e = v
      go desk_by_desk h e = v

  plain_stepped : s.run.kind ≡ lower_plain → ValidFrom lower i s → Going (map_of i) (plain_part s)
      → ValidFrom lower i (whole_of s.run.deepest (step (map_of i) (plain_part s)))
  plain_stepped e v g =
      let (o, f, l) = named_order lower i s e v.ordered in
      let t : State = step (map_of i) (plain_part s) in
      let w = step_valid (map_of i) (plain_part s) (plain_valid lower i s e v) g.high g in
      let a = step_aside (map_of i) (λ x. refl) (plain_part s) in
      record {
        shaped = shaped_same w.shaped refl;
        ordered = (
          record {
            kind = refl;
            height = w.ordered.height;
            found = w.ordered.found;
            early = w.ordered.early;
            shallow = o.shallow;
            found2 = tt;
            rows = w.ordered.rows;
          },
          rw (a.second, a.found2) f,
          rw (step_kept (map_of i) (plain_part s)).before l,
        );
        long = v.long;
        small = v.small;
      }

  above_stepped : s.run.kind ≡ lower_above → ValidFrom lower i s → Going (above_system lower i) s → ValidFrom lower i (step (above_system lower i) s)
  above_stepped e v g =
      let (o, l) = named_order lower i s e v.ordered in
      let t : State = step (above_system lower i) s in
      let w = step_valid (above_system lower i) s (above_valid lower i s e v) g.high g in
      record {
        shaped = shaped_same v.shaped (step_length (above_system lower i) s (above_valid lower i s e v) g.high g);
        ordered = subst (λ r. InOrderBy r lower i t) (sym w.ordered.kind) (w.ordered, rw (step_kept (above_system lower i) s).before l);
        long = v.long;
        small = v.small;
      }

  pub search_going_from : ValidFrom lower i s → 0 < s.run.height → search_from lower i s ≡ go → GoingFrom lower i s
  unfolding search_from
  search_going_from v h c = (
    λ e. search_going (map_of i) (plain_part s) (plain_valid lower i s e v).ordered h
        (subst (λ r. by_walk r (search_checks (map_of i) (plain_part s)) (search_checks (above_system lower i) s) ≡ go) e c),
    λ e. search_going (above_system lower i) s (above_valid lower i s e v).ordered h
        (subst (λ r. by_walk r (search_checks (map_of i) (plain_part s)) (search_checks (above_system lower i) s) ≡ go) e c),
  )

  pub step_from_valid : ValidFrom lower i s → GoingFrom lower i s → ValidFrom lower i (step_from lower i s)
  unfolding step_from
  step_from_valid v (p, a) = go s.run.kind refl v.ordered
    where
      go : (r : RunKind) → s.run.kind ≡ r → InOrderBy r lower i s
          → ValidFrom lower i (by_walk r (whole_of s.run.deepest (step (map_of i) (plain_part s))) (step (above_system lower i) s))
      go plain_run e o = absurd o
      go capped_run e o = absurd o
      go lower_plain e o = plain_stepped e v (p e)
      go lower_above e o = above_stepped e v (a e)
      go desk_by_desk e o = absurd o

  pub start_from_valid : i.extra ≡ alone → lower_checks lower i s ≡ go → ValidFrom lower i (lower_start (map_of i) s)
  unfolding lower_start units_start
  start_from_valid is e =
      let (g, len, less) = lower_shaped i s lower is e in
      let own : Shaped (map_of i) s = rw is at g in
      let w = units_valid (map_of i) (plain_part s) (shaped_same own refl) (λ l. tt) in
      record {
        shaped = shaped_same w.shaped refl;
        ordered = (w.ordered, omega arith, omega arith);
        long = len;
        small = less;
      }
