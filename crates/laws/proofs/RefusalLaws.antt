-- Theorems about what specs/RefusalLaws.antt defines. Assumes nothing.
use Rattle.std.specs.Prelude.{
  ◌≡◌,
  refl,
  ◌≢◌,
  Bool,
  true,
  false,
  not,
  ◌&&◌,
  List,
  ℕ,
  zero,
  suc,
  ◌+◌,
  ◌*◌,
  ◌-◌,
  ◌^◌,
  ◌≤◌,
  ◌<◌,
  T,
  ltb,
  ℤ,
  pos,
  nat_abs,
  length,
  get_or,
}
use Rattle.std.proofs.Common.{sym, ◌∙◌, ap, inl, inr, arith, T_not, lt→ltb}
use Rattle.std.proofs.Math.Decide.{ℕ_discrete}
use Rattle.std.proofs.Math.Dec.{not_T, leb, eqb, leb→le, le→leb, ltb→lt, eqb→eq, eqb_refl}
use Rattle.std.proofs.Math.ListN.{get_or-eq_default}
use Rattle.linear.proofs.Cases.{split}
use Rattle.linear.specs.Systems.{Fails, Solution}
use Rattle.linear.proofs.TestLaws.{T-dec, all_at, all_from, all_not, and_both, and_parts, any_at, any_from, or_cases, or_left, or_right}
use Rattle.linear.specs.Tests.{all_to, count_to}
use Rattle.linear.specs.TupleLaws.{unit_same}
use Rattle.linear.specs.Tuples.{raise}
use Rattle.definitions.specs.Answers.{Check, go, refuse_if}
use Rattle.definitions.specs.Input.{Extra, Input, alone, limit_of, rights, system_of, walk_system}
use Rattle.definitions.specs.Refusals.{between, check15, check4, check6, check7, check8, deepest_limit, in_order, inside, lower_checks, misnumbered, most_for}
use Rattle.definitions.specs.Refusals.{out_of_range, range_checks, resume_checks, row_fits, row_in_order, search_checks, second_fits, shape_then, start_checks}
use Rattle.definitions.specs.Refusals.{step_limit}
use Rattle.definitions.specs.Refusals.{too_large}
use Rattle.definitions.specs.Step.{full_for, full_in, level, makes, to_second, top, width}
use Rattle.definitions.specs.System.{Kind, System, above, capped, coef, coef_limit, most_equations, most_unknowns, plain}
use Rattle.definitions.specs.Tables.{RunKind, State, at, capacity, capped_run, desk_by_desk, frozen, is_run, lower_above, lower_plain, plain_run, run_for}
use Rattle.definitions.specs.Tables.{run_number}
use Rattle.laws.specs.CheckLaws.{AllSilent, Decides, Renders, Rules, Silent}
use Rattle.laws.proofs.CheckLaws.{decides_first, decides_if, renders_last}
use Rattle.laws.specs.CheckLaws.{rule}
use Rattle.laws.proofs.CheckLaws.{renders_then}
use Rattle.laws.proofs.Extended.{extend_length, extend_range}
use Rattle.laws.proofs.SystemLaws.{below_from, below_to, fails_fails, solution_solves, solves_solution}
use Rattle.laws.specs.RefusalLaws.{
  BadRow,
  Going,
  Handed,
  InOrder,
  Inside,
  Misnumbered,
  NoRoom,
  NoRoomIn,
  OutOfOrder,
  Outside,
  RoomIn,
  RowInOrder,
  SecondFits,
  Shaped,
  Valid,
  beyond,
  deep,
  high,
  large,
  late,
  lower_rules,
  many,
  many₂,
  miscounted,
  other,
  outside,
  range_rule,
  range_rules,
  resume_rules,
  row,
  rows_test,
  search_rules,
  shape_rules,
  sol,
  start_rules,
}

-- ---- each check renders its rule

to_outside : (a b n : ℕ) → T (not (between a b n)) → Outside a b n
to_outside a b n h =
    elim (split n a) [
      | inl l ↦ inl l
      | inr l ↦ elim (split b n) [
        | inl k ↦ inr k
        | inr k ↦ absurd (T_not (between a b n) h (and_both (leb a n) (leb n b) (le→leb a n l) (le→leb n b k)))
      ]
    ]

from_outside : (a b n : ℕ) → Outside a b n → T (not (between a b n))
from_outside a b n o =
    not_T (between a b n) (λ h. let (l, k) = and_parts (leb a n) (leb n b) h in
    elim o [ inl x ↦ omega (arith, leb→le a n l) | inr x ↦ omega (arith, leb→le n b k) ])

pub decides_outside : (r a b n : ℕ) → Decides (refuse_if (not (between a b n)) r) (rule r (Outside a b n))
decides_outside r a b n = decides_if (not (between a b n)) r (Outside a b n) (to_outside a b n) (from_outside a b n)

to_unequal : (k n : ℕ) → T (not (eqb k n)) → k ≢ n
to_unequal k n h e = T_not (eqb k n) h (rw e (eqb_refl n))

from_unequal : (k n : ℕ) → k ≢ n → T (not (eqb k n))
from_unequal k n ne = not_T (eqb k n) (λ h. ne (eqb→eq k n h))

pub decides_unequal : (r k n : ℕ) → Decides (refuse_if (not (eqb k n)) r) (rule r (k ≢ n))
decides_unequal r k n = decides_if (not (eqb k n)) r (k ≢ n) (to_unequal k n) (from_unequal k n)

pub decides_number : (e : Extra) (i : Input) → Decides (refuse_if (misnumbered e i) 3) (rule 3 (Misnumbered e i))
decides_number alone i = decides_unequal 3 (length i.coefs) (i.p * i.q)
decides_number (rights b) i =
    let wrong : Bool = not (eqb (length i.coefs) (i.p * i.q)) in
    decides_if (misnumbered (rights b) i) 3 _
    (λ h. elim (or_cases wrong _ h) [ inl x ↦ inl (to_unequal (length i.coefs) (i.p * i.q) x) | inr x ↦ inr (to_unequal (length b) i.p x) ])
    (λ h. elim h [ inl x ↦ or_left wrong _ (from_unequal (length i.coefs) (i.p * i.q) x) | inr x ↦ or_right wrong _ (from_unequal (length b) i.p x) ])

pub decides_short : (m : System) (s : State) → Decides (check4 m s) (rule 4 (length s.stack < m.q * (m.q + 1)))
decides_short m s = decides_if _ 4 _ (ltb→lt (length s.stack) (m.q * (m.q + 1))) (lt→ltb (length s.stack) (m.q * (m.q + 1)))

pub decides_range : (i : Input) → Decides (check7 i) (range_rule i)
unfolding check7
decides_range i =
    decides_first 7 (length i.coefs) (λ k. out_of_range (get_or i.coefs k (pos 0))) _
    (λ k l. ltb→lt coef_limit (nat_abs (get_or i.coefs k (pos 0))))
    (λ k l. lt→ltb coef_limit (nat_abs (get_or i.coefs k (pos 0))))

pub decides_bound : (i : Input) (lower : List ℕ) → Decides (check8 i lower) (rule 8 ((j : ℕ) × (j < length lower) × (limit_of i.limit < get_or lower j 0)))
decides_bound i lower =
    let limit : ℕ = limit_of i.limit in
    decides_if _ 8 _
    (λ h. let (j, l, y) = any_at (length lower) (λ j. ltb limit (get_or lower j 0)) h in (j, l, ltb→lt limit (get_or lower j 0) y))
    (λ (j, l, y). any_from (length lower) (λ j. ltb limit (get_or lower j 0)) j l (lt→ltb limit (get_or lower j 0) y))

decides_sides : (b : List ℤ) → Decides (check15 b) (rule 15 ((k : ℕ) × (k < length b) × (coef_limit < nat_abs (get_or b k (pos 0)))))
decides_sides b =
    decides_if _ 15 _
    (λ h. let (k, l, y) = any_at (length b) (λ k. out_of_range (get_or b k (pos 0))) h in (k, l, ltb→lt coef_limit (nat_abs (get_or b k (pos 0))) y))
    (λ (k, l, y). any_from (length b) (λ k. out_of_range (get_or b k (pos 0))) k l (lt→ltb coef_limit (nat_abs (get_or b k (pos 0))) y))

pub range_renders : (e : Extra) (i : Input) → Renders (range_checks e i) (range_rules e i)
range_renders alone i = renders_last (decides_range i)
range_renders (rights b) i = renders_then (decides_range i) (renders_last (decides_sides b))

-- ---- the kind of a run by its number

run_at : ℕ → RunKind
run_at zero = plain_run
run_at (suc zero) = capped_run
run_at (suc (suc zero)) = lower_plain
run_at (suc (suc (suc zero))) = lower_above
run_at (suc (suc (suc (suc n)))) = desk_by_desk

run_at_lem : (r : RunKind) → run_at (run_number r) ≡ r
unfolding run_at
run_at_lem plain_run = refl
run_at_lem capped_run = refl
run_at_lem lower_plain = refl
run_at_lem lower_above = refl
run_at_lem desk_by_desk = refl

pub run_from : (r k : RunKind) → T (is_run r k) → r ≡ k
run_from r k h = sym (run_at_lem r) ∙ ap run_at (eqb→eq (run_number r) (run_number k) h) ∙ run_at_lem k

pub run_to : (r k : RunKind) → r ≡ k → T (is_run r k)
run_to r k e = rw e (eqb_refl (run_number k))

pub inside_from : (k : Kind) (q : ℕ) (x : ℕ → ℕ) → T (inside k q x) → Inside k q x
inside_from plain q x h = tt
inside_from capped q x h = leb→le (x 0) 1 h
inside_from (above f) q x h = below_from q f x h

pub inside_to : (k : Kind) (q : ℕ) (x : ℕ → ℕ) → Inside k q x → T (inside k q x)
inside_to plain q x h = tt
inside_to capped q x h = le→leb (x 0) 1 h
inside_to (above f) q x h = below_to q f x h

second_from : (k : Kind) (q : ℕ) (s : State) → T (second_fits k q s) → SecondFits k q s
second_from plain q s h = tt
second_from capped q s h = leb→le s.run.found2 (capacity (q - 1) s.second) h
second_from (above f) q s h = leb→le s.run.found2 (capacity q s.second) h

second_to : (k : Kind) (q : ℕ) (s : State) → SecondFits k q s → T (second_fits k q s)
second_to plain q s h = tt
second_to capped q s h = le→leb s.run.found2 (capacity (q - 1) s.second) h
second_to (above f) q s h = le→leb s.run.found2 (capacity q s.second) h

module _ (kind : Kind) (limit q : ℕ) (stack : List ℕ) (k : ℕ) where
  pub row_from : T (row_in_order kind limit q stack k) → RowInOrder kind limit q stack k
  unfolding row_fits
  row_from h₀ =
      let (h, i) = and_parts (row_fits limit q stack k) _ h₀ in
      let (a, b) = and_parts (all_to q (λ j. leb (at stack (q + 1) k j) limit)) _ h in
      let (c, d) = and_parts (ltb (at stack (q + 1) k q) (2 ^ q)) _ b in
      record {
        small = λ j l. leb→le (at stack (q + 1) k j) limit (all_at q _ a j l);
        fitting = ltb→lt (at stack (q + 1) k q) (2 ^ q) c;
        marked = eqb→eq (count_to q (frozen (at stack (q + 1) k q))) k d;
        is_inside = inside_from kind q (at stack (q + 1) k) i;
      }

  row_to : RowInOrder kind limit q stack k → T (row_in_order kind limit q stack k)
  unfolding row_fits
  row_to r =
      and_both (row_fits limit q stack k) _
      (and_both (all_to q (λ j. leb (at stack (q + 1) k j) limit)) _
      (all_from q _ (λ j l. le→leb (at stack (q + 1) k j) limit (r.small j l)))
      (and_both (ltb (at stack (q + 1) k q) (2 ^ q)) _ (lt→ltb (at stack (q + 1) k q) (2 ^ q) r.fitting) (rw r.marked (eqb_refl k))))
      (inside_to kind q (at stack (q + 1) k) r.is_inside)

  -- a row is in order, or bad
  row_bad : ¬ (T (row_in_order kind limit q stack k)) → BadRow kind limit q stack k
  row_bad h =
      elim (T-dec (all_to q (λ j. leb (at stack (q + 1) k j) limit))) [
        | inr n ↦
            let (j, l, y) = all_not q (λ j. leb (at stack (q + 1) k j) limit) n in
            large j l (elim (split limit (at stack (q + 1) k j)) [ inl x ↦ x | inr x ↦ absurd (y (le→leb (at stack (q + 1) k j) limit x)) ])
        | inl a ↦ elim (split (at stack (q + 1) k q) (2 ^ q)) [
          | inr x ↦ beyond x
          | inl x ↦ elim (T-dec (inside kind q (at stack (q + 1) k))) [
            | inr n ↦ outside (λ y. n (inside_to kind q (at stack (q + 1) k) y))
            | inl i ↦
                let small : (j : ℕ) → j < q → at stack (q + 1) k j ≤ limit = λ j l. leb→le (at stack (q + 1) k j) limit (all_at q _ a j l) in
                miscounted (λ e. h (row_to (record { small = small; fitting = x; marked = e; is_inside = inside_from kind q (at stack (q + 1) k) i })))
          ]
        ]
      ]

  bad_row : BadRow kind limit q stack k → RowInOrder kind limit q stack k → ⊥
  bad_row (large j l h) r = omega (arith, r.small j l)
  bad_row (beyond h) r = omega (arith, r.fitting)
  bad_row (miscounted ne) r = ne r.marked
  bad_row (outside n) r = n r.is_inside

module _ (m : System) (s : State) where
  pub order_from : T (in_order m s) → InOrder m s
  unfolding in_order
  order_from h =
      let (r, h₁) = and_parts (is_run s.run.kind (run_for m.kind)) _ h in
      let (a, b) = and_parts (leb s.run.height m.q) _ h₁ in
      let (c, d) = and_parts (leb s.run.found (capacity (width m) s.list)) _ b in
      let (e, f) = and_parts (leb s.run.steps step_limit) _ d in
      let (u, v) = and_parts (leb s.run.deepest deepest_limit) _ f in
      let (w, y) = and_parts (second_fits m.kind m.q s) _ v in
      record {
        kind = run_from s.run.kind (run_for m.kind) r;
        height = leb→le s.run.height m.q a;
        found = leb→le s.run.found (capacity (width m) s.list) c;
        early = leb→le s.run.steps step_limit e;
        shallow = leb→le s.run.deepest deepest_limit u;
        found2 = second_from m.kind m.q s w;
        rows = λ k l. row_from m.kind m.limit m.q s.stack k (all_at s.run.height _ y k l);
      }

  pub order_to : InOrder m s → T (in_order m s)
  unfolding in_order
  order_to o =
      and_both (is_run s.run.kind (run_for m.kind)) _ (run_to s.run.kind (run_for m.kind) o.kind)
      (and_both (leb s.run.height m.q) _ (le→leb s.run.height m.q o.height)
      (and_both (leb s.run.found (capacity (width m) s.list)) _ (le→leb s.run.found (capacity (width m) s.list) o.found)
      (and_both (leb s.run.steps step_limit) _ (le→leb s.run.steps step_limit o.early)
      (and_both (leb s.run.deepest deepest_limit) _ (le→leb s.run.deepest deepest_limit o.shallow)
      (and_both (second_fits m.kind m.q s) _ (second_to m.kind m.q s o.found2)
      (all_from s.run.height _ (λ k l. row_to m.kind m.limit m.q s.stack k (o.rows k l))))))))

  pub out_of : ¬ (T (in_order m s)) → OutOfOrder m s
  out_of h =
      elim (T-dec (is_run s.run.kind (run_for m.kind))) [
        | inr n ↦ other (λ e. n (run_to s.run.kind (run_for m.kind) e))
        | inl r ↦ elim (split m.q s.run.height) [
          | inl x ↦ high x
          | inr x ↦ elim (split (capacity (width m) s.list) s.run.found) [
            | inl y ↦ many y
            | inr y ↦ elim (split step_limit s.run.steps) [
              | inl z ↦ late z
              | inr z ↦ out_of_rest (run_from s.run.kind (run_for m.kind) r) x y z
            ]
          ]
        ]
      ]
    where
      out_of_rest : s.run.kind ≡ run_for m.kind → s.run.height ≤ m.q → s.run.found ≤ capacity (width m) s.list → s.run.steps ≤ step_limit
          → OutOfOrder m s
      out_of_rest r x y z =
          elim (split deepest_limit s.run.deepest) [
            | inl d ↦ deep d
            | inr d ↦ elim (T-dec (second_fits m.kind m.q s)) [
              | inr n ↦ many₂ (λ f. n (second_to m.kind m.q s f))
              | inl w ↦ elim (T-dec (rows_test m s)) [
                | inr n ↦ let (k, l, b) = all_not s.run.height (row_in_order m.kind m.limit m.q s.stack) n in
                    row k l (row_bad m.kind m.limit m.q s.stack k b)
                | inl a ↦
                    let rows : (k : ℕ) → k < s.run.height
                    → RowInOrder m.kind m.limit m.q s.stack k =
                    λ k l. row_from m.kind m.limit m.q s.stack k (all_at s.run.height _ a k l) in
                    absurd
                    (h (order_to (record { kind = r; height = x; found = y; early = z; shallow = d; found2 = second_from m.kind m.q s w; rows = rows })))
              ]
            ]
          ]

  pub not_order : OutOfOrder m s → InOrder m s → ⊥
  not_order (other ne) o = ne o.kind
  not_order (high h) o = omega (arith, o.height)
  not_order (many h) o = omega (arith, o.found)
  not_order (late h) o = omega (arith, o.early)
  not_order (deep h) o = omega (arith, o.shallow)
  not_order (many₂ h) o = h o.found2
  not_order (row k l b) o = bad_row m.kind m.limit m.q s.stack k b (o.rows k l)

  pub decides_order : Decides (check6 m s) (rule 6 (OutOfOrder m s))
  decides_order =
      decides_if (not (in_order m s)) 6 (OutOfOrder m s)
      (λ h. out_of (T_not (in_order m s) h))
      (λ b. not_T (in_order m s) (λ h. not_order b (order_from h)))

  -- a record and tables that pass the check for 6
  pub checked_order : check6 m s ≡ go → InOrder m s
  checked_order e = elim (T-dec (in_order m s)) [ inl y ↦ order_from y | inr n ↦ absurd (decides_order.goes e (out_of n)) ]

-- ---- the calls

module _ (i : Input) (s : State) where
  pub shape_renders : {c : Check} {rs : Rules} → Renders c rs → Renders (shape_then i s c) (shape_rules i s rs)
  shape_renders own =
      renders_then (decides_outside 1 1 most_equations i.p)
      (renders_then (decides_outside 2 1 (most_for i.extra) i.q)
      (renders_then (decides_number i.extra i) (renders_then (decides_short (system_of i) s) own)))

  pub start_renders : Renders (start_checks i s) (start_rules i s)
  unfolding start_checks
  start_renders = shape_renders (range_renders i.extra i)

  pub lower_renders : (lower : List ℕ) → Renders (lower_checks lower i s) (lower_rules lower i s)
  unfolding lower_checks
  lower_renders lower =
      shape_renders (renders_then (decides_unequal 5 (length lower) i.q) (renders_then (decides_range i) (renders_last (decides_bound i lower))))

  pub resume_renders : Renders (resume_checks i s) (resume_rules i s)
  unfolding resume_checks
  resume_renders = shape_renders (renders_then (decides_order (system_of i) s) (range_renders i.extra i))

-- ---- the search

full_from : (b : Bool) (w : ℕ) (s : State) → T (full_in b w s) → NoRoomIn b w s
full_from false w s h = leb→le (capacity w s.list) s.run.found h
full_from true w s h = leb→le (capacity w s.second) s.run.found2 h

full_to : (b : Bool) (w : ℕ) (s : State) → NoRoomIn b w s → T (full_in b w s)
full_to false w s h = le→leb (capacity w s.list) s.run.found h
full_to true w s h = le→leb (capacity w s.second) s.run.found2 h

module _ (m : System) (s : State) where
  pub decides_full : Decides (refuse_if ((sol m s) && full_for m.kind m.q s (top m s)) 11)
      (rule 11 (Solution m.p m.q (coef m) (top m s) × NoRoom m.kind m.q s (top m s)))
  decides_full =
      decides_if ((sol m s) && full_for m.kind m.q s (top m s)) 11 _
      (λ h. let (y, l) = and_parts (sol m s) _ h in (solves_solution m (top m s) y, full_from (to_second m.kind (top m s)) (width m) s l))
      (λ (y, l). and_both (sol m s) _ (solution_solves m (top m s) y) (full_to (to_second m.kind (top m s)) (width m) s l))

  large_from : T (too_large m s) → (j : ℕ) × (j < m.q) × T (makes m s j) × (top m s j ≡ m.limit)
  unfolding too_large
  large_from h =
      let (j, l, y) = any_at m.q (λ j. makes m s j && eqb (raise (top m s) j j) (m.limit + 1)) h in
      let (a, b) = and_parts (makes m s j) _ y in
      (j, l, a, omega (arith, eqb→eq (raise (top m s) j j) (m.limit + 1) b, unit_same j))

  large_to : (j : ℕ) → j < m.q → T (makes m s j) → top m s j ≡ m.limit → T (too_large m s)
  unfolding too_large
  large_to j l y e =
      let u : raise (top m s) j j ≡ m.limit + 1 = omega (arith, unit_same j) in
      any_from m.q (λ j. makes m s j && eqb (raise (top m s) j j) (m.limit + 1)) j l (and_both (makes m s j) _ y (rw u (eqb_refl (m.limit + 1))))

  -- (by whichever number a seat has for it)
  pub decides_large : (r : ℕ)
      → Decides (refuse_if (not (sol m s) && too_large m s) r)
      (rule r (Fails m.p m.q (coef m) (top m s) × (j : ℕ) × (j < m.q) × T (makes m s j) × (top m s j ≡ m.limit)))
  decides_large r =
      decides_if (not (sol m s) && too_large m s) r _
      (λ h. let (y, l) = and_parts (not (sol m s)) _ h in let (j, jq, mj, e) = large_from l in (fails_fails m (top m s) (T_not (sol m s) y), j, jq, mj, e))
      (λ (y, j, l, a, e). and_both (not (sol m s)) _ (not_T (sol m s) (λ h. y.2 (solves_solution m (top m s) h y.0 y.1))) (large_to j l a e))

  pub decides_late : Decides (refuse_if (eqb s.run.steps step_limit) 14) (rule 14 (s.run.steps ≡ step_limit))
  decides_late = decides_if (eqb s.run.steps step_limit) 14 (s.run.steps ≡ step_limit) (eqb→eq s.run.steps step_limit) (λ e. rw e (eqb_refl step_limit))

  pub search_renders : Renders (search_checks m s) (search_rules m s)
  unfolding search_checks
  search_renders = renders_then decides_late (renders_then decides_full (renders_last (decides_large 12)))

pub equal : (k n : ℕ) → ¬ (k ≢ n) → k ≡ n
equal k n h = elim (ℕ_discrete k n) [ yes e ↦ e | no ne ↦ absurd (h ne) ]

pub at_most : (k n : ℕ) → ¬ (n < k) → k ≤ n
at_most k n h = elim (split n k) [ inl l ↦ absurd (h l) | inr l ↦ l ]

-- the shape of the walk's system, by what comes with the map
module _ (i : Input) (s : State) where
  own_shaped : Handed i → length i.coefs ≡ i.p * i.q → Silent (range_rule i) → i.q ≤ most_unknowns → i.q * (i.q + 1) ≤ length s.stack
      → Shaped (walk_system alone i) s
  own_shaped h len range few long =
      record {
        p_some = at_most 1 i.p (λ l. h.equations (inl l));
        p_few = at_most i.p most_equations (λ l. h.equations (inr l));
        q_some = at_most 1 i.q (λ l. h.unknowns (inl l));
        q_few = few;
        wide = at_most 1 i.q (λ l. h.unknowns (inl l));
        coefs = len;
        stack = long;
        range = λ j l. at_most (nat_abs (get_or i.coefs j (pos 0))) coef_limit (range j l);
        limit_some = omega arith;
        limit_few = omega arith;
      }

  -- a right side is in range, also where there is none
  side_range : (b : List ℤ) → ¬ ((k : ℕ) × (k < length b) × (coef_limit < nat_abs (get_or b k (pos 0)))) → (k : ℕ) → nat_abs (get_or b k (pos 0)) ≤ coef_limit
  side_range b h k =
      elim (split k (length b)) [
        | inl l ↦ at_most (nat_abs (get_or b k (pos 0))) coef_limit (λ y. h (k, l, y))
        | inr l ↦ rw (get_or-eq_default b (pos 0) l) (omega arith)
      ]

  sides_shaped : (b : List ℤ) → Handed i → i.q ≤ most_unknowns - 1 → length i.coefs ≡ i.p * i.q → AllSilent (range_rules (rights b) i)
      → suc i.q * (suc i.q + 1) ≤ length s.stack → Shaped (walk_system (rights b) i) s
  sides_shaped b h few len (range, (sides, u)) long =
      let some : 0 < i.q = at_most 1 i.q (λ l. h.unknowns (inl l)) in
      let whole = extend_length i.q i.coefs b i.p (omega (arith, len)) in
      let small : (j : ℕ) → j < length i.coefs
      → nat_abs (get_or i.coefs j (pos 0)) ≤ coef_limit = λ j l. at_most (nat_abs (get_or i.coefs j (pos 0))) coef_limit (range j l) in
      record {
        p_some = at_most 1 i.p (λ l. h.equations (inl l));
        p_few = at_most i.p most_equations (λ l. h.equations (inr l));
        q_some = omega arith;
        q_few = omega arith;
        wide = omega arith;
        coefs = whole;
        stack = long;
        range = λ j l. extend_range i.q i.coefs b small (side_range b sides) i.p (omega (arith, len)) j (rw whole at l);
        limit_some = omega arith;
        limit_few = omega arith;
      }

  shaped_for : (e : Extra) → i.extra ≡ e → Handed i → (walk_system e i).q * ((walk_system e i).q + 1) ≤ length s.stack → Shaped (walk_system e i) s
  shaped_for alone e h long =
      let few : i.q ≤ most_unknowns = at_most i.q most_unknowns (λ l. rw e at h.unknowns (inr l)) in
      own_shaped h (equal (length i.coefs) (i.p * i.q) (rw e at h.numbers)) (rw e at h.ranges).0 few long
  shaped_for (rights b) e h long =
      let few : i.q ≤ most_unknowns - 1 = at_most i.q (most_unknowns - 1) (λ l. rw e at h.unknowns (inr l)) in
      sides_shaped b h few (equal (length i.coefs) (i.p * i.q) (λ ne. rw e at h.numbers (inl ne))) (rw e at h.ranges) long

  pub handed_shaped : Handed i → ¬ (length s.stack < (system_of i).q * ((system_of i).q + 1)) → Shaped (system_of i) s
  handed_shaped h k = shaped_for i.extra refl h (at_most ((system_of i).q * ((system_of i).q + 1)) (length s.stack) k)

  pub start_handed : start_checks i s ≡ go → Handed i
  start_handed e = let (p, (q, (c, (k, r)))) = (start_renders i s).goes e in record { equations = p; unknowns = q; numbers = c; ranges = r }

  pub start_shaped : start_checks i s ≡ go → Shaped (system_of i) s
  start_shaped e = let (p, (q, (c, (k, r)))) = (start_renders i s).goes e in handed_shaped (start_handed e) k

  -- with a lower bound: it has q components, each within its limit
  pub lower_handed : (lower : List ℕ) → i.extra ≡ alone → lower_checks lower i s ≡ go → Handed i
  lower_handed lower a e =
      let (p, (q, (c, (k, (n, (r, (b, u))))))) = (lower_renders i s lower).goes e in record { equations = p; unknowns = q; numbers = c; ranges = rw a (r, tt) }

  pub lower_shaped : (lower : List ℕ) → i.extra ≡ alone → lower_checks lower i s ≡ go
      → Shaped (system_of i) s × (length lower ≡ i.q) × ((j : ℕ) → j < i.q → get_or lower j 0 ≤ limit_of i.limit)
  lower_shaped lower a e =
      let (p, (q, (c, (k, (n, (r, (b, u))))))) = (lower_renders i s lower).goes e in
      let len = equal (length lower) i.q n in
      (handed_shaped (lower_handed lower a e) k, len, λ j l. at_most (get_or lower j 0) (limit_of i.limit) (λ h. b (j, rw len l, h)))

  pub resume_handed : resume_checks i s ≡ go → Handed i
  resume_handed e = let (p, (q, (c, (k, (o, r))))) = (resume_renders i s).goes e in record { equations = p; unknowns = q; numbers = c; ranges = r }

  pub resume_valid : resume_checks i s ≡ go → Valid (system_of i) s
  resume_valid e =
      let (p, (q, (c, (k, (o, r))))) = (resume_renders i s).goes e in
      record {
        shaped = handed_shaped (resume_handed e) k;
        ordered = checked_order (system_of i) s ((decides_order (system_of i) s).silent o);
      }

  pub valid_resume : Handed i → Valid (system_of i) s → resume_checks i s ≡ go
  valid_resume h v =
      (resume_renders i s).silent (
        h.equations,
        (h.unknowns, (h.numbers, (λ l. omega (arith, v.shaped.stack), (λ b. not_order (system_of i) s b v.ordered, h.ranges)))),
      )

room_or : (b : Bool) (w : ℕ) (s : State) → ¬ (NoRoomIn b w s) → RoomIn b w s
room_or false w s h = at_most (suc s.run.found) (capacity w s.list) (λ l. h (omega arith))
room_or true w s h = at_most (suc s.run.found2) (capacity w s.second) (λ l. h (omega arith))

pub room_not : (b : Bool) (w : ℕ) (s : State) → RoomIn b w s → ¬ (NoRoomIn b w s)
room_not false w s r h = omega arith
room_not true w s r h = omega arith

module _ (m : System) (s : State) where
  pub search_going : InOrder m s → 0 < s.run.height → search_checks m s ≡ go → Going m s
  search_going o h e =
      let (last, (full, (over, u))) = (search_renders m s).goes e in
      record {
        high = h;
        early = omega (arith, o.early, last);
        roomy = λ y. room_or (to_second m.kind (top m s)) (width m) s (λ l. full (solves_solution m (top m s) y, l));
        small = λ n j l mj.
            let ne : top m s j ≢ m.limit = λ x. over (fails_fails m (top m s) n, j, l, mj, x) in
            omega (arith, (o.rows (level s) (omega arith)).small j l);
      }

  pub going_search : Going m s → search_checks m s ≡ go
  going_search g =
      (search_renders m s).silent (
        λ e. omega (arith, g.early),
        (
          λ (y, l). room_not (to_second m.kind (top m s)) (width m) s (g.roomy (solution_solves m (top m s) y)) l,
          (λ (y, j, l, mj, e). omega (arith, g.small (λ h. y.2 (solves_solution m (top m s) h y.0 y.1)) j l mj), tt),
        ),
      )
