-- The calls by what their checks find. Assumes nothing.
use Rattle.std.specs.Prelude.{Result, Ok, Err, ◌≡◌, refl, ◌⊎◌, Bool, true, false, not, ◌&&◌, ◌||◌, List, ℕ, suc, ◌+◌, ◌*◌, ◌≤◌, eqb, leb, ℤ, length}
use Rattle.std.proofs.Common.{◌∙◌, inl, inr, mul-le-mul, add-one, arith, leb-true, ltb-true}
use Rattle.std.proofs.Math.Nat.{mul-le-mul_right}
use Rattle.std.proofs.lemmas.Bool.{not-false}
use Rattle.std.proofs.Math.Dec.{ltb}
use Rattle.linear.proofs.Cases.{order}
use Rattle.definitions.specs.Answers as paper
use Rattle.definitions.specs.System.{is_zero}
use Rattle.laws.proofs.AnswerLaws.{refuse_if_go, then_go}
use Rattle.laws.proofs.TableLaws.{row_fits}
use Rattle.engine_spec.specs.Calls as spec
use Rattle.engine_spec.specs.Engine.{Work}
use Rattle.engine_spec.specs.StartSides.{start_sides}
use Rattle.calls.specs.Paper.{check_of}
use Rattle.calls.proofs.CallLaws.{passes}
use Rattle.calls.specs.declared.Refusal.{Refusal}
use Rattle.engine_beside.specs.Records.{call_passed, call_refused, lengths_of, outcome_of, refused_with, work_of}
use Rattle.engine_beside.specs.declared.Beside.{Beside}
use Rattle.engine_beside.specs.declared.Outcome.{Outcome}
use Rattle.engine_beside.specs.declared.Record.{Record}
use Rattle.engine_checks.specs.Operating.{combines_small}
use Rattle.engine_checks.specs.Room.{basis_few, basis_fits, stage_fits}
use Rattle.engine_checks.specs.Sides.{shaped, sides_checks_lem, sides_checks_by}
use Rattle.engine_checks.specs.Standing.{
  Roomed,
  Stands,
  equation_small,
  left_below,
  standing,
  standing_then_lem,
  stands,
  start_checks_lem,
  start_from_checks_lem,
  start_checks_by,
  start_from_checks_by,
  starts,
  starts_from,
}
use Rattle.engine_begins.specs.Begins.{
  Begun,
  BegunFrom,
  BegunSides,
  Fitting,
  FittingList,
  Operated,
  Taken,
  begun_from_is,
  begun_is,
  begun_sides_is,
  operated_is,
  taken_is,
}
use Rattle.engine_begins.specs.Extended.{Extending, extending}
use Rattle.engine_begins.specs.Writing.{Combines}

-- ---- room

pub roomed : (q : ℕ) (basis table : List ℕ) (l : Beside)
    → Roomed q (spec.basis_room q (lengths_of basis table l)) (spec.stage_room q (lengths_of basis table l)) (length basis) (length table)
roomed q basis table l =
    record {
      long = basis_fits q (length basis) l.sizes;
      wide = (stage_fits q (length table) l.values l.words l.degrees l.marks l.mothers).rows;
    }

-- ---- the start

module _ (p q : ℕ) (coefs equations : List ℤ) (basis table : List ℕ) (l : Beside) (r : Record) {made : Result (Unit {0}) Refusal} {most : ℕ}
    (m : most ≡ spec.basis_room q (lengths_of basis table l)) (e : check_of made ≡ start_checks_by p q coefs most (length equations)) where
  pub start_refused : {why : Refusal} → made ≡ Err why
      → outcome_of (refused_with why r) equations basis table ≡ spec.start p q coefs (spec.basis_room q (lengths_of basis table l))
      (work_of equations basis table r)
  unfolding spec.start_under
  start_refused g = call_refused (rw m at (e ∙ start_checks_lem p q coefs most (work_of equations basis table r))) equations basis table r _ g

  pub start_enters : {nothing : Unit {0}} → made ≡ Ok nothing → Fitting p q (length coefs) (length equations) (length basis)
  start_enters g =
      let s = starts p q coefs most (length equations) (passes e g) in
      record {
        count = s.count;
        whole = s.whole;
        long = omega (arith, basis_fits q (length basis) l.sizes, mul-le-mul_right q (rw m at s.some));
        few = omega (arith, mul-le-mul {n₁ = p} {m₁ = q} {n₂ = 32} {m₂ = 32} s.size.equations s.size.unknowns);
      }

  pub start_passed : {nothing : Unit {0}} → made ≡ Ok nothing → {o : Outcome} {equations' : List ℤ} {basis' : List ℕ}
      → Begun p q coefs equations basis o equations' basis'
      → outcome_of o equations' basis' table ≡ spec.start p q coefs (spec.basis_room q (lengths_of basis table l)) (work_of equations basis table r)
  unfolding spec.start_under
  start_passed g b = call_passed (rw m at (e ∙ start_checks_lem p q coefs most (work_of equations basis table r))) equations basis table r _ g
      (begun_is table r b)

-- ---- the start from a list

module _ (p q : ℕ) (coefs : List ℤ) (n : ℕ) (rows : List ℕ) (equations : List ℤ) (basis table : List ℕ) (l : Beside) (r : Record)
    {made : Result (Unit {0}) Refusal} {most : ℕ}
    (m : most ≡ spec.basis_room q (lengths_of basis table l)) (e : check_of made ≡ start_from_checks_by p q coefs n rows most (length equations)) where
  pub start_from_refused : {why : Refusal} → made ≡ Err why
      → outcome_of (refused_with why r) equations basis table
      ≡ spec.start_from p q coefs n rows (spec.basis_room q (lengths_of basis table l)) (work_of equations basis table r)
  unfolding spec.start_from_under
  start_from_refused g =
      call_refused (rw m at (e ∙ start_from_checks_lem p q coefs n rows most (work_of equations basis table r))) equations basis table r _ g

  pub start_from_enters : {nothing : Unit {0}} → made ≡ Ok nothing → FittingList p q (length coefs) n (length rows) (length equations) (length basis)
  start_from_enters g =
      let (s, some, list) = starts_from p q coefs n rows most (length equations) (passes e g) in
      let few : n ≤ 1000000000 = omega (arith, rw m at some, (basis_few q (length basis) l.sizes).1) in
      record {
        count = s.count;
        whole = s.whole;
        few = omega (arith, mul-le-mul {n₁ = p} {m₁ = q} {n₂ = 32} {m₂ = 32} s.size.equations s.size.unknowns);
        list = list;
        long = omega (arith, basis_fits q (length basis) l.sizes, mul-le-mul_right q (rw m at some));
        some = omega (arith, mul-le-mul {n₁ = n} {m₁ = q} {n₂ = 1000000000} {m₂ = 32} few s.size.unknowns);
      }

  pub start_from_passed : {nothing : Unit {0}} → made ≡ Ok nothing → {o : Outcome} {equations' : List ℤ} {basis' : List ℕ}
      → BegunFrom p q coefs n rows equations basis o equations' basis'
      → outcome_of o equations' basis' table
      ≡ spec.start_from p q coefs n rows (spec.basis_room q (lengths_of basis table l)) (work_of equations basis table r)
  unfolding spec.start_from_under
  start_from_passed g b =
      call_passed (rw m at (e ∙ start_from_checks_lem p q coefs n rows most (work_of equations basis table r))) equations basis table r _ g
      (begun_from_is table r b)

-- ---- the start for right sides and lower bounds

module _ (p q : ℕ) (coefs rights : List ℤ) (lower : List ℕ) (equations : List ℤ) (basis table : List ℕ) (l : Beside) (r : Record)
    {made : Result (Unit {0}) Refusal}
    (e : check_of made ≡ sides_checks_by p q coefs rights lower (length equations) (length basis) l.sizes) where
  pub sides_refused : {why : Refusal} → made ≡ Err why
      → outcome_of (refused_with why r) equations basis table
      ≡ start_sides p q coefs rights lower (spec.basis_room (suc q) (lengths_of basis table l)) (work_of equations basis table r)
  unfolding start_sides
  sides_refused g =
      call_refused (e ∙ sides_checks_lem p q coefs rights lower (length basis) l.sizes (work_of equations basis table r)) equations basis table r _ g

  pub sides_enters : {nothing : Unit {0}} → made ≡ Ok nothing → Extending p q coefs rights lower (length equations) × ((q + 1) * (q + 1) ≤ length basis)
  unfolding sides_checks_by
  sides_enters g =
      let (a, b) = then_go _ _ (passes e g) in
      let (s, whole, enough) = shaped p q (length coefs) (length rights) (length lower) (length equations) (length basis) l.sizes a in (
        extending s whole b,
        rw (add-one q) (omega (arith, basis_fits (suc q) (length basis) l.sizes, mul-le-mul_right (suc q) enough)),
      )

  pub sides_passed : {nothing : Unit {0}} → made ≡ Ok nothing → {o : Outcome} {equations' : List ℤ} {basis' : List ℕ}
      → BegunSides p q coefs rights lower equations basis o equations' basis'
      → outcome_of o equations' basis' table
      ≡ start_sides p q coefs rights lower (spec.basis_room (suc q) (lengths_of basis table l)) (work_of equations basis table r)
  unfolding start_sides
  sides_passed g b =
      call_passed (e ∙ sides_checks_lem p q coefs rights lower (length basis) l.sizes (work_of equations basis table r)) equations basis table r _ g
      (begun_sides_is table r b)

-- ---- a row operation, and the begin of a stage

module _ (p q most room : ℕ) (w : Work) where
  standing_both : (own : paper.Check) → spec.standing_then p q most room w own ≡ paper.go → Stands p q most room w × (own ≡ paper.go)
  standing_both own e =
      let (a, b) = then_go (standing p q most room w) own (standing_then_lem p q most room w own ∙ e) in
      (stands p q most room w a, b)

passed : (b : Bool) (n : ℕ) → paper.refuse_if (not b) n ≡ paper.go → b ≡ true
passed b n e = not-false b (refuse_if_go (not b) n e)

both : (b d : Bool) → (b && d) ≡ true → (b ≡ true) × (d ≡ true)
both true d h = (refl, h)
both false d h = (h, cc)

count_few : (p q most room : ℕ) (w : Work) → spec.in_order p q most room w ≡ true → w.count ≤ most
unfolding spec.in_order
count_few p q most room w e =
    let (a, _) = both (leb w.count most && leb w.stage.rows room) _ e in
    let (b, _) = both (leb w.count most) _ a in
    leb-true w.count most b

apart_rows : (q r s : ℕ) → (r * q ≡ s * q) ⊎ ((r * q + q ≤ s * q) ⊎ (s * q + q ≤ r * q))
apart_rows q r s =
    elim (order r s) [
      | inl l ↦ inr (inl (row_fits q r s l))
      | inr o ↦ elim o [ inl e ↦ inl (rw e) | inr l ↦ inr (inr (row_fits q s r l)) ]
    ]

module _ (p q : ℕ) (equations : List ℤ) (basis table : List ℕ) (l : Beside) (run : Record) {most room : ℕ}
    (m : most ≡ spec.basis_room q (lengths_of basis table l)) (n : room ≡ spec.stage_room q (lengths_of basis table l)) where
  pub lent_roomed : Roomed q most room (length basis) (length table)
  lent_roomed = rw (m, n) (roomed q basis table l)

  module _ (r s : ℕ) (u t : ℤ) {made : Result (Unit {0}) Refusal}
      (e : check_of made ≡ spec.combine_checks p q most room r s u t (work_of equations basis table run)) where
    pub combine_refused : {why : Refusal} → made ≡ Err why
        → outcome_of (refused_with why run) equations basis table
        ≡ spec.combine p q (spec.basis_room q (lengths_of basis table l)) (spec.stage_room q (lengths_of basis table l)) r s u t
        (work_of equations basis table run)
    unfolding spec.combine
    combine_refused g = rw (← m, ← n) (call_refused e equations basis table run _ g)

    pub combine_enters : {nothing : Unit {0}} → made ≡ Ok nothing → Combines q (r * q) (s * q) u t equations
    unfolding spec.combine_checks spec.is_left spec.is_operation combines_small
    combine_enters g =
        let (z, own) = standing_both p q most room (work_of equations basis table run) _ (passes e g) in
        let (x, y) = then_go _ _ own in
        let (lr, sp) = both (spec.is_left p r (work_of equations basis table run)) (ltb s p) (passed (spec.is_left p r
        (work_of equations basis table run) && ltb s p) 32 x) in
        let (_, o) = both (not (is_zero u)) _ (passed (spec.is_operation q r s u t (work_of equations basis table run)) 34 y) in
        let (_, small) = both (not (eqb r s) || is_zero t) _ o in
        record {
          first = equation_small z r (left_below p r run.equation run.done lr);
          second = equation_small z s (ltb-true s p sp);
          small = small;
          apart = apart_rows q r s;
        }

    pub combine_passed : {nothing : Unit {0}} → made ≡ Ok nothing → {o : Outcome} {equations' : List ℤ} → Operated q r s u t equations run o equations'
        → outcome_of o equations' basis table
        ≡ spec.combine p q (spec.basis_room q (lengths_of basis table l)) (spec.stage_room q (lengths_of basis table l)) r s u t
        (work_of equations basis table run)
    unfolding spec.combine
    combine_passed g b = rw (← m, ← n) (call_passed e equations basis table run _ g (operated_is basis table b))

  module _ (a f : ℕ) {made : Result (Unit {0}) Refusal} (e : check_of made ≡ spec.take_checks p q most room a f (work_of equations basis table run)) where
    pub take_refused : {why : Refusal} → made ≡ Err why
        → outcome_of (refused_with why run) equations basis table
        ≡ spec.take p q (spec.basis_room q (lengths_of basis table l)) (spec.stage_room q (lengths_of basis table l)) a f (work_of equations basis table run)
    unfolding spec.take
    take_refused g = rw (← m, ← n) (call_refused e equations basis table run _ g)

    pub take_enters : {nothing : Unit {0}} → made ≡ Ok nothing → run.count.0 * q ≤ length basis
    unfolding spec.take_checks
    take_enters g =
        let (z, own) = standing_both p q most room (work_of equations basis table run) _ (passes e g) in
        omega (arith, lent_roomed.long, mul-le-mul_right q (count_few p q most room (work_of equations basis table run) z.order))

    pub take_passed : {nothing : Unit {0}} → made ≡ Ok nothing → {o : Outcome} {basis' : List ℕ} → Taken q a f basis run o basis'
        → outcome_of o equations basis' table
        ≡ spec.take p q (spec.basis_room q (lengths_of basis table l)) (spec.stage_room q (lengths_of basis table l)) a f (work_of equations basis table run)
    unfolding spec.take
    take_passed g b = rw (← m, ← n) (call_passed e equations basis table run _ g (taken_is equations table b))
