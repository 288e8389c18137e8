-- What the end of a stage needs, what it leaves, and that it is what the definitions say. Assumes nothing.
use Rattle.std.specs.Prelude.{◌≡◌, true, false, cond, not, ◌&&◌, List, ℕ, ◌+◌, ◌*◌, ◌^◌, ◌-◌, ◌≤◌, ◌<◌, T, eqb, ltb, ℤ, length}
use Rattle.std.proofs.Common.{sym, ◌∙◌, mul-le-mul_right, arith, le-ltb, lt-ltb, pow_mono}
use Rattle.linear.specs.Tests.{all_to, count_to}
use Rattle.definitions.specs.Answers.{complete, paused}
use Rattle.definitions.specs.Refusals.{step_limit}
use Rattle.definitions.specs.Tables.{at, frozen}
use Rattle.laws.proofs.MarkLaws.{bit_add_fits, free_bit}
use Rattle.laws.specs.Pack.{pack_to}
use Rattle.engine_spec.specs.Beside.{Valued}
use Rattle.engine_spec.specs.Engine.{Work, all_done, finish, rested, stays, system_of, values_small}
use Rattle.engine_rows.specs.Keeping.{filled_row, not_below_value, small_value, zero_value}
use Rattle.calls.specs.Paper.{answer_of}
use Rattle.calls.specs.declared.Refusal.TheVariants.{ComponentLimit, TablesFull}
use Rattle.engine_beside.specs.Records.{outcome_of, record_of, refused_with, work_of}
use Rattle.engine_beside.specs.declared.Outcome.{Outcome}
use Rattle.engine_beside.specs.declared.Record.{Record}
use Rattle.engine_ends.specs.Finishing.{
  count_fresh,
  count_plain,
  fillable_fresh,
  fillable_plain,
  pack_fresh,
  pack_plain,
  resting_with,
  too_large,
  too_many,
  values_small_lem,
  written,
}

-- a stage is under way whose equation is not done
pub record Ends (p : ℕ) (r : Record) : Type 0 where
  pub few : p ≤ 32
  pub going : r.equation < p
  pub marks : r.done < 2 ^ p
  pub free : ¬ (T (frozen r.done r.equation))
  pub early : r.steps.0 ≤ step_limit

pub done_fits : {p : ℕ} {r : Record} → Ends p r → r.done + 2 ^ r.equation < 4294967296
done_fits {p} {r} e =
    omega (
      arith,
      bit_add_fits r.done r.equation p (free_bit r.done r.equation e.free) e.going e.marks,
      pow_mono {i = p} {j = 32} e.few,
    )

pub record Closing (p q most : ℕ) (equations : List ℤ) (basis table : List ℕ) (values : List ℤ) (r : Record) : Type 0 where
  pub valued : Valued (system_of q equations r.equation) q r.rows table values
  pub whole : r.rows * q ≤ length table
  pub long : most * q ≤ length basis
  pub ends : Ends p r

pub record RestsLeft (p q : ℕ) (r : Record) (count : ℕ) (o : Outcome) : Type 0 where
  pub run_is : o.run ≡ record_of (r.done + 2 ^ r.equation) p q count 0 0 0 0 0 (r.steps.0 + 1) r.cap
  pub answer_is : answer_of o.answer ≡ cond (eqb (r.done + 2 ^ r.equation) (2 ^ p - 1)) complete paused

module _ {p q most : ℕ} {equations : List ℤ} {basis table : List ℕ} {values : List ℤ} {r : Record} (c : Closing p q most equations basis table values r) where
  abbrev w : Work
  w = work_of equations basis table r

  rests_is : {count : ℕ} {o : Outcome} {basis' : List ℕ} → RestsLeft p q r count o
      → outcome_of o equations basis' table ≡ rested p (resting_with p q most w basis' count)
  unfolding rested all_done
  rests_is h = rw (h.answer_is, h.run_is)

  room_for : {count : ℕ} → count ≤ most → count * q ≤ length basis
  room_for l = omega (arith, c.long, mul-le-mul_right q l)

  module _ (none : q ≤ r.fresh) {count : ℕ} (e : count ≡ count_to r.rows (zero_value values)) where
    counted : count ≡ count_to r.rows (stays q w)
    counted = e ∙ sym (count_plain q w values c.valued (le-ltb r.fresh q none))

    pub plain_full : most < count → outcome_of (refused_with TablesFull r) equations basis table ≡ finish p q most w
    plain_full l = too_many p q most w (fillable_plain p q most w (le-ltb r.fresh q none)) counted (lt-ltb most count l)

    pub plain_room : count ≤ most → count_to r.rows (zero_value values) * q ≤ length basis
    plain_room l = rw (← e) (room_for l)

    pub plain_done : count ≤ most → {basis' : List ℕ} → basis' ≡ pack_to r.rows q basis 0 (zero_value values) (at table q) → {o : Outcome}
        → RestsLeft p q r count o → outcome_of o equations basis' table ≡ finish p q most w
    plain_done l b h =
        rests_is h
        ∙ written p q most w (fillable_plain p q most w (le-ltb r.fresh q none)) (b ∙ sym (pack_plain q w values c.valued (le-ltb r.fresh q none)))
        counted (le-ltb most count l)

  module _ (some : r.fresh < q) where
    pub fresh_large : all_to r.rows (small_value values) ≡ false → outcome_of (refused_with ComponentLimit r) equations basis table ≡ finish p q most w
    fresh_large e = too_large p q most w (lt-ltb r.fresh q some) (values_small_lem q w values c.valued ∙ e)

    module _ (small : all_to r.rows (small_value values) ≡ true) {count : ℕ} (e : count ≡ count_to r.rows (not_below_value values)) where
      counted' : count ≡ count_to r.rows (stays q w)
      counted' = e ∙ sym (count_fresh q w values c.valued (lt-ltb r.fresh q some))

      fillable : (ltb r.fresh q && not (values_small q w)) ≡ false
      fillable = fillable_fresh p q most w (lt-ltb r.fresh q some) (values_small_lem q w values c.valued ∙ small)

      pub fresh_full : most < count → outcome_of (refused_with TablesFull r) equations basis table ≡ finish p q most w
      fresh_full l = too_many p q most w fillable counted' (lt-ltb most count l)

      pub fresh_room : count ≤ most → count_to r.rows (not_below_value values) * q ≤ length basis
      fresh_room l = rw (← e) (room_for l)

      pub fresh_done : count ≤ most → {basis' : List ℕ}
          → basis' ≡ pack_to r.rows q basis 0 (not_below_value values) (filled_row r.fresh values (at table q)) → {o : Outcome}
          → RestsLeft p q r count o → outcome_of o equations basis' table ≡ finish p q most w
      fresh_done l b h =
          rests_is h
          ∙ written p q most w fillable (b ∙ sym (pack_fresh q w values c.valued (lt-ltb r.fresh q some))) counted' (le-ltb most count l)
