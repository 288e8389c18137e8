-- The ways out of the check for 27 and 28. Assumes nothing.
use Rattle.std.specs.Array.{IsMapOf}
use Rattle.std.specs.Prelude.{◌≡◌, true, false, List, [], ℕ, ◌≤◌, ◌<◌, length, get_or}
use Rattle.std.proofs.Common.{ap, arith, inl, inr}
use Rattle.std.proofs.Math.ListN.{get_or-eq_default}
use Rattle.std.proofs.Math.Path.{fun_ext}
use denote.Param.Members.{Mut, Called}
use Rattle.linear.proofs.Cases.{split}
use borrow.Author.Tests.{lt-ltb, le-ltb, le-leb, lt-leb, eq-eqb, ne_eqb}
use Rattle.definitions.specs.Answers.{refuse, go, refuse_with, ◌then◌}
use Rattle.dispatch_spec.specs.Parts.{apart}
use Rattle.dispatch.specs.declared.types.Part.{Part}
use Rattle.dispatch.specs.declared.types.Share.{Share}
use Rattle.dispatch.specs.Form.{no_part, no_share, part_at, part_for, parts_at, checks_for}

-- the parts of one table, taken of the shares
pub parts_taken : {F : Type 0} {g : Mut F (Share × Unit {0}) Part} {f : F} {shares : List Share} {all : List Part} (choose : Share → Part) → choose no_share
    ≡ no_part
    → length shares ≡ 8 → IsMapOf g f shares all 8 → ((p : F) (x : Share) (y : Part) (q : F) → Called g p (x, tt) y q → y ≡ choose x)
    → parts_at all ≡ (λ i. part_for (choose (get_or shares i no_share)))
parts_taken {shares} {all} choose none long r gives =
    fun_ext (λ i. elim (split i 8) [
      | inl l ↦ let c = r.at i no_share no_part l in ap part_for (gives c.0 _ _ c.1 c.2)
      | inr l ↦
          let short : length shares ≤ i = omega arith in
          let short' : length all ≤ i = omega (arith, r.long) in
          rw (get_or-eq_default shares no_share short, get_or-eq_default all no_part short', none)
    ])

module _ (count : ℕ) (shares : List Share) (quantum last stack_length list_length : ℕ) where
  pub runs_none : count ≡ 0 → refuse 27 [] ≡ checks_for count shares quantum last stack_length list_length
  unfolding refuse_with ◌then◌ checks_for
  runs_none e = rw e

  module _ (some_run : ¬ (count ≡ 0)) where
    low : 1 ≤ count
    low = omega (arith, some_run)

    pub runs_many : 8 < count → refuse 27 [] ≡ checks_for count shares quantum last stack_length list_length
    unfolding refuse_with ◌then◌ checks_for
    runs_many l = rw (le-leb 1 count low, lt-leb count 8 l)

    module _ (few : count ≤ 8) where
      pub turn_empty : quantum ≡ 0 → refuse 27 [] ≡ checks_for count shares quantum last stack_length list_length
      unfolding refuse_with ◌then◌ checks_for
      turn_empty e = rw (le-leb 1 count low, le-leb count 8 few, eq-eqb quantum 0 e)

      module _ (some_step : ¬ (quantum ≡ 0)) where
        pub kept_large : 8 < last → refuse 27 [] ≡ checks_for count shares quantum last stack_length list_length
        unfolding refuse_with ◌then◌ checks_for
        kept_large l = rw (le-leb 1 count low, le-leb count 8 few, ne_eqb quantum 0 some_step, lt-ltb 8 last l)

        module _ (kept : last ≤ 8) where
          pub stacks_clash : apart count stack_length (part_at false shares) ≡ false → refuse 28 []
              ≡ checks_for count shares quantum last stack_length list_length
          unfolding refuse_with ◌then◌ checks_for
          stacks_clash e = rw (le-leb 1 count low, le-leb count 8 few, ne_eqb quantum 0 some_step, le-ltb 8 last kept, e)

          module _ (stacks : apart count stack_length (part_at false shares) ≡ true) where
            pub lists_clash : apart count list_length (part_at true shares) ≡ false → refuse 28 []
                ≡ checks_for count shares quantum last stack_length list_length
            unfolding refuse_with ◌then◌ checks_for
            lists_clash e = rw (le-leb 1 count low, le-leb count 8 few, ne_eqb quantum 0 some_step, le-ltb 8 last kept, stacks, e)

            pub passes : apart count list_length (part_at true shares) ≡ true → go ≡ checks_for count shares quantum last stack_length list_length
            unfolding refuse_with ◌then◌ checks_for
            passes e = rw (le-leb 1 count low, le-leb count 8 few, ne_eqb quantum 0 some_step, le-ltb 8 last kept, stacks, e)
