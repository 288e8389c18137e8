-- `reasons::vanishes` meets its contract: the components past the slice are 0. Assumes nothing.
use Rattle.std.proofs.Common.{rules, ◌≡◌, ◌∙◌, ℕ, ◌<◌, List, eqb, length, get_or, take, inl, inr, arith, get_or-take, length-take}
use Rattle.std.proofs.Math.ListN.{get_or-eq_default}
use Rattle.std.proofs.lemmas.Iterator.{YieldsList-from_slice, YieldsList-from_take}
use Rattle.std.proofs.lemmas.Iterator.Search.{all_from_yields_List}
use Rattle.std.specs.List.{list_all}
use borrow.Author.Tests.{tests}
use Rattle.chains.proofs.ChainLaws.{all_by_places}
use Rattle.linear.proofs.Cases.{split}
use Rattle.linear.proofs.TestLaws.{T-same, all_at, all_from}
use Rattle.linear.specs.Tests.{all_to}
use Rattle.definitions.specs.Reasons.{vanishes}
use Rattle.reasons.proofs.vanishes.Goals as goal

-- the first q numbers of a list, by their places; those past its end count as 0
zeros : (q : ℕ) (t : List ℕ) → list_all (λ x. eqb x 0) (take q t) ≡ all_to q (λ j. eqb (get_or t j 0) 0)
zeros q t =
    all_by_places (λ x. eqb x 0) 0 (take q t)
    ∙ T-same (all_to (length (take q t)) (λ j. eqb (get_or (take q t) j 0) 0)) (all_to q (λ j. eqb (get_or t j 0) 0))
    (λ h. all_from q _ (λ j l. elim (split j (length t)) [
      | inl k ↦
          let e = all_at (length (take q t)) _ h j (omega (arith, length-take q t)) in
          rw (get_or-take q t j 0 l) at e
      | inr k ↦ rw (get_or-eq_default t 0 {n = j} k) tt
    ]))
    (λ h. all_from (length (take q t)) _ (λ j l.
    let m : j < q = omega (arith, length-take q t) in
    rw (get_or-take q t j 0 m) (all_at q _ h j m)))

pub returns : goal.returns
unfolding vanishes
returns c =
    all_from_yields_List (λ x. eqb x 0) _ _ _ c.all.ensures.ran (YieldsList-from_take c.args.q (YieldsList-from_slice c.args.t.now cc) cc)
    (λ x b q k. search (rules, tests))
    ∙ zeros c.args.q c.args.t.now
