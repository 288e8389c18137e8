-- `fall` meets its contract. Assumes nothing.
use Rattle.std.proofs.Common.{refl, rules, tests, pos}
use Rattle.std.specs.Int.Signed.{lt_z}
use Rattle.engine_search.proofs.Finds.{find_in_range}
use Rattle.engine_search.specs.Falls.{low_falls}
use Rattle.engine_search.specs.Places.{value_of}
use Rattle.engine_search.proofs.fall.Goals as goal

pub returns : goal.returns
returns c = record {
  back = c.back-first.ensures;
  lowest =
      low_falls c.args.n c.args.values.now c.args.at.first c.back-first.result c.find-low.result c.args.at.low c.or.result c.back-first.ensures.late.fallen
      c.requires.1 c.requires.2
      (find_in_range _ _ c.back-first.result c.args.at.first (λ k. lt_z (value_of c.args.values.now k) (pos 0)) c.find-low.ensures.ran refl
      (λ x b q k. search (rules, tests))) (search rules);
}
