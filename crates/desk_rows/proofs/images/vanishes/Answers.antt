-- `images::vanishes` meets its contract: all over the places is the test over places. Assumes nothing.
use Rattle.std.proofs.Common.{rules, refl, ◌≡◌, eqb, ℤ, SFits, of_z}
use Rattle.std.specs.Int.{w64}
use borrow.Author.Tests.{tests}
use lib.Dec.{eqb→eq}
use Rattle.chains.proofs.ChainLaws.{all_in_range}
use Rattle.definitions.specs.System.{is_zero}
use Rattle.laws.proofs.SystemLaws.{is_zero_lem}
use Rattle.linear.proofs.TestLaws.{T-same}
use Rattle.products.specs.Turns.{zero_bits}
use Rattle.desk_rows.proofs.images.vanishes.Goals as goal

bits_test : (z : ℤ) → SFits w64 z → eqb (of_z w64 z) 0 ≡ is_zero z
bits_test z f = T-same _ _ (λ h. zero_bits z f (eqb→eq _ _ h)) (λ h. rw (is_zero_lem z h) tt)

pub returns : goal.returns
returns c = all_in_range c.all.ensures.ran refl (λ x b q k. search (rules, tests, bits_test))
