-- `apart` meets its contract: what the list leaves of the differences is what the second list leaves of the tuples. Assumes nothing.
use borrow.Author.Rules.{rules}
use Rattle.candidates.specs.Open.{apart_marked, differs_limited}
use Rattle.candidates.proofs.apart.Goals as goal

pub unstopped-requires : goal.unstopped-requires
unstopped-requires c =
    record { w_nonzero = search rules; limited = differs_limited c.requires.limited.0 c.subtract.ensures }

pub returns : goal.returns
returns c =
    apart_marked c.requires.limited.1 c.subtract.ensures _ _ _ c.unstopped.ensures.value
