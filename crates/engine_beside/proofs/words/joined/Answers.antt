-- `words::joined` meets its contract: the masks are those of 16 fields. Assumes nothing.
use Rattle.engine_spec.specs.Words.{digits, guards, joined as joined_word, others}
use borrow.Author.Rules.{rules}
use Rattle.engine_beside.proofs.words.joined.Goals as goal

pub returns : goal.returns
unfolding joined_word others guards digits
returns c = search rules
