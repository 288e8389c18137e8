-- `write_gram` meets its contract. Assumes nothing.
use Rattle.products.specs.Turns.{zeros_gram}
use Rattle.products.proofs.write_gram.Goals as goal

pub loop-e-init : goal.loop-e-init
loop-e-init c = (c.requires.1, zeros_gram c.requires.2)
