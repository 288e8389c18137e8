-- `tell` meets its contract. Assumes nothing.
use Rattle.c_engine.proofs.tell.Goals as goal

pub returns : goal.returns
returns c = record { value = c.number.ensures; run_after = c.write.ensures }
