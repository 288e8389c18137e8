-- A refusal's number has 8 bits. Assumes nothing.
use Rattle.std.specs.Prelude.{◌<◌}
use Rattle.std.proofs.Common.{arith}
use Rattle.calls.specs.Paper.{number_of}
use Rattle.calls.specs.declared.Refusal.{Refusal}

pub number_small : (why : Refusal) → number_of why < 256
number_small why = grind arith
