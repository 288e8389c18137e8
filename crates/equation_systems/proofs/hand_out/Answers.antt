-- `equation_systems::hand_out` meets its contract. Assumes nothing.
use Rattle.equation_systems.specs.CallLaws.{coefs_short, rights_short, both_written}
use Rattle.equation_systems.proofs.hand_out.Goals as goal

pub returns-then-coefs-found : goal.returns-then-coefs-found
returns-then-coefs-found c = coefs_short _ _ _ _ _ c.if-coefs-found.true

pub returns-then-rights-sides : goal.returns-then-rights-sides
returns-then-rights-sides c = rights_short _ _ _ _ _ c.if-coefs-found.false c.if-rights-sides.true

pub returns : goal.returns
returns c =
    both_written _ _ _ _ _ c.if-coefs-found.false c.if-rights-sides.false
    c.copy.ensures c.copy-2.ensures
