-- `writing::copy` meets its contract. Assumes nothing.
use Rattle.std.proofs.Common.{refl, pos, take, arith, length-take-le}
use Rattle.std.proofs.lemmas.List.{get_or-take}
use Rattle.engine_begins.proofs.Copies.{fill_copied}
use Rattle.engine_begins.proofs.writing.copy.Goals as goal

pub returns : goal.returns
returns c =
    let n = c.args.n in
    fill_copied n n c.args.equations.now 0 (take n c.args.coefs.now) _ c.copy_from_slice.ensures.after refl (length-take-le n _ c.requires.0)
    (omega (arith, c.requires.1))
    (λ j l. get_or-take n c.args.coefs.now j (pos 0) l)
