-- `extended::copy` meets its contract. Assumes nothing.
use Rattle.std.proofs.Common.{◌≡◌, ◌∙◌, ◌+◌, ◌-◌, pos, take, drop, arith, length-take-le, length-drop}
use Rattle.std.proofs.lemmas.List.{get_or-drop, get_or-take}
use Rattle.engine_begins.proofs.Copies.{fill_copied}
use Rattle.engine_begins.proofs.extended.copy.Goals as goal

pub returns : goal.returns
returns c =
    let s = c.args in
    let k : s.from + s.q - s.from ≡ s.q = omega arith in
    let part = rw k at c.copy_from_slice.ensures.after in
    fill_copied _ s.q s.equations.now s.to (take s.q (drop s.from s.coefs.now)) _ part (omega arith)
    (length-take-le s.q _ (omega (arith, length-drop s.from s.coefs.now, c.requires.0))) c.requires.1
    (λ j l. get_or-take s.q (drop s.from s.coefs.now) j (pos 0) l ∙ get_or-drop s.from s.coefs.now j (pos 0))
