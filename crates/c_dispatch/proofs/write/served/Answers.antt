-- `c_dispatch::write::served` meets its contract. Assumes nothing.
use mathlib.Core.Path.{◌∙◌, ap}
use lib.ListN.{length}
use borrow.Author.Rules.{rules}
use Rattle.c_dispatch.proofs.WordLaws.{served_length}
use Rattle.c_dispatch.proofs.write.served.Goals as goal

pub shape_of-words : goal.shape_of-words
shape_of-words c =
    let s = c.args in
    let e = ap length c.runs.ensures ∙ served_length s.words.now s.d in
    search rules
