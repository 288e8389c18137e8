-- `list_file::read::checking::word_in_range` meets its contract: a coefficient, a component or filler. Assumes nothing.
use Rattle.std.proofs.Common.{not, sym, ap, ◌∙◌, to_z-of_z, w32}
use borrow.Author.Rules.{sfits_of}
use Rattle.list_spec.proofs.Ranges.{coefficient_word, component_word, filler_word}
use Rattle.definitions.specs.Refusals.{out_of_range}
use Rattle.list_file.proofs.read.checking.word_in_range.Goals as goal

pub returns-then-i-coefs : goal.returns-then-i-coefs
returns-then-i-coefs c =
    let a = c.args in
    ap not ((rw (to_z-of_z {w = w32} (sfits_of c.signed.type_inv)) at c.out_of_range.ensures) ∙ ap out_of_range c.signed.ensures)
    ∙ sym (coefficient_word a.coefs a.rows a.i a.w c.if-i-coefs.true)

pub returns-then-i-coefs-2 : goal.returns-then-i-coefs-2
returns-then-i-coefs-2 c = let a = c.args in sym (component_word a.coefs a.rows a.i a.w c.if-i-coefs.false c.if-i-coefs-2.true)

pub returns : goal.returns
returns c = let a = c.args in sym (filler_word a.coefs a.rows a.i a.w c.if-i-coefs-2.false)
