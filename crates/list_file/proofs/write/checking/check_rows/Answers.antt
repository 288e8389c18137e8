-- `list_file::write::checking::check_rows` meets its contract: what is in range does not depend on p and the coefficients. Assumes nothing.
use Rattle.std.proofs.Common.{ℕ, sym, ◌∙◌}
use Rattle.list_spec.specs.Form.{ListFile}
use Rattle.list_spec.specs.Writing.{list_in_range}
use Rattle.list_file.specs.WriteAnswer.{list_of}
use Rattle.list_file.specs.WriteCheckLaws.{out_of_range, wrong_length, all_passed}
use Rattle.list_file.proofs.write.checking.check_rows.Goals as goal
use Rattle.list_file.proofs.write.checking.check_rows.Goals.{Start}

abbrev list : Start → ℕ → ListFile
list s p = list_of p s.args.q s.args.coefs.now s.args.rows.now s.args.ending

pub returns-then-not-list_in_range : goal.returns-then-not-list_in_range
unfolding list_in_range
returns-then-not-list_in_range c p =
    out_of_range (list (goal.at.returns-then-not-list_in_range c).Start p) _ (sym c.list_in_range.ensures ∙ c.if-not-list_in_range.true)

pub returns-then-room-later : goal.returns-then-room-later
unfolding list_in_range
returns-then-room-later c p =
    wrong_length (list (goal.at.returns-then-room-later c).Start p) _ (sym c.list_in_range.ensures ∙ c.if-not-list_in_range.false) c.if-room-later.true

pub returns : goal.returns
unfolding list_in_range
returns c p =
    all_passed (list (goal.at.returns c).Start p) _ (sym c.list_in_range.ensures ∙ c.if-not-list_in_range.false) c.if-room-later.false
