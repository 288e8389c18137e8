-- `listed` meets its contract. The first pass decides, and the second writes. Assumes nothing.
use mathlib.Core.Path.{sym, ap, ◌∙◌}
use Rattle.definitions.specs.Input.{input_of}
use Rattle.calls.proofs.CallLaws.{handed_on}
use Rattle.single_listing.specs.Listed.{check_of}
use Rattle.single_listing.specs.Passes.{call_refused, call_written, checks_listable}
use Rattle.single_listing.proofs.listed.Goals as goal

pub write-requires : goal.write-requires
write-requires c =
    let a = c.args in
    checks_listable (input_of a.p a.q a.coefs.now) a.list.now a.found.0 _ (sym c.check.ensures ∙ ap check_of c.in_ok-check.was)

pub returns-in_err-check : goal.returns-in_err-check
returns-in_err-check c = rw (handed_on c.from_residual.ensures) (call_refused _ _ _ _ _ _ (sym (ap check_of c.in_err-check.was) ∙ c.check.ensures))

pub returns : goal.returns
returns c = call_written _ _ _ _ (sym (ap check_of c.in_ok-check.was) ∙ c.check.ensures) c.write.ensures
