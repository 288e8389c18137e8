-- `map_text::lines::read_field` meets its contract: a number, and the byte after it. Assumes nothing.
use Rattle.std.proofs.Common.{◌≡◌, ◌∙◌, sym, drop, w32, rules, to_z-of_z}
use Rattle.texts.specs.Decimals.{separator}
use Rattle.texts.proofs.ParseLaws.{then_malformed, then_parsed}
use Rattle.map_spec.specs.Reading.{ended_by, read_field}
use Rattle.map_text.proofs.LineLaws.{no_byte, other_byte, this_byte}
use Rattle.map_text.proofs.lines.read_field.Goals as goal
use Rattle.map_text.proofs.lines.read_field.Goals.{In_ok-number, then-text-number-via-then-text-number}
use Rattle.map_text.proofs.lines.read_field.Goals.{then-text-number-via-else-text-number+then-text-number-2}

-- the number was read: what the field comes to
number_read : (c : In_ok-number)
    → ended_by (separator c.args.left) c.in_ok-number.number.value (drop c.in_ok-number.number.next c.args.text.now)
    ≡ read_field c.args.left (drop c.args.at c.args.text.now)
unfolding read_field
number_read c = then_parsed (ended_by _) c.in_ok-number.ensures

pub returns-in_err-number : goal.returns-in_err-number
unfolding read_field
returns-in_err-number c = rw c.from_residual.ensures (then_malformed (ended_by _) c.in_err-number.ensures)

pub returns-then-text-number : goal.returns-then-text-number
returns-then-text-number c =
    let n = number_read (goal.at.returns-then-text-number c).In_ok-number in
    elim c.then-text-number.branch [
      | then-text-number-via-then-text-number w ↦ no_byte _ _ _ _ w.if-text-number.true ∙ n
      | then-text-number-via-else-text-number+then-text-number-2 w ↦
          other_byte _ _ _ _ w.if-text-number.false (λ h. w.if-text-number-2.true (h ∙ sym w.separator_after.ensures)) ∙ n
    ]

pub returns : goal.returns
returns c =
    rw (to_z-of_z {w = w32} {z = c.in_ok-number.number.value} (search rules))
    (this_byte _ _ _ _ c.if-text-number.false (c.if-text-number-2.false ∙ c.separator_after.ensures) ∙ number_read (goal.at.returns c).In_ok-number)
