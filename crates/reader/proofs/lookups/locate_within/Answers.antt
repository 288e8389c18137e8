-- `reader::lookups::locate_within` meets its contract: the refusals decide first. Assumes nothing.
use Rattle.std.proofs.Common.{rules, ◌≡◌, refl, ◌∙◌, ℕ, Option, Some, None, Ok, true, false}
use borrow.Author.Tests.{eq-eqb, le-leb, lt-leb, ne_eqb}
use Rattle.definitions.specs.Highest.{placed}
use Rattle.definitions.specs.Refusals.{between}
use Rattle.table_rows.specs.Places.{place_of}
use Rattle.reader.specs.AnswerLaws.{asked, many_rows, other_length, unknowns_outside}
use Rattle.reader.specs.Answers.{located_of}
use Rattle.reader.proofs.lookups.locate_within.Goals as goal

placed_is : (o : Option ℕ) → located_of (Ok o) ≡ placed (place_of o)
placed_is (Some n) = refl
placed_is None = refl

pub returns-then-not-contains : goal.returns-then-not-contains
returns-then-not-contains c =
    let outside : between 1 c.args.unknowns c.args.q ≡ false = search rules in
    unknowns_outside _ _ _ _ _ outside

pub returns-then-t-q : goal.returns-then-t-q
returns-then-t-q c =
    let inside : between 1 c.args.unknowns c.args.q ≡ true = search rules in
    other_length _ _ _ _ _ inside (ne_eqb _ _ c.if-t-q.true)

pub returns-then-list-q : goal.returns-then-list-q
returns-then-list-q c =
    let inside : between 1 c.args.unknowns c.args.q ≡ true = search rules in
    many_rows _ _ _ _ _ inside (eq-eqb _ _ c.if-t-q.false) (lt-leb _ _ c.if-list-q.true)

pub returns : goal.returns
returns c =
    let inside : between 1 c.args.unknowns c.args.q ≡ true = search rules in
    placed_is _ ∙ asked _ _ _ _ _ inside (eq-eqb _ _ c.if-t-q.false) (le-leb _ _ c.if-list-q.false) c.highest.ensures
