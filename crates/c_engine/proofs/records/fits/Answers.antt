-- `records::fits` meets its contract. Assumes nothing.
use mathlib.Core.Path.{refl}
use Rattle.c_engine.specs.WordLaws.{fits_by, fits_short}
use Rattle.c_engine.proofs.records.fits.Goals as goal

pub returns-then-words-eq11 : goal.returns-then-words-eq11
returns-then-words-eq11 c = fits_by _ c.if-words-eq11.true refl

pub returns : goal.returns
returns c = fits_short _ c.if-words-eq11.false
