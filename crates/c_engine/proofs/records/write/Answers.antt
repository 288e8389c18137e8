-- `records::write` meets its contract. Assumes nothing.
use lib.ListN.{length-set}
use native.Mathlib.Omega.{arith}
use Rattle.c_engine.specs.WordLaws.{long_by, unwritten, written}
use Rattle.c_engine.proofs.records.write.Goals as goal

pub bounds-words-0 : goal.bounds-words-0
bounds-words-0 c = omega (arith, long_by _ c.fits.ensures c.if-fits.true)

pub bounds-words-1 : goal.bounds-words-1
bounds-words-1 c =
    let l = long_by _ c.fits.ensures c.if-fits.true in
    rw (length-set) (omega (arith, l))

pub bounds-words-2 : goal.bounds-words-2
bounds-words-2 c =
    let l = long_by _ c.fits.ensures c.if-fits.true in
    rw (length-set, length-set) (omega (arith, l))

pub bounds-words-3 : goal.bounds-words-3
bounds-words-3 c =
    let l = long_by _ c.fits.ensures c.if-fits.true in
    rw (length-set, length-set, length-set) (omega (arith, l))

pub bounds-words-4 : goal.bounds-words-4
bounds-words-4 c =
    let l = long_by _ c.fits.ensures c.if-fits.true in
    rw (length-set, length-set, length-set, length-set) (omega (arith, l))

pub bounds-words-5 : goal.bounds-words-5
bounds-words-5 c =
    let l = long_by _ c.fits.ensures c.if-fits.true in
    rw (length-set, length-set, length-set, length-set, length-set) (omega (arith, l))

pub bounds-words-6 : goal.bounds-words-6
bounds-words-6 c =
    let l = long_by _ c.fits.ensures c.if-fits.true in
    rw (length-set, length-set, length-set, length-set, length-set, length-set) (omega (arith, l))

pub bounds-words-7 : goal.bounds-words-7
bounds-words-7 c =
    let l = long_by _ c.fits.ensures c.if-fits.true in
    rw (length-set, length-set, length-set, length-set, length-set, length-set, length-set) (omega (arith, l))

pub bounds-words-8 : goal.bounds-words-8
bounds-words-8 c =
    let l = long_by _ c.fits.ensures c.if-fits.true in
    rw (length-set, length-set, length-set, length-set, length-set, length-set, length-set, length-set) (omega (arith, l))

pub bounds-words-9 : goal.bounds-words-9
bounds-words-9 c =
    let l = long_by _ c.fits.ensures c.if-fits.true in
    rw (length-set, length-set, length-set, length-set, length-set, length-set, length-set, length-set, length-set) (omega (arith, l))

pub bounds-words-10 : goal.bounds-words-10
bounds-words-10 c =
    let l = long_by _ c.fits.ensures c.if-fits.true in
    rw (length-set, length-set, length-set, length-set, length-set, length-set, length-set, length-set, length-set, length-set) (omega (arith, l))

pub shape_of-words-then-fits : goal.shape_of-words-then-fits
shape_of-words-then-fits c =
    rw (length-set, length-set, length-set, length-set, length-set, length-set, length-set, length-set, length-set, length-set, length-set)

pub returns-then-fits : goal.returns-then-fits
returns-then-fits c = written _ c.fits.ensures _ c.if-fits.true

pub returns-else-fits : goal.returns-else-fits
returns-else-fits c = unwritten _ c.fits.ensures _ c.if-fits.false
