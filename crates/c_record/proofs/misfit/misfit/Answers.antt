-- `c_record::misfit::misfit` meets its contract: the check of a continuing call refuses, and its refusal is told. Assumes nothing.
use Rattle.c_record.specs.Words.{resume_words}
use Rattle.c_record.specs.WordLaws.{misfit_fits, misfit_never_passes, misfit_told}
use Rattle.c_record.proofs.misfit.misfit.Goals as goal

pub refusal-requires : goal.refusal-requires
refusal-requires c =
    misfit_fits _ _ _ _ _ c.requires (rw c.read-r.ensures at c.check_resume.ensures)
    c.in-Err.is

pub returns-in-Err : goal.returns-in-Err
unfolding resume_words
returns-in-Err c =
    misfit_told _ _ _ _ _ c.requires (rw c.read-r.ensures at c.check_resume.ensures)
    c.in-Err.is
    0 c.refusal.ensures

pub returns-in-Ok : goal.returns-in-Ok
returns-in-Ok c =
    absurd (misfit_never_passes _ _ _ _ _ c.requires (rw c.read-r.ensures at c.check_resume.ensures) c.in-Ok.is)
