-- What is handed over to the code, as reformulation_spec has it. Assumes nothing.
use Rattle.reformulation_spec.specs.Reformulation.{Reformulation, reformulation}
use Rattle.reformulation.specs.declared.Handed.{Handed}

abbrev pub paper_of : Handed → Reformulation
paper_of r = reformulation r.p r.q r.k r.m r.coefs.now r.extended.now r.other.now r.onto.now r.back.now r.above.now
