use Rattle.zlink.specs.Certified.{told_verdict}
use Rattle.zlink.specs.Judged.{verdict_of}
use Rattle.z80dev.proofs.Certain.{certain, certain_length}
use Rattle.z80dev.proofs.laws.checking.checked.Goals as goal

pub returns-clause-built : goal.returns-clause-built
returns-clause-built c = λ grow sources b answer is checked.
    certain_length c.one_answer.ensures b.com.items b.sizes.items b.cert.items _ answer is.4.1.reads.length_is is.4.1.judged.certified.accepted checked

pub returns-clause-not_built : goal.returns-clause-not_built
returns-clause-not_built c = λ grow sources why sizes cert answer is checked.
    certain c.one_answer.ensures sizes.items cert.items (told_verdict (verdict_of why)) answer is.4.judged.certified.accepted checked

pub returns-clause-linked : goal.returns-clause-linked
returns-clause-linked c = λ modules l answer is checked.
    certain_length c.one_answer.ensures l.com.items l.sizes.items l.cert.items _ answer is.2.reads.length_is is.2.judged.certified.accepted checked

pub returns-clause-not_linked : goal.returns-clause-not_linked
returns-clause-not_linked c = λ modules why sizes cert answer is checked.
    certain c.one_answer.ensures sizes.items cert.items (told_verdict (verdict_of why)) answer is.1.judged.certified.accepted checked
