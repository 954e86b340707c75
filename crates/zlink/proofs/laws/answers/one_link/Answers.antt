use Rattle.zlink.proofs.One_answer.{built_is_linked, one_answer, one_built, one_listing, one_places}
use Rattle.zlink.proofs.laws.answers.one_link.Goals as goal

pub returns-clause-link : goal.returns-clause-link
returns-clause-link c = one_answer c.one_growth.ensures.order c.one_growth.ensures.verdict c.one_file.ensures.file

pub returns-clause-places : goal.returns-clause-places
returns-clause-places c = λ modules. one_places c.one_growth.ensures.order c.one_growth.ensures.verdict c.one_file.ensures.file modules c.one_file.ensures.places

pub returns-clause-build : goal.returns-clause-build
returns-clause-build c = λ grow sources assemblies a b are of_a of_b.
    built_is_linked c.one_answer.ensures.answer c.one_answer.ensures.program grow sources assemblies are c.one_growth.ensures.order c.one_growth.ensures.verdict c.one_file.ensures.file a b of_a of_b

pub returns-clause-sources : goal.returns-clause-sources
returns-clause-sources c = λ grow sources. one_built c.one_answer.ensures.answer c.one_answer.ensures.program c.one_growth.ensures.order c.one_growth.ensures.verdict c.one_file.ensures.file grow sources

pub returns-clause-lines : goal.returns-clause-lines
returns-clause-lines c = λ grow sources. one_listing c.one_answer.ensures.answer c.one_answer.ensures.program c.one_growth.ensures.order c.one_growth.ensures.verdict c.one_file.ensures.file grow sources
