use Rattle.asm_module.proofs.Rules.Named.{all_read}
use Rattle.asm_module.proofs.Emitted.No_fault.{OfMeanings, OfNames, OfStatements, answer_is, at_places, laid_as_made, rules_kept}
use Rattle.asm_module.proofs.laws.source.emitted.Goals as goal

pub returns-clause-answer : goal.returns-clause-answer
returns-clause-answer c = λ grow lines o given r outlined.
    let same : OfMeanings = record { fault = c.stated_by_names.ensures.fault; statements = c.stated_by_names.ensures.statements } in
    answer_is same grow lines o outlined given r

pub returns-clause-laid : goal.returns-clause-laid
returns-clause-laid c =
    laid_as_made (record { constants = c.valued.ensures.constants; values = c.valued.ensures.all; refs = c.refs.ensures; few_statements = c.few.ensures.statements })
    (record { like = c.kinds_anywhere.ensures; sized = c.all_sized.ensures; laid_so = c.stated_as_laid.ensures; kept = c.statements_keep_rules.ensures; placed = c.statements_at_places.ensures; read = all_read c.few-2.ensures.data })

pub returns-clause-rules : goal.returns-clause-rules
returns-clause-rules c =
    rules_kept (record { constants = c.valued.ensures.constants; values = c.valued.ensures.all; refs = c.refs.ensures; few_statements = c.few.ensures.statements })
    (record { like = c.kinds_anywhere.ensures; sized = c.all_sized.ensures; laid_so = c.stated_as_laid.ensures; kept = c.statements_keep_rules.ensures; placed = c.statements_at_places.ensures; read = all_read c.few-2.ensures.data })

pub returns-clause-program : goal.returns-clause-program
returns-clause-program c = λ grow lines o sound.
    let same : OfMeanings = record { fault = c.stated_by_names.ensures.fault; statements = c.stated_by_names.ensures.statements } in
    let of_names : OfNames = record { constants = c.valued.ensures.constants; values = c.valued.ensures.all; refs = c.refs.ensures; few_statements = c.few.ensures.statements } in
    let of_statements : OfStatements = record { like = c.kinds_anywhere.ensures; sized = c.all_sized.ensures; laid_so = c.stated_as_laid.ensures; kept = c.statements_keep_rules.ensures; placed = c.statements_at_places.ensures; read = all_read c.few-2.ensures.data } in
    at_places of_names of_statements grow lines o sound same
