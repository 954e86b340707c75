use Rattle.std.proofs.Common.{◌∙◌, sym, ap, subst, length, arith}
use Rattle.std.proofs.lemmas.List.{length-map}
use Rattle.std.proofs.lemmas.Result.{err_from_is_err_and}
use Rattle.asm_macro.specs.Texts.{source_lines}
use Rattle.asm_module.specs.Reads.Source.{last_listed}
use Rattle.asm_names.specs.Lines.{lines_of, taken_of}
use Rattle.zmo_object.specs.Modules.{module_of}
use Rattle.asm_module.specs.Assembled.{IsRefused}
use Rattle.asm_module.specs.Program.Described.{AreOfLines}
use Rattle.asm_module.proofs.Whole.{few_lines, no_fault, of_text, other_fault, passed_fault, stops}
use Rattle.asm_module.proofs.assembling.assemble_with.Goals as goal

pub returns-in-Err-clause-answer : goal.returns-in-Err-clause-answer
returns-in-Err-clause-answer c =
    subst (λ f. IsRefused f.why c.args.name.now c.args.text.now c.args.grow f) (sym c.of_macro.ensures)
    (stops c.args.name.now c.args.text.now c.args.grow c.in-Err.line c.in-Err.why c.in-Err.ensures)

pub returns-in_err-table-clause-answer : goal.returns-in_err-table-clause-answer
returns-in_err-table-clause-answer c =
    let p = err_from_is_err_and c.from_residual.result c.from_residual.ensures.1 in
    let s = c.in-Ok.ensures in
    rw (p.1, p.2) (passed_fault c.args.name.now c.args.text.now c.args.grow s.0 s.1 (lines_of c.in-Ok.source.lines.items) s.2 c.in-Ok.source.unread c.in_err-table.field-0.0 s.3 c.in_err-table.ensures)

pub assemble_lines-requires-clause-few : goal.assemble_lines-requires-clause-few
assemble_lines-requires-clause-few c =
    let s = c.in-Ok.ensures in
    let le = few_lines c.args.name.now c.args.text.now c.args.grow s.0 s.1 (lines_of c.in-Ok.source.lines.items) s.2 c.in_ok-table.ensures.0 (sym s.3 ∙ c.in_ok-table.ensures.1) c.few_lines.ensures in
    let same = length-map c.in-Ok.source.lines.items taken_of in
    omega (arith, le, same)

pub assemble_lines-requires-clause-parsed : goal.assemble_lines-requires-clause-parsed
assemble_lines-requires-clause-parsed c =
    let s = c.in-Ok.ensures in
    of_text c.args.name.now c.args.text.now c.args.grow s.0 s.1 (lines_of c.in-Ok.source.lines.items) s.2

pub returns-in_err-module-clause-answer : goal.returns-in_err-module-clause-answer
returns-in_err-module-clause-answer c =
    let p = err_from_is_err_and c.from_residual-in_err-module.result c.from_residual-in_err-module.ensures.1 in
    let s = c.in-Ok.ensures in
    rw (p.1, p.2) (other_fault c.args.name.now c.args.text.now c.args.grow s.0 s.1 (lines_of c.in-Ok.source.lines.items) s.2 c.in_ok-table.ensures.0 (sym s.3 ∙ c.in_ok-table.ensures.1) c.in_err-module.field-0.0 c.in_err-module.ensures.answer)

pub returns-clause-answer : goal.returns-clause-answer
returns-clause-answer c =
    let s = c.in-Ok.ensures in
    no_fault c.args.name.now c.args.text.now c.args.grow s.0 s.1 (lines_of c.in-Ok.source.lines.items) s.2 c.in_ok-table.ensures.0 (sym s.3 ∙ c.in_ok-table.ensures.1) c.in-Ok.source.last (module_of c.in_ok-module.module) c.in_ok-module.each.items
    (s.4 ∙ ap (last_listed (length (source_lines c.args.text.now))) (sym s.2)) c.in_ok-module.ensures.answer

pub returns-clause-placed : goal.returns-clause-placed
returns-clause-placed c =
    let s = c.in-Ok.ensures in
    let p = subst (λ ls. AreOfLines c.args.grow ls (module_of c.in_ok-module.module).statements) s.2 c.in_ok-module.ensures.placed in
    (p.0, (s.0, s.1, p.1), p.2)
