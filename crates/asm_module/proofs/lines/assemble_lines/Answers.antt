use Rattle.std.proofs.Common.{◌≤◌, ◌∙◌, [], sym, ap, subst, Ok, Err, length, map}
use Rattle.std.proofs.lemmas.List.{length-map}
use Rattle.asm_names.specs.Layout.{layout_of, next_at}
use Rattle.asm_names.specs.Lines.{lines_of}
use Rattle.asm_names.specs.Meanings.{externals}
use Rattle.asm_module.specs.Module.Stated.{AreStated}
use Rattle.asm_module.specs.Outlines.{IsOutline, outline_table}
use Rattle.asm_module.specs.Rules.Object.{AreObjectNames, AreObjectStatements}
use Rattle.zmo_object.specs.Modules.{Module, statement_of}
use Rattle.zmo_object.specs.Rules.{IsModule}
use Rattle.asm_module.proofs.Kept.{is_module, states_lines}
use Rattle.asm_module.proofs.Passed.{equ_first, state_first, whole}
use Rattle.asm_module.proofs.lines.assemble_lines.Goals as goal
use Rattle.asm_module.specs.Program.Described.{AreOfLines}
use Rattle.asm_module.specs.Private.Steps.{held}

pub returns-in-Some-clause-answer : goal.returns-in-Some-clause-answer
returns-in-Some-clause-answer c =
    equ_first c.args.grow (lines_of c.args.lines.items) c.in_ok-outline.outline
    (subst (λ ls. IsOutline c.args.grow (lines_of ls) c.in_ok-outline.outline) c.deref.ensures.value c.in_ok-outline.ensures.outlined)
    c.in-Some.line c.in-Some.why c.of_equ.result c.in-Some.is c.of_equ.ensures

pub emit-requires-clause-outlined : goal.emit-requires-clause-outlined
emit-requires-clause-outlined c = subst (λ ls. IsOutline c.args.grow (lines_of ls) c.in_ok-outline.outline) c.deref.ensures.value c.in_ok-outline.ensures.outlined

pub returns-in-Err-clause-answer : goal.returns-in-Err-clause-answer
returns-in-Err-clause-answer c =
    let lines = lines_of c.args.lines.items in
    let o = c.in_ok-outline.outline in
    state_first c.args.grow lines o (subst (λ ls. IsOutline c.args.grow (lines_of ls) o) c.deref.ensures.value c.in_ok-outline.ensures.outlined) c.in_default.is
    c.in-Err.line c.in-Err.why c.of_state.result
    (subst (λ g. AreStated c.args.grow g (outline_table lines o) (layout_of o.layout) lines (Err (c.in-Err.line, c.in-Err.why))) c.requires.names c.in-Err.ensures.answer) c.of_state.ensures

pub returns-clause-answer : goal.returns-clause-answer
returns-clause-answer c =
    let lines = lines_of c.args.lines.items in
    let o = c.in_ok-outline.outline in
    let is_held = ap (λ (m : Module). record m { statements = map statement_of c.in-Ok.stated.statements.items }) (c.in_ok-module.ensures ∙ ap (λ ls. held c.args.name.now c.args.grow (lines_of ls) (layout_of o.layout) []) c.deref-2.ensures.value) in
    let answer = subst (λ g. AreStated c.args.grow g (outline_table lines o) (layout_of o.layout) lines (Ok c.in-Ok.stated)) c.requires.names c.in-Ok.ensures.answer in
    whole c.args.grow lines o (subst (λ ls. IsOutline c.args.grow (lines_of ls) o) c.deref.ensures.value c.in_ok-outline.ensures.outlined) c.in_default.is
    c.args.name.now _ (map statement_of c.in-Ok.stated.statements.items) c.in-Ok.stated.lines.items answer.0 answer.1 answer.2 is_held

pub returns-clause-kept : goal.returns-clause-kept
returns-clause-kept c =
    let lines = lines_of c.args.lines.items in
    let o = c.in_ok-outline.outline in
    let made = map statement_of c.in-Ok.stated.statements.items in
    let is_held = ap (λ (m : Module). record m { statements = map statement_of c.in-Ok.stated.statements.items }) (c.in_ok-module.ensures ∙ ap (λ ls. held c.args.name.now c.args.grow (lines_of ls) (layout_of o.layout) []) c.deref-2.ensures.value) in
    let count = ap length c.in-Ok.ensures.laid ∙ length-map made _ in
    subst IsModule (sym is_held)
    (is_module c.args.name.now c.args.grow lines (layout_of o.layout) made
    (subst AreObjectNames c.requires.names c.in_ok-outline.ensures.names)
    (subst (λ g. AreObjectStatements c.args.grow (length (externals g)) made) c.requires.names c.in-Ok.ensures.rules)
    (λ at. subst (λ n. next_at (layout_of o.layout) at ≤ n) count (c.in_ok-outline.ensures.within at)))

pub returns-clause-placed : goal.returns-clause-placed
returns-clause-placed c =
    let lines = lines_of c.args.lines.items in
    let o = c.in_ok-outline.outline in
    let made = map statement_of c.in-Ok.stated.statements.items in
    let is_held = ap (λ (m : Module). record m { statements = map statement_of c.in-Ok.stated.statements.items }) (c.in_ok-module.ensures ∙ ap (λ ls. held c.args.name.now c.args.grow (lines_of ls) (layout_of o.layout) []) c.deref-2.ensures.value) in
    subst (AreOfLines c.args.grow lines) (sym (ap (λ m. m.statements) is_held))
    (states_lines c.args.grow lines o made (subst (λ ls. IsOutline c.args.grow (lines_of ls) o) c.deref.ensures.value c.in_ok-outline.ensures.outlined) c.in-Ok.ensures.program)
