use Rattle.std.proofs.Common.{◌≡◌, ◌∙◌, Vec, Global, ap}
use Rattle.source_warnings.specs.declared.warning.SourceWarning as code
use Rattle.std.specs.List.{flat_map}
use Rattle.std.proofs.lemmas.Result.{IfOk-weaker}
use Rattle.asm_macro.specs.Texts.{numbered, source_lines}
use Rattle.asm_macro.specs.Views.{lines_seen}
use Rattle.source_warnings.specs.Macros.{macro_definitions, later_definitions}
use Rattle.source_warnings.specs.Noted.{first_noted}
use Rattle.source_warnings.specs.Private.Known.{Agrees}
use Rattle.source_warnings.specs.Calls.{calls_after}
use Rattle.source_warnings.proofs.Called.{again-agrees, calls-agree}
use Rattle.source_warnings.proofs.calls.calls_in.Goals as goal

pub returns : goal.returns
returns c =
    let text = c.args.text.now in
    let lines : c.in_ok-lines.lines ≡ source_lines text = rw c.source_part.ensures.part at c.in_ok-lines.ensures.lines in
    let macros : Agrees c.in_ok-macros.macros (macro_definitions text) = rw lines at c.in_ok-macros.ensures in
    let again = rw lines at c.in_ok-later.ensures in
    let later : Agrees c.in_ok-later.later (later_definitions text) = λ name. again name ∙ ap (λ f. first_noted (flat_map f (numbered 1 (source_lines text))) name) (again-agrees c.in_ok-macros.macros (macro_definitions text) macros) in
    let seen = lines_seen c.args.expanded.now in
    IfOk-weaker c.put_lines.result _ _ (λ (found : Vec code.SourceWarning Global) is. is ∙ (ap (λ ls. calls_after ls c.in_ok-macros.macros c.in_ok-later.later 0 seen) lines ∙ calls-agree (source_lines text) c.in_ok-macros.macros c.in_ok-later.later (macro_definitions text) (later_definitions text) macros later 0 seen)) c.put_lines.ensures
