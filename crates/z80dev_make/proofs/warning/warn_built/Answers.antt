use Rattle.std.proofs.Common.{◌∙◌, All, ap, map, subst, sym}
use Rattle.std.specs.List.{zip}
use Rattle.std.proofs.lemmas.Result.{IfOk-weaker}
use Rattle.zmo_object.specs.Modules.{module_of}
use Rattle.zmo_object.specs.Rules.{IsModule}
use Rattle.zlink.specs.Program.Faults.{first_fault}
use Rattle.source_warnings.specs.Jumps.Warnings.{all_warnings}
use Rattle.report_texts.specs.Front.{earlier, front_lines}
use Rattle.z80dev_make.specs.Private.Shown.{shown_in}
use Rattle.z80dev_make.specs.Warned.{joined, found_unless, source_shown, jump_warning_lines}
use Rattle.z80dev_make.proofs.Held.{all_shown, each_own}
use Rattle.z80dev_make.proofs.warning.warn_built.Goals as goal

pub lines_joined-requires : goal.lines_joined-requires
lines_joined-requires c = subst (λ ms. All IsModule (map module_of ms)) (sym c.deref-2.ensures.value) c.requires

pub returns : goal.returns
returns c =
    let front = c.args.front in
    let files = c.args.files.now in
    let n = front_lines front in
    let modules = c.args.built.now.modules.items in
    let lines = c.args.built.now.lines.items in
    let own = c.in_ok-own.own.items in
    let ms = map module_of modules in
    let own_are = c.in_ok-own.ensures ∙ ap (map (λ l. map (earlier n) l.each.items)) c.deref.ensures.value in
    IfOk-weaker c.lines_joined.result _ _
    (λ out is all holds each.
    is ∙ ap (λ xs. jump_warning_lines (map shown_in (zip files (zip c.deref-3.result.now xs))) (found_unless (first_fault (map module_of xs)) (all_warnings (joined (map module_of xs))))) c.deref-2.ensures.value
    ∙ ap (λ os. jump_warning_lines (map shown_in (zip files (zip os modules))) (found_unless (first_fault ms) (all_warnings (joined ms)))) c.deref-3.ensures.value
    ∙ ap (λ ss. jump_warning_lines ss (found_unless (first_fault ms) (all_warnings (joined ms)))) (all_shown front files modules own all holds (own_are ∙ each_own n lines all each))
    ∙ ap (λ m. jump_warning_lines (map (source_shown front) (zip files all)) (found_unless (first_fault m) (all_warnings (joined m)))) holds)
    c.lines_joined.ensures
