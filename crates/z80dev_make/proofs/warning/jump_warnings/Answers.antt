use Rattle.std.proofs.Common.{◌∙◌, All, List, ap, map, subst, sym}
use Rattle.std.specs.List.{AllZip, zip}
use Rattle.std.proofs.lemmas.Result.{IfOk-weaker}
use Rattle.zmo_object.specs.Modules.{module_of}
use Rattle.zmo_object.specs.Rules.{IsModule}
use Rattle.zmo_object.specs.declared.module.Module as held
use Rattle.zlink.specs.Program.Faults.{first_fault}
use Rattle.report_texts.specs.Front.{earlier, front_lines}
use Rattle.source_warnings.specs.declared.jumps.warnings.Warning.{Warning}
use Rattle.source_warnings.specs.Jumps.Warnings.{all_warnings}
use Rattle.z80dev_make.specs.Private.Shown.{shown_in}
use Rattle.z80dev_make.specs.Warned.{IsGivenAs, found_unless, joined}
use Rattle.z80dev_make.proofs.Held.{all_built}
use Rattle.z80dev_make.proofs.warning.jump_warnings.Goals as goal

abbrev found_in : List held.Module → List Warning
found_in modules = found_unless (first_fault (map module_of modules)) (all_warnings (joined (map module_of modules)))

pub told_joined-requires : goal.told_joined-requires
told_joined-requires c = subst (λ ms. All IsModule (map module_of ms)) (sym c.deref-2.ensures.value) c.requires

pub returns : goal.returns
returns c =
    let files = c.args.files.now in
    let built = c.args.built.now in
    let modules = built.modules.items in
    let front = c.args.front in
    let own = c.in_ok-lines.lines.items in
    let sources = all_built front files own built.lines.items modules (c.in_ok-lines.ensures ∙ ap (map (λ l. map (earlier (front_lines front)) l.each.items)) c.deref.ensures.value) in
    IfOk-weaker c.told_joined.result _ _
    (λ all is.
    subst (λ ss. AllZip (IsGivenAs ss) (found_in modules) all.items) sources
    (subst (λ os. AllZip (IsGivenAs (map shown_in (zip files (zip os modules)))) (found_in modules) all.items) c.deref-3.ensures.value
    (subst (λ ms. AllZip (IsGivenAs (map shown_in (zip files (zip c.deref-3.result.now ms)))) (found_in ms) all.items) c.deref-2.ensures.value is)))
    c.told_joined.ensures
