use Rattle.std.proofs.Common.{◌≡◌, ◌∙◌, None, ap, map, sym}
use Rattle.std.specs.List.{zip}
use Rattle.std.proofs.lemmas.Result.{IfOk-weaker}
use Rattle.zmo_object.specs.Modules.{module_of}
use Rattle.zlink.specs.Program.Faults.{first_fault}
use Rattle.zlink.specs.Program.Parts.{all_publics, parts}
use Rattle.zlink.specs.Program.Whole.{AreLinks}
use Rattle.source_warnings.specs.Jumps.Parts.{member_of}
use Rattle.source_warnings.specs.Jumps.Warnings.{all_warnings}
use Rattle.z80dev_make.specs.Private.Shown.{member_with}
use Rattle.z80dev_make.specs.Warned.{found_unless, joined}
use Rattle.z80dev_make.proofs.Held.{members}
use Rattle.z80dev_make.proofs.warning.found_joined.Goals as goal

pub returns : goal.returns
returns c =
    let modules = c.args.modules.now in
    let links = c.in-Ok.links.items in
    let ms = map module_of modules in
    let j : (first_fault ms ≡ None) × AreLinks ms links = c.in-Ok.ensures in
    let parts_are = c.in_ok-parts.ensures ∙ ap (λ ls. map member_with (zip modules ls)) c.deref.ensures.value ∙ members (all_publics (parts ms)) 0 0 modules links j.1 in
    IfOk-weaker c.find_jump_warnings.result _ _
    (λ found is. is ∙ ap (λ ps. all_warnings (map member_of ps)) c.deref-2.ensures.value ∙ ap all_warnings parts_are ∙ sym (ap (λ o. found_unless o (all_warnings (joined ms))) j.0))
    c.find_jump_warnings.ensures
