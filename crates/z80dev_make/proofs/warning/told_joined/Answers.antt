use Rattle.std.proofs.Common.{◌∙◌, ap, map, subst}
use Rattle.std.specs.List.{AllZip, zip}
use Rattle.std.proofs.lemmas.Result.{IfOk-weaker}
use Rattle.z80dev_make.specs.Private.Shown.{shown_in, shown_of}
use Rattle.z80dev_make.specs.Warned.{IsGivenAs}
use Rattle.z80dev_make.proofs.warning.told_joined.Goals as goal

pub returns : goal.returns
returns c =
    let sources = map shown_in (zip c.args.files.now (zip c.args.lines.now c.args.modules.now)) in
    IfOk-weaker c.all_told.result _ _
    (λ all is. subst (λ found. AllZip (IsGivenAs sources) found all.items) (c.deref-2.ensures.value ∙ c.in_ok-found.ensures)
    (subst (λ ss. AllZip (IsGivenAs ss) c.deref-2.result.now all.items) (ap (map shown_of) c.deref.ensures.value ∙ c.in_ok-sources.ensures) is))
    c.all_told.ensures
