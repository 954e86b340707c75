use Rattle.std.proofs.Common.{◌∙◌, ap, map}
use Rattle.std.proofs.lemmas.Result.{IfOk-weaker}
use Rattle.z80dev_make.specs.Private.Shown.{shown_of}
use Rattle.z80dev_make.specs.Warned.{jump_warning_lines}
use Rattle.z80dev_make.proofs.warning.lines_joined.Goals as goal

pub returns : goal.returns
returns c =
    IfOk-weaker c.warning_lines.result _ _
    (λ out is.
    is ∙ ap (λ ss. jump_warning_lines (map shown_of ss) c.deref-2.result.now) c.deref.ensures.value ∙ ap (λ ss. jump_warning_lines ss c.deref-2.result.now) c.in_ok-sources.ensures
    ∙ ap (jump_warning_lines _) (c.deref-2.ensures.value ∙ c.in_ok-found.ensures))
    c.warning_lines.ensures
