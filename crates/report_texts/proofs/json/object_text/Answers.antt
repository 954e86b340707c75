use Rattle.std.proofs.Common.{◌∙◌, IfOk, ap}
use Rattle.std.proofs.lemmas.Result.{IfOk-weaker}
use Rattle.serde_json.specs.Written.{compact_text, has_float}
use Rattle.report_texts.proofs.Objects.{no_float}
use Rattle.report_texts.proofs.json.object_text.Goals as goal

pub returns : goal.returns
returns c =
    IfOk-weaker c.to_string.result _ _ (λ s text. text (ap has_float c.in_ok-value.ensures ∙ no_float c.args.files c.args.report.now) ∙ ap compact_text c.in_ok-value.ensures) c.to_string.ensures.text
