use Rattle.std.proofs.Common.{◌∙◌, ap}
use Rattle.std.proofs.lemmas.Result.{IfOk-weaker}
use Rattle.program_map.specs.Text.{map_text}
use Rattle.z80dev_make.specs.Products.{map_files}
use Rattle.z80dev_make.proofs.linking.map_text_of.Goals as goal

pub returns-in_ok-map-clause-text : goal.returns-in_ok-map-clause-text
returns-in_ok-map-clause-text c =
    IfOk-weaker c.map_text.result _ _ (λ text is. ap (map_files c.args.wanted) (is ∙ ap map_text c.in_ok-map.ensures.«map»)) c.map_text.ensures
