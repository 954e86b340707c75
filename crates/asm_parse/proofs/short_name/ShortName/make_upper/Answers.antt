use Rattle.std.proofs.Common.{take, map, ap, ◌∙◌}
use Rattle.std.proofs.lemmas.List.{take-map}
use Rattle.std.specs.Char.{to_ascii_uppercase}
use Rattle.common.specs.Words.{upper}
use Rattle.asm_parse.proofs.short_name.ShortName.make_upper.Goals as goal

pub returns : goal.returns
returns c =
    let bytes = c.make_ascii_uppercase.ensures.after ∙ ap (map to_ascii_uppercase) c.as_mut_slice.ensures.value in
    ap (take c.self.inside.length) bytes ∙ take-map to_ascii_uppercase c.self.inside.length c.self.inside.bytes ∙ ap upper c.self.view_is
