use Rattle.std.proofs.Common.{◌∙◌, ap, sym}
use Rattle.z80dev_disk.specs.Words.{filled_pattern, pattern_of}
use Rattle.z80dev_disk.proofs.Patterns.{spelled}
use Rattle.z80dev_disk.proofs.pattern.pattern_of.Goals as goal

pub returns : goal.returns
returns c =
    let word_is = c.as_bytes-word.ensures.value in
    spelled c.as_bytes-word.result.now c.fill.new.bytes c.fill-2.new.bytes (sym c.is_pattern.ensures ∙ c.if-not-is_pattern.false) (c.fill.ensures ∙ ap (filled_pattern 8) c.before_point.ensures) (c.fill-2.ensures ∙ ap (filled_pattern _) c.behind_point.ensures) ∙ ap pattern_of word_is
