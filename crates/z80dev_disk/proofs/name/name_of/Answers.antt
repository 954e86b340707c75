use Rattle.std.proofs.Common.{◌++◌, ◌∙◌, ap, ap₂, sym}
use Rattle.z80dev_disk.specs.Words.{padded, is_wild}
use Rattle.z80dev_disk.proofs.Spelled.{plain_name}
use Rattle.z80dev_disk.proofs.name.name_of.Goals as goal

pub returns-clause-plain : goal.returns-clause-plain
returns-clause-plain c = ap is_wild (c.joined.ensures ∙ ap₂ (λ a b. padded 8 a ++ padded 3 b) c.before_point.ensures c.behind_point.ensures)
    ∙ plain_name c.args.word.now (sym c.is_file_name.ensures ∙ c.if-not-is_file_name.false)
