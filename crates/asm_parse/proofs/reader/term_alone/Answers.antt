use Rattle.std.proofs.Common.{refl}
use Rattle.asm_parse.specs.Expression.{Leaf}
use Rattle.asm_parse.specs.Source.{operand}
use Rattle.asm_parse.proofs.reader.term_alone.Goals as goal

pub known-requires : goal.known-requires
known-requires c = record { expression = Leaf (operand c.in-Term.term); spelled = refl }
