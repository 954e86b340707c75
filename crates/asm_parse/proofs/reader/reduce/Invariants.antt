use Rattle.std.proofs.Common.{◌≡◌, ◌++◌, List, length, map}
use Rattle.asm_parse.specs.Expression.{postfix}
use Rattle.asm_parse.specs.Source.{source_item}
use Rattle.asm_parse.specs.Grammar.{Phrase, expression}
use Rattle.asm_parse.specs.Private.Parsing.{Frame, reduce}
use Rattle.asm_parse.specs.Private.Stacks.{pendings, written}
use Rattle.asm_parse.proofs.Stacks.{Reducing}
use Rattle.asm_parse.proofs.reader.reduce.Given as goal

abbrev pub invariant-loop-last : goal.invariant-loop-last
invariant-loop-last l = (frames : List Frame) (a : Phrase) → l.fn.pending.items ≡ pendings frames → map source_item l.fn.items.items ≡ written frames ++ postfix (expression a)
    → Reducing l.level (reduce l.level frames a) l.pending.items (map source_item l.items.items)

abbrev pub decreases-loop-last : goal.decreases-loop-last
decreases-loop-last l = length l.pending.items
