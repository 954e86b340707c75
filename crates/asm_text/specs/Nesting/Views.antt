-- The lengths of branches that the code answers, in the terms of the definitions.
use Rattle.asm_text.specs.declared.links.Branches.{Branches}
use Rattle.asm_text.specs.Nesting.Blocks.{Lengths}

abbrev pub lengths_seen : Branches → Lengths
lengths_seen branches = (branches.first, branches.others.items)
