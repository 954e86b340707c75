use Rattle.std.proofs.Common.{◌≡◌, drop, map}
use Rattle.asm_spell.specs.Line.{listed_names}
use Rattle.asm_names.specs.declared.kind.Kind.{Kind}
use Rattle.asm_names.specs.Names.{has_clash, with_names}
use Rattle.asm_names.specs.Private.Steps.{Goes_on, externals}
use Rattle.asm_names.proofs.table.NameTable.declare.Given as goal

-- Adding the remaining names to the table gives the same as adding all names to the first table.
abbrev pub invariant-loop-name : goal.invariant-loop-name
invariant-loop-name l = Goes_on l.initial.self (externals (listed_names l.names)) l.self (externals (listed_names (drop l.name-index l.names)))
