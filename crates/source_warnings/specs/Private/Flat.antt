-- The values of the code's types as definitions see them.
use Rattle.zmo_object.specs.Modules.{ModuleStatement, module_of, statement_of}
use Rattle.source_warnings.specs.declared.jumps.part.Placed as code
use Rattle.source_warnings.specs.declared.jumps.part.Sited as code_sited
use Rattle.source_warnings.specs.declared.jumps.part.Site.{Site}
use Rattle.source_warnings.specs.Jumps.Parts.{PlacedModule}

abbrev pub placed_of : code.Placed → PlacedModule
placed_of p = record { number = p.number; base = p.base; holds = module_of p.part.«module».now; externals = p.part.externals.now }

abbrev pub sited_of : code_sited.Sited → Site × ModuleStatement
sited_of s = (s.site, statement_of s.statement.now)
