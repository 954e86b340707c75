-- Sources as the code assembles them and shows them in warnings.
use Rattle.std.specs.Prelude.{ℕ, Vec}
use Rattle.std.specs.Global.{Global}
use Rattle.zmo_object.specs.Modules.{module_of}
use Rattle.zmo_object.specs.declared.module.Module as held
use Rattle.source_warnings.specs.Jumps.Parts.{Member}
use Rattle.zlink.specs.declared.program.joining.Links.{Links}
use Rattle.report_texts.specs.declared.front.SourceFile.{SourceFile}
use Rattle.z80dev_make.specs.declared.warned.Shown as code
use Rattle.z80dev_make.specs.Warned.{ShownSource}

abbrev pub shown_of : code.Shown → ShownSource
shown_of s = record { path = s.path.now; lines = s.lines.now; holds = module_of s.«module».now }

abbrev pub member_with : held.Module × Links → Member
member_with (m, links) = record { holds = module_of m; externals = links.externals.items }

abbrev pub shown_in : SourceFile × (Vec ℕ Global × held.Module) → ShownSource
shown_in (file, (lines, m)) = record { path = file.path.now; lines = lines.items; holds = module_of m }
