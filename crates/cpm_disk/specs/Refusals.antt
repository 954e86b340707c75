-- The refusals that each operation can give.
use Rattle.std.specs.Prelude.{⊤}
use Rattle.cpm_image.specs.declared.directory.fault.DiskFault.{DiskFault}
use Rattle.cpm_image.specs.declared.directory.fault.DiskFault.TheVariants as fault

abbrev pub RefusesCreation : DiskFault → Type 0
RefusesCreation fault.Exists = ⊤
RefusesCreation fault.DirectoryFull = ⊤
RefusesCreation _ = ⊥

abbrev pub RefusesErasure : DiskFault → Type 0
RefusesErasure fault.NotFound = ⊤
RefusesErasure fault.ReadOnly = ⊤
RefusesErasure _ = ⊥

abbrev pub RefusesMarking : DiskFault → Type 0
RefusesMarking fault.NotFound = ⊤
RefusesMarking _ = ⊥

abbrev pub RefusesRenaming : DiskFault → Type 0
RefusesRenaming fault.NotFound = ⊤
RefusesRenaming fault.Exists = ⊤
RefusesRenaming fault.ReadOnly = ⊤
RefusesRenaming _ = ⊥

abbrev pub RefusesReading : DiskFault → Type 0
RefusesReading fault.NotFound = ⊤
RefusesReading fault.TooFar = ⊤
RefusesReading fault.NoExtent = ⊤
RefusesReading fault.Unwritten = ⊤
RefusesReading _ = ⊥

abbrev pub RefusesWriting : DiskFault → Type 0
RefusesWriting fault.NotFound = ⊤
RefusesWriting fault.ReadOnly = ⊤
RefusesWriting fault.TooFar = ⊤
RefusesWriting fault.DirectoryFull = ⊤
RefusesWriting fault.DiskFull = ⊤
RefusesWriting _ = ⊥
