-- How reading object files ends.
use Rattle.std.specs.Prelude.{ℕ, List, All, Result, Ok, Err, Vec, map}
use Rattle.std.specs.List.{AllZip}
use Rattle.std.specs.Global.{Global}
use Rattle.zmo_object.specs.declared.module.Module as held
use Rattle.zmo_object.specs.Modules.{module_of}
use Rattle.zmo_object.specs.Rules.{IsModule}
use Rattle.zmo_object.specs.declared.fault.ObjectFault.{ObjectFault}
use Rattle.zmo_object.specs.declared.fault.ObjectFault.TheVariants as object
use Rattle.z80dev_make.specs.Link.{IsFirstFaultyObject, IsObject}

-- All are read as modules that keep the rules; or this is the error of the first that cannot be read; or memory ran out.
abbrev pub AreRead : List (List ℕ) → Result (Vec held.Module Global) ObjectFault → Type 0
AreRead objects (Ok modules) = AllZip IsObject objects (map module_of modules.items) × All IsModule (map module_of modules.items)
AreRead objects (Err object.NoMemory) = Unit {0}
AreRead objects (Err fault) = IsFirstFaultyObject objects fault
