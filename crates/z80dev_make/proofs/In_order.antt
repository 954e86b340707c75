-- Object files that are read, one by one.
use Rattle.std.proofs.Common.{◌<◌, ℕ, List, Err, length, get_or, take}
use Rattle.std.specs.List.{AllZip}
use Rattle.std.proofs.lemmas.Option.{slice_get-get_or}
use Rattle.zmo_object.specs.Modules.{Module}
use Rattle.zmo_object.specs.declared.fault.ObjectFault.{ObjectFault}
use Rattle.zmo_object.specs.declared.fault.ObjectFault.TheVariants as object
use Rattle.zmo_object.specs.Reading.{AnswersAsRead, read_of}
use Rattle.z80dev_make.specs.Link.{IsObject}
use Rattle.z80dev_make.specs.Private.Steps.{AreRead}

-- The object file that cannot be read is the first such one.
pub stops : (xs : List (List ℕ)) (k : ℕ) (d : List ℕ) (before : List Module) (fault : ObjectFault) → k < length xs → AllZip IsObject (take k xs) before → AnswersAsRead (Err fault) (read_of (get_or xs k d)) → AreRead xs (Err fault)
stops xs k d before object.NoMemory lt good read = tt
stops xs k d before object.Magic lt good read = record { number = k; before = before; good = good; bytes = get_or xs k d; there = slice_get-get_or xs k d lt; faulty = read }
stops xs k d before object.Truncated lt good read = record { number = k; before = before; good = good; bytes = get_or xs k d; there = slice_get-get_or xs k d lt; faulty = read }
stops xs k d before (object.BadField offset) lt good read = record { number = k; before = before; good = good; bytes = get_or xs k d; there = slice_get-get_or xs k d lt; faulty = read }
stops xs k d before object.Trailing lt good read = record { number = k; before = before; good = good; bytes = get_or xs k d; there = slice_get-get_or xs k d lt; faulty = read }
