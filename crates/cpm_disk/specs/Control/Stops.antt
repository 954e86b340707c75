-- How calls end.
use Rattle.std.specs.Prelude.{◌≡◌, ℕ, List, ◌++◌, Result, Ok, Err, codes, decimal, ⊤}
use Rattle.cpm_image.specs.declared.directory.fault.DiskFault.{DiskFault}
use Rattle.cpm_image.specs.declared.directory.fault.DiskFault.TheVariants as fault
use Rattle.cpm_disk.specs.declared.control.stop.Stop.{Stop}
use Rattle.cpm_disk.specs.declared.control.stop.Stop.TheVariants as stop

-- the stop for a fault of the disk for which a call has no answer
abbrev pub stop_of : DiskFault → Stop
stop_of fault.ReadOnly = stop.FileReadOnly
stop_of fault.Fault = stop.DiskFault
stop_of fault.Failed = stop.DiskFault
stop_of _ = stop.BadFcb

-- the reason in words
abbrev pub stop_text : Stop → List ℕ
stop_text (stop.UnsupportedFunction n) = codes "there is no function " ++ decimal n
stop_text stop.FileReadOnly = codes "the file is read-only"
stop_text stop.BadFcb = codes "the file control block is bad"
stop_text stop.DiskFault = codes "the disk failed"
stop_text stop.EndOfInput = codes "no input is left"
stop_text stop.UnknownDrive = codes "there is no such drive"
stop_text stop.ConsoleFault = codes "the console failed"
stop_text (stop.UnsupportedBios n) = codes "there is no BIOS entry " ++ decimal n

-- the first stop, if there is one, and otherwise the result of the second
abbrev pub unless_stopped : {A : Type 0} → Result ⊤ Stop → Result A Stop → Result A Stop
unless_stopped (Ok go) next = next
unless_stopped (Err why) next = Err why

-- the value that a call answers, and the memory that it leaves
pub record Done : Type 0 where
  pub value : ℕ
  pub memory : List ℕ

abbrev pub done : ℕ → List ℕ → Result Done Stop
done value memory = Ok (record { value = value; memory = memory })

-- A call ends as its row says. If it stops, the memory is as it was.
abbrev pub Ends : Result Done Stop → List ℕ → List ℕ → Result ℕ Stop → Type 0
Ends row before now (Ok value) = row ≡ done value now
Ends row before now (Err why) = (row ≡ Err why) × (now ≡ before)

-- A call is stopped before the disk is used, and the disk and the memory are as they were; otherwise `asked` holds.
abbrev pub Unless : {D : Type 0} → Result ⊤ Stop → D → D → List ℕ → List ℕ → Result ℕ Stop → Type 0 → Type 0
Unless (Err why) old new before now result asked = (result ≡ Err why) × (new ≡ old) × (now ≡ before)
Unless (Ok go) old new before now result asked = asked
