-- The line that says why a run has not finished.
use Rattle.std.specs.Prelude.{ℕ, ◌/◌, ◌%◌, List, [], ◌∷◌, ◌++◌, codes, decimal}
use Rattle.hex.specs.Hex.{encode_upper}
use Rattle.cpm_disk.specs.declared.control.stop.Stop.{Stop}
use Rattle.cpm_disk.specs.declared.control.stop.Stop.TheVariants as stop
use Rattle.cpm_run.specs.declared.ending.Why.{Why}
use Rattle.cpm_run.specs.declared.ending.Why.TheVariants as why

abbrev pub stop_name : Stop → List ℕ
stop_name (stop.UnsupportedFunction n) = codes "UnsupportedFunction(" ++ decimal n ++ codes ")"
stop_name stop.FileReadOnly = codes "FileReadOnly"
stop_name stop.BadFcb = codes "BadFcb"
stop_name stop.DiskFault = codes "DiskFault"
stop_name stop.EndOfInput = codes "EndOfInput"
stop_name stop.UnknownDrive = codes "UnknownDrive"
stop_name stop.ConsoleFault = codes "ConsoleFault"
stop_name (stop.UnsupportedBios n) = codes "UnsupportedBios(" ++ decimal n ++ codes ")"

-- the reason for the end of a run, as it is printed; a stop of a system call has its own name
abbrev pub end_name : Why → List ℕ
end_name why.Finished = codes "Finished"
end_name why.Halted = codes "Halted"
end_name why.Undocumented = codes "Undocumented"
end_name why.TurnLimit = codes "TurnLimit"
end_name (why.Stopped stop) = stop_name stop
end_name why.ComTooLong = codes "ComTooLong"
end_name why.TailTooLong = codes "TailTooLong"
end_name why.NoMemory = codes "NoMemory"

-- `stopped: WHY at PPPP`, with the address in four hexadecimal digits
abbrev pub stopped_line : Why → ℕ → List ℕ
stopped_line why pc = codes "stopped: " ++ end_name why ++ codes " at " ++ encode_upper (pc / 256 ∷ pc % 256 ∷ []) ++ 10 ∷ []
