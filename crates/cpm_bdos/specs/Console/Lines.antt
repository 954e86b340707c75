-- Function 10 reads a line to memory. (CP/M 2.2 Interface Guide, read console buffer.)
use Rattle.std.specs.Prelude.{◌≡◌, ◌+◌, ℕ, List, [], ◌∷◌, length, Result, Ok, Err}
use Rattle.cpm_console.specs.Line.{NoInput, Stored, Transcript, WarmBoot}
use Rattle.cpm_console.specs.Screen.{Does, Screen, Stops}
use Rattle.cpm_disk.specs.Control.Bytes.{with_bytes}
use Rattle.cpm_disk.specs.declared.control.stop.Stop.{Stop}
use Rattle.cpm_disk.specs.declared.control.stop.Stop.TheVariants as stop
use Rattle.cpm_bdos.specs.declared.console.reply.Reply.{Reply}
use Rattle.cpm_bdos.specs.declared.console.reply.Reply.TheVariants as reply

-- memory after a line is stored in a buffer: after the byte with its room come the number of bytes in the line, and the line
abbrev pub with_line_stored : ℕ → List ℕ → List ℕ → List ℕ
with_line_stored address bytes memory = with_bytes (address + 2) bytes (with_bytes (address + 1) (length bytes ∷ []) memory)

-- How function 10 ends if these bytes pass during the line. Memory changes only if the line is stored.
abbrev pub ReadsLine : Transcript → ℕ → Screen → Screen → List ℕ → List ℕ → Result Reply Stop → Type 0
ReadsLine t address old new before now (Ok (reply.Value value)) =
    Does old new t.events × (value ≡ 0) × ((bytes : List ℕ) × (t.ending ≡ Stored bytes) × (now ≡ with_line_stored address bytes before))
ReadsLine t address old new before now (Ok reply.WarmBoot) = Does old new t.events × (t.ending ≡ WarmBoot) × (now ≡ before)
ReadsLine t address old new before now (Err stop.EndOfInput) = Does old new t.events × (t.ending ≡ NoInput) × (now ≡ before)
ReadsLine t address old new before now (Err stop.ConsoleFault) = Stops old new t.events × (now ≡ before)
ReadsLine t address old new before now (Err why) = ⊥
