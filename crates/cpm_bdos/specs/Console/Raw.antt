-- Bytes that are taken and put unchanged, with the column as it was: functions 6 and 11, and three entries of the BIOS.
-- (CP/M 2.2 Interface Guide, direct console I/O; Alteration Guide, CONST, CONIN, CONOUT.)
use Rattle.std.specs.Prelude.{◌≡◌, ◌==◌, ℕ, Bool, true, false, List, [], ◌∷◌, Result, Ok, Err, ⊤}
use Rattle.cpm_console.specs.Calls.{Gets, PutsByte}
use Rattle.cpm_console.specs.Screen.{Screen}
use Rattle.cpm_console.specs.declared.error.ConsoleError.{ConsoleError}
use Rattle.cpm_console.specs.declared.error.ConsoleError.TheVariants as console
use Rattle.cpm_disk.specs.declared.control.stop.Stop.{Stop}
use Rattle.cpm_disk.specs.declared.control.stop.Stop.TheVariants as stop

abbrev pub console_stop : ConsoleError → Stop
console_stop console.EndOfInput = stop.EndOfInput
console_stop console.ConsoleFault = stop.ConsoleFault

-- FFH if input is left, otherwise 0
abbrev pub readiness : List ℕ → ℕ
readiness [] = 0
readiness (byte ∷ input) = 0xFF

-- the next byte is taken, or there is none, or the console failed
abbrev pub TakesRaw : Screen → Screen → Result ℕ Stop → Type 0
TakesRaw old new (Ok byte) = Gets old.dialog new.dialog (Ok byte) × (new.column ≡ old.column)
TakesRaw old new (Err stop.EndOfInput) = Gets old.dialog new.dialog (Err console.EndOfInput) × (new.column ≡ old.column)
TakesRaw old new (Err stop.ConsoleFault) = Gets old.dialog new.dialog (Err console.ConsoleFault) × (new.column ≡ old.column)
TakesRaw old new (Err _) = ⊥

-- a byte is put, or the console failed
abbrev pub PutsRaw : Screen → Screen → ℕ → Result ⊤ Stop → Type 0
PutsRaw old new byte (Ok done) = PutsByte old.dialog new.dialog byte (Ok tt) × (new.column ≡ old.column)
PutsRaw old new byte (Err stop.ConsoleFault) = PutsByte old.dialog new.dialog byte (Err console.ConsoleFault) × (new.column ≡ old.column)
PutsRaw old new byte (Err _) = ⊥

-- the next byte if there is one, otherwise 0
abbrev pub TakesAny : List ℕ → Screen → Screen → Result ℕ Stop → Type 0
TakesAny [] old new result = (result ≡ Ok 0) × (new ≡ old)
TakesAny (byte ∷ input) old new result = TakesRaw old new result

-- a byte is put, and the answer is 0
abbrev pub PutsDirect : Screen → Screen → ℕ → Result ℕ Stop → Type 0
PutsDirect old new byte (Ok value) = (value ≡ 0) × PutsRaw old new byte (Ok tt)
PutsDirect old new byte (Err why) = PutsRaw old new byte (Err why)

-- function 6: FFH takes the next byte, and any other byte is put
abbrev pub Asked : Bool → Screen → Screen → ℕ → Result ℕ Stop → Type 0
Asked true old new byte result = TakesAny old.dialog.input old new result
Asked false old new byte result = PutsDirect old new byte result

abbrev pub Directs : Screen → Screen → ℕ → Result ℕ Stop → Type 0
Directs old new byte result = Asked (byte == 0xFF) old new byte result
