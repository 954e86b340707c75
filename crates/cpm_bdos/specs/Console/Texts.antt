-- Functions 1, 2 and 9: bytes that are taken with their echo, and bytes that are put. (CP/M 2.2 Interface Guide.)
use Rattle.std.specs.Prelude.{◌≡◌, ◌==◌, ◌&&◌, ◌||◌, ℕ, Bool, nat_le, List, [], ◌∷◌, map, slice_index, Result, Ok, Err, ⊤, if◌then◌else◌}
use Rattle.std.specs.List.{list_any}
use Rattle.cpm_console.specs.Dialog.{Event, Put, Took}
use Rattle.cpm_console.specs.Screen.{Does, Screen, Stops}
use Rattle.cpm_console.specs.Text.{before_dollar, bytes_from, text_shown}
use Rattle.cpm_disk.specs.declared.control.stop.Stop.{Stop}
use Rattle.cpm_disk.specs.declared.control.stop.Stop.TheVariants as stop

-- the bytes that pass during a call, and how the call ends
pub record Talk (A : Type 0) : Type 0 where
  pub events : List Event
  pub ending : Result A Stop

abbrev pub talk : {A : Type 0} → List Event → Result A Stop → Talk A
talk events ending = record { events = events; ending = ending }

-- All these bytes pass and the call ends as they say; or the console failed after some of them.
abbrev pub Speaks : {A : Type 0} → Screen → Screen → Talk A → Result A Stop → Type 0
Speaks old new t (Ok value) = (t.ending ≡ Ok value) × Does old new t.events
Speaks old new t (Err stop.ConsoleFault) = Stops old new t.events
Speaks old new t (Err why) = (t.ending ≡ Err why) × Does old new t.events

-- whether function 1 echoes this byte: 20H to 7EH, CR, LF, 08H and a tab
abbrev pub is_echoed : ℕ → Bool
is_echoed byte = (nat_le 0x20 byte && nat_le byte 0x7E) || list_any (λ b. b == byte) (0x0D ∷ 0x0A ∷ 0x08 ∷ 0x09 ∷ [])

abbrev pub echo : ℕ → ℕ → List Event
echo column byte = if is_echoed byte then map Put (text_shown column (byte ∷ [])) else []

-- function 1: the next byte, with its echo
abbrev pub taken_from : ℕ → List ℕ → Talk ℕ
taken_from column [] = talk [] (Err stop.EndOfInput)
taken_from column (byte ∷ input) = talk (Took byte ∷ echo column byte) (Ok byte)

abbrev pub taken_talk : Screen → Talk ℕ
taken_talk s = taken_from s.column s.dialog.input

-- a text is put, with tabs expanded
abbrev pub text_talk : Screen → List ℕ → Talk ⊤
text_talk s text = talk (map Put (text_shown s.column text)) (Ok tt)

-- function 2: a byte is put
abbrev pub put_talk : Screen → ℕ → Talk ⊤
put_talk s byte = text_talk s (byte ∷ [])

-- function 9: the bytes up to a dollar sign are put, at most 65,536
abbrev pub printed : Screen → ℕ → List ℕ → Talk ⊤
printed s address memory = text_talk s (before_dollar (bytes_from (slice_index memory) address 65536))
