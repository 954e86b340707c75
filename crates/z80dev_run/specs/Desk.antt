-- Somebody at standard input and standard output.
use Rattle.std.specs.Prelude.{ℕ, ◌==◌, ◌&&◌, ◌||◌, Bool, false, List, [], ◌∷◌, Option, None, if◌then◌else◌, map, option_map}
use Rattle.std.specs.Io.KnownBytes.{append_known}
use Rattle.cpm_console.specs.Seat.{Seat}
use Rattle.cpm_console.specs.Codes.{screen_text}
use Rattle.cpm_console.specs.declared.codes.Codes.{Codes}
use Rattle.cpm_console.specs.declared.codes.Codes.TheVariants.{Plain}
use Rattle.cpm_console.specs.declared.codes.Pending.{Pending}
use Rattle.cpm_console.specs.declared.screen.Screen.{Screen}
use Rattle.z80dev_run.specs.declared.desk.InputState.{InputState}
use Rattle.z80dev_run.specs.declared.desk.Keys.{Keys}
use Rattle.z80dev_run.specs.declared.desk.Keys.TheVariants as keys
use Rattle.z80dev_run.specs.declared.rhythm.Rhythm.{Rhythm}

-- Standard input, standard output, and the screen that output is shown on; how keys come; when the keyboard was looked at; whether
-- standard input can be read; and whether the last key is the first half of leaving.
pub record DeskState (I S : Type 0) : Type 0 where
  pub input : I
  pub output : S
  pub screen : Screen
  pub keys : Keys
  pub rhythm : Rhythm
  pub state : InputState
  pub is_leaving : Bool

-- What is printed for bytes that a program puts, given what those before them have begun. Without screen codes it is these bytes.
abbrev pub printed_for : Codes → Pending → List ℕ → List ℕ
printed_for Plain pending bytes = bytes
printed_for whose pending bytes = screen_text whose pending bytes

-- a key of a line: LF is the key RETURN
abbrev pub line_key : ℕ → ℕ
line_key byte = if byte == 0x0A then 0x0D else byte

-- the keys that bytes of standard input are
abbrev pub as_keys : Keys → List ℕ → List ℕ
as_keys keys.Raw bytes = bytes
as_keys keys.Lines bytes = map line_key bytes

-- the key Ctrl-\ is pressed twice, given whether it was the last key before these
abbrev pub has_left : Bool → List ℕ → Bool
has_left was [] = false
has_left was (byte ∷ bytes) = (was && (byte == 0x1C)) || has_left (byte == 0x1C) bytes

-- A person leaves by these keys. Nobody leaves by lines.
abbrev pub leaves_by : Keys → Bool → List ℕ → Bool
leaves_by keys.Raw is_leaving bytes = has_left is_leaving bytes
leaves_by keys.Lines is_leaving bytes = false

-- Somebody at these streams: whose screen codes are shown, and what the bytes so far have begun; how keys come, and whether the last key is the
-- first half of leaving; and what is known of input and of output. What has happened is not told.
abbrev pub seat_of : Codes → Pending → Keys → Bool → Option (List ℕ) → Option (List ℕ) → Seat
seat_of whose pending keys is_leaving input output = record { screen = λ bytes. append_known output (printed_for whose pending bytes); coming = option_map (as_keys keys) input; leaves = leaves_by keys is_leaving; events = None }

-- the same of a desk, given what is known of input and of output
abbrev pub desk_seat : {I S : Type 0} → DeskState I S → Option (List ℕ) → Option (List ℕ) → Seat
desk_seat d input output = seat_of d.screen.codes d.screen.pending d.keys d.is_leaving input output
