-- A terminal: a console with a column.
use Rattle.std.specs.Prelude.{◌≡◌, ◌≤◌, ◌==◌, ◌+◌, ◌-◌, ◌%◌, ◌&&◌, Bool, not, ℕ, nat_le, List, [], ◌∷◌, ◌++◌, length, map, if◌then◌else◌}
use Rattle.cpm_console.specs.Dialog.{Dialog, Event, Passes, Put, put_by}
use Rattle.host.specs.Streams.Stream.{counted}
use Rattle.cpm_console.specs.declared.terminal.Terminal.{Terminal}

pub record Screen : Type 0 where
  pub dialog : Dialog
  pub column : ℕ

-- a terminal as its user sees it, given what that means for its console
abbrev pub screen : {C : Type 0} → (C → Dialog) → Terminal C → Screen
screen dialog t = record { dialog = dialog t.console; column = t.column }

-- whether a byte takes a column on the screen: 20H to 7EH and 80H to FFH
abbrev pub has_width : ℕ → Bool
has_width byte = nat_le 0x20 byte && not (byte == 0x7F)

-- The column after a byte is put: one more if the byte takes a column, modulo 65,536; 0 after CR; one less after 08H, but not below 0.
abbrev pub moved : ℕ → ℕ → ℕ
moved column byte =
    if has_width byte then (column + 1) % 65536
    else if byte == 0x0D then 0
    else if byte == 0x08 then column - 1
    else column

abbrev pub column_after : ℕ → List ℕ → ℕ
column_after column [] = column
column_after column (byte ∷ bytes) = column_after (moved column byte) bytes

-- Exactly these events passed, in this order; the console did not fail, and the column moved with the bytes that were put.
pub record Does (old new : Screen) (events : List Event) : Type 0 where
  pub passed : Passes old.dialog new.dialog events
  pub unfailed : new.dialog.faults ≡ old.dialog.faults
  pub column : new.column ≡ column_after old.column (put_by events)

-- The console failed once on the way, and only the first of these events passed. The byte of the put that failed may be put all the same;
-- it does not move the column.
pub record Stops (old new : Screen) (events : List Event) : Type 0 where
  pub done : List Event
  pub failed : List ℕ
  pub rest : List Event
  pub front : events ≡ done ++ (map Put failed ++ rest)
  pub one : length failed ≤ 1
  pub passed : Passes old.dialog new.dialog (done ++ map Put failed)
  pub column : new.column ≡ column_after old.column (put_by done)
  pub fault : new.dialog.faults ≡ counted old.dialog.faults
