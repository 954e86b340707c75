-- What is printed for the commands that show something.
use Rattle.std.specs.Prelude.{◌≡◌, ◌==◌, ◌&&◌, ℕ, Bool, List, [], ◌∷◌, ◌++◌, ◌*◌, Option, Some, None, codes, decimal, drop, filter, if◌then◌else◌, length, map, nat_eq, nat_lt, not, slice_index, take, true}
use Rattle.std.specs.List.{enumerate_from, flat_map, list_all, position_or_len, starts_with, take_while}
use Rattle.bstr.specs.Text.{lines_of, without_terminator}
use Rattle.cpm_run.specs.Run.{why_text}
use Rattle.cpm_run.specs.Turns.{bdos}
use Rattle.cpm_run.specs.declared.ending.Why.{Why}
use Rattle.hex.specs.Hex.{encode_upper}
use Rattle.z80_cpu.specs.State.{Machine, byte_at, down_by, up_by, word_at}
use Rattle.state_text.specs.Printing.Columns.{word_text}
use Rattle.state_text.specs.Printing.Memory.{memory_text, shown_character}
use Rattle.state_text.specs.Printing.Registers.{registers_text}
use Rattle.debugger_commands.specs.declared.command.Command.{Command}
use Rattle.debugger_commands.specs.declared.command.Command.TheVariants as command
use Rattle.machine_history.specs.declared.history.Outcome.{Outcome}
use Rattle.machine_history.specs.declared.history.Outcome.TheVariants as outcome
use Rattle.state_text.specs.declared.breakpoint.Breakpoint.{Breakpoint}
use Rattle.machine_history.specs.declared.stops.Change.{Change}
use Rattle.state_text.specs.declared.breakpoint.Condition.{Condition}
use Rattle.machine_history.specs.declared.stops.Hit.{Hit}
use Rattle.machine_history.specs.declared.stops.Hit.TheVariants as hit
use Rattle.machine_history.specs.declared.stops.Stops.{Stops}
use Rattle.machine_history.specs.declared.stops.Watch.{Watch}
use Rattle.debugger.specs.Instructions.{code_text, instruction_at}
use Rattle.state_text.specs.Labelled.{Known}
use Rattle.debugger.specs.Addresses.{address_with_label}
use Rattle.machine_history.specs.Stops.{IsLast}
use Rattle.state_text.specs.RegisterNames.{register_name}
use Rattle.machine_history.specs.Walk.{Shown}
use Rattle.debugger_commands.specs.Help.{help_answer}

-- ---- breakpoints and watched bytes

abbrev pub condition_after : Option Condition → List ℕ
condition_after None = []
condition_after (Some condition) = codes " if " ++ register_name condition.register ++ codes "=" ++ word_text condition.value

abbrev pub breakpoint_line : Known → Breakpoint → List ℕ
breakpoint_line known breakpoint = codes "break " ++ address_with_label known breakpoint.address ++ condition_after breakpoint.condition ++ codes "\n"

-- how many bytes, unless it is one
abbrev pub count_after : ℕ → List ℕ
count_after count = if count == 1 then [] else codes ", " ++ decimal count ++ codes " bytes"

-- this many bytes from an address on are watched
abbrev pub watch_line : Known → ℕ → ℕ → List ℕ
watch_line known from count = codes "watch " ++ address_with_label known from ++ count_after count ++ codes "\n"

abbrev pub watch_lines : List ℕ → Known → List Watch → List ℕ
watch_lines before known watches = flat_map (λ watch. before ++ watch_line known watch.from watch.count) watches

abbrev pub breakpoint_lines : List ℕ → Known → List Breakpoint → List ℕ
breakpoint_lines before known breakpoints = flat_map (λ breakpoint. before ++ breakpoint_line known breakpoint) breakpoints

-- the lines of the breakpoints, and then those of the watches, in the order in which they were set, each after some text
abbrev pub stops_lines : List ℕ → Known → List Breakpoint → List Watch → List ℕ
stops_lines before known breakpoints watches = breakpoint_lines before known breakpoints ++ watch_lines before known watches

-- the same, or this if there are none
abbrev pub stops_text : List ℕ → List ℕ → Known → List Breakpoint → List Watch → List ℕ
stops_text none before known breakpoints watches = if (length breakpoints == 0) && (length watches == 0) then none else stops_lines before known breakpoints watches

-- what is said if nothing is set at all, and if nothing is set at an address
abbrev pub nothing_set : List ℕ
nothing_set = codes "no breakpoints, and no watched bytes\n"

abbrev pub nothing_there : List ℕ
nothing_there = codes "no breakpoint and no watched byte is there\n"

-- whether a byte is one of those of a watch
abbrev pub covers : ℕ → Watch → Bool
covers address watch = nat_lt (down_by watch.from address) watch.count

-- whether something is asked for: that which is there, or that which is not
abbrev pub is_chosen : Bool → Bool → Bool
is_chosen there is_there = if there then is_there else not is_there

-- the breakpoints at an address, or those elsewhere
abbrev pub breakpoints_at : ℕ → Bool → List Breakpoint → List Breakpoint
breakpoints_at address there breakpoints = filter (λ it. is_chosen there (it.address == address)) breakpoints

-- the watches of bytes among which the one at an address is, or those without it
abbrev pub watches_at : ℕ → Bool → List Watch → List Watch
watches_at address there watches = filter (λ it. is_chosen there (covers address it)) watches

-- what `info` and `delete` list of the breakpoints and the watched bytes that were set; nothing for another command
abbrev pub listed_stops : Known → Stops → Command → List ℕ
listed_stops known stops command.Info = stops_text nothing_set [] known stops.breakpoints.items stops.watches.items
listed_stops known stops (command.Delete None) = stops_text nothing_set (codes "deleted ") known stops.breakpoints.items stops.watches.items
listed_stops known stops (command.Delete (Some address)) =
    stops_text nothing_there (codes "deleted ") known (breakpoints_at address true stops.breakpoints.items) (watches_at address true stops.watches.items)
listed_stops known stops other = []

-- ---- `who`

-- the values of a byte before and after
abbrev pub values_text : Change → List ℕ
values_text change = codes ": " ++ encode_upper (change.before ∷ []) ++ codes " -> " ++ encode_upper (change.after ∷ [])

-- the function of the system call, if one is at this address
abbrev pub call_text : ℕ → ℕ → List ℕ
call_text address function = if address == bdos then codes ": BDOS " ++ decimal function else []

-- the instruction or the system call that changed a byte
abbrev pub changer_text : Known → Change → List ℕ
changer_text known change = address_with_label known change.by ++ call_text change.by change.function

abbrev pub change_line : Known → Change → List ℕ
change_line known change = address_with_label known change.address ++ values_text change ++ codes " by " ++ changer_text known change ++ codes "\n"

abbrev pub unchanged_line : Known → ℕ → List ℕ
unchanged_line known address = codes "no turn has changed " ++ address_with_label known address ++ codes "\n"

-- the line of the last turn that changed the byte at an address, or that none has
abbrev pub who_text : Known → ℕ → Option (ℕ × Hit) → List ℕ
who_text known address (Some (turn, hit.Changed change)) = codes "turn " ++ decimal turn ++ codes " changed " ++ change_line known change
who_text known address other = unchanged_line known address

-- only this byte is watched
abbrev pub Watches : ℕ → Stops → Type 0
Watches address stops = (stops.breakpoints.items ≡ []) × (stops.watches.items ≡ record { from = address; count = 1 } ∷ [])

-- The last turn that changed a byte, up to the one that is shown.
abbrev pub SaysWho : ℕ → Shown → Known → List ℕ → Type 0
SaysWho address shown known text =
    (watching : Stops) × (last : Option (ℕ × Hit)) × Watches address watching × IsLast watching shown shown.turn last × (text ≡ who_text known address last)

-- ---- `where`

-- whether a row of a listing begins with an address; one without begins with a blank, or is empty if its blanks were cut off
abbrev pub has_address : List ℕ → Bool
has_address row = nat_lt 0 (length row) && not (slice_index row 0 == 0x20)

-- whether a row of a listing has further bytes of the line before it: it begins with an address, and no text of a source follows its bytes.
-- The text of a source begins in the 17th column. Blanks at the end of a row may have been cut off.
abbrev pub is_further_row : List ℕ → Bool
is_further_row row = has_address row && list_all (λ byte. byte == 0x20) (drop 16 row)

-- whether a row of a listing is the first of a line at the address with these digits
abbrev pub begins_at : List ℕ → List ℕ → Bool
begins_at digits row = starts_with nat_eq row digits && not (is_further_row row)

-- the first of these rows that begins a line at the address with these digits, and the further rows of that line
abbrev pub rows_from : List ℕ → List (List ℕ) → List (List ℕ)
rows_from digits [] = []
rows_from digits (row ∷ rows) = if begins_at digits row then row ∷ take_while is_further_row rows else rows_from digits rows

-- the rows of a listing that are those of an address
abbrev pub listed_rows : List ℕ → ℕ → List (List ℕ)
listed_rows listing address = rows_from (word_text address) (map without_terminator (lines_of listing))

-- the columns of a row that its bytes are in: eight, from the seventh on
abbrev pub listed_columns : List ℕ → List ℕ
listed_columns row = take 8 (drop 6 row)

-- the digits of the bytes in a row
abbrev pub listed_digits : List ℕ → List ℕ
listed_digits row = take (position_or_len (λ byte. byte == 0x20) (listed_columns row)) (listed_columns row)

-- the digits of the four bytes from an address on
abbrev pub digits_at : List ℕ → ℕ → List ℕ
digits_at memory address = encode_upper (byte_at address memory ∷ byte_at (up_by 1 address) memory ∷ byte_at (up_by 2 address) memory ∷ byte_at (up_by 3 address) memory ∷ [])

-- whether the bytes in memory are those in a row
abbrev pub is_as_listed : List ℕ → ℕ → List ℕ → Bool
is_as_listed memory address row = starts_with nat_eq (digits_at memory address) (listed_digits row)

-- whether they are those in all of these rows: each but the last has four bytes
abbrev pub are_as_listed : List ℕ → ℕ → List (List ℕ) → Bool
are_as_listed memory address rows = list_all (λ row. is_as_listed memory (up_by (4 * row.0) address) row.1) (enumerate_from 0 rows)

-- what is said of a line of the listing if memory has other bytes
abbrev pub changed_since : List ℕ
changed_since = codes "memory differs from this line: dis PC shows what is there now\n"

abbrev pub listing_note : Bool → List ℕ
listing_note are_as_listed = if are_as_listed then [] else changed_since

-- a byte of a listing: a tab stays as it is, and another byte that is no character is a full stop
abbrev pub listed_character : ℕ → ℕ
listed_character byte = if byte == 0x09 then byte else shown_character byte

-- the first of the rows of an address, which has the text of the line, and whether memory has other bytes than all of them
abbrev pub listing_text : List ℕ → ℕ → List (List ℕ) → List ℕ
listing_text memory address [] = []
listing_text memory address (row ∷ rows) = map listed_character row ++ codes "\n" ++ listing_note (are_as_listed memory address (row ∷ rows))

-- an address with its label, and its line of a listing
abbrev pub where_text : Known → List ℕ → List ℕ → ℕ → List ℕ
where_text known listing memory address = address_with_label known address ++ codes "\n" ++ listing_text memory address (listed_rows listing address)

-- ---- what the program has printed

abbrev pub printed_line : List ℕ → List ℕ
printed_line line = codes "| " ++ map shown_character line ++ codes "\n"

-- these bytes without CR, each line of them after `| `
abbrev pub output_text : List ℕ → List ℕ
output_text bytes = flat_map printed_line (map without_terminator (lines_of (filter (λ byte. not (byte == 0x0D)) bytes)))

-- These are all the bytes that the program has printed.
abbrev pub Printed : Shown → List ℕ → Type 0
Printed shown bytes = shown.point.state.system.terminal.console.output ≡ Some bytes

-- the bytes that come after as many as these; none after going back to a time when there were fewer
abbrev pub since : List ℕ → List ℕ → List ℕ
since before now = drop (length before) now

-- ---- the commands that go to another turn

-- the most turns of one command that runs to something
abbrev pub most_turns : ℕ
most_turns = 100000000

-- what `back-run` says if nothing held at any earlier turn, so that it goes to the start
abbrev pub nothing_held : List ℕ
nothing_held = codes "nothing held before: this is the start\n"

-- what `run ADDR` says if the run has ended and no step of this command led to ADDR; nothing without an address
abbrev pub missed_text : Known → Option ℕ → List ℕ
missed_text known None = []
missed_text known (Some address) = address_with_label known address ++ codes " was not reached\n"

-- Why such a command has stopped before the end of the run, unless it has reached what it was to reach. `none` is said if nothing stopped it.
abbrev pub outcome_text : Known → List ℕ → Option Outcome → List ℕ
outcome_text known none (Some (outcome.Held (hit.Breakpoint address))) = codes "breakpoint " ++ address_with_label known address ++ codes "\n"
outcome_text known none (Some (outcome.Held (hit.Changed change))) = codes "watch " ++ change_line known change
outcome_text known none (Some outcome.Limit) = codes "limit of " ++ decimal most_turns ++ codes " turns\n"
outcome_text known none (Some outcome.Ended) = none
outcome_text known none None = none
outcome_text known none told = []

-- what is there: why the run has ended; or the instruction
abbrev pub point_text : Option Why → Known → Machine → List ℕ
point_text (Some why) known machine = why_text why
point_text None known machine = instruction_at known machine machine.cpu.pc

-- the line of a point: its number of turns, PC, and what is there
abbrev pub point_line : Known → ℕ → Option Why → Machine → List ℕ
point_line known turn end machine = codes "turn " ++ decimal turn ++ codes " at " ++ address_with_label known machine.cpu.pc ++ codes ": " ++ point_text end known machine ++ codes "\n"

-- What the program has printed since, why the command has stopped, and what is shown now.
abbrev pub SaysWhere : List ℕ → Option Outcome → Shown → Shown → Known → List ℕ → Type 0
SaysWhere none told old new known text =
    (before : List ℕ) × (now : List ℕ) × Printed old before × Printed new now
    × (text ≡ output_text (since before now) ++ outcome_text known none told ++ point_line known new.turn new.point.end new.point.state.machine)

-- ---- the stack

-- SP, or an address above it, and the word there as an address with its label
abbrev pub stack_word_line : Known → List ℕ → ℕ → List ℕ
stack_word_line known memory sp = word_text sp ++ codes ": " ++ address_with_label known (word_at sp memory) ++ codes "\n"

-- how far the eight words on top of the stack are from SP
abbrev pub stack_offsets : List ℕ
stack_offsets = 0 ∷ 2 ∷ 4 ∷ 6 ∷ 8 ∷ 10 ∷ 12 ∷ 14 ∷ []

-- their lines
abbrev pub stack_text : Known → List ℕ → ℕ → List ℕ
stack_text known memory sp = flat_map (λ offset. stack_word_line known memory (up_by offset sp)) stack_offsets

-- ---- what a command prints, given the breakpoints and watched bytes before it, how it ended, and what is shown before and after it. Of
-- `files` this says nothing.
abbrev pub Says : Command → Stops → Option Outcome → Shown → Shown → Known → List ℕ → List ℕ → Type 0
Says command.Registers stops told old shown known listing text = text ≡ registers_text shown.point.state.machine.cpu shown.point.state.system.dma shown.point.state.system.user
Says (command.Memory from count) stops told old shown known listing text = text ≡ memory_text shown.point.state.machine.memory from count
Says command.Where stops told old shown known listing text = text ≡ where_text known listing shown.point.state.machine.memory shown.point.state.machine.cpu.pc
Says (command.Who address) stops told old shown known listing text = SaysWho address shown known text
Says (command.Break breakpoint) stops told old shown known listing text = text ≡ breakpoint_line known breakpoint
Says (command.Watch from count) stops told old shown known listing text = text ≡ watch_line known from count
Says (command.Delete address) stops told old shown known listing text = text ≡ listed_stops known stops (command.Delete address)
Says command.Info stops told old shown known listing text = text ≡ listed_stops known stops command.Info
Says (command.Disassemble from count) stops told old shown known listing text = text ≡ code_text known shown.point.state.machine from count
Says command.Stack stops told old shown known listing text = text ≡ stack_text known shown.point.state.machine.memory shown.point.state.machine.cpu.sp
Says (command.Help asked) stops told old shown known listing text = text ≡ help_answer asked
Says command.Quit stops told old shown known listing text = text ≡ []
Says command.Output stops told old shown known listing text = (bytes : List ℕ) × Printed shown bytes × (text ≡ output_text bytes)
Says (command.Step count) stops told old shown known listing text = SaysWhere [] told old shown known text
Says (command.Back count) stops told old shown known listing text = SaysWhere [] told old shown known text
Says (command.Turn turn) stops told old shown known listing text = SaysWhere [] told old shown known text
Says (command.Run address) stops told old shown known listing text = SaysWhere (missed_text known address) told old shown known text
Says command.Next stops told old shown known listing text = SaysWhere [] told old shown known text
Says command.Finish stops told old shown known listing text = SaysWhere [] told old shown known text
Says command.BackRun stops told old shown known listing text = SaysWhere nothing_held told old shown known text
Says command.BackNext stops told old shown known listing text = SaysWhere [] told old shown known text
Says command.Files stops told old shown known listing text = Unit {0}
