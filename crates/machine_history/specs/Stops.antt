-- Breakpoints and watched bytes, and the turns at which they hold.
use Rattle.std.specs.Prelude.{◌≡◌, ◌+◌, ◌%◌, ◌==◌, ◌&&◌, ◌||◌, ℕ, Bool, false, true, not, List, Option, Some, None, find, if◌then◌else◌, is_some, map, nat_le, nat_lt, option_map}
use Rattle.std.specs.List.{flat_map, range_with_len}
use Rattle.std.specs.Option.{option_or}
use Rattle.cpm_run.specs.Turns.{Place, place_at_pc}
use Rattle.cpm_run.specs.declared.ending.Why.{Why}
use Rattle.z80_cpu.specs.State.{byte_at, up_by}
use Rattle.z80_cpu.specs.declared.registers.Cpu.{Cpu}
use Rattle.machine_history.specs.Calls.{is_of_system}
use Rattle.state_text.specs.declared.breakpoint.Breakpoint.{Breakpoint}
use Rattle.machine_history.specs.declared.stops.Change.{Change}
use Rattle.state_text.specs.declared.breakpoint.Condition.{Condition}
use Rattle.state_text.specs.RegisterNames.{named_register}
use Rattle.machine_history.specs.declared.stops.Goal.{Goal}
use Rattle.machine_history.specs.declared.stops.Goal.TheVariants as goal
use Rattle.machine_history.specs.declared.stops.Hit.{Hit}
use Rattle.machine_history.specs.declared.stops.Hit.TheVariants as hit
use Rattle.machine_history.specs.declared.stops.Stops.{Stops}
use Rattle.machine_history.specs.declared.stops.Watch.{Watch}
use Rattle.machine_history.specs.Walk.{IsNextPoint, LeadsBy, Point, MemoryState, Shown, first_point, never}

abbrev pub condition_is_met : Option Condition → Cpu → Bool
condition_is_met None cpu = true
condition_is_met (Some condition) cpu = named_register condition.register cpu == condition.value

-- A breakpoint holds at a turn after which PC is its address and its condition is met.
abbrev pub breaks : Cpu → Breakpoint → Bool
breaks cpu breakpoint = (cpu.pc == breakpoint.address) && condition_is_met breakpoint.condition cpu

-- A watched byte holds at a turn that changes it. A turn that writes the value that was there already does not count.
abbrev pub changes_byte : List ℕ → List ℕ → ℕ → Bool
changes_byte old new address = not (byte_at address new == byte_at address old)

-- the addresses of the bytes of a watch; after FFFFH comes address 0
abbrev pub addresses : Watch → List ℕ
addresses watch = map (λ offset. up_by offset watch.from) (range_with_len 0 watch.count)

-- the addresses of all watched bytes, in the order in which the watches were set
abbrev pub watched_addresses : List Watch → List ℕ
watched_addresses watches = flat_map addresses watches

-- ---- returns

-- the first two bytes of a return: RET, RET with a condition, RETN or RETI
abbrev pub is_return_code : ℕ → ℕ → Bool
is_return_code first second = (first == 0xC9) || ((nat_le 0xC0 first && (first % 8 == 0)) || ((first == 0xED) && ((second == 0x45) || (second == 0x4D))))

-- whether a turn that begins here may return: at a return, and at a call of the system, which returns to its caller
abbrev pub may_return : Place → ℕ → ℕ → Bool
may_return place first second = is_of_system place || is_return_code first second

-- SP after the return, if a turn that begins in this state may be one
abbrev pub sp_returned : MemoryState → Option ℕ
sp_returned s =
    let cpu = s.machine.cpu in
    if may_return (place_at_pc cpu.pc) (byte_at cpu.pc s.machine.memory) (byte_at (up_by 1 cpu.pc) s.machine.memory) then Some (up_by 2 cpu.sp) else None

-- whether SP has this value by a return, and lies above another value
abbrev pub has_returned : ℕ → Option ℕ → ℕ → Bool
has_returned above None sp = false
has_returned above (Some returned) sp = (sp == returned) && nat_lt above sp

-- ---- where a command stops

-- whether the goal of a command is reached by a turn, if it has one
abbrev pub is_reached : Option Goal → Option ℕ → Cpu → Bool
is_reached None returned cpu = false
is_reached (Some (goal.At breakpoint)) returned cpu = breaks cpu breakpoint
is_reached (Some (goal.ReturnAbove sp)) returned cpu = has_returned sp returned cpu.sp

-- the first breakpoint that holds with these registers
abbrev pub broken : Cpu → List Breakpoint → Option Hit
broken cpu breakpoints = option_map (λ breakpoint. hit.Breakpoint breakpoint.address) (find (breaks cpu) breakpoints)

-- how a byte has changed, and PC and C before the turn that changed it
abbrev pub change_of : List ℕ → List ℕ → ℕ → ℕ → ℕ → Change
change_of old new by function address = record { address = address; before = byte_at address old; after = byte_at address new; by = by; function = function }

-- the first of these bytes that a turn has changed
abbrev pub changed : List ℕ → List ℕ → ℕ → ℕ → List ℕ → Option Change
changed old new by function watched = option_map (change_of old new by function) (find (changes_byte old new) watched)

-- What holds at a turn, by the states before and after it: a breakpoint, otherwise a watched byte, otherwise the goal of the command.
abbrev pub hit_at : Option Goal → Stops → MemoryState → MemoryState → Option Hit
hit_at goal stops old new =
    option_or (broken new.machine.cpu stops.breakpoints.items)
    (option_or (option_map hit.Changed (changed old.machine.memory new.machine.memory old.machine.cpu.pc old.machine.cpu.main.c (watched_addresses stops.watches.items)))
    (if is_reached goal (sp_returned old) new.machine.cpu then Some hit.Goal else None))

-- the turns at which something holds
abbrev pub holds : Option Goal → Stops → MemoryState → MemoryState → Bool
holds goal stops old new = is_some (hit_at goal stops old new)

-- The last of the first n turns of a run at which something holds: its number, and what holds; `now` is the point after all n.
abbrev pub IsLastBefore : Stops → MemoryState → ℕ → Point → Option (ℕ × Hit) → Type 0
IsLastBefore stops start n now (Some (turn, why)) =
    (before : ℕ) × (after : ℕ) × (old : Point) × (new : Point) × (turn ≡ before + 1) × (n ≡ turn + after)
    × LeadsBy never before (first_point start) old × IsNextPoint old new × (hit_at None stops old.state new.state ≡ Some why) × LeadsBy (holds None stops) after new now
IsLastBefore stops start n now None = LeadsBy (holds None stops) n (first_point start) now

-- why the run that is shown ends after n turns: it goes on before the turn that is shown
abbrev pub end_at : ℕ → Shown → Option Why
end_at n shown = if n == shown.turn then shown.point.end else None

-- The same of the run that is shown. Turns that are made again end as they did first, so memory has not run out for what is printed then.
abbrev pub IsLast : Stops → Shown → ℕ → Option (ℕ × Hit) → Type 0
IsLast stops shown n last = (now : Point) × (now.end ≡ end_at n shown) × IsLastBefore stops shown.start n now last
