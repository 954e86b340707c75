-- Calls and the places that they return to.
use Rattle.std.specs.Prelude.{◌≡◌, ◌+◌, ◌==◌, ◌&&◌, ◌||◌, ◌%◌, ◌⊎◌, ℕ, Bool, true, false, nat_le, Option, Some, None, if◌then◌else◌}
use Rattle.z80_cpu.specs.State.{byte_at, up_by}
use Rattle.cpm_run.specs.Turns.{Call, Entry, Place, Program, place_at_pc}
use Rattle.machine_history.specs.declared.calls.ReturnPlace.{ReturnPlace}
use Rattle.machine_history.specs.Walk.{IsAfter, IsNextPoint, LeadsBy, Point, MemoryState, first_point}

-- The number of bytes of a call, by its first byte: three of a CALL, and one of a RST. 0 is the number for any other instruction.
abbrev pub call_size : ℕ → ℕ
call_size opcode = if nat_le 0xC0 opcode && ((opcode % 8 == 4) || (opcode == 0xCD)) then 3 else (if nat_le 0xC0 opcode && (opcode % 8 == 7) then 1 else 0)

-- a place at which the system acts and no instruction of the program is carried out: the BDOS, or an entry of the BIOS
abbrev pub is_of_system : Place → Bool
is_of_system Program = false
is_of_system Call = true
is_of_system (Entry n) = true

-- where the call at PC returns to, if one is there: the instruction after it, with SP as it is
abbrev pub call_place : MemoryState → Option ReturnPlace
call_place s =
    let cpu = s.machine.cpu in
    let size = call_size (byte_at cpu.pc s.machine.memory) in
    if is_of_system (place_at_pc cpu.pc) || (size == 0) then None else Some (record { address = up_by size cpu.pc; sp = cpu.sp })

-- PC and SP in a state
abbrev pub shown_place : MemoryState → ReturnPlace
shown_place s = record { address = s.machine.cpu.pc; sp = s.machine.cpu.sp }

abbrev pub is_same_place : ReturnPlace → ReturnPlace → Bool
is_same_place a b = (a.address == b.address) && (a.sp == b.sp)

-- whether a call is at PC that returns to this place
abbrev pub calls : ReturnPlace → MemoryState → Bool
calls place s = returns_there place (call_place s)
  where
    returns_there : ReturnPlace → Option ReturnPlace → Bool
    returns_there place None = false
    returns_there place (Some there) = is_same_place there place

-- whether PC and SP are at this place
abbrev pub is_at : ReturnPlace → MemoryState → Bool
is_at place s = is_same_place (shown_place s) place

-- The call over which `next` leads to a place that is reached after n turns, by the number of turns before it: a call that returns to this place. Since then no other
-- call was to return there, and the place was not reached before. There is no such call if none was made since the place was last reached, or since the start.
abbrev pub IsCallTo : ReturnPlace → MemoryState → ℕ → Point → Option ℕ → Type 0
IsCallTo place start n now (Some turn) =
    (after : ℕ) × (call : Point) × (next : Point) × (n ≡ turn + 1 + after) × IsAfter start turn call × (calls place call.state ≡ true)
    × IsNextPoint call next × LeadsBy (λ old new. calls place old || is_at place old) after next now
IsCallTo place start n now None = LeadsBy (λ old new. calls place old) n (first_point start) now
    ⊎ ((turn : ℕ) × (after : ℕ) × (there : Point) × (next : Point) × (n ≡ turn + 1 + after) × IsAfter start turn there × (is_at place there.state ≡ true) × (calls place there.state ≡ false)
    × IsNextPoint there next × LeadsBy (λ old new. calls place old) after next now)

abbrev pub IsCallBefore : ReturnPlace → MemoryState → ℕ → Option ℕ → Type 0
IsCallBefore place start n call = (now : Point) × IsAfter start n now × IsCallTo place start n now call
