-- What holds at a turn, by the parts that the code computes.
use Rattle.std.proofs.Common.{◌≡◌, ℕ, Bool, List, Option, Some, None, ap, ◌∙◌}
use Rattle.std.specs.Prelude.{if◌then◌else◌, map, option_map}
use Rattle.std.specs.Option.{option_or}
use Rattle.z80_cpu.specs.State.{byte_at}
use Rattle.z80_cpu.specs.declared.registers.Cpu.{Cpu}
use Rattle.machine_history.specs.Stops.{broken, changed, hit_at, is_reached, sp_returned, watched_addresses}
use Rattle.machine_history.specs.Walk.{MemoryState}
use Rattle.state_text.specs.declared.breakpoint.Breakpoint.{Breakpoint}
use Rattle.machine_history.specs.declared.stops.Change.{Change}
use Rattle.machine_history.specs.declared.stops.Goal.{Goal}
use Rattle.machine_history.specs.declared.stops.Hit.{Hit}
use Rattle.machine_history.specs.declared.stops.Hit.TheVariants as hit
use Rattle.machine_history.specs.declared.stops.Stops.{Stops}

-- the bytes that were read before a turn are those of the state before it
pub bytes_before : (old memory watched bytes lent : List ℕ) → memory ≡ old → lent ≡ bytes → bytes ≡ map (λ address. byte_at address memory) watched → lent ≡ map (λ address. byte_at address old) watched
bytes_before old memory watched bytes lent same l read = l ∙ read ∙ ap (λ (m : List ℕ). map (λ address. byte_at address m) watched) same

pub held_is : (goal : Option Goal) (stops : Stops) (old new : MemoryState) (breakpoints : List Breakpoint) (watches memory : List ℕ) (cpu : Cpu) (by function : ℕ) (returned : Option ℕ) (found : Option Hit) (change : Option Change) (reached : Bool) (held : Option Hit)
    → breakpoints ≡ stops.breakpoints.items → watches ≡ watched_addresses stops.watches.items → cpu ≡ new.machine.cpu → memory ≡ new.machine.memory → by ≡ old.machine.cpu.pc → function ≡ old.machine.cpu.main.c → ((now : Cpu) → is_reached goal returned now ≡ is_reached goal (sp_returned old) now)
    → found ≡ broken cpu breakpoints → change ≡ changed old.machine.memory memory by function watches → reached ≡ is_reached goal returned cpu
    → held ≡ option_or found (option_or (option_map hit.Changed change) (if reached then Some hit.Goal else None)) → held ≡ hit_at goal stops old new
held_is goal stops old new breakpoints watches memory cpu by function returned found change reached held bs ws c m b n r f ch re h =
    let found_is : found ≡ broken new.machine.cpu stops.breakpoints.items = f ∙ ap (λ (x : Cpu). broken x breakpoints) c ∙ ap (λ (x : List Breakpoint). broken new.machine.cpu x) bs in
    let change_is : change ≡ changed old.machine.memory new.machine.memory old.machine.cpu.pc old.machine.cpu.main.c (watched_addresses stops.watches.items) =
    ch ∙ ap (λ (x : List ℕ). changed old.machine.memory x by function watches) m ∙ ap (λ (x : ℕ). changed old.machine.memory new.machine.memory x function watches) b
    ∙ ap (λ (x : ℕ). changed old.machine.memory new.machine.memory old.machine.cpu.pc x watches) n
    ∙ ap (λ (x : List ℕ). changed old.machine.memory new.machine.memory old.machine.cpu.pc old.machine.cpu.main.c x) ws in
    let reached_is : reached ≡ is_reached goal (sp_returned old) new.machine.cpu = re ∙ r cpu ∙ ap (λ (x : Cpu). is_reached goal (sp_returned old) x) c in
    h ∙ ap (λ (x : Option Hit). option_or x (option_or (option_map hit.Changed change) (if reached then Some hit.Goal else None))) found_is
    ∙ ap (λ (x : Option Change). option_or (broken new.machine.cpu stops.breakpoints.items) (option_or (option_map hit.Changed x) (if reached then Some hit.Goal else None))) change_is
    ∙ ap (λ (x : Bool). option_or (broken new.machine.cpu stops.breakpoints.items) (option_or (option_map hit.Changed (changed old.machine.memory new.machine.memory old.machine.cpu.pc old.machine.cpu.main.c (watched_addresses stops.watches.items))) (if x then Some hit.Goal else None))) reached_is
