-- What in a program depends on the form of a jump.
use Rattle.std.specs.Prelude.{ℕ, ◌+◌, ◌-◌, ◌==◌, ◌&&◌, ◌||◌, not, Bool, true, false, List, [], ◌∷◌, ◌++◌, Option, Some, None, if◌then◌else◌, is_some, nat_lt, slice_get}
use Rattle.std.specs.List.{enumerate_from, filter_map, flat_map, list_any}
use Rattle.std.specs.Option.{option_and_then, option_map, option_map_or}
use Rattle.z80_instr.specs.declared.Branch.{Branch}
use Rattle.zmo_object.specs.declared.module.hole.Hole.{Hole}
use Rattle.zmo_object.specs.Modules as object
use Rattle.zmo_object.specs.Modules.{ModuleStatement}
use Rattle.source_warnings.specs.declared.jumps.offsets.Offset.{Offset}
use Rattle.source_warnings.specs.declared.jumps.part.Site.{Site}
use Rattle.source_warnings.specs.declared.jumps.warnings.Warning.{Warning}
use Rattle.source_warnings.specs.declared.jumps.warnings.Warning.TheVariants as warning
use Rattle.source_warnings.specs.Jumps.Distances.{Sizes, fixed_size, jump_over, sizes_of}
use Rattle.source_warnings.specs.Jumps.Offsets.{offsets}
use Rattle.source_warnings.specs.Jumps.Parts.{Member, PlacedModule, placed_modules, sited_statements, sited, stands_at}

-- An offset over a jump that may change its length.

-- the warning about an offset in the statement at a site, if it is over a relaxable jump
abbrev pub over : Sizes → PlacedModule → Site → Offset → Option Warning
over sizes p at offset = option_map (λ jump. warning.Over at offset jump) (option_and_then (λ k. jump_over sizes k offset.bytes) (stands_at p offset.reference))

abbrev pub holes_of : ModuleStatement → List Hole
holes_of (object.Bytes bytes holes) = holes
holes_of _ = []

-- the warnings about the offsets in the fix-ups of a statement
abbrev pub statement_overs : Sizes → PlacedModule → Site × ModuleStatement → List Warning
statement_overs sizes p (at, s) = flat_map (λ h. filter_map (over sizes p at) (offsets h.value)) (holes_of s)

-- the warnings about the offsets in a module, in the order of its statements
abbrev pub overs_in : Sizes → PlacedModule → List Warning
overs_in sizes p = flat_map (statement_overs sizes p) (sited p)

abbrev pub overs : List Member → List Warning
overs members = flat_map (overs_in (sizes_of (sited_statements members))) (placed_modules members)

-- A jump that only a computed jump reaches, as an entry of a table of jumps.

-- Bytes of an instruction after which the next one is not carried out: RET, JP (HL); JR, RETN, RETI, JP (IX), JP (IY); JP.
abbrev pub is_exit : List ℕ → Bool
is_exit (a ∷ []) = (a == 0xC9) || (a == 0xE9)
is_exit (a ∷ b ∷ []) = (a == 0x18) || (((a == 0xED) && ((b == 0x45) || (b == 0x4D))) || (((a == 0xDD) || (a == 0xFD)) && (b == 0xE9)))
is_exit (a ∷ b ∷ c ∷ []) = a == 0xC3
is_exit _ = false

-- the statement never goes on to the next one
abbrev pub exits : ModuleStatement → Bool
exits (object.Bytes bytes holes) = is_exit bytes
exits (object.Jump marked None target) = true
exits (object.Short (Branch.Relative None) target) = true
exits _ = false

-- the statement before statement k never goes on to it
abbrev pub is_cut_off : List (Site × ModuleStatement) → ℕ → Bool
is_cut_off statements k = nat_lt 0 k && option_map_or (λ s. exits s.1) (slice_get statements (k - 1)) false

-- a label stands for the address of statement k of the program
abbrev pub is_labelled : List PlacedModule → ℕ → Bool
is_labelled ps k = list_any (λ p. list_any (λ l. p.base + l.statement == k) p.holds.labels) ps

-- the warning about statement k, if it is a relaxable jump without a label that the statement before it does not go on to
abbrev pub entry_warning : List PlacedModule → List (Site × ModuleStatement) → ℕ × (Site × ModuleStatement) → Option Warning
entry_warning ps statements (k, own) =
    if not (is_some (fixed_size own.1)) && (is_cut_off statements k && not (is_labelled ps k)) then Some (warning.Entry own.0) else None

abbrev pub entries_in : List PlacedModule → List (Site × ModuleStatement) → List Warning
entries_in ps statements = filter_map (entry_warning ps statements) (enumerate_from 0 statements)

abbrev pub entry_warnings : List Member → List Warning
entry_warnings members = entries_in (placed_modules members) (sited_statements members)

-- all warnings of a program
abbrev pub all_warnings : List Member → List Warning
all_warnings members = overs members ++ entry_warnings members
