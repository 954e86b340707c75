-- What `assemble_with` and the like answer for a source.
-- In words: docs/LANGUAGE.md, section 'Modules', and docs/FAULTS.md for the order of errors.
use Rattle.std.specs.Prelude.{◌≡◌, ◌≢◌, ℕ, Bool, false, List, Option, Some, None, Result, Ok, Err, length}
use Rattle.asm_names.specs.Circles.{TellsCircles}
use Rattle.asm_macro.specs.declared.fault.MacroFault.{MacroFault}
use Rattle.asm_macro.specs.Expands.{IsExpanded}
use Rattle.asm_macro.specs.Texts.{source_lines}
use Rattle.asm_names.specs.Names.{names}
use Rattle.asm_module.specs.Outlines.{layout}
use Rattle.asm_module.specs.Reads.Read.{taken}
use Rattle.asm_module.specs.Reads.Source.{last_listed}
use Rattle.asm_text.specs.Lines.{Numbered}
use Rattle.zmo_object.specs.declared.module.Module as whole
use Rattle.zmo_object.specs.Modules.{Module, module_of}
use Rattle.asm_module.specs.declared.assembling.Lines as listing
use Rattle.asm_module.specs.declared.fault.AsmFault.{AsmFault}
use Rattle.asm_module.specs.declared.fault.Why.{Why}
use Rattle.asm_module.specs.Source.{first_pass, module_by, source_fault, statement_lines}
use Rattle.asm_module.specs.Whys.{macro_why}

-- a module; for each of its statements, the number of its line in the source, from 1; and the number of the last line that the listing shows
pub record Assembled : Type 0 where
  pub holds : Module
  pub each : List ℕ
  pub last : ℕ

abbrev pub answer : Option AsmFault → Assembled → Result Assembled AsmFault
answer (Some fault) whole = Err fault
answer None whole = Ok whole

-- The module of the lines of an expansion, or their first error; or the error at which the expansion stops. `count` is how many lines the
-- source has.
abbrev pub assembled : List ℕ → Bool → ℕ → (ℕ → Bool) → Result (List Numbered) (ℕ × MacroFault) → Result Assembled AsmFault
assembled name grow count circle (Err (number, why)) = Err (record { line = number; why = macro_why why })
assembled name grow count circle (Ok lines) = answer (source_fault grow lines circle) (record {
  holds = module_by name grow (taken lines) circle (layout grow (taken lines) circle);
  each = statement_lines grow (taken lines) circle (layout grow (taken lines) circle);
  last = last_listed count (taken lines);
})

-- `circle` says of each line, by its index from 0, whether its EQU leads back to itself. If the first pass finds an error, it is not used and
-- may be anything.
abbrev pub TellsLines : (ℕ → Bool) → Result (List Numbered) (ℕ × MacroFault) → Type 0
TellsLines circle (Ok lines) = first_pass lines ≡ None → TellsCircles (names (taken lines)) (taken lines) circle
TellsLines circle (Err stop) = Unit {0}

-- The source has this module, or this is its first error.
abbrev pub Assembles : List ℕ → List ℕ → Bool → Result Assembled AsmFault → Type 0
Assembles name text grow result =
    (expanded : Result (List Numbered) (ℕ × MacroFault)) × IsExpanded text expanded × (circle : ℕ → Bool) × TellsLines circle expanded
    × (assembled name grow (length (source_lines text)) circle expanded ≡ result)

-- The answer is not that memory ran out, so its cause is in the source.
abbrev pub HasCause : Result Assembled AsmFault → Type 0
HasCause (Ok whole) = Unit {0}
HasCause (Err fault) = fault.why ≢ Why.NoMemory

-- The values of the code's types as definitions see them.
abbrev pub assembled_of : whole.Module × listing.Lines → Assembled
assembled_of (m, lines) = record { holds = module_of m; each = lines.each.items; last = lines.last }

-- why a source is refused: its first error; if memory ran out, nothing is claimed (`why` is that of the fault, given by itself to tell the two
-- apart)
abbrev pub IsRefused : Why → List ℕ → List ℕ → Bool → AsmFault → Type 0
IsRefused Why.NoMemory name text grow fault = Unit {0}
IsRefused why name text grow fault = Assembles name text grow (Err fault)

-- What `assemble_with` answers.
abbrev pub IsAssembled : List ℕ → List ℕ → Bool → Result (whole.Module × listing.Lines) AsmFault → Type 0
IsAssembled name text grow (Ok m) = Assembles name text grow (Ok (assembled_of m))
IsAssembled name text grow (Err fault) = IsRefused fault.why name text grow fault

-- what `assemble` answers: the same without --grow, and without any line numbers
abbrev pub IsAssembledModule : List ℕ → List ℕ → Result whole.Module AsmFault → Type 0
IsAssembledModule name text (Ok m) = (each : List ℕ) × (last : ℕ) × Assembles name text false (Ok (record { holds = module_of m; each = each; last = last }))
IsAssembledModule name text (Err fault) = IsRefused fault.why name text false fault
