-- The steps of assembling, as the code takes them.
use Rattle.std.specs.Prelude.{◌≡◌, ℕ, Bool, List, [], ◌∷◌, Option, Some, None, Result, Ok, Err, Vec, take}
use Rattle.std.specs.Global.{Global}
use Rattle.zmo_object.specs.declared.module.TheConstants.{LONGEST_NAME}
use Rattle.asm_names.specs.Circles.{TellsCircles}
use Rattle.asm_names.specs.Layout.{Layout}
use Rattle.asm_names.specs.Meanings.{externals}
use Rattle.asm_names.specs.Faults as defined
use Rattle.asm_names.specs.Faults.{first}
use Rattle.asm_names.specs.Lines.{Taken}
use Rattle.asm_names.specs.Names.{Names, names}
use Rattle.asm_module.specs.declared.line_fault.LineFault.{LineFault}
use Rattle.zmo_object.specs.declared.module.Module as whole
use Rattle.zmo_object.specs.Modules.{Module, ModuleStatement, module_of}
use Rattle.asm_module.specs.declared.fault.AsmFault.{AsmFault}
use Rattle.asm_module.specs.declared.fault.Why.{Why}
use Rattle.asm_module.specs.Holding.{begins, entry, labels, listed, publics}
use Rattle.asm_module.specs.Outlines as source
use Rattle.asm_module.specs.Source.{fault_on_line, first_equ_line_fault, module_by, state_fault, statement_lines}
use Rattle.asm_module.specs.Whys.{line_why, name_why}

-- this is the error that was found, or memory ran out
abbrev pub FaultBy : Why → Option AsmFault → AsmFault → Type 0
FaultBy Why.NoMemory found fault = Unit {0}
FaultBy why found fault = found ≡ Some fault

abbrev pub IsFault : Option AsmFault → AsmFault → Type 0
IsFault found fault = FaultBy fault.why found fault

-- What the first pass over lines answers, if `unread` is the line that cannot be parsed.
abbrev pub Passes : List Taken → Option (ℕ × LineFault) → Result Names AsmFault → Type 0
Passes lines unread (Ok table) = (defined.first_name_fault lines ≡ None) × (unread ≡ None) × (table ≡ names lines)
Passes lines unread (Err fault) = IsFault (first (fault_on_line name_why (defined.first_name_fault lines) ∷ fault_on_line line_why unread ∷ [])) fault

-- The module of statements, given the names and lines of its source.
abbrev pub held : List ℕ → Bool → List Taken → Layout → List ModuleStatement → Module
held name grow lines layout statements = record {
  name = take LONGEST_NAME name;
  begins = begins lines;
  entry = entry (labels layout (names lines)) lines;
  grow = grow;
  statements = statements;
  labels = labels layout (names lines);
  publics = publics (labels layout (names lines)) (listed lines);
  externals = externals (names lines);
}

-- The first error of lines that passed the first pass, once it is known which lines lead back to themselves.
abbrev pub HasFault : Why → Bool → List Taken → AsmFault → Type 0
HasFault Why.NoMemory grow lines fault = Unit {0}
HasFault why grow lines fault =
    (circle : ℕ → Bool) × TellsCircles (names lines) lines circle
    × (first (first_equ_line_fault lines circle (source.layout grow lines circle) ∷ state_fault lines circle (source.layout grow lines circle) ∷ []) ≡ Some fault)

-- No line has an error, and this is their module.
pub record IsWhole (name : List ℕ) (grow : Bool) (lines : List Taken) (m : Module) (each : List ℕ) : Type 0 where
  pub circle : ℕ → Bool
  pub tells : TellsCircles (names lines) lines circle
  pub sound_equs : first_equ_line_fault lines circle (source.layout grow lines circle) ≡ None
  pub sound_others : state_fault lines circle (source.layout grow lines circle) ≡ None
  pub module_is : m ≡ module_by name grow lines circle (source.layout grow lines circle)
  pub each_is : each ≡ statement_lines grow lines circle (source.layout grow lines circle)

abbrev pub AnswersLines : List ℕ → Bool → List Taken → Result (whole.Module × Vec ℕ Global) AsmFault → Type 0
AnswersLines name grow lines (Ok (m, each)) = IsWhole name grow lines (module_of m) each.items
AnswersLines name grow lines (Err fault) = HasFault fault.why grow lines fault
