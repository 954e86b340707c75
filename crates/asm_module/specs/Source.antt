-- The module of the lines of a source, or its first error. `grow` is the option --grow, with which JR may become JP. `circle` says of each
-- line, by its index from 0, whether its EQU leads back to itself.
-- In words: docs/LANGUAGE.md, section 'Modules'.
use Rattle.std.specs.Prelude.{ℕ, Bool, List, [], ◌∷◌, Option, map, take}
use Rattle.std.specs.Option.{option_map}
use Rattle.zmo_object.specs.declared.module.TheConstants.{LONGEST_NAME}
use Rattle.asm_names.specs.Layout.{Layout}
use Rattle.asm_names.specs.Meanings as equ
use Rattle.asm_names.specs.Meanings.{externals}
use Rattle.asm_names.specs.Faults as defined
use Rattle.asm_names.specs.Faults.{first}
use Rattle.asm_names.specs.Lines.{Taken}
use Rattle.asm_names.specs.Names.{names}
use Rattle.asm_module.specs.Reads.Read.{taken, unread}
use Rattle.asm_module.specs.Module.Stated as stated
use Rattle.asm_module.specs.Module.Stated.{numbered_statements}
use Rattle.asm_module.specs.Outlines.{layout, source_table}
use Rattle.asm_text.specs.Lines.{Numbered}
use Rattle.zmo_object.specs.Modules.{Module}
use Rattle.asm_module.specs.declared.fault.AsmFault.{AsmFault}
use Rattle.asm_module.specs.declared.fault.Why.{Why}
use Rattle.asm_module.specs.Holding.{begins, entry, labels, listed, publics}
use Rattle.asm_module.specs.Whys.{equ_why, line_why, name_why, state_why}

-- an error on a line, as one of the source
abbrev pub fault_on_line : {A : Type 0} → (A → Why) → Option (ℕ × A) → Option AsmFault
fault_on_line view fault = option_map (λ f. record { line = f.0; why = view f.1 }) fault

-- What the first pass over the lines of the expansion finds: of the lines before the first that cannot be parsed, the first that may not
-- define its name, or with which the source has too many statements or names; otherwise the first line that cannot be parsed.
abbrev pub first_pass : List Numbered → Option AsmFault
first_pass lines = first (fault_on_line name_why (defined.first_name_fault (taken lines)) ∷ fault_on_line line_why (unread lines) ∷ [])

-- The first EQU line that has an error.
abbrev pub first_equ_line_fault : List Taken → (ℕ → Bool) → Layout → Option AsmFault
first_equ_line_fault lines circle layout = fault_on_line equ_why (equ.first_equ_fault (names lines) lines circle layout)

-- The first line, other than an EQU line, that has an error.
abbrev pub state_fault : List Taken → (ℕ → Bool) → Layout → Option AsmFault
state_fault lines circle layout = fault_on_line state_why (stated.first_statement_fault (names lines) (source_table lines circle layout) layout lines)

-- The first error of a source: of the first pass over its lines, then of the EQU lines, then of the others.
abbrev pub source_fault : Bool → List Numbered → (ℕ → Bool) → Option AsmFault
source_fault grow lines circle =
    first (first_pass lines ∷ first_equ_line_fault (taken lines) circle (layout grow (taken lines) circle) ∷ state_fault (taken lines) circle (layout grow (taken lines) circle) ∷ [])

-- The module of lines without an error. Its name is the one given, cut after 255 bytes; it `begins` the program if it has an ORG.
abbrev pub module_by : List ℕ → Bool → List Taken → (ℕ → Bool) → Layout → Module
module_by name grow lines circle layout = record {
  name = take LONGEST_NAME name;
  begins = begins lines;
  entry = entry (labels layout (names lines)) lines;
  grow = grow;
  statements = map (λ n. n.1) (numbered_statements grow (source_table lines circle layout) layout lines);
  labels = labels layout (names lines);
  publics = publics (labels layout (names lines)) (listed lines);
  externals = externals (names lines);
}

-- for each statement, the number of its line in the source, from 1
abbrev pub statement_lines : Bool → List Taken → (ℕ → Bool) → Layout → List ℕ
statement_lines grow lines circle layout = map (λ n. n.0) (numbered_statements grow (source_table lines circle layout) layout lines)
