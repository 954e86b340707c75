-- The program that lines, or a source, describe, and when the statements of a module are those of this program. This says something of lines
-- without an error: those from the first line on that cannot be parsed are left out.
-- In words: docs/LANGUAGE.md, sections 'Instructions', 'Directives' and 'Jumps'.
use Rattle.std.specs.Prelude.{◌≡◌, ℕ, Bool, List, Ok}
use Rattle.asm_names.specs.Circles.{TellsCircles}
use Rattle.asm_names.specs.Lines.{Taken}
use Rattle.asm_names.specs.Names.{names}
use Rattle.asm_macro.specs.Expands.{IsExpanded}
use Rattle.asm_text.specs.Lines.{Numbered}
use Rattle.zmo_object.specs.Modules.{ModuleStatement}
use Rattle.asm_module.specs.Outlines.{layout, source_table}
use Rattle.asm_module.specs.Reads.Read.{taken}
use Rattle.asm_module.specs.Program.Lines.{AreAt, program_of_lines}
use Rattle.asm_module.specs.Program.Statement.{Statement}

-- This is the program that the lines describe, once their names are settled. `circle` says of each line, by its index from 0, whether its EQU
-- leads back to itself.
abbrev pub IsProgramOfLines : Bool → List Taken → List Statement → Type 0
IsProgramOfLines grow lines p =
    (circle : ℕ → Bool) × TellsCircles (names lines) lines circle
    × (p ≡ program_of_lines grow (source_table lines circle (layout grow lines circle)) (layout grow lines circle) lines)

-- the program that a source describes
abbrev pub IsProgramOfSource : List ℕ → Bool → List Statement → Type 0
IsProgramOfSource text grow p = (lines : List Numbered) × IsExpanded text (Ok lines) × IsProgramOfLines grow (taken lines) p

-- The statements are those that the lines describe: they have the same sizes, jumps go to the same refs, and at all addresses that agree with
-- the known sizes, the bytes linked from them, short or long, are what the lines describe there.
abbrev pub AreOfLines : Bool → List Taken → List ModuleStatement → Type 0
AreOfLines grow lines statements = (p : List Statement) × IsProgramOfLines grow lines p × AreAt statements p

-- the statements are those that the lines of a source describe
abbrev pub AreOfSource : List ℕ → Bool → List ModuleStatement → Type 0
AreOfSource text grow statements = (p : List Statement) × IsProgramOfSource text grow p × AreAt statements p
