-- The warnings about jumps that `asm` and `build` print.
use Rattle.std.specs.Prelude.{◌≡◌, ℕ, ◌+◌, ◌-◌, ◌==◌, Bool, List, [], ◌∷◌, ◌++◌, Option, Some, None, true, Ok, codes, decimal, find, if◌then◌else◌, length, map, nat_le, nat_lt, slice_get, slice_index, take}
use Rattle.std.specs.List.{AllZip, flat_map, zip}
use Rattle.std.specs.Option.{option_map_or}
use Rattle.asm_module.specs.Assembled.{Assembled, Assembles}
use Rattle.asm_module.specs.declared.assembling.Lines.{Lines}
use Rattle.source_warnings.specs.declared.jumps.offsets.Offset.{Offset}
use Rattle.source_warnings.specs.declared.jumps.part.Site.{Site}
use Rattle.source_warnings.specs.declared.jumps.warnings.Warning.{Warning}
use Rattle.source_warnings.specs.declared.jumps.warnings.Warning.TheVariants as warning
use Rattle.source_warnings.specs.Jumps.Parts.{Member}
use Rattle.source_warnings.specs.Jumps.Warnings.{all_warnings}
use Rattle.z80_instr.specs.declared.ShortCond.{ShortCond}
use Rattle.zmo_object.specs.Modules as object
use Rattle.zmo_object.specs.Modules.{Module, ModuleStatement, module_of}
use Rattle.zmo_object.specs.declared.module.Module as held
use Rattle.zlink.specs.declared.building.Built.{Built}
use Rattle.zlink.specs.declared.program.fault.JoinFault.{JoinFault}
use Rattle.zlink.specs.Program.Faults.{first_fault}
use Rattle.zlink.specs.Program.Parts.{all_publics, parts}
use Rattle.zlink.specs.Program.Whole.{public_statement}
use Rattle.report_texts.specs.Front.{earlier, front_lines, front_text}
use Rattle.report_texts.specs.declared.front.SourceFile.{SourceFile}
use Rattle.report_texts.specs.declared.front.Front.{Front}
use Rattle.z80dev_make.specs.declared.jumps.Jumps.{Jumps}
use Rattle.z80dev_make.specs.declared.warning.JumpWarning.{JumpWarning}

-- A source as warnings show it: its path, the line of each statement, and its module.
pub record ShownSource : Type 0 where
  pub path : List ℕ
  pub lines : List ℕ
  pub holds : Module

abbrev pub source_shown : Front → SourceFile × Assembled → ShownSource
source_shown front (file, a) = record { path = file.path.now; lines = map (earlier (front_lines front)) a.each; holds = a.holds }

-- the line of a statement, as PATH(LINE)
abbrev pub place_in : ℕ → Option ShownSource → List ℕ
place_in statement None = []
place_in statement (Some s) = s.path ++ codes "(" ++ decimal (slice_index s.lines statement) ++ codes ")"

abbrev pub site_text : List ShownSource → Site → List ℕ
site_text sources at = place_in at.statement (slice_get sources at.«module»)

abbrev pub here : List ℕ
here = codes "$"

-- the name of the first label at a statement; an address without a label is `$` in the line of an EQU
abbrev pub label_name_at : Module → ℕ → List ℕ
label_name_at m statement = option_map_or (λ l. l.name) (find (λ l. l.statement == statement) m.labels) here

abbrev pub external_name : Module → ℕ → List ℕ
external_name m number = option_map_or (λ name. name) (slice_get m.externals number) here

-- The name of a ref in a statement: `$` if it is the statement's own address; otherwise that of a label or of an external.
abbrev pub reference_name : Module → ℕ → ℕ → List ℕ
reference_name m statement ref =
    if ref == statement then here
    else if nat_le ref (length m.statements) then label_name_at m ref
    else external_name m (ref - (length m.statements + 1))

abbrev pub condition_text : Option ShortCond → List ℕ
condition_text None = []
condition_text (Some ShortCond.NotZero) = codes "NZ,"
condition_text (Some ShortCond.Zero) = codes "Z,"
condition_text (Some ShortCond.NotCarry) = codes "NC,"
condition_text (Some ShortCond.Carry) = codes "C,"

-- what to write in place of a jump, so that it always has three bytes
abbrev pub fixed_jump : Module → ℕ → ModuleStatement → List ℕ
fixed_jump m statement (object.Jump marked condition target) = codes "JP " ++ condition_text condition ++ reference_name m statement target ++ codes "+0"
fixed_jump m statement _ = []

abbrev pub fixed_in : ℕ → Option ShownSource → List ℕ
fixed_in statement None = []
fixed_in statement (Some s) = option_map_or (fixed_jump s.holds statement) (slice_get s.holds.statements statement) []

abbrev pub fixed_text : List ShownSource → Site → List ℕ
fixed_text sources at = fixed_in at.statement (slice_get sources at.«module»)

abbrev pub shown_name : ℕ → ℕ → Option ShownSource → List ℕ
shown_name statement ref None = []
shown_name statement ref (Some s) = reference_name s.holds statement ref

-- the number that is added, with its sign
abbrev pub signed_text : ℕ → List ℕ
signed_text bytes = if nat_lt bytes 32768 then codes "+" ++ decimal bytes else codes "-" ++ decimal (65536 - bytes)

abbrev pub shown_offset_text : List ShownSource → Site → Offset → List ℕ
shown_offset_text sources at offset = shown_name at.statement offset.reference (slice_get sources at.«module») ++ signed_text offset.bytes

-- what the line of a warning about an offset says of the jump
abbrev pub jump_over_text : List ShownSource → Site → List ℕ
jump_over_text sources jump = codes " depends on the length of a jump at " ++ site_text sources jump ++ codes ": write " ++ fixed_text sources jump ++ codes " there to keep 3 bytes"

-- what a warning about a jump says that only a computed jump reaches
abbrev pub computed_jump_text : List ShownSource → Site → List ℕ
computed_jump_text sources at = codes "only a computed jump reaches this jump, whose length may change: write " ++ fixed_text sources at ++ codes " to keep 3 bytes"

-- what a warning says
abbrev pub warning_message : List ShownSource → Warning → List ℕ
warning_message sources (warning.Over at offset jump) = shown_offset_text sources at offset ++ jump_over_text sources jump
warning_message sources (warning.Entry at) = computed_jump_text sources at

-- the statement that a warning is about
abbrev pub site_of : Warning → Site
site_of (warning.Over at offset jump) = at
site_of (warning.Entry at) = at

-- the line of a warning
abbrev pub warning_text : List ShownSource → Warning → List ℕ
warning_text sources found = codes "warning: " ++ site_text sources (site_of found) ++ codes ": " ++ warning_message sources found ++ codes "\n"

abbrev pub most_warnings : ℕ
most_warnings = 10

-- how many warnings are not shown
abbrev pub more_text : ℕ → List ℕ
more_text count = if nat_lt most_warnings count then codes "warning: " ++ decimal (count - most_warnings) ++ codes " more\n" else []

-- a line for each of the first ten warnings, and one with the number of the others
abbrev pub jump_warning_lines : List ShownSource → List Warning → List ℕ
jump_warning_lines sources found = flat_map (warning_text sources) (take most_warnings found) ++ more_text (length found)

-- the modules of a program, with what their externals stand for
abbrev pub joined : List Module → List Member
joined modules = map (λ p. record { holds = p.holds; externals = map (public_statement (all_publics (parts modules))) p.holds.externals }) (parts modules)

-- the lines for the module of a source; what an external stands for is not known
abbrev pub module_warnings : Front → SourceFile → Assembled → List ℕ
module_warnings front file a = jump_warning_lines (source_shown front (file, a) ∷ []) (all_warnings (record { holds = a.holds; externals = [] } ∷ []))

-- the source is assembled to this after the text of the front
abbrev pub IsAssembledBehind : Front → Bool → SourceFile → Assembled → Type 0
IsAssembledBehind front grow file a = Assembles file.path.now (front_text front ++ file.text.now) grow (Ok a)

abbrev pub found_unless : Option JoinFault → List Warning → List Warning
found_unless None found = found
found_unless (Some fault) found = []

-- the line of a statement
abbrev pub line_shown : ℕ → Option ShownSource → ℕ
line_shown statement None = 0
line_shown statement (Some s) = slice_index s.lines statement

abbrev pub site_line : List ShownSource → Site → ℕ
site_line sources at = line_shown at.statement (slice_get sources at.«module»)

-- a warning as a caller is given it: the source and the line of its statement, and what it says
abbrev pub IsGivenAs : List ShownSource → Warning → JumpWarning → Type 0
IsGivenAs sources found given =
    (given.source ≡ (site_of found).«module») × (given.line ≡ site_line sources (site_of found)) × (given.text.items ≡ warning_message sources found)

-- a source of a program that was built after a front, as warnings show it
abbrev pub built_source : Front → SourceFile × (Lines × held.Module) → ShownSource
built_source front (file, (lines, m)) = record { path = file.path.now; lines = map (earlier (front_lines front)) lines.each.items; holds = module_of m }

abbrev pub built_sources : Front → List SourceFile → Built → List ShownSource
built_sources front files built = map (built_source front) (zip files (zip built.lines.items built.modules.items))

-- all warnings about the jumps of a program that was built of these files after a front
abbrev pub AreJumpWarnings : Front → List SourceFile → Built → List JumpWarning → Type 0
AreJumpWarnings front files built given =
    let modules = map module_of built.modules.items in
    AllZip (IsGivenAs (built_sources front files built)) (found_unless (first_fault modules) (all_warnings (joined modules))) given

-- the lines for sources; none if their modules have an error together
abbrev pub build_warnings : Front → List SourceFile → List Assembled → List ℕ
build_warnings front files all =
    let modules = map (λ a. a.holds) all in
    jump_warning_lines (map (source_shown front) (zip files all)) (found_unless (first_fault modules) (all_warnings (joined modules)))

-- All sources can be assembled after the text of the front, and these are their warnings.
abbrev pub IsWarnedProgram : Front → List SourceFile → Bool → List ℕ → Type 0
IsWarnedProgram front files grow lines = (all : List Assembled) × AllZip (IsAssembledBehind front grow) files all × (lines ≡ build_warnings front files all)

-- The warnings of the program of sources after a front, if they are wanted and there is a program, which then has jumps.
abbrev pub AreWarnings : Bool → Front → List SourceFile → Bool → Option Jumps → List ℕ → Type 0
AreWarnings true front files grow (Some jumps) lines = IsWarnedProgram front files grow lines
AreWarnings wanted front files grow jumps lines = lines ≡ []

abbrev pub wanted_warnings : Bool → Front → SourceFile → Assembled → List ℕ
wanted_warnings wanted front file a = if wanted then module_warnings front file a else []

-- The warnings of a source after a front, if they are wanted; none if the source is refused.
abbrev pub AreModuleWarnings : Bool → Front → SourceFile → Bool → Option (List ℕ) → List ℕ → Type 0
AreModuleWarnings wanted front file grow None lines = (a : Assembled) × IsAssembledBehind front grow file a × (lines ≡ wanted_warnings wanted front file a)
AreModuleWarnings wanted front file grow (Some said) lines = lines ≡ []
