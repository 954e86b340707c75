-- How the commands end that make files of sources and objects, and how `check` and `dis` end.
use Rattle.std.specs.Prelude.{◌≡◌, ◌≢◌, ℕ, Bool, true, List, [], ◌∷◌, ◌++◌, Option, None, Some, Ok, Err, Vec, map, string_bytes}
use Rattle.std.specs.Borrow.{Bor}
use Rattle.std.specs.Global.{Global}
use Rattle.disassembler.specs.Disassembly.{IsDisassembly}
use Rattle.disassembler.specs.Faults.{disassembly_fault_text}
use Rattle.disassembler.specs.declared.fault.DisassemblyFault.{DisassemblyFault}
use Rattle.disassembler.specs.declared.fault.DisassemblyFault.TheVariants as fault
use Rattle.host.specs.Streams.Stream.{Stream}
use Rattle.host.specs.Streams.Writing.{PrintsAll, PutsFront}
use Rattle.z80dev.specs.Verdict.{VerdictEnds}
use Rattle.z80dev_commands.specs.declared.job.Asm.{Asm}
use Rattle.z80dev_commands.specs.declared.job.Build.{Build}
use Rattle.z80dev_commands.specs.declared.job.Dis.{Dis}
use Rattle.z80dev_commands.specs.declared.job.Link.{Link}
use Rattle.z80dev_commands.specs.declared.job.Shared.{Shared}
use Rattle.host.specs.Answers.{Answer, MemoryAside}
use Rattle.host.specs.declared.answer.Kind.TheVariants as kind
use Rattle.host.specs.declared.end.End.{End}
use Rattle.host.specs.declared.end.End.TheVariants as end
use Rattle.z80dev.specs.Outputs.{base_of, why_not_written}
use Rattle.z80dev.specs.Products.{build_products, link_products}
use Rattle.z80dev_make.specs.Products.{program_kinds}
use Rattle.z80dev_make.specs.Asm.{IsAsm}
use Rattle.z80dev_make.specs.Build.{IsMade}
use Rattle.z80dev_make.specs.Link.{IsLink}
use Rattle.z80dev_make.specs.Jumps.{jumps_text}
use Rattle.z80dev_make.specs.Warned.{AreModuleWarnings, AreWarnings}
use Rattle.report_texts.specs.declared.front.SourceFile.{SourceFile}
use Rattle.report_texts.specs.declared.front.Front.{Front}
use Rattle.z80dev_make.specs.declared.jumps.Jumps.{Jumps}
use Rattle.host.specs.Ending.{Effect, Refuses, CarriesOut, UnlessRefused, With, WithAll, LinesAt}

-- ---- the commands

-- sources of these paths and texts
abbrev pub AreFiles : List (List ℕ) → List (List ℕ) → List SourceFile → Type 0
AreFiles paths texts files = (map (λ file. file.path.now) files ≡ paths) × (map (λ file. file.text.now) files ≡ texts)

abbrev pub defines_of : Shared → List (List ℕ)
defines_of shared = map (λ word. word.now) shared.defines.items

abbrev pub shared_paths : Shared → List (List ℕ)
shared_paths shared = map (λ path. path.now) shared.files.items

-- these definitions, and these files with their texts
abbrev pub IsFront : Shared → List (List ℕ) → Front → Type 0
IsFront shared texts front = (map (λ word. word.now) front.defines.now ≡ defines_of shared) × AreFiles (shared_paths shared) texts front.files.now

-- the object of a source that was read, with definitions and shared files, which were read too, before its first line; and its warnings
abbrev pub IsAsmOf : Asm → List (List ℕ) → List ℕ → List ℕ → Answer → Type 0
IsAsmOf asm fronts text warned a =
    (front : Front) × (file : SourceFile) × IsFront asm.shared fronts front × (file.path.now ≡ asm.source.now) × (file.text.now ≡ text)
    × IsAsm front file asm.grow a × AreModuleWarnings asm.warn front file asm.grow a.said warned

abbrev pub WritesAsm : List ℕ → Asm → List (List ℕ) → List ℕ → Effect → List ℕ → End → Type 0
WritesAsm base asm fronts text x lines e = (warned : List ℕ) × LinesAt e lines warned × CarriesOut base (MemoryAside (IsAsmOf asm fronts text warned)) x e

-- `asm`: the shared files and then the source are read, and its object is written. The lines are its warnings.
abbrev pub AsmWith : List ℕ → Asm → Effect → List ℕ → End → Type 0
AsmWith base asm x lines e = UnlessRefused (why_not_written base (kind.Object ∷ []) (shared_paths asm.shared ++ asm.source.now ∷ []))
    (WithAll (shared_paths asm.shared) (λ fronts. With asm.source.now (λ text. WritesAsm base asm fronts text x lines e) x e) x e) x e

abbrev pub AsmEnds : Asm → Effect → List ℕ → End → Type 0
AsmEnds asm x lines e = AsmWith (base_of asm.out (asm.source.now ∷ [])) asm x lines e

-- `link`: the objects are read, and their program is written.
abbrev pub object_paths : Link → List (List ℕ)
object_paths link = map (λ path. path.now) link.objects.items

abbrev pub LinksWith : List ℕ → Link → Effect → End → Type 0
LinksWith base link x e = UnlessRefused (why_not_written base (program_kinds (link_products link)) (object_paths link))
    (WithAll (object_paths link) (λ objects. CarriesOut base (MemoryAside (IsLink (link_products link) objects)) x e) x e) x e

abbrev pub LinkEnds : Link → Effect → End → Type 0
LinkEnds link x e = LinksWith (base_of link.out (object_paths link)) link x e

-- how many jumps are short and long, where this is wanted and there is a program
abbrev pub jumps_lines : Bool → Option Jumps → List ℕ
jumps_lines true (Some j) = jumps_text j ++ 10 ∷ []
jumps_lines wanted jumps = []

abbrev pub source_paths : Build → List (List ℕ)
source_paths build = map (λ path. path.now) build.sources.items

-- the program of sources that were read, with definitions and shared files, which were read too, before each of them; its jumps and its warnings
abbrev pub IsBuiltOf : Build → List (List ℕ) → List (List ℕ) → Option Jumps → List ℕ → Answer → Type 0
IsBuiltOf build fronts texts jumps warned a = (front : Front) × (files : List SourceFile) × IsFront build.shared fronts front × AreFiles (source_paths build) texts files
    × IsMade front files build.grow (build_products build) a jumps × AreWarnings build.warn front files build.grow jumps warned

-- It is written. The lines are its warnings, and how many of its jumps are short and long.
abbrev pub WritesBuilt : List ℕ → Build → List (List ℕ) → List (List ℕ) → Effect → List ℕ → End → Type 0
WritesBuilt base build fronts texts x lines e = (jumps : Option Jumps) × (warned : List ℕ) × LinesAt e lines (warned ++ jumps_lines build.verbose jumps)
    × CarriesOut base (IsBuiltOf build fronts texts jumps warned) x e

-- `build`: the shared files and then the sources are read, and their program is written.
abbrev pub BuildsWith : List ℕ → Build → Effect → List ℕ → End → Type 0
BuildsWith base build x lines e = UnlessRefused (why_not_written base (program_kinds (build_products build)) (shared_paths build.shared ++ source_paths build))
    (WithAll (shared_paths build.shared) (λ fronts. WithAll (source_paths build) (λ texts. WritesBuilt base build fronts texts x lines e) x e) x e) x e

abbrev pub BuildEnds : Build → Effect → List ℕ → End → Type 0
BuildEnds build x lines e = BuildsWith (base_of build.out (source_paths build)) build x lines e

-- `check`: the sizes and the certificate are read, and the checker's verdict is printed. No file is written.
abbrev pub CheckEnds : List ℕ → List ℕ → Effect → End → Type 0
CheckEnds sizes cert x e = With sizes (λ s. With cert (λ c. (x.new ≡ x.old) × VerdictEnds s c x.before x.after e) x e) x e

-- A source of a program is printed, or the program, its labels, its entries or its beginnings of data are refused.
abbrev pub PrintsSource : List ℕ → Option (List ℕ) → List (List ℕ) → List (List ℕ) → Effect → End → Type 0
PrintsSource program labels entries data_starts x end.Done = (text : Vec ℕ Global) × IsDisassembly program labels entries data_starts (Ok text) × PrintsAll x.before x.after text.items
PrintsSource program labels entries data_starts x (end.Refused said) =
    (why : DisassemblyFault) × (why ≢ fault.NoMemory) × IsDisassembly program labels entries data_starts (Err why) × (string_bytes said ≡ disassembly_fault_text why) × (x.after ≡ x.before)
PrintsSource program labels entries data_starts x (end.File path last) = ⊥
PrintsSource program labels entries data_starts x (end.Path path) = ⊥
PrintsSource program labels entries data_starts x end.Stream = (text : Vec ℕ Global) × IsDisassembly program labels entries data_starts (Ok text) × PutsFront x.before x.after text.items
PrintsSource program labels entries data_starts x end.NoMemory = x.after ≡ x.before

-- A file is read if its path is given.
abbrev pub WithIfGiven : Option (Bor (List ℕ)) → (Option (List ℕ) → Type 0) → Effect → End → Type 0
WithIfGiven None Does x e = Does None
WithIfGiven (Some path) Does x e = With path.now (λ bytes. Does (Some bytes)) x e

-- `dis`: the program and its labels are read, and a source that builds to the program is printed. No file is written.
abbrev pub DisEnds : Dis → Effect → End → Type 0
DisEnds dis x e = With dis.program.now (λ program. WithIfGiven dis.labels
    (λ names. (x.new ≡ x.old) × PrintsSource program names (map (λ word. word.now) dis.entries.items) (map (λ word. word.now) dis.data_starts.items) x e) x e) x e
