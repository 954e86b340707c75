-- Why there is no file, and how it is printed: by name, with the numbers in parentheses; an error of a line comes after its source and
-- line.
use Rattle.std.specs.Prelude.{ℕ, List, ◌++◌, codes, decimal}
use Rattle.zlink.specs.Types.{AsmFault, Why}
use Rattle.zmo_object.specs.declared.fault.ObjectFault.{ObjectFault}
use Rattle.zmo_object.specs.declared.fault.ObjectFault.TheVariants as object
use Rattle.zlink.specs.declared.program.fault.JoinFault.{JoinFault}
use Rattle.zlink.specs.declared.program.fault.JoinFault.TheVariants as join
use Rattle.zlink.specs.declared.fault.BuildFault.{BuildFault}
use Rattle.zlink.specs.declared.fault.BuildFault.TheVariants as build
use Rattle.zlink.specs.declared.fault.LinkFault.{LinkFault}
use Rattle.zlink.specs.declared.fault.LinkFault.TheVariants as link
use Rattle.zlink.specs.declared.fault.Misfit.{Misfit}
use Rattle.zlink.specs.declared.fault.Misfit.TheVariants as misfit
use Rattle.report_texts.specs.declared.faults.refusal.Refusal.{Refusal}
use Rattle.report_texts.specs.declared.faults.refusal.Refusal.TheVariants as refusal
use Rattle.report_texts.specs.declared.faults.refusal.Told.{Told}
use Rattle.report_texts.specs.Faults.Names.{why_name}
use Rattle.report_texts.specs.Faults.Numbered.{name_with_number, name_with_two_numbers}

-- the refusal of a source
abbrev pub by_why : Why → AsmFault → Refusal
by_why Why.NoMemory fault = refusal.NoMemory
by_why why fault = refusal.Source fault

abbrev pub of_source : AsmFault → Refusal
of_source fault = by_why fault.why fault

-- the refusal of modules
abbrev pub of_link : LinkFault → Refusal
of_link link.TooManyStatements = refusal.Modules join.TooManyStatements
of_link (link.BeginsNotFirst m) = refusal.Modules (join.BeginsNotFirst m)
of_link (link.DefinedTwice m l) = refusal.Modules (join.DefinedTwice m l)
of_link (link.Unresolved m x) = refusal.Modules (join.Unresolved m x)
of_link (link.EntryNotFirst m) = refusal.Modules (join.EntryNotFirst m)
of_link (link.NoFit why sizes cert) = refusal.NoFit why
of_link link.NoMemory = refusal.NoMemory

-- the refusal of sources
abbrev pub of_build : BuildFault → Refusal
of_build (build.Asm source fault) = of_source fault
of_build (build.Link fault) = of_link fault

abbrev pub object_text : ObjectFault → List ℕ
object_text object.Magic = codes "Magic"
object_text object.Truncated = codes "Truncated"
object_text (object.BadField offset) = name_with_number (codes "BadField") offset
object_text object.Trailing = codes "Trailing"
object_text object.NoMemory = codes "NoMemory"

abbrev pub modules_text : JoinFault → List ℕ
modules_text join.TooManyStatements = codes "TooManyStatements"
modules_text (join.BeginsNotFirst m) = name_with_number (codes "BeginsNotFirst") m
modules_text (join.DefinedTwice m l) = name_with_two_numbers (codes "DefinedTwice") m l
modules_text (join.Unresolved m x) = name_with_two_numbers (codes "Unresolved") m x
modules_text (join.EntryNotFirst m) = name_with_number (codes "EntryNotFirst") m
modules_text join.NoMemory = codes "NoMemory"

abbrev pub misfit_text : Misfit → List ℕ
misfit_text (misfit.Range k) = name_with_number (codes "Range") k
misfit_text (misfit.TooLarge n) = name_with_number (codes "Size") n

-- the line of a file, and what its error is
abbrev pub line_text : List ℕ → ℕ → List ℕ → List ℕ
line_text path line name = path ++ codes "(" ++ decimal line ++ codes "): " ++ name

-- the text of a refusal, given the path of the file that has the error, or the word
abbrev pub program_refusal_text : List ℕ → Refusal → List ℕ
program_refusal_text path (refusal.Source fault) = line_text path fault.line (why_name fault.why)
program_refusal_text path (refusal.NotShared line) = line_text path line (codes "NotShared")
program_refusal_text word (refusal.Define why) = codes "--define " ++ word ++ codes ": " ++ why_name why
program_refusal_text path (refusal.Object fault) = object_text fault
program_refusal_text path (refusal.Modules fault) = modules_text fault
program_refusal_text path (refusal.NoFit why) = misfit_text why
program_refusal_text path refusal.NoMemory = codes "NoMemory"

abbrev pub told_text : Told → List ℕ
told_text told = program_refusal_text told.path.now told.refusal
