-- The notes about long jumps: why each of them takes three bytes.
use Rattle.std.specs.Prelude.{◌≡◌, ◌==◌, ◌⊎◌, ℕ, if◌then◌else◌, List, [], ◌∷◌, ◌++◌, None, Some, codes, length, string_bytes}
use Rattle.std.specs.List.{AllZip}
use Rattle.zmo_object.specs.Modules.{Module}
use Rattle.zlink.specs.declared.program.fault.JoinFault.{JoinFault}
use Rattle.zlink.specs.File.Objects.{placed_shape}
use Rattle.zlink.specs.Program.Faults.{first_fault}
use Rattle.zlink.specs.Program.Whole.{program}
use Rattle.relax.specs.Growth.{IsLeastFirst}
use Rattle.program_map.specs.Reasons.Reasons.{AreLongJumps}
use Rattle.program_map.specs.Reasons.Texts.{long_jump_text}
use Rattle.program_map.specs.declared.reasons.long_jumps.LongJump.{LongJump}
use Rattle.message_texts.specs.declared.parts.Note.{Note}
use Rattle.message_texts.specs.declared.parts.Note.TheVariants as note
use Rattle.report_texts.specs.declared.report.Report.{Report}
use Rattle.report_texts.specs.declared.report.Severity.TheVariants as severity

-- why a jump is long, by how many jumps that it goes over are the reason, and in which lines these are
abbrev pub reason_text : ℕ → List ℕ → List ℕ
reason_text count lines =
    if count == 0 then codes "it would be long even if all other jumps were short"
    else if count == 1 then codes "the jump between that is long, at " ++ lines ++ codes ", is the reason"
    else codes "the jumps between that are long, at " ++ lines ++ codes ", are the reason"

-- In which form the lines are named is not said here.
abbrev pub IsReasonNote : LongJump → Note → Type 0
IsReasonNote jump (note.Note text) = (lines : List ℕ) × (string_bytes text ≡ reason_text (length jump.reason.items) lines)
IsReasonNote jump (note.Help text) = ⊥

-- The first note of a report says why.
abbrev pub BeginsWithReason : LongJump → List Note → Type 0
BeginsWithReason jump [] = ⊥
BeginsWithReason jump (first ∷ more) = IsReasonNote jump first

abbrev pub this_jump_text : LongJump → List ℕ → List ℕ
this_jump_text jump name = codes "this jump takes 3 bytes: " ++ long_jump_text jump name

-- a report about a long jump: how far away its target is, under some name, and why
pub record IsLongNote (jump : LongJump) (report : Report) : Type 0 where
  pub severity : report.severity ≡ severity.Note
  pub unnamed : string_bytes report.name ≡ []
  pub target : List ℕ
  pub text : string_bytes report.text ≡ this_jump_text jump target
  pub reason : BeginsWithReason jump report.notes.items

-- One report for each long jump of these modules together, in their order. If they are no program, there is none.
abbrev pub AreLongNotes : List Module → List Report → Type 0
AreLongNotes modules reports =
    ((first_fault modules ≡ None) × ((order : List ℕ) × (jumps : List LongJump) × IsLeastFirst (placed_shape (program modules)) order × AreLongJumps (placed_shape (program modules)) order jumps × AllZip IsLongNote jumps reports))
    ⊎ ((fault : JoinFault) × (first_fault modules ≡ Some fault) × (reports ≡ []))
