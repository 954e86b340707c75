-- What `explain` answers for sources.
use Rattle.std.specs.Prelude.{◌≡◌, ℕ, ◌+◌, Bool, true, false, List, [], Result, Ok, Err, is_ok, length, map}
use Rattle.std.specs.List.{AllZip, list_any, sum_by}
use Rattle.report_texts.specs.Front.{CountsLines, front_lines}
use Rattle.zlink.specs.Built.{IsBuilt}
use Rattle.zlink.specs.declared.building.Built.{Built}
use Rattle.zlink.specs.declared.fault.BuildFault.{BuildFault}
use Rattle.zlink.specs.declared.fault.BuildFault.TheVariants as build
use Rattle.zlink.specs.declared.source.Source.{Source}
use Rattle.report_texts.specs.Behind.{IsBehind}
use Rattle.report_texts.specs.Shared.{UnlessFaulty}
use Rattle.report_texts.specs.declared.front.SourceFile.{SourceFile}
use Rattle.report_texts.specs.declared.front.Front.{Front}
use Rattle.report_texts.specs.declared.report.Report.{Report}
use Rattle.asm_module.specs.declared.fault.AsmFault.{AsmFault}
use Rattle.report_texts.specs.Faults.Refusals.{told_text}
use Rattle.report_texts.specs.Repeats.{HasNoRepeats, without_repeats}
use Rattle.report_texts.specs.declared.faults.refusal.Told.{Told}
use Rattle.report_texts.specs.Reports.{bears_name}
use Rattle.link_errors.specs.Names.{link_name}
use Rattle.link_errors.specs.Counts.{HasWarnings, warning_count}
use Rattle.link_errors.specs.Longs.{AreLongNotes}
use Rattle.zmo_object.specs.Modules.{module_of}
use Rattle.z80dev_explain.specs.Fronts.{AreFrontErrors}
use Rattle.z80dev_explain.specs.Reports.{is_report_of}

-- Sources after a front have this number of warnings in their own lines.
pub record AreWarned (front : Front) (behind : List Source) (count : ℕ) : Type 0 where
  pub before : ℕ
  pub lines : CountsLines before (front_lines front)
  pub counts : List ℕ
  pub each : AllZip (λ s n. HasWarnings before s.text.now n) behind counts
  pub all : count ≡ sum_by (λ n. n) counts

-- One of the reports is of the error of this source for which building refuses it. Errors that are written in one of the first `before` lines, which
-- each source has, are reported for the first source that has them, and not again.
pub record HasErrorOnce (before : ℕ) (source : ℕ) (fault : AsmFault) (reports : List Report) : Type 0 where
  pub all : List Report
  pub has : list_any (is_report_of source fault) reports ≡ true
  pub once : reports ≡ without_repeats before [] all
  pub distinct : HasNoRepeats before reports

-- The same, of sources after a front: its lines are the first ones.
abbrev pub HasErrorOfSource : Front → ℕ → AsmFault → List Report → Type 0
HasErrorOfSource front source fault reports = (before : ℕ) × CountsLines before (front_lines front) × HasErrorOnce before source fault reports

-- The reports for what building sources after a front answers: a report for each warning about a jump and about a source; or errors, among
-- them the one for which building refuses a source, or the modules together.
abbrev pub AreReports : Front → List Source → Result Built BuildFault → List Report → Type 0
AreReports front behind (Ok built) reports = (count : ℕ) × AreWarned front behind count × (length reports ≡ warning_count built + count)
AreReports front behind (Err (build.Asm source fault)) reports = HasErrorOfSource front source fault reports
AreReports front behind (Err (build.Link fault)) reports = list_any (bears_name (link_name fault)) reports ≡ true

-- The notes about the long jumps of what was built, if they are wanted. If there is no program, there are none.
abbrev pub AreLongs : Result Built BuildFault → Bool → List Report → Type 0
AreLongs (Ok built) true longs = AreLongNotes (map module_of built.modules.items) longs
AreLongs (Ok built) false longs = longs ≡ []
AreLongs (Err fault) wanted longs = longs ≡ []

-- What is said of sources after a front, given what building them answers.
pub record IsExplainedBehind (front : Front) (grow jumps : Bool) (files : List SourceFile) (has_program : Bool) (reports longs : List Report) : Type 0 where
  pub behind : List Source
  pub are : AllZip (IsBehind front) files behind
  pub building : Result Built BuildFault
  pub built : IsBuilt grow behind building
  pub program : has_program ≡ is_ok building
  pub reported : AreReports front behind building reports
  pub long : AreLongs building jumps longs

-- There is no program, because the front is refused by itself, with this text.
abbrev pub IsFrontFaulty : Front → List ℕ → Bool → List Report → List Report → Type 0
IsFrontFaulty front said has_program reports longs =
    (has_program ≡ false) × ((told : Told) × (told_text told ≡ said) × AreFrontErrors front told reports) × (longs ≡ [])

-- What is said of sources and the front before them. If the front has an error by itself, the sources are not looked at.
abbrev pub IsExplained : Front → Bool → Bool → List SourceFile → Bool → List Report → List Report → Type 0
IsExplained front grow jumps files has_program reports longs =
    UnlessFaulty front (λ said. IsFrontFaulty front said has_program reports longs) (IsExplainedBehind front grow jumps files has_program reports longs)
