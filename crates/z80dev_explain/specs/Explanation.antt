-- What the command `explain` says of sources.
use Rattle.std.specs.Prelude.{◌≡◌, ℕ, Bool, true, false, ◌==◌, List, [], ◌++◌, Option, None, Some, codes, decimal, if◌then◌else◌, length}
use Rattle.report_texts.specs.declared.front.SourceFile.{SourceFile}
use Rattle.report_texts.specs.declared.front.Front.{Front}
use Rattle.z80dev_explain.specs.Explained.{IsExplained}
use Rattle.report_texts.specs.Json.{IsPrinted}
use Rattle.z80dev_explain.specs.declared.explaining.Asked.{Asked}
use Rattle.report_texts.specs.declared.printing.Form.{Form}
use Rattle.report_texts.specs.declared.report.Files.{Files}
use Rattle.report_texts.specs.declared.report.Report.{Report}

-- there is a program, and nothing to report
abbrev pub IsFine : Bool → List Report → Type 0
IsFine has_program reports = (has_program ≡ true) × (reports ≡ [])

-- this many of something: `1 error`, `2 errors`
abbrev pub count_text : ℕ → List ℕ → List ℕ
count_text count what = if count == 1 then codes "1 " ++ what else decimal count ++ (codes " " ++ (what ++ codes "s"))

-- how many errors there are; or if there is a program, how many warnings, if there are some
abbrev pub summary_of : Bool → List Report → Option (List ℕ)
summary_of false reports = Some (count_text (length reports) (codes "error"))
summary_of true reports = if length reports == 0 then None else Some (count_text (length reports) (codes "warning") ++ codes ", no error")

-- This text is that of the reports about files, followed by that of the notes about long jumps.
abbrev pub IsPrintedWith : Files → Form → List Report → List Report → List ℕ → Type 0
IsPrintedWith files form reports longs text =
    (first : List ℕ) × (second : List ℕ) × IsPrinted files form reports first × IsPrinted files form longs second × (text ≡ first ++ second)

-- the files that reports about sources after a front name
abbrev pub AreFilesOf : Front → List SourceFile → Files → Type 0
AreFilesOf front sources files = (files.front ≡ front) × (files.sources.now ≡ sources)

-- The sources are explained so, and summed up so; there is no summary exactly if there is a program and nothing to report.
pub record IsExplanation (front : Front) (asked : Asked) (files : List SourceFile) (text : List ℕ) (summary : Option (List ℕ)) : Type 0 where
  pub has_program : Bool
  pub reports : List Report
  pub longs : List Report
  pub explained : IsExplained front asked.grow asked.jumps files has_program reports longs
  pub paths : Files
  pub are : AreFilesOf front files paths
  pub printed : IsPrintedWith paths asked.form reports longs text
  pub sum : summary ≡ summary_of has_program reports
  pub fine : summary ≡ None → IsFine has_program reports
  pub wrong : IsFine has_program reports → summary ≡ None
