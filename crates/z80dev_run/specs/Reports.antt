-- What is printed of the steps that a run has kept.
use Rattle.std.specs.Prelude.{◌≡◌, ◌-◌, ◌==◌, ℕ, List, [], ◌++◌, codes, decimal, if◌then◌else◌, length}
use Rattle.cpm_run.specs.declared.recording.TraceStep.{TraceStep}
use Rattle.z80dev_run.specs.Labelled.{Known}
use Rattle.z80dev_run.specs.Lines.{IsTrace}

-- how many steps a trace file leaves out
abbrev pub more_steps_text : ℕ → List ℕ
more_steps_text n = if n == 0 then [] else if n == 1 then codes "1 more step\n" else decimal n ++ codes " more steps\n"

-- A trace file: the lines of these steps, and how many more the run made.
abbrev pub IsTraceFile : Known → List TraceStep → ℕ → List ℕ → Type 0
IsTraceFile known steps turns text = (lines : List ℕ) × IsTrace known steps lines × (text ≡ lines ++ more_steps_text (turns - length steps))
