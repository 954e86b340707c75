-- How errors of the one source are printed. Its name is MAIN.
use Rattle.std.specs.Prelude.{ℕ, List, codes}
use Rattle.report_texts.specs.Faults.Refusals.{of_build, program_refusal_text}
use Rattle.z80dev.specs.declared.fault.Fault.{Fault}
use Rattle.z80dev.specs.declared.fault.Fault.TheVariants as fault

abbrev pub fault_text : Fault → List ℕ
fault_text fault.File = codes "file MAIN"
fault_text (fault.Build refusal) = program_refusal_text (codes "MAIN") (of_build refusal)
