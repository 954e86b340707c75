-- The names of errors of the modules together.
use Rattle.std.specs.Prelude.{ℕ, List, []}
use Rattle.report_texts.specs.Faults.Refusals.{of_link, program_refusal_text}
use Rattle.zlink.specs.declared.fault.LinkFault.{LinkFault}

-- the name by which building reports an error of the modules together
abbrev pub link_name : LinkFault → List ℕ
link_name fault = program_refusal_text [] (of_link fault)
