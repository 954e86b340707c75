use Rattle.cpm_bdos.specs.Functions.{bios_entry_of, function_of}
use Rattle.cpm_bdos.proofs.OneCall.{one_known, one_known_entry}
use Rattle.cpm_bdos.proofs.laws.one_answer.Goals as goal

pub returns-clause-call : goal.returns-clause-call
returns-clause-call g c = λ first old other new there cpu shown seen before now left result answer alike good fine one two.
    one_known g.S.Sectors.sectors g.S.Sectors.faults g.C.Console.dialog first old other new there alike (function_of cpu.main.c) cpu shown seen before now left result answer good fine one two

pub returns-clause-entry : goal.returns-clause-entry
returns-clause-entry g c = λ first old other new there number cpu shown seen result answer alike good fine one two.
    one_known_entry g.S.Sectors.sectors g.S.Sectors.faults g.C.Console.dialog first old other new there alike (bios_entry_of number) number cpu shown seen result answer good fine one two
