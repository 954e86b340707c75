use Rattle.std.proofs.Common.{◌≡◌, map, take}
use Rattle.disassembler.specs.Reading.{label_parts}
use Rattle.state_text.specs.Labelled.{symbol_parts}
use Rattle.z80dev_jobs.proofs.runs.debugging.symbols_of.Given as goal

abbrev pub invariant-loop-label : goal.invariant-loop-label
invariant-loop-label l = map symbol_parts l.symbols.items ≡ take l.label-index (map label_parts l.label-items)
