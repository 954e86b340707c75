use Rattle.std.proofs.Common.{◌≡◌, map, take}
use Rattle.state_text.specs.Labelled.{symbol_parts}
use Rattle.disassembler.specs.Reading.{label_parts}
use Rattle.z80dev_run.proofs.labels.symbols_of.Given as goal

abbrev pub invariant-loop-label : goal.invariant-loop-label
invariant-loop-label l = map symbol_parts l.symbols.items ≡ map label_parts (take l.label-index l.labels)
