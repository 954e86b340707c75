use Rattle.std.proofs.Common.{◌≡◌, ◌++◌, map}
use Rattle.asm_macro.specs.Texts.{source_lines}
use Rattle.disassembler.specs.Labels.{label_address, label_name}
use Rattle.disassembler.specs.Reading.{label_parts}
use Rattle.disassembler.proofs.labels.read_labels.Given as goal

-- The labels so far and those of the lines that are left are all labels.
abbrev pub invariant-loop-line : goal.invariant-loop-line
invariant-loop-line l = record {
  can_next : (goal.iterator-loop-line).can_next l.line-iterator;
  finite : (goal.iterator-loop-line).is_finite l.line-iterator;
  all : map label_parts l.labels.items ++ map (λ line. (label_address line, label_name line)) l.line-iterator ≡ map (λ line. (label_address line, label_name line)) (source_lines l.text);
}
