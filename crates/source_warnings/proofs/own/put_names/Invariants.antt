use Rattle.std.proofs.Common.{◌≡◌, ◌++◌, drop, map}
use Rattle.asm_spell.specs.Line.{listed_names}
use Rattle.source_warnings.specs.Noted.{noted_on}
use Rattle.source_warnings.specs.Warnings.{each_said, warning_of}
use Rattle.source_warnings.specs.Private.Known.{Agrees, line_seen, says}
use Rattle.source_warnings.proofs.own.put_names.Given as goal

-- What is there and what the other names add is all.
abbrev pub invariant-loop-name : goal.invariant-loop-name
invariant-loop-name l = record {
  warnings : map warning_of l.found.items ++ each_said (says l.word l.mentioned (line_seen l.line)) l.line.number l.noted (listed_names (drop l.name-index l.names)) ≡ map warning_of l.initial.found.items ++ each_said (says l.word l.mentioned (line_seen l.line)) l.line.number l.initial.noted (listed_names l.names);
  noted : Agrees (l.noted ++ noted_on l.line.number (listed_names (drop l.name-index l.names))) (l.initial.noted ++ noted_on l.line.number (listed_names l.names));
}
