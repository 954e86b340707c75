use Rattle.std.proofs.Common.{◌≡◌, ℕ}
use Rattle.report_texts.specs.Front.{CountsLines, earlier}
use Rattle.report_texts.proofs.Numbers.{front_changed}
use Rattle.report_texts.proofs.behind.number_lines.Given as goal

abbrev pub invariant-loop-number : goal.invariant-loop-number
invariant-loop-number l = (all : ℕ) → CountsLines l.lines all → l.numbers ≡ front_changed (earlier all) l.initial.numbers l.number-index
