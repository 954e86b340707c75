use Rattle.std.proofs.Common.{◌≡◌, ℕ}
use Rattle.report_texts.specs.Behind.{earlier_origin}
use Rattle.report_texts.specs.Front.{CountsLines}
use Rattle.report_texts.proofs.Numbers.{front_changed}
use Rattle.report_texts.proofs.behind.number_origins.Given as goal

abbrev pub invariant-loop-origin : goal.invariant-loop-origin
invariant-loop-origin l = (all : ℕ) → CountsLines l.lines all → l.origins ≡ front_changed (earlier_origin all) l.initial.origins l.origin-index
