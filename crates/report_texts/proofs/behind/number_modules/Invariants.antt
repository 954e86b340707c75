use Rattle.std.proofs.Common.{◌≡◌, ℕ, map}
use Rattle.report_texts.specs.Front.{CountsLines}
use Rattle.report_texts.proofs.Numbers.{front_changed}
use Rattle.report_texts.proofs.Modules.{own_pair, with_earlier}
use Rattle.report_texts.proofs.behind.number_modules.Given as goal

abbrev pub invariant-loop-module : goal.invariant-loop-module
invariant-loop-module l = (all : ℕ) → CountsLines l.lines all → map own_pair l.modules ≡ front_changed (with_earlier all) (map own_pair l.initial.modules) l.module-index
