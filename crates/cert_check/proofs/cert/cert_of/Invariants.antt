use Rattle.std.proofs.Common.{◌≡◌, ◌^◌, ◌<◌, ◌∷◌, ◌++◌, length, map}
use Rattle.std.specs.List.{AllByRecursion}
use Rattle.cert_check.specs.Lines.{lines_text}
use Rattle.cert_check.specs.Texts.{cert_header, forced_line}
use Rattle.cert_check.proofs.cert.cert_of.Given as goal

abbrev pub invariant-loop-line : goal.invariant-loop-line
invariant-loop-line l = record {
  text_is : l.text ≡ lines_text (cert_header ∷ map forced_line l.order.items) ++ l.rest;
  members : AllByRecursion (λ k. k < 2 ^ 32) l.order.items;
}

abbrev pub decreases-loop-line : goal.decreases-loop-line
decreases-loop-line l = length l.rest
