use Rattle.std.proofs.Common.{◌≡◌, ◌∷◌, map, take}
use Rattle.cert_check.specs.Lines.{lines_text}
use Rattle.cert_check.specs.Texts.{sizes_header, statement_line}
use Rattle.cert_check.proofs.sizes.print_sizes.Given as goal

abbrev pub invariant-loop-statement : goal.invariant-loop-statement
invariant-loop-statement l = l.text.items ≡ lines_text (sizes_header ∷ map statement_line (take l.statement-index l.shape))
