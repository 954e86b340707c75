use Rattle.std.proofs.Common.{◌≡◌, ◌∷◌, map, take}
use Rattle.cert_check.specs.Lines.{lines_text}
use Rattle.cert_check.specs.Texts.{cert_header, forced_line}
use Rattle.cert_check.proofs.cert.print_cert.Given as goal

abbrev pub invariant-loop-k : goal.invariant-loop-k
invariant-loop-k l = l.text.items ≡ lines_text (cert_header ∷ map forced_line (take l.k-index l.cert.order.items))
