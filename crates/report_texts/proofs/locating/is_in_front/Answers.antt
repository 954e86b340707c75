use Rattle.std.proofs.Common.{◌≡◌, ◌-◌, arith}
use Rattle.std.proofs.lemmas.Bool.Decides.{nat_tests}
use Rattle.report_texts.specs.Front.{front_lines}
use Rattle.report_texts.proofs.locating.is_in_front.Goals as goal

pub returns : goal.returns
returns c =
    let same : c.args.line - c.front_lines.result ≡ c.args.line - front_lines c.args.front = c.front_lines.ensures c.args.line (omega arith) in
    grind (arith, nat_tests, same)
