use Rattle.std.proofs.Common.{ap, length, arith}
use Rattle.asm_text.proofs.Line_ends.{length-lines_by}
use Rattle.asm_text.proofs.lines.Lines.len.Goals as goal

pub returns : goal.returns
returns c = omega (arith, c.len.ensures, c.self.inside.ends.ok, length-lines_by c.self.inside.text.now 0 c.self.inside.ends.items, ap length c.self.view_is)
