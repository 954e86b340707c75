use Rattle.std.proofs.Common.{rules, sym}
use Rattle.asm_names.proofs.Below.{line_below}
use Rattle.asm_names.proofs.circles.lines_in.Goals as goal

pub overflow_cast-at : goal.overflow_cast-at
overflow_cast-at c = let lt = line_below _ c.args.names.now _ c.in-Some.at c.requires (sym c.in-Some.ensures) in search rules
