-- Parentheses: a comma within them separates no operands and no arguments.
-- In words: docs/LANGUAGE.md, section 'Lines'.
use Rattle.std.specs.Prelude.{ℕ, ◌+◌, ◌-◌}
use Rattle.asm_line.specs.declared.token.Kind.{Kind}
use Rattle.asm_line.specs.declared.token.Mark.{Mark}

-- how many parentheses are open after a token, if `depth` are open before it; one that closes none does not count
abbrev pub open_behind : ℕ → Kind → ℕ
open_behind depth (Kind.Mark Mark.Open) = depth + 1
open_behind depth (Kind.Mark Mark.Close) = depth - 1
open_behind depth _ = depth
