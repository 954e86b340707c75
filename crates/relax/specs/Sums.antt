use Rattle.std.specs.Prelude.{ℕ, Bool, List}
use Rattle.relax.specs.declared.shape.Statement.{Statement}

-- what a `Sums` stands for: a program, a flag for each statement, which is set if it is a long jump, and how often it
-- was asked whether a jump fits
pub record SumsState : Type 0 where
  pub shape : List Statement
  pub long : List Bool
  pub asked : ℕ
