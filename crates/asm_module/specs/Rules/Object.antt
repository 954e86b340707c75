-- What an object file requires of the names that lines define, and of the statements that they make.
use Rattle.std.specs.Prelude.{◌≤◌, ◌+◌, ℕ, All, Bool, List, length, map}
use Rattle.std.specs.List.{IsDistinct}
use Rattle.std.specs.Str.{bytes_eq}
use Rattle.common.specs.declared.limits.TheConstants.{MOST_NAMES, MOST_STATEMENTS}
use Rattle.asm_names.specs.Names.{Names}
use Rattle.zmo_object.specs.Modules.{ModuleStatement}
use Rattle.zmo_object.specs.Rules.{IsModuleStatement, IsObjectName}

-- An object file may hold all of these names: there are few enough, each is one that it may hold, and no two are equal.
pub record AreObjectNames (names : Names) : Type 0 where
  pub few : length names ≤ MOST_NAMES
  pub each : All (λ d. IsObjectName d.0) names
  pub distinct : IsDistinct bytes_eq (map (λ d. d.0) names)

-- An object file with so many externals may hold these statements: there are few enough, and each is one that it may hold. There is one ref
-- for each statement, one for their end, and one for each external.
pub record AreObjectStatements (grow : Bool) (externals : ℕ) (statements : List ModuleStatement) : Type 0 where
  pub few : length statements ≤ MOST_STATEMENTS
  pub each : All (IsModuleStatement grow ((length statements + 1) + externals)) statements
