-- Words for the laws about the statements of the whole program.
use Rattle.std.specs.Prelude.{◌≤◌, ◌<◌, ℕ, Bool, List, length, take}
use Rattle.std.specs.List.{sum_by}
use Rattle.zmo_object.specs.Modules.{Module}
use Rattle.zmo_object.specs.Rules.{IsModuleStatement}
use Rattle.zlink.specs.Program.Parts.{ModulePart}
use Rattle.zlink.specs.Program.Whole.{Placed}

-- how many statements all modules have
abbrev pub statement_count : List Module → ℕ
statement_count modules = sum_by (λ m. length m.statements) modules

-- the part of a module: its number, and how many statements the modules before it have
abbrev pub part_at : List Module → ℕ → Module → ModulePart
part_at modules number m = record { number = number; base = statement_count (take number modules); holds = m }

-- The statement keeps the rules of an object file, and each of its refs stands for one of `count` statements or for their end.
pub record IsWithin (count : ℕ) (p : Placed) : Type 0 where
  pub grow : Bool
  pub refs : ℕ
  pub rules : IsModuleStatement grow refs p.statement
  pub stands : (ref : ℕ) → ref < refs → p.stands ref ≤ count
