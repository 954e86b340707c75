-- Modules as lists of numbers and bytes, as definitions see them.
use Rattle.std.specs.Prelude.{ℕ, Bool, List, Option, map}
use Rattle.z80_instr.specs.declared.Branch.{Branch}
use Rattle.z80_instr.specs.declared.ShortCond.{ShortCond}
use Rattle.zmo_object.specs.declared.module.hole.Hole.{Hole}
use Rattle.zmo_object.specs.declared.module.Label as label
use Rattle.zmo_object.specs.declared.module.Module as whole
use Rattle.zmo_object.specs.declared.module.statement.Statement as statement

-- A statement: bytes with fix-ups; a relaxable jump, marked if it was written as JR; a jump that is always short; or space with one fill
-- byte.
pub data ModuleStatement : Type 0 where
  Bytes : List ℕ → List Hole → ModuleStatement
  Jump : Bool → Option ShortCond → ℕ → ModuleStatement
  Short : Branch → ℕ → ModuleStatement
  Space : ℕ → ℕ → ModuleStatement

pub record Label : Type 0 where
  pub statement : ℕ
  pub name : List ℕ

pub record Module : Type 0 where
  pub name : List ℕ
  pub begins : Bool
  pub entry : Option ℕ
  pub grow : Bool
  pub statements : List ModuleStatement
  pub labels : List Label
  pub publics : List ℕ
  pub externals : List (List ℕ)

-- The values of the code's types as definitions see them.

abbrev pub statement_of : statement.Statement → ModuleStatement
statement_of (statement.TheVariants.Bytes bytes holes) = Bytes bytes.items holes.items
statement_of (statement.TheVariants.Jump marked condition target) = Jump marked condition target
statement_of (statement.TheVariants.Short branch target) = Short branch target
statement_of (statement.TheVariants.Space size fill) = Space size fill

abbrev pub label_of : label.Label → Label
label_of l = record { statement = l.statement; name = l.name.items }

abbrev pub module_of : whole.Module → Module
module_of m = record {
  name = m.name.items;
  begins = m.begins;
  entry = m.entry;
  grow = m.grow;
  statements = map statement_of m.statements.items;
  labels = map label_of m.labels.items;
  publics = m.publics.items;
  externals = map (λ name. name.items) m.externals.items;
}
