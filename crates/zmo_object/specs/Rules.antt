-- The rules that a module keeps if an object file may hold it.
use Rattle.std.specs.Prelude.{◌≡◌, ◌≤◌, ◌<◌, ℕ, ◌+◌, Bool, true, false, List, ◌++◌, All, length, map}
use Rattle.std.specs.List.{IsDistinct}
use Rattle.std.specs.List.Sorted.{IsStrictlyIncreasing}
use Rattle.std.specs.Option.{IfSome}
use Rattle.std.specs.Str.{bytes_eq}
use Rattle.common.specs.declared.limits.TheConstants.{MOST_BYTES, MOST_NAMES, MOST_STATEMENTS}
use Rattle.asm_parse.specs.Names.{IsDefinable}
use Rattle.z80_instr.specs.declared.Branch.{Branch}
use Rattle.zmo_object.specs.declared.module.TheConstants.{LONGEST_NAME}
use Rattle.zmo_object.specs.Holes.{IsHole, LieWithin}
use Rattle.zmo_object.specs.Modules as object
use Rattle.zmo_object.specs.Modules.{Label, Module, ModuleStatement}

-- a name of 255 bytes at most
abbrev pub FitsInObject : List ℕ → Type 0
FitsInObject name = length name ≤ LONGEST_NAME

-- The name of a label or an external: one that a source can define.
abbrev pub IsObjectName : List ℕ → Type 0
IsObjectName name = IsDefinable name × FitsInObject name

-- a number of bytes that one statement may take
abbrev pub IsSize : ℕ → Type 0
IsSize n = (1 ≤ n) × (n ≤ MOST_BYTES)

-- With --grow only DJNZ is always short.
abbrev pub IsAlwaysShort : Bool → Branch → Type 0
IsAlwaysShort grow (Branch.Relative condition) = grow ≡ false
IsAlwaysShort grow Branch.CountDown = Unit {0}

-- A statement that an object file may hold, with --grow or without; its refs are below `refs`.
abbrev pub IsModuleStatement : Bool → ℕ → ModuleStatement → Type 0
IsModuleStatement grow refs (object.Bytes bytes holes) = IsSize (length bytes) × LieWithin 0 (length bytes) holes × All (IsHole refs bytes) holes
IsModuleStatement grow refs (object.Jump marked condition target) = (marked ≡ true → grow ≡ true) × (target < refs)
IsModuleStatement grow refs (object.Short branch target) = IsAlwaysShort grow branch × (target < refs)
IsModuleStatement grow refs (object.Space size fill) = IsSize size

-- How many refs there are: one for each statement, one for their end, and then one for each external.
abbrev pub refs_of : Module → ℕ
refs_of m = (length m.statements + 1) + length m.externals

abbrev pub IsLabel : ℕ → Label → Type 0
IsLabel statements l = (l.statement ≤ statements) × IsObjectName l.name

-- the names of labels and externals
abbrev pub names_of : Module → List (List ℕ)
names_of m = map (λ l. l.name) m.labels ++ m.externals

-- What an object file may hold.
pub record IsModule (m : Module) : Type 0 where
  pub name : FitsInObject m.name
  pub few_statements : length m.statements ≤ MOST_STATEMENTS
  pub few_names : length m.labels + length m.externals ≤ MOST_NAMES
  pub entry : IfSome m.entry (λ e. e < length m.labels)
  pub statements : All (IsModuleStatement m.grow (refs_of m)) m.statements
  pub labels : All (IsLabel (length m.statements)) m.labels
  pub public_labels : All (λ p. p < length m.labels) m.publics
  pub publics_ascend : IsStrictlyIncreasing m.publics
  pub externals : All IsObjectName m.externals
  pub distinct : IsDistinct bytes_eq (names_of m)
