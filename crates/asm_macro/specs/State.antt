-- What an expansion knows when it reaches a line.
use Rattle.std.specs.Prelude.{ℕ, ◌+◌, ◌-◌, Bool, List, [], ◌∷◌, ◌++◌, Option, None, if◌then◌else◌, codes, map, is_some}
use Rattle.std.specs.Map.{lookup}
use Rattle.std.specs.Str.{bytes_eq}
use Rattle.asm_expr.specs.declared.meaning.Meaning.{Meaning}
use Rattle.asm_expr.specs.Names as names
use Rattle.asm_text.specs.Calls.{Macro}
use Rattle.asm_macro.specs.declared.expansion.TheConstants.{MOST_LINES}

-- The macros by name; the names that EQU gave a value that is known here; how many LOCAL names there were; and how many lines and
-- repetitions were read. Names are in upper case.
pub record State : Type 0 where
  pub macros : List (List ℕ × Macro)
  pub constants : List (List ℕ × ℕ)
  pub counter : ℕ
  pub count : ℕ

abbrev pub start : State
start = record { macros = []; constants = []; counter = 0; count = 0 }

abbrev pub macro_named : State → List ℕ → Option Macro
macro_named e name = lookup (bytes_eq name) e.macros

-- the macro that a word calls; EQU is recognized before macros, so it never calls one
abbrev pub called_by : List ℕ → List (List ℕ × Macro) → Option Macro
called_by word macros = if bytes_eq word (codes "EQU") then None else lookup (bytes_eq word) macros

abbrev pub macro_called : State → List ℕ → Option Macro
macro_called e word = called_by word e.macros

abbrev pub with_macro : List ℕ → Macro → State → State
with_macro name m e = record e { macros = e.macros ++ (name, m) ∷ [] }

-- the constants as a table of names for expressions
abbrev pub constant_table : State → names.Table
constant_table e = record names.empty { entries = map (λ c. (c.0, Meaning.Constant c.1)) e.constants }

abbrev pub is_constant : State → List ℕ → Bool
is_constant e name = is_some (lookup (bytes_eq name) e.constants)

abbrev pub with_constant : List ℕ → ℕ → State → State
with_constant name value e = record e { constants = e.constants ++ (name, value) ∷ [] }

abbrev pub with_line_counted : State → State
with_line_counted e = record e { count = e.count + 1 }

-- how many more lines and repetitions may be read
abbrev pub room : State → ℕ
room e = MOST_LINES - e.count
