-- What the statements of a module are, as the code finds it.
use Rattle.std.specs.Prelude.{◌≡◌, ◌≤◌, Bool, true, false, List, [], ◌∷◌, Option, Some, None, drop, if◌then◌else◌, length}
use Rattle.std.specs.List.{filter_map, slice_index_or}
use Rattle.asm_names.specs.Lines.{Taken}
use Rattle.asm_spell.specs.Line as line
use Rattle.asm_spell.specs.Line.{Body, Line}
use Rattle.asm_module.specs.Program.Statement.{Statement}
use Rattle.zmo_object.specs.Modules as object
use Rattle.zmo_object.specs.Modules.{ModuleStatement}
use Rattle.program_map.specs.declared.maps.kind.Kind.{Kind}
use Rattle.program_map.specs.Kinds.{kinds}

-- what a line's statement is, if it is not space: whether DS makes a statement depends on its size
abbrev pub body_kind : Body → Option Kind
body_kind (line.Code instr numbers) = Some Kind.Code
body_kind (line.Jump condition target) = Some Kind.Code
body_kind (line.Short branch target) = Some Kind.Code
body_kind (line.Bytes values) = Some Kind.Data
body_kind (line.Words fields) = Some Kind.Data
body_kind body = None

abbrev pub line_kind : Line → Option Kind
line_kind (line.Statement label (Some body)) = body_kind body
line_kind other = None

abbrev pub line_kinds : List Taken → List Kind
line_kinds lines = filter_map (λ l. line_kind l.line) lines

abbrev pub is_space_statement : ModuleStatement → Bool
is_space_statement (object.Space size fill) = true
is_space_statement other = false

-- The statements of a module that are not space are what the lines say, in their order.
abbrev pub told : List ModuleStatement → List Kind → List Kind
told [] said = []
told (s ∷ ss) said = if is_space_statement s then Kind.Space ∷ told ss said else slice_index_or said 0 Kind.Code ∷ told ss (drop 1 said)

-- A module has no more statements than its source describes. If it has as many, they are what the lines say.
pub record AreTold (ms : List ModuleStatement) (p : List Statement) (said : List Kind) : Type 0 where
  pub few : length ms ≤ length p
  pub same : length ms ≡ length p → told ms said ≡ kinds p
