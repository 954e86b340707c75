-- Lines without an error, and their statements as the code makes them.
use Rattle.std.specs.Prelude.{◌≡◌, All, Bool, List, None, map}
use Rattle.asm_names.specs.Faults.{first_name_fault}
use Rattle.asm_names.specs.Layout.{layout_of}
use Rattle.asm_names.specs.Lines.{Taken}
use Rattle.asm_names.specs.Names.{names}
use Rattle.zmo_object.specs.Modules.{ModuleStatement}
use Rattle.asm_module.specs.declared.statements.outlining.Outline.{Outline}
use Rattle.asm_module.specs.Module.Stated.{first_statement_fault, numbered_statements}
use Rattle.asm_module.specs.Outlines.{IsOutline}
use Rattle.asm_module.specs.Program.Spelled.{IsLineOfText}

-- No line has an error, and this is the outline of the lines.
pub record AreSound (grow : Bool) (lines : List Taken) (o : Outline) : Type 0 where
  pub names_sound : first_name_fault lines ≡ None
  pub parsed : All (λ l. IsLineOfText l.line) lines
  pub outlined : IsOutline grow lines o
  pub equs_sound : o.settled.fault ≡ None
  pub others_sound : first_statement_fault (names lines) o.settled.names (layout_of o.layout) lines ≡ None

-- the statements that the lines make
abbrev pub made_by : Bool → List Taken → Outline → List ModuleStatement
made_by grow lines o = map (λ n. n.1) (numbered_statements grow o.settled.names (layout_of o.layout) lines)
