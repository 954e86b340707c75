-- The errors of a line that is not an EQU, once names are settled: each of them, and then which one is reported.
-- In words: docs/LANGUAGE.md, section 'Modules'.
use Rattle.std.specs.Prelude.{ℕ, Bool, true, false, not, List, [], ◌∷◌, ◌++◌, Option, Some, None, Result, Ok, Err, is_none}
use Rattle.std.specs.List.{flat_map, list_any}
use Rattle.std.specs.Option.{option_to_list}
use Rattle.asm_expr.specs.Names.{Table}
use Rattle.asm_spell.specs.declared.fault.StmtFault.{StmtFault}
use Rattle.asm_spell.specs.Line as line
use Rattle.asm_spell.specs.Line.{Body, Value}
use Rattle.asm_names.specs.declared.kind.Kind.{Kind}
use Rattle.asm_names.specs.Faults.{first, if_so}
use Rattle.asm_names.specs.Names.{Names, kind_of_name}
use Rattle.asm_names.specs.Circles.{names_in}
use Rattle.asm_stmt.specs.Made.{Made, made}
use Rattle.asm_module.specs.declared.statements.fault.StateFault.{StateFault}

abbrev pub value_names : Value → List (List ℕ)
value_names (line.Text text) = []
value_names (line.Byte e) = names_in e

-- the names that a statement uses, from left to right; EXTRN does not use the names that it lists
abbrev pub used : Body → List (List ℕ)
used (line.Code instr numbers) = flat_map (λ n. names_in n.1) numbers
used (line.Jump condition target) = target ∷ []
used (line.Short branch target) = target ∷ []
used (line.Bytes values) = flat_map value_names values
used (line.Words fields) = flat_map names_in fields
used (line.Space size fill) = names_in size ++ flat_map names_in (option_to_list fill)
used (line.Public list) = list
used (line.Origin e) = names_in e
used (line.End entry) = option_to_list entry
used _ = []

-- the statement uses a name that is defined nowhere
abbrev pub undefined_name : Names → Body → Option StateFault
undefined_name names body = if_so StateFault.Undefined (list_any (λ name. is_none (kind_of_name names name)) (used body))

-- a value of the statement has an error
abbrev pub made_fault : Result Made StmtFault → Option StateFault
made_fault (Ok made) = None
made_fault (Err why) = Some (StateFault.Stmt why)

abbrev pub value_fault : Table → Body → Option StateFault
value_fault t body = made_fault (made t body)

abbrev pub is_label : Option Kind → Bool
is_label (Some (Kind.Label at)) = true
is_label _ = false

-- the names that have to be labels
abbrev pub passed_on : Body → List (List ℕ)
passed_on (line.Public list) = list
passed_on (line.End entry) = option_to_list entry
passed_on _ = []

-- PUBLIC or END lists a name that is not a label
abbrev pub not_label : Names → Body → Option StateFault
not_label names body = if_so StateFault.PublicNotLabel (list_any (λ name. not (is_label (kind_of_name names name))) (passed_on body))

-- the first error of a statement and its operands
abbrev pub body_fault : Names → Table → Body → Option StateFault
body_fault names t body = first (undefined_name names body ∷ value_fault t body ∷ not_label names body ∷ [])
