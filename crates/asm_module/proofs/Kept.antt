-- The module of lines without an error keeps the rules of an object file, and its statements are those of their program.
use Rattle.std.proofs.Common.{◌≤◌, refl, subst, ℕ, Bool, List, length, arith}
use Rattle.std.proofs.lemmas.List.{length-take}
use Rattle.asm_names.specs.Layout.{Layout, layout_of, next_at}
use Rattle.asm_names.specs.Lines.{Taken}
use Rattle.asm_names.specs.Meanings.{externals}
use Rattle.asm_names.specs.Names.{names}
use Rattle.asm_module.specs.declared.statements.outlining.Outline.{Outline}
use Rattle.asm_module.specs.Outlines.{IsOutline, circle_of, outline_table, source_table}
use Rattle.asm_module.specs.Program.Lines.{AreAt, program_of_lines}
use Rattle.asm_module.specs.Rules.Object.{AreObjectNames, AreObjectStatements}
use Rattle.zmo_object.specs.Modules.{ModuleStatement}
use Rattle.zmo_object.specs.Rules.{IsModule, IsObjectName}
use Rattle.asm_module.specs.Program.Described.{AreOfLines}
use Rattle.asm_module.specs.Holding.{labels, listed}
use Rattle.asm_module.specs.Private.Steps.{held}
use Rattle.asm_module.proofs.Holding.Keeping.{distinct_kept, externals_kept, few_kept, labels_kept}
use Rattle.asm_module.proofs.Holding.Within.{entry_within, publics_ascend, publics_within}

pub is_module : (name : List ℕ) (grow : Bool) (lines : List Taken) (layout : Layout) (statements : List ModuleStatement) → AreObjectNames (names lines) → AreObjectStatements grow (length (externals (names lines))) statements
    → ((at : ℕ) → next_at layout at ≤ length statements) → IsModule (held name grow lines layout statements)
is_module name grow lines layout statements of_names of_statements within = record {
  name = (let is = length-take 255 name in omega (arith, is));
  few_statements = of_statements.few;
  few_names = (let le = few_kept layout (names lines) in let most = of_names.few in omega (arith, le, most));
  entry = entry_within (labels layout (names lines)) lines;
  statements = of_statements.each;
  labels = labels_kept layout (names lines) (length statements) within of_names.each;
  public_labels = publics_within (labels layout (names lines)) (listed lines);
  publics_ascend = publics_ascend (labels layout (names lines)) (listed lines);
  externals = externals_kept IsObjectName (names lines) of_names.each;
  distinct = distinct_kept layout (names lines) of_names.distinct;
}

pub states_lines : (grow : Bool) (lines : List Taken) (o : Outline) (statements : List ModuleStatement) → IsOutline grow lines o
    → AreAt statements (program_of_lines grow (outline_table lines o) (layout_of o.layout) lines) → AreOfLines grow lines statements
states_lines grow lines o statements outlined at =
    (_, (circle_of o, outlined.tells, refl), subst (λ l. AreAt statements (program_of_lines grow (source_table lines (circle_of o) l) l lines)) outlined.lays at)
