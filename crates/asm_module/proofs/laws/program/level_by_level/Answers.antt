use Rattle.asm_expr.specs.Below.{source_tree}
use Rattle.asm_names.specs.Meanings.{name_meanings, table_at}
use Rattle.asm_module.specs.Program.Statement.{with_meant}
use Rattle.asm_module.proofs.Program.Levels.{replaced_known}
use Rattle.asm_module.proofs.laws.program.level_by_level.Goals as goal

pub returns : goal.returns
returns c names lines circle layout places steps at e valued =
    let t = table_at layout (name_meanings names lines circle layout) at in
    c.level_by_level.ensures.value names lines circle layout places steps at (source_tree e) (with_meant t (source_tree e)) (replaced_known t (source_tree e) valued)
