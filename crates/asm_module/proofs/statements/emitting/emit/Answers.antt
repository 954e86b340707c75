use Rattle.std.proofs.Common.{◌≡◌, None, subst, sym}
use Rattle.asm_names.specs.Layout.{layout_of}
use Rattle.asm_names.specs.Lines.{lines_of}
use Rattle.asm_names.specs.Names.{kind_of_name, names}
use Rattle.asm_module.proofs.Modules.Found.{settled_found}
use Rattle.asm_module.proofs.statements.emitting.emit.Goals as goal
use Rattle.asm_module.specs.Outlines.{circle_of}

pub state_lines-requires : goal.state_lines-requires
state_lines-requires c = λ name none.
    let lines = lines_of c.args.lines.items in
    subst (λ g. kind_of_name g name ≡ None) (sym c.requires.names)
    (settled_found (names lines) lines (circle_of c.args.outline) (layout_of c.args.outline.layout) c.args.outline.settled c.requires.outlined.settles name none)
