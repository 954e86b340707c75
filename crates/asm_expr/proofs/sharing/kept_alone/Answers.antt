use Rattle.std.proofs.Common.{Some, sym, ap, ◌∙◌}
use Rattle.asm_expr.specs.Settling.{items_known}
use Rattle.asm_expr.specs.Private.Cells.{opened}
use Rattle.asm_expr.proofs.Again.{known_again}
use Rattle.asm_expr.proofs.sharing.kept_alone.Goals as goal

pub returns-in_ok-clone-in-List : goal.returns-in_ok-clone-in-List
returns-in_ok-clone-in-List c =
    ap (λ list. Some list.items) c.in_ok-clone-in-List.ensures.cases ∙ sym (ap (λ cell. items_known (opened cell)) c.in-List.is ∙ known_again c.in-List.list.now.value.items)
