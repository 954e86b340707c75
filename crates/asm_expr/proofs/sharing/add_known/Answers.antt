use Rattle.std.proofs.Common.{◌++◌, Some, sym, ap, ◌∙◌}
use Rattle.std.specs.Option.{option_map}
use Rattle.asm_expr.specs.Settling.{items_known}
use Rattle.asm_expr.specs.Private.Cells.{opened}
use Rattle.asm_expr.proofs.Again.{known_again}
use Rattle.asm_expr.proofs.sharing.add_known.Goals as goal

pub returns-in_ok-extend_from_slice-in-List : goal.returns-in_ok-extend_from_slice-in-List
returns-in_ok-extend_from_slice-in-List c =
    ap (λ cell. option_map (λ added. c.args.known.now.items ++ added) (items_known (opened cell))) c.in-List.is
    ∙ ap (option_map (λ added. c.args.known.now.items ++ added)) (known_again c.in-List.list.now.value.items)
    ∙ ap Some (ap (λ xs. c.args.known.now.items ++ xs) (sym (c.deref-in-List.ensures.value ∙ ap (λ list. list.items) c.deref.ensures)) ∙ sym c.in_ok-extend_from_slice-in-List.ensures.items)
