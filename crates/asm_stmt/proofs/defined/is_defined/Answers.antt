use Rattle.std.specs.List.{list_all}
use Rattle.std.proofs.lemmas.List.Sums.{AllPass-from_list_all, list_all-from_AllPass}
use Rattle.asm_expr.specs.Settling.{is_known}
use Rattle.asm_stmt.proofs.Passing.{by_fact}
use Rattle.asm_stmt.proofs.defined.is_defined.Goals as goal

pub returns : goal.returns
returns c =
    let p = is_known c.args.names.now in
    let xs = c.args.tree.now in
    by_fact c.is_defined.result (list_all p xs) (λ h. list_all-from_AllPass p xs (c.is_defined.ensures.0 h)) (λ h. c.is_defined.ensures.1 (AllPass-from_list_all p xs h))
