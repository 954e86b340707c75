use Rattle.std.proofs.Common.{◌≡◌, inl, ◌∙◌, ap, sym, subst, true, false}
use Rattle.std.specs.List.{list_all}
use Rattle.std.proofs.lemmas.Result.{err_from_is_err_and}
use Rattle.asm_line.specs.Tokens.{lexemes}
use Rattle.asm_parse.specs.Parsed.{parsed}
use Rattle.asm_parse.specs.Source.{AreExpressionItems}
use Rattle.asm_parse.specs.Expression.{postfix}
use Rattle.asm_expr.specs.Below.{source_tree}
use Rattle.asm_expr.specs.Settling.{is_constant_item, is_known}
use Rattle.asm_expr.proofs.Steps.{source_whole}
use Rattle.asm_macro.specs.Private.Constants.{table_of}
use Rattle.asm_macro.proofs.Worth.{all_known, all_plain, items_read, no_constant, no_number, not_known, settled_err, settled_ok}
use Rattle.asm_macro.proofs.constants.value_of.Goals as goal

pub returns-then-not-is_constant : goal.returns-then-not-is_constant
returns-then-not-is_constant c = λ cs is.
    let same = source_whole c.in_ok-tree.tree (subst AreExpressionItems c.tree.view_is c.tree.invariant) in
    let read = items_read (parsed (lexemes c.args.tokens.now)) c.in_ok-tree.tree c.in_ok-tree.ensures.parsed in
    let none : list_all (is_constant_item (table_of cs)) c.in_ok-tree.tree ≡ false =
    ap (list_all (is_constant_item (table_of cs))) (sym same) ∙ ap (λ t. list_all (is_constant_item t) (postfix (source_tree c.in_ok-tree.tree))) (sym is) ∙ sym c.is_constant.ensures ∙ c.if-not-is_constant.true in
    inl (sym (no_number cs (lexemes c.args.tokens.now) c.in_ok-tree.tree read (no_constant (table_of cs) c.in_ok-tree.tree none)))

pub returns-then-not-is_defined : goal.returns-then-not-is_defined
returns-then-not-is_defined c = λ cs is.
    let read = items_read (parsed (lexemes c.args.tokens.now)) c.in_ok-tree.tree c.in_ok-tree.ensures.parsed in
    let none : list_all (is_known (table_of cs)) c.in_ok-tree.tree ≡ false =
    ap (λ t. list_all (is_known t) c.in_ok-tree.tree) (sym is) ∙ all_known c.args.names.now c.in_ok-tree.tree c.is_defined.result c.is_defined.ensures ∙ c.if-not-is_defined.true in
    inl (sym (no_number cs (lexemes c.args.tokens.now) c.in_ok-tree.tree read (not_known (table_of cs) c.in_ok-tree.tree none)))

pub returns-in_err-settled : goal.returns-in_err-settled
returns-in_err-settled c = λ cs is.
    let same = source_whole c.in_ok-tree.tree (subst AreExpressionItems c.tree.view_is c.tree.invariant) in
    let read = items_read (parsed (lexemes c.args.tokens.now)) c.in_ok-tree.tree c.in_ok-tree.ensures.parsed in
    let constant : list_all (is_constant_item (table_of cs)) c.in_ok-tree.tree ≡ true =
    ap (list_all (is_constant_item (table_of cs))) (sym same) ∙ ap (λ t. list_all (is_constant_item t) (postfix (source_tree c.in_ok-tree.tree))) (sym is) ∙ sym c.is_constant.ensures ∙ c.if-not-is_constant.false in
    let defined : list_all (is_known (table_of cs)) c.in_ok-tree.tree ≡ true =
    ap (λ t. list_all (is_known t) c.in_ok-tree.tree) (sym is) ∙ all_known c.args.names.now c.in_ok-tree.tree c.is_defined.result c.is_defined.ensures ∙ c.if-not-is_defined.false in
    let some = all_plain (table_of cs) c.in_ok-tree.tree constant defined in
    let p = err_from_is_err_and c.from_residual-in_err-settled.result c.from_residual-in_err-settled.ensures.1 in
    rw (p.1, p.2) (settled_err cs (lexemes c.args.tokens.now) c.in_ok-tree.tree c.in_err-settled.field-0.0 read some (rw (sym is) c.in_err-settled.ensures.settled))

pub returns : goal.returns
returns c = λ cs is.
    let same = source_whole c.in_ok-tree.tree (subst AreExpressionItems c.tree.view_is c.tree.invariant) in
    let read = items_read (parsed (lexemes c.args.tokens.now)) c.in_ok-tree.tree c.in_ok-tree.ensures.parsed in
    let constant : list_all (is_constant_item (table_of cs)) c.in_ok-tree.tree ≡ true =
    ap (list_all (is_constant_item (table_of cs))) (sym same) ∙ ap (λ t. list_all (is_constant_item t) (postfix (source_tree c.in_ok-tree.tree))) (sym is) ∙ sym c.is_constant.ensures ∙ c.if-not-is_constant.false in
    let defined : list_all (is_known (table_of cs)) c.in_ok-tree.tree ≡ true =
    ap (λ t. list_all (is_known t) c.in_ok-tree.tree) (sym is) ∙ all_known c.args.names.now c.in_ok-tree.tree c.is_defined.result c.is_defined.ensures ∙ c.if-not-is_defined.false in
    let some = all_plain (table_of cs) c.in_ok-tree.tree constant defined in
    inl (settled_ok cs (lexemes c.args.tokens.now) c.in_ok-tree.tree c.in_ok-settled.settled c.number_in.result read some same (rw (sym is) c.in_ok-settled.ensures.settled) c.number_in.ensures)
