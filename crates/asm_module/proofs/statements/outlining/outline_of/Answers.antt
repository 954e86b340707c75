use Rattle.std.proofs.Common.{◌≤◌, length, subst, sym}
use Rattle.std.proofs.lemmas.List.{length-map}
use Rattle.asm_names.specs.Circles.{lines_named}
use Rattle.asm_names.specs.Layout.{Layout, layout_of, next_at}
use Rattle.asm_names.specs.Lines.{lines_of, taken_of}
use Rattle.asm_names.specs.Names.{names}
use Rattle.asm_names.specs.Orders.Order.{IsOrder}
use Rattle.asm_names.specs.Settles.{Settles, is_marked_circular}
use Rattle.asm_module.proofs.Layouts.Within.{within}
use Rattle.asm_module.proofs.statements.outlining.outline_of.Goals as goal
use Rattle.asm_module.specs.Outlines.{no_layout}

pub returns-clause-outlined : goal.returns-clause-outlined
returns-clause-outlined c =
    let lines = lines_of c.args.lines.now in
    let turns = c.in_ok-turns.turns.items in
    let order : IsOrder (length lines) (lines_named (names lines) lines) turns =
    subst (λ n. IsOrder n (lines_named (names lines) lines) turns) (sym (length-map c.args.lines.now taken_of))
    (subst (λ g. IsOrder (length c.args.lines.now) (lines_named g lines) turns) c.requires.names c.in_ok-turns.ensures) in
    let before : Settles (names lines) lines (is_marked_circular turns) no_layout c.in_ok-unplaced.unplaced =
    subst (λ l. Settles (names lines) lines (is_marked_circular turns) l c.in_ok-unplaced.unplaced) c.no_layout.ensures
    (subst (λ g. Settles g lines (is_marked_circular turns) (layout_of c.no_layout.result) c.in_ok-unplaced.unplaced) c.requires.names
    (subst (λ t. Settles c.args.table.now lines (is_marked_circular t) (layout_of c.no_layout.result) c.in_ok-unplaced.unplaced) c.deref.ensures.value c.in_ok-unplaced.ensures)) in
    record {
      orders = order;
      tells = c.outlined.ensures.tells lines turns order;
      lays = c.outlined.ensures.layout c.args.grow lines (is_marked_circular turns) (layout_of c.in_ok-layout.layout) c.in_ok-unplaced.unplaced before c.in_ok-layout.ensures;
      settles =
          subst (λ g. Settles g lines (is_marked_circular turns) (layout_of c.in_ok-layout.layout) c.in_ok-settled.settled) c.requires.names
          (subst (λ t. Settles c.args.table.now lines (is_marked_circular t) (layout_of c.in_ok-layout.layout) c.in_ok-settled.settled) c.deref-2.ensures.value c.in_ok-settled.ensures);
    }

pub returns-clause-within : goal.returns-clause-within
returns-clause-within c = λ at.
    subst (λ (l : Layout). next_at l at ≤ length l.statements) (sym c.in_ok-layout.ensures) (within c.args.grow c.in_ok-unplaced.unplaced.names (lines_of c.args.lines.now) at)
