use Rattle.std.proofs.Common.{◌≤◌, ◌∙◌, sym, ap, subst, length, map}
use Rattle.asm_names.specs.Layout.{layout_of}
use Rattle.asm_module.specs.Holding.{entry, listed, publics}
use Rattle.asm_names.specs.Lines.{lines_of}
use Rattle.zmo_object.specs.Modules.{label_of, statement_of}
use Rattle.asm_module.specs.Private.Steps.{held}
use Rattle.asm_module.proofs.Held.{few_labels, parts_held}
use Rattle.asm_module.proofs.lines.hold.Goals as goal

pub publics_of-requires : goal.publics_of-requires
publics_of-requires c =
    subst (λ ls. length ls ≤ 40000) (sym c.deref.ensures.value)
    (few_labels (layout_of c.args.layout.now) c.args.table.now c.in_ok-labels.labels.items c.requires.few c.in_ok-labels.ensures)

pub entry_of-requires : goal.entry_of-requires
entry_of-requires c =
    subst (λ ls. length ls ≤ 40000) (sym c.deref-2.ensures.value)
    (few_labels (layout_of c.args.layout.now) c.args.table.now c.in_ok-labels.labels.items c.requires.few c.in_ok-labels.ensures)

pub returns : goal.returns
returns c =
    parts_held c.args.name.now c.args.grow (lines_of c.args.lines.now) (layout_of c.args.layout.now) c.args.table.now
    (record { name = c.in_ok-short_name.field-0; begins = c.begins.result; entry = c.entry_of.result; grow = c.args.grow; statements = c.new.result; labels = c.in_ok-labels.labels; publics = c.in_ok-publics.publics; externals = c.in_ok-externals_of.field-0 })
    c.requires.names c.in_ok-short_name.ensures c.begins.ensures
    (c.entry_of.ensures ∙ ap (λ ls. entry (map label_of ls) (lines_of c.args.lines.now)) c.deref-2.ensures.value)
    c.in_ok-labels.ensures
    (c.in_ok-publics.ensures ∙ ap (λ ls. publics (map label_of ls) (listed (lines_of c.args.lines.now))) c.deref.ensures.value)
    c.in_ok-externals_of.ensures
    ∙ ap (λ statements. held c.args.name.now c.args.grow (lines_of c.args.lines.now) (layout_of c.args.layout.now) (map statement_of statements)) c.new.ensures.items
