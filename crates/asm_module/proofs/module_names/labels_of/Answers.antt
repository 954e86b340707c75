use Rattle.std.proofs.Common.{rules, ◌≡◌, ◌<◌, ◌+◌, ◌∙◌, length, map, take, ap}
use Rattle.asm_names.specs.Layout.{layout_of}
use Rattle.zmo_object.specs.Modules.{label_of}
use Rattle.asm_module.specs.Holding.{label_in, labels}
use Rattle.asm_module.proofs.Holding.Collected.{given_more, is_given}
use Rattle.asm_module.proofs.module_names.labels_of.Goals as goal
use Rattle.asm_module.proofs.module_names.labels_of.Goals.{in-Some+in_ok-one+in_ok-put, in_default}

pub loop-at-preserved : goal.loop-at-preserved
loop-at-preserved c =
    let names = c.args.table.now in
    let lt : c.loop-at.at < length names = search rules in
    elim c.match-get.branch as (λ _. map label_of c.match-get.labels.items ≡ labels (layout_of c.args.layout.now) (take (c.loop-at.at + 1) names)) [
      | in-Some+in_ok-one+in_ok-put w ↦
          ap (λ all. map label_of all.items) w.labels-is
          ∙ given_more label_of (label_in (layout_of c.args.layout.now)) names c.loop-at.at (w.in-Some.name.now, w.in-Some.kind) c.loop-at.labels.items w.put.new.items.items w.in_ok-one.one w.in-Some.ensures
          w.in_ok-one.ensures w.in_ok-put.ensures c.loop-at.invariant
      | in_default w ↦ is_given label_of (label_in (layout_of c.args.layout.now)) names c.loop-at.at lt w.in_default.ensures
    ]
