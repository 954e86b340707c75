use Rattle.std.proofs.Common.{◌+◌, ◌++◌, List, map, slice_index, sym, ap, ◌∙◌, arith}
use Rattle.std.proofs.lemmas.List.{take_all}
use Rattle.zmo_object.specs.declared.module.Label.{Label}
use Rattle.zmo_object.specs.Modules.{label_of}
use Rattle.zlink.specs.Linked.{symbol_of, Symbol}
use Rattle.zlink.proofs.Symbols.{mapped}
use Rattle.zlink.proofs.symbol.put_symbols.Goals as goal

pub returns : goal.returns
returns c =
    let added : List Label → List Symbol = map (λ x. record { name = x.name.items; module_name = c.args.own.now.name.items; place = slice_index c.args.places.now (c.args.links.now.base + x.statement) }) in
    c.loop-label.invariant
    ∙ ap (λ ls. map symbol_of c.reserve.new.self.items ++ added ls) (take_all c.loop-label.label-index c.args.own.now.labels.items (omega arith))
    ∙ ap (λ before. map symbol_of before ++ added c.args.own.now.labels.items) c.reserve.ensures.items
    ∙ ap (λ all. map symbol_of c.args.symbols.now.items ++ all) (sym (mapped label_of (λ l. record { name = l.name; module_name = c.args.own.now.name.items; place = slice_index c.args.places.now (c.args.links.now.base + l.statement) }) c.args.own.now.labels.items))
