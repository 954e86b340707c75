use Rattle.std.proofs.Common.{◌++◌, map, slice_index, sym, ap, ◌∙◌, arith}
use Rattle.std.specs.List.{flat_map}
use Rattle.std.proofs.lemmas.List.{length-map, take_all}
use Rattle.zmo_object.specs.Modules.{module_of}
use Rattle.zlink.specs.Program.Laws.{part_at}
use Rattle.zlink.specs.Program.Parts.{parts}
use Rattle.zlink.proofs.Files.Linking.{ends, here, length-parts, links-long}
use Rattle.zlink.specs.Linked.{symbol_of, symbols_in}
use Rattle.zlink.proofs.Symbols.{label_within, parts_next}
use Rattle.zlink.proofs.symbol.symbols_of.Goals as goal

pub bounds-links-m : goal.bounds-links-m
bounds-links-m c = links-long c.laid_out.ensures.parts c.args.modules.now c.args.links.now c.loop-m.m c.index-modules-m.result (omega arith) c.index-modules-m.is c.requires.links

pub put_symbols-requires : goal.put_symbols-requires
put_symbols-requires c = λ k d lt.
    let modules = map module_of c.args.modules.now in
    let m = module_of c.index-modules-m.result in
    let h = here c.laid_out.ensures.parts c.args.modules.now c.args.links.now c.loop-m.m c.index-modules-m.result c.index-links-m.result (omega arith) c.index-modules-m.is c.index-links-m.is c.requires.modules c.requires.links in
    omega (arith, label_within _ c.index-modules-m.result.labels.items k d lt h.rules.labels, ends modules c.loop-m.m m c.index-links-m.result h, c.requires.places, c.laid_out.ensures.count modules)

pub loop-m-preserved : goal.loop-m-preserved
loop-m-preserved c =
    let modules = map module_of c.args.modules.now in
    let m = module_of c.index-modules-m.result in
    let h = here c.laid_out.ensures.parts c.args.modules.now c.args.links.now c.loop-m.m c.index-modules-m.result c.index-links-m.result (omega arith) c.index-modules-m.is c.index-links-m.is c.requires.modules c.requires.links in
    c.in_ok-put_symbols.ensures
    ∙ ap (λ base. map symbol_of c.loop-m.symbols.items ++ symbols_in (λ k. slice_index c.args.places.now k) base m) h.linked.base
    ∙ ap (λ before. before ++ symbols_in (λ k. slice_index c.args.places.now k) (part_at modules c.loop-m.m m).base m) c.loop-m.invariant
    ∙ sym (parts_next (λ p. symbols_in (λ k. slice_index c.args.places.now k) p.base p.holds) modules c.loop-m.m (part_at modules c.loop-m.m m) h.part)

pub returns : goal.returns
returns c =
    let modules = map module_of c.args.modules.now in
    c.loop-m.invariant ∙ ap (flat_map (λ p. symbols_in (λ k. slice_index c.args.places.now k) p.base p.holds)) (take_all c.loop-m.m (parts modules) (omega (arith, length-parts 0 0 modules, length-map c.args.modules.now module_of)))
