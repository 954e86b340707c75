use Rattle.std.proofs.Common.{◌+◌, All, length, map, vec_len, sym, ap, subst, ◌∙◌, arith}
use Rattle.std.proofs.lemmas.List.{length-map}
use Rattle.relax.specs.Choice.{IsShape}
use Rattle.zmo_object.specs.Modules.{module_of, statement_of}
use Rattle.zlink.specs.Program.Whole.{program}
use Rattle.zlink.specs.File.Objects.{placed_shape}
use Rattle.zlink.specs.Private.Refs.{IsSizable}
use Rattle.zlink.proofs.Files.Linking.{ends, here, is_shape, links-long, parts-all, shape-more, sizable}
use Rattle.zlink.proofs.file.layout.shape_of.Goals as goal

pub bounds-links-m : goal.bounds-links-m
bounds-links-m c = links-long c.laid_out.ensures.parts c.args.modules.now c.args.links.now c.loop-m.m c.index-modules-m.result (omega arith) c.index-modules-m.is c.requires.links

pub put_sizes-requires-clause-sizable : goal.put_sizes-requires-clause-sizable
put_sizes-requires-clause-sizable c =
    let h = here c.laid_out.ensures.parts c.args.modules.now c.args.links.now c.loop-m.m c.index-modules-m.result c.index-links-m.result (omega arith) c.index-modules-m.is c.index-links-m.is c.requires.modules c.requires.links in
    let count = length c.deref.result.now in
    let all = sizable (map module_of c.args.modules.now) c.loop-m.m (module_of c.index-modules-m.result) c.index-links-m.result count h (omega (arith, ap length c.deref.ensures.value, length-map c.index-modules-m.result.statements.items statement_of)) in
    subst (λ ss. All (IsSizable (count + 1 + vec_len c.index-links-m.result.externals)) (map statement_of ss)) (sym c.deref.ensures.value) all

pub put_sizes-requires-clause-room : goal.put_sizes-requires-clause-room
put_sizes-requires-clause-room c =
    let modules = map module_of c.args.modules.now in
    let h = here c.laid_out.ensures.parts c.args.modules.now c.args.links.now c.loop-m.m c.index-modules-m.result c.index-links-m.result (omega arith) c.index-modules-m.is c.index-links-m.is c.requires.modules c.requires.links in
    omega (arith, ends modules c.loop-m.m (module_of c.index-modules-m.result) c.index-links-m.result h, ap length c.deref.ensures.value, length-map c.index-modules-m.result.statements.items statement_of, c.laid_out.ensures.count modules, c.within.ensures.few modules c.requires.joined)

pub loop-m-preserved : goal.loop-m-preserved
loop-m-preserved c =
    let h = here c.laid_out.ensures.parts c.args.modules.now c.args.links.now c.loop-m.m c.index-modules-m.result c.index-links-m.result (omega arith) c.index-modules-m.is c.index-links-m.is c.requires.modules c.requires.links in
    shape-more (map module_of c.args.modules.now) c.loop-m.m (module_of c.index-modules-m.result) c.index-links-m.result (length c.deref.result.now) (map statement_of c.deref.result.now) c.loop-m.sizes.items c.put_sizes.new.sizes.items h
    (omega (arith, ap length c.deref.ensures.value, length-map c.index-modules-m.result.statements.items statement_of)) (ap (map statement_of) c.deref.ensures.value) c.loop-m.invariant c.in_ok-put_sizes.ensures

pub new-requires : goal.new-requires
new-requires c =
    let modules = map module_of c.args.modules.now in
    let whole = c.loop-m.invariant ∙ ap placed_shape (parts-all modules c.loop-m.m (omega (arith, length-map c.args.modules.now module_of))) in
    subst IsShape (sym whole) (is_shape (program modules) (c.within.ensures.few modules c.requires.joined) (c.within.ensures.each modules c.requires.modules c.requires.joined))

pub returns : goal.returns
returns c =
    let modules = map module_of c.args.modules.now in
    c.new.ensures ∙ c.loop-m.invariant ∙ ap placed_shape (parts-all modules c.loop-m.m (omega (arith, length-map c.args.modules.now module_of)))
