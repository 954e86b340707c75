use Rattle.std.proofs.Common.{◌≡◌, ◌+◌, ◌++◌, map, length, sym, ap, ◌∙◌, arith}
use Rattle.std.proofs.lemmas.List.{take_all}
use Rattle.relax.specs.Choice.{chosen}
use Rattle.zmo_object.specs.Modules.{module_of, statement_of}
use Rattle.zlink.specs.Private.Marked.{marked_from}
use Rattle.zlink.proofs.Files.Growing.{count-more, front-fits, grown-is, modules-step, statements_in}
use Rattle.zlink.proofs.file.layout.grown.Goals as goal

pub put_grown-requires : goal.put_grown-requires
put_grown-requires c =
    let more = count-more c.args.modules.now c.loop-module.module-index c.module-item.result (omega arith) c.module-item.is in
    omega (arith, more, front-fits c.args.modules.now (c.loop-module.module-index + 1), c.loop-module.invariant.first, ap length c.deref.ensures.value, c.requires)

pub overflow_add-first : goal.overflow_add-first
overflow_add-first c =
    let more = count-more c.args.modules.now c.loop-module.module-index c.module-item.result (omega arith) c.module-item.is in
    omega (arith, more, front-fits c.args.modules.now (c.loop-module.module-index + 1), c.loop-module.invariant.first, c.len-first.ensures, c.requires)

pub loop-module-preserved : goal.loop-module-preserved
loop-module-preserved c =
    let more = count-more c.args.modules.now c.loop-module.module-index c.module-item.result (omega arith) c.module-item.is in
    let put : c.put_grown.new.numbers.items ≡ c.loop-module.numbers.items ++ marked_from (chosen c.args.long.now) c.loop-module.first (map statement_of c.module-item.result.statements.items) =
    c.in_ok-put_grown.ensures ∙ ap (λ ss. c.loop-module.numbers.items ++ marked_from (chosen c.args.long.now) c.loop-module.first (map statement_of ss)) c.deref.ensures.value in
    record {
      numbers = modules-step (chosen c.args.long.now) c.loop-module.module-index c.loop-module.first c.args.modules.now c.module-item.result c.loop-module.numbers.items c.put_grown.new.numbers.items
          (omega arith) c.module-item.is c.loop-module.invariant.first c.loop-module.invariant.numbers put;
      first = omega (arith, more, c.loop-module.invariant.first, c.len-first.ensures, c.module-item.result.statements.ok);
    }

pub returns : goal.returns
returns c =
    let all = take_all c.loop-module.module-index c.args.modules.now (omega arith) in
    c.loop-module.invariant.numbers ∙ ap (λ ms. marked_from (chosen c.args.long.now) 0 (statements_in (map module_of ms))) all ∙ sym (grown-is (chosen c.args.long.now) (map module_of c.args.modules.now))
