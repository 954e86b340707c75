use Rattle.std.proofs.Common.{refl, map}
use Rattle.std.specs.Option.{option_to_list}
use Rattle.asm_parse.specs.Source.{source_item}
use Rattle.asm_names.specs.Circles.{name_in, names_in}
use Rattle.source_errors.proofs.Loops.{all_there, if_one, one_more}
use Rattle.source_errors.proofs.using.put_items.Goals as goal

pub loop-item-preserved : goal.loop-item-preserved
loop-item-preserved c =
    one_more (λ xs. names_in (map source_item xs)) (λ x. option_to_list (name_in (source_item x))) (λ x rest. if_one (name_in (source_item x)) (names_in (map source_item rest))) c.args.items.now c.loop-item.item-index c.item-item.result _ _ _ c.loop-item-test.true c.item-item.is c.in_ok-put_item.ensures c.loop-item.invariant

pub returns : goal.returns
returns c = all_there (λ xs. names_in (map source_item xs)) refl c.args.items.now c.loop-item.item-index _ _ c.loop-item-test.false c.loop-item.invariant
