use Rattle.std.proofs.Common.{Some, sym, ap, ◌∙◌}
use Rattle.std.specs.Option.{option_map}
use Rattle.zmo_object.proofs.Fields.Items.{leaf_alone}
use Rattle.zmo_object.proofs.postfix.leaf_alone.Goals as goal

pub returns-in-Some-Leaf-empty : goal.returns-in-Some-Leaf-empty
returns-in-Some-Leaf-empty c =
    let found = c.in-Some-Leaf-empty in
    leaf_alone c.args.bytes.now found.atom found.field-0-1.now
    (sym c.item.ensures ∙ ap (option_map (λ x. (x.0, x.1.now))) found.is ∙ ap (λ item. Some (item, found.field-0-1.now)) found.field-0-0-is) found.len_below
