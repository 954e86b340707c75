use Rattle.std.proofs.Common.{◌∙◌, ap, subst, sym}
use Rattle.std.specs.Path.{IsNextComponent, components_remaining, path_components}
use Rattle.host.proofs.Parts.{without_point, all_parts}
use Rattle.host.proofs.same_path.path_parts.Goals as goal

pub returns-then-begins_with_point : goal.returns-then-begins_with_point
returns-then-begins_with_point c =
    let rest = components_remaining c.next.new.self in
    without_point c.args.path.now rest c.next.result (sym c.if-begins_with_point.ensures) (subst (λ all. IsNextComponent all c.next.result rest) (c.components-parts.ensures ∙ ap path_components c.new.ensures) c.next.ensures.steps)

pub returns-else-begins_with_point : goal.returns-else-begins_with_point
returns-else-begins_with_point c = c.components-parts.ensures ∙ ap path_components c.new.ensures ∙ all_parts c.args.path.now (sym c.if-begins_with_point.ensures)
