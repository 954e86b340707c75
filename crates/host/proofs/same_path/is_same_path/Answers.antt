use Rattle.std.proofs.Common.{◌∙◌, ap, sym, false, true}
use Rattle.std.specs.Path.{components_remaining}
use Rattle.host.specs.SamePath.{are_same_parts, path_parts}
use Rattle.host.proofs.Parts.{both_begin, both_end, one_ends, other_ends, told}
use Rattle.host.proofs.same_path.is_same_path.Goals as goal

pub returns-in-None-None : goal.returns-in-None-None
returns-in-None-None c =
    sym (c.loop-part.invariant ∙ both_end (components_remaining c.loop-part.parts) (components_remaining c.loop-part.others) c.in-None-None.ensures.steps.0 c.in-None-None.ensures'.steps.0)

pub returns-in_default : goal.returns-in_default
returns-in_default c =
    sym (c.loop-part.invariant ∙ other_ends (components_remaining c.loop-part.parts) (components_remaining c.loop-part.others) _ _ c.in_default.ensures.steps.0 c.in_default.ensures'.steps.0)

pub returns-in_default-2 : goal.returns-in_default-2
returns-in_default-2 c =
    let begins = both_begin (components_remaining c.loop-part.parts) (components_remaining c.loop-part.others) _ _ _ _ c.in-Some-Some.ensures.steps.0 c.in-Some-Some.ensures'.steps.0 in
    sym (c.loop-part.invariant ∙ begins ∙ told c.as_os_str.result.now c.as_os_str-in-Some-this.result.now _ _ false _ (sym c.if-eq.ensures) c.as_os_str.ensures c.as_os_str-in-Some-this.ensures)

pub returns-in_default-3 : goal.returns-in_default-3
returns-in_default-3 c =
    sym (c.loop-part.invariant ∙ one_ends (components_remaining c.loop-part.parts) (components_remaining c.loop-part.others) _ _ c.in_default.ensures.steps.0 c.in_default.ensures'.steps.0)

pub loop-part-init : goal.loop-part-init
loop-part-init c = ap (λ parts. are_same_parts parts (path_parts c.args.other.now)) (sym c.path_parts-parts.ensures) ∙ ap (are_same_parts (components_remaining c.path_parts-parts.result)) (sym c.path_parts-others.ensures)

pub loop-part-preserved : goal.loop-part-preserved
loop-part-preserved c =
    let begins = both_begin (components_remaining c.loop-part.parts) (components_remaining c.loop-part.others) _ _ _ _ c.in-Some-Some.ensures.steps.0 c.in-Some-Some.ensures'.steps.0 in
    c.loop-part.invariant ∙ begins ∙ told c.as_os_str.result.now c.as_os_str-in-Some-this.result.now _ _ true _ (sym c.if-eq.ensures) c.as_os_str.ensures c.as_os_str-in-Some-this.ensures
