use Rattle.std.proofs.Common.{rules, ◌≡◌, ◌-◌, ◌∙◌, ap, length, map, sym}
use Rattle.std.specs.Prelude.{◌==◌, slice_get}
use Rattle.std.specs.Vec.{vec_len}
use Rattle.state_text.specs.Labelled.{label_up_to, parts_of}
use Rattle.state_text.proofs.Nearest.{are_numbers, got, none_near, one_near, read_number}
use Rattle.state_text.proofs.labels.Labels.up_to.Goals as goal

pub returns-then-number-eq0 : goal.returns-then-number-eq0
returns-then-number-eq0 c =
    let labels = map parts_of c.self.inside.labels.items in
    let len : vec_len c.self.inside.labels ≡ length c.self.inside.labels.items = search rules in
    let some = ap (λ n. n == 0) (sym len) ∙ sym c.is_empty.ensures ∙ c.if-is_empty.false in
    let are = are_numbers parts_of c.self.inside.labels.items c.self.inside.numbers.items c.self.invariant some in
    let number = read_number labels c.self.inside.numbers.items c.args.address c.index-number.result.now are c.ranges.address.fits c.index-number.ensures in
    sym (none_near labels c.args.address (sym number ∙ c.if-number-eq0.true)) ∙ ap (λ known. label_up_to known.labels c.args.address) c.self.view_is

pub returns : goal.returns
returns c =
    let labels = map parts_of c.self.inside.labels.items in
    let len : vec_len c.self.inside.labels ≡ length c.self.inside.labels.items = search rules in
    let some = ap (λ n. n == 0) (sym len) ∙ sym c.is_empty.ensures ∙ c.if-is_empty.false in
    let are = are_numbers parts_of c.self.inside.labels.items c.self.inside.numbers.items c.self.invariant some in
    let n = c.index-number.result.now in
    let number = read_number labels c.self.inside.numbers.items c.args.address n are c.ranges.address.fits c.index-number.ensures in
    got parts_of c.deref.result.now (n - 1) c.get.result c.get.ensures.lookup.0 c.get.ensures.lookup.1
    ∙ ap (λ items. slice_get (map parts_of items) (n - 1)) c.deref.ensures.value
    ∙ one_near labels c.args.address n number c.if-number-eq0.false
    ∙ ap (λ known. label_up_to known.labels c.args.address) c.self.view_is
