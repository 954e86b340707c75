use Rattle.std.proofs.Common.{◌≡◌, ◌∙◌, sym, ap, arith, length}
use Rattle.std.proofs.lemmas.List.{get_or_read, get_or_past}
use Rattle.asm_text.specs.Private.Nesting.{no_ends}
use Rattle.asm_text.proofs.Nesting.Linked.{found_at}
use Rattle.asm_text.proofs.links.Links.ends.Goals as goal

pub no_ends-requires : goal.no_ends-requires
no_ends-requires c = omega (arith, c.len-else-line-len.ensures, c.self.invariant.0, c.self.invariant.1)

pub returns-then-line-len : goal.returns-then-line-len
returns-then-line-len c =
    let ends = c.self.inside.ends.items in
    let roles = c.self.inside.roles.items in
    get_or_read ends c.args.line c.index.result.now (omega (arith, c.if-line-len.true, c.len.ensures)) c.index.ensures (no_ends (length roles))
    ∙ found_at roles c.args.self.now ends c.args.line c.self.view_is c.self.invariant.2

pub returns-else-line-len : goal.returns-else-line-len
returns-else-line-len c =
    let ends = c.self.inside.ends.items in
    let roles = c.self.inside.roles.items in
    let len : c.len-else-line-len.result ≡ length roles = omega (arith, c.len-else-line-len.ensures, c.self.invariant.1) in
    c.no_ends.ensures ∙ ap no_ends len ∙ sym (get_or_past ends c.args.line (no_ends (length roles)) (omega (arith, c.if-line-len.false, c.len.ensures)))
    ∙ found_at roles c.args.self.now ends c.args.line c.self.view_is c.self.invariant.2
