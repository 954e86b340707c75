use Rattle.std.proofs.Common.{◌≡◌, ◌+◌, length, ap, ◌∙◌, arith}
use Rattle.asm_parse.specs.Private.Stacks.{open_in, open_of, opened}
use Rattle.asm_parse.proofs.Readers.{begun, last_of, open_in-pendings, opened_few}
use Rattle.asm_parse.proofs.reader.Reader.begin.Goals as goal

pub returns : goal.returns
returns c = λ frames h opening.
    let before : c.open_in.result ≡ opened frames = c.open_in.ensures ∙ ap open_in (c.deref.ensures ∙ h.waiting) ∙ open_in-pendings frames in
    let few = opened_few frames in
    let len = ap length h.waiting in
    let count : c.saturating_add-count.result ≡ opened frames + 1 = omega (arith, before, few, len, c.in_ok-push.ensures.len, ap length c.deref-2.ensures, c.saturating_add-count.ensures) in
    let now : c.open_in-2.result ≡ c.saturating_add-count.result = c.open_in-2.ensures ∙ ap open_in (c.deref-2.ensures ∙ c.in_ok-push.ensures.ok) ∙ ap open_of (last_of c.args.self.now.pending.items _) in
    rw (c.max-self.ensures, now) (begun c.args.operator frames _ c.push.new.self.items _ c.args.self.now.deepest c.saturating_add-count.result c.args.self.now.complete opening h count c.in_ok-push.ensures.ok)
