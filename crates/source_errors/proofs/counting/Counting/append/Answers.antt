use Rattle.std.proofs.Common.{◌≡◌, ◌∙◌, ap, arith, length, refl}
use Rattle.asm_names.specs.Lines.{taken_of}
use Rattle.asm_names.specs.Names.{defines, with_names}
use Rattle.source_errors.proofs.Taking.{appended}
use Rattle.source_errors.proofs.counting.Counting.append.Goals as goal

pub returns : goal.returns
returns c =
    let at = c.len.ensures in
    let same : c.len.result ≡ length c.args.self.now.lines.items = omega (arith, at, c.args.self.now.lines.ok) in
    appended c.args.self.now _ c.args.line (record { text = c.args.text; is_read = c.args.is_read }) c.requires c.one_more.ensures
    (c.in-Ok.ensures.1 ∙ ap (λ k. with_names c.args.self.now.table (defines k (taken_of c.args.line).line)) same) c.in_ok-push.ensures.items c.in_ok-push-2.ensures.items refl
