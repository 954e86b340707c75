use Rattle.std.proofs.Common.{IfOk, sym, subst}
use Rattle.std.specs.Option.{option_map}
use Rattle.asm_text.specs.Kept.{VariesIn}
use Rattle.asm_text.proofs.Unvaried.{in_opened}
use Rattle.asm_text.proofs.call.varying_in.Goals as goal

pub returns : goal.returns
returns c =
    subst (λ o. IfOk c.varying_of.result (VariesIn c.args.lines.now c.args.names.now (option_map (λ o. o.now) o))) (sym c.in-Some.is)
    (in_opened c.args.lines.now c.args.names.now c.in-Some.opened.now c.varying_of.result c.varying_of.ensures.varying c.varying_of.ensures.range)
