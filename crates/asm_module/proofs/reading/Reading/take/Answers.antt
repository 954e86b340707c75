use Rattle.std.proofs.Common.{refl, sym, ◌∙◌}
use Rattle.asm_macro.specs.Ahead.{seen}
use Rattle.asm_module.proofs.Reading_lines.Taking.{stays, stopped, took}
use Rattle.asm_module.proofs.reading.Reading.take.Goals as goal

pub returns-then-is_some : goal.returns-then-is_some
returns-then-is_some c = λ before was. stays before (seen c.args.line) c.args.self.now (sym c.is_some.ensures ∙ c.if-is_some.true) was

pub returns-in_ok-push-in-Ok : goal.returns-in_ok-push-in-Ok
returns-in_ok-push-in-Ok c = λ before was.
    took before (seen c.args.line) c.args.self.now _ _ (sym c.is_some.ensures ∙ c.if-is_some.false) refl c.in_ok-push-in-Ok.ensures.items refl (sym c.in-Ok.ensures) was

pub returns-else-is_memory : goal.returns-else-is_memory
returns-else-is_memory c = λ before was.
    stopped before (seen c.args.line) c.args.self.now _ c.in-Err.why (sym c.is_some.ensures ∙ c.if-is_some.false) refl refl (sym (c.in-Err.ensures (sym c.if-is_memory.ensures))) was
