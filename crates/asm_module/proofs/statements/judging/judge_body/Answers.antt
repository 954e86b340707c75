use Rattle.std.proofs.Common.{sym, ◌∙◌}
use Rattle.asm_spell.specs.Line.{body_of}
use Rattle.asm_module.proofs.Modules.Missing_names.{all_known}
use Rattle.asm_module.proofs.statements.judging.judge_body.Goals as goal

pub settle-requires : goal.settle-requires
settle-requires c = all_known c.args.table.now c.args.names.now c.requires (body_of c.args.body.now) (sym c.is_undefined.ensures ∙ c.if-is_undefined.false)
