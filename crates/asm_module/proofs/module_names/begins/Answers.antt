use Rattle.std.proofs.Common.{rules, tests, ◌∙◌, sym}
use Rattle.std.proofs.lemmas.Iterator.{YieldsList-from_slice}
use Rattle.std.proofs.lemmas.Iterator.Search.{any_from_yields_List}
use Rattle.asm_spell.specs.Line.{line_of}
use Rattle.asm_names.specs.Lines.{taken_of}
use Rattle.asm_module.specs.Holding.{is_origin_line}
use Rattle.asm_module.proofs.Holding.Collected.{any_map}
use Rattle.asm_module.proofs.module_names.begins.Goals as goal

pub returns : goal.returns
returns c =
    any_from_yields_List (λ l. is_origin_line (line_of l.line)) c.any.new.self _ c.any.result c.any.ensures.ran (YieldsList-from_slice c.args.lines.now cc) (λ x b q k. search (rules, tests))
    ∙ sym (any_map (λ l. is_origin_line l.line) taken_of c.args.lines.now)
