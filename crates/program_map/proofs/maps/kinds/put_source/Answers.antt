use Rattle.std.proofs.Common.{◌≡◌, ◌∙◌, ◌++◌, ap, sym, subst, map}
use Rattle.std.proofs.lemmas.Result.{on_ok_weaker}
use Rattle.asm_module.specs.Reads.Read.{taken}
use Rattle.zmo_object.specs.Modules.{module_of}
use Rattle.asm_names.specs.Lines.{lines_of}
use Rattle.program_map.specs.Private.Telling.{line_kinds, told}
use Rattle.program_map.proofs.maps.kinds.put_source.Goals as goal

pub returns : goal.returns
returns c = on_ok_weaker c.put_told.result
    (λ items. λ name grow a p assembles described holds long.
    let read = c.in-Ok.ensures in
    let are = c.told_sources.ensures.told name c.args.text.now grow a p read.0 assembles described read.1 in
    items ∙ ap (λ ks. c.args.kinds.now.items ++ ks)
    (ap (told (module_of c.args.«module».now).statements) (c.deref-2.ensures.value ∙ c.in_ok-said.ensures ∙ ap (λ ls. line_kinds (lines_of ls)) c.deref.ensures.value ∙ ap line_kinds read.2) ∙ ap (λ ms. told ms (line_kinds (taken read.0))) (ap (λ m. m.statements) holds) ∙ are.same long))
    (rw c.deref-3.ensures.value at c.put_told.ensures)
