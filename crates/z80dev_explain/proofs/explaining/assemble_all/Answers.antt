use Rattle.std.proofs.Common.{◌≡◌, ◌∙◌, All, ap, map, subst, sym, [], ◌∷◌}
use Rattle.std.proofs.lemmas.List.{map-append}
use Rattle.std.proofs.lemmas.List.Elements.{All-append, All-cons, All-nil}
use Rattle.zmo_object.specs.Modules.{module_of}
use Rattle.zmo_object.specs.Rules.{IsModule}
use Rattle.z80dev_explain.proofs.explaining.assemble_all.Goals as goal

pub loop-source-preserved : goal.loop-source-preserved
loop-source-preserved c =
    let m = c.in-Ok.«module» in
    subst (All IsModule) (sym (ap (map module_of) c.in_ok-push-in-Ok.ensures.items ∙ map-append module_of c.loop-source.modules.items (m ∷ [])))
    (All-append IsModule (map module_of c.loop-source.modules.items) (module_of m ∷ []) c.loop-source.invariant (All-cons IsModule (module_of m) [] c.in-Ok.ensures.kept (All-nil IsModule)))
