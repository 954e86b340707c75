use Rattle.std.proofs.Common.{◌<◌, List, Err, Ok, All, map, slice_index, sym, ap, subst, ◌∙◌}
use Rattle.std.proofs.lemmas.List.Elements.{All-map, All-weaker}
use Rattle.std.proofs.lemmas.Result.{err_from_is_err_and}
use Rattle.zmo_object.specs.Modules.{module_of}
use Rattle.zmo_object.specs.Rules.{IsModule}
use Rattle.zlink.specs.Built.{origins_by}
use Rattle.zlink.specs.Linked.{IsLinked}
use Rattle.zlink.specs.Sources.{Assembly, modules_of}
use Rattle.zlink.specs.Private.Assembling.{IsKept, lines_in}
use Rattle.zlink.proofs.Built_of.{of_file, refused}
use Rattle.zlink.proofs.Carried.{Laid, same_shape}
use Rattle.zlink.proofs.building.build_sources.Goals as goal

-- the modules of the sources keep the rules of an object file
kept_rules : (these : List Assembly) → All IsKept these → All IsModule (modules_of these)
kept_rules these kept = All-map IsModule (λ a. a.assembled.holds) these (All-weaker IsKept (λ a. IsModule a.assembled.holds) (λ a k. k.rules) these kept)

pub link-requires : goal.link-requires
link-requires c =
    let a = c.in_ok-modules.ensures in
    subst (All IsModule) (sym (ap (map module_of) c.deref.ensures.value ∙ a.2.modules_are)) (kept_rules a.0 a.2.kept)

pub returns-in_err-com : goal.returns-in_err-com
returns-in_err-com c =
    let a = c.in_ok-modules.ensures in
    let p = err_from_is_err_and c.from_residual-in_err-com.result c.from_residual-in_err-com.ensures.1 in
    let linked : IsLinked (modules_of a.0) (Err c.in_err-com.field-0.0) = subst (λ ms. IsLinked ms (Err c.in_err-com.field-0.0)) (ap (map module_of) c.deref.ensures.value ∙ a.2.modules_are) c.in_err-com.ensures.answer in
    rw (p.1, p.2) (refused c.args.grow c.args.sources.now a.0 a.1 (record { there = λ j p e i s e2. c.laid_out.ensures.statements (modules_of a.0) j i p s e e2; kept = a.2.kept }) c.in_err-com.field-0.0 linked)

pub returns : goal.returns
returns c =
    let a = c.in_ok-modules.ensures in
    let l = c.in_ok-com.field-0 in
    let laid : Laid a.0 = record { there = λ j p e i s e2. c.laid_out.ensures.statements (modules_of a.0) j i p s e e2; kept = a.2.kept } in
    let lines = c.in_ok-modules.field-0.lines in
    let linked : IsLinked (modules_of a.0) (Ok l) = subst (λ ms. IsLinked ms (Ok l)) (ap (map module_of) c.deref.ensures.value ∙ a.2.modules_are) c.in_ok-com.ensures.answer in
    let origins = c.in_ok-statements.ensures ∙ ap (λ ps. origins_by (λ k. slice_index ps k) (lines_in c.deref-3.result.now)) c.deref-4.ensures.value ∙ ap (λ ls. origins_by (λ k. slice_index l.places.items k) (lines_in ls)) c.deref-3.ensures.value in (
      a.0,
      a.1,
      linked.0,
      same_shape a.0 laid,
      (
        linked.1,
        of_file c.args.grow c.args.sources.now a.0 a.1 laid linked.1 l c.in_ok-modules.field-0.modules lines c.in_ok-statements.statements c.in_ok-last.last
            (c.laid_out.ensures.count (modules_of a.0)) linked.2 linked.3 (subst (All (λ b. b < 256)) c.deref-2.ensures.value c.are_bytes.ensures) a.2.each a.2.last origins (c.in_ok-last.ensures ∙ ap (map (λ x. x.last)) c.deref-5.ensures.value) a.2.modules_are (kept_rules a.0 a.2.kept),
      ),
    )
