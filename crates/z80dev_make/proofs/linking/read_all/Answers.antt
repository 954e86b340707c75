use Rattle.std.proofs.Common.{◌≡◌, ◌<◌, ℕ, List, [], ◌∷◌, Err, All, length, map, get_or, sym, ap, subst, ◌∙◌, arith}
use Rattle.std.specs.List.{AllZip}
use Rattle.std.proofs.lemmas.List.{get_or-map, length-map, map-append, take_all}
use Rattle.std.proofs.lemmas.List.Elements.{All-append, All-cons, All-nil}
use Rattle.zmo_object.specs.Modules.{module_of}
use Rattle.zmo_object.specs.Rules.{IsModule}
use Rattle.zmo_object.specs.Reading.{AnswersAsRead, read_of}
use Rattle.z80dev_make.specs.Link.{IsObject}
use Rattle.report_texts.proofs.In_order.{one_more}
use Rattle.z80dev_make.proofs.In_order.{stops}
use Rattle.z80dev_make.proofs.linking.read_all.Goals as goal

pub loop-object-init : goal.loop-object-init
loop-object-init c = subst (λ ms. AllZip IsObject [] (map module_of ms) × All IsModule (map module_of ms)) (sym c.in_ok-modules.ensures.items) (tt, All-nil IsModule)

pub returns-in-Err : goal.returns-in-Err
returns-in-Err c =
    let bytes : List (List ℕ) = map (λ o. o.items) c.args.objects.now in
    let lt : c.loop-object.object-index < length bytes = omega (arith, length-map c.args.objects.now (λ o. o.items)) in
    let item = c.object-item.result in
    let at : c.deref.result.now ≡ get_or bytes c.loop-object.object-index item.items = c.deref.ensures.value ∙ ap (λ o. o.items) c.object-item.is ∙ sym (get_or-map (λ o. o.items) c.args.objects.now c.loop-object.object-index item item.items (omega arith)) in
    stops bytes c.loop-object.object-index item.items (map module_of c.loop-object.modules.items) c.in-Err.fault lt c.loop-object.invariant.0 (subst (λ b. AnswersAsRead (Err c.in-Err.fault) (read_of b)) at c.in-Err.ensures.exact)

pub loop-object-preserved : goal.loop-object-preserved
loop-object-preserved c =
    let bytes : List (List ℕ) = map (λ o. o.items) c.args.objects.now in
    let lt : c.loop-object.object-index < length bytes = omega (arith, length-map c.args.objects.now (λ o. o.items)) in
    let item = c.object-item.result in
    let m = c.in-Ok.module in
    let at : c.deref.result.now ≡ get_or bytes c.loop-object.object-index item.items = c.deref.ensures.value ∙ ap (λ o. o.items) c.object-item.is ∙ sym (get_or-map (λ o. o.items) c.args.objects.now c.loop-object.object-index item item.items (omega arith)) in
    let longer = ap (map module_of) c.in_ok-push-in-Ok.ensures.items ∙ map-append module_of c.loop-object.modules.items (m ∷ []) in (
      one_more IsObject bytes c.loop-object.object-index item.items (map module_of c.loop-object.modules.items) _ (module_of m) lt c.loop-object.invariant.0 (subst (λ b. IsObject b (module_of m)) at c.in-Ok.ensures.exact) longer,
      subst (All IsModule) (sym longer) (All-append IsModule (map module_of c.loop-object.modules.items) (module_of m ∷ []) c.loop-object.invariant.1 (All-cons IsModule (module_of m) [] c.in-Ok.ensures.found.0 (All-nil IsModule))),
    )

pub returns : goal.returns
returns c = (subst (λ xs. AllZip IsObject xs (map module_of c.loop-object.modules.items)) (take_all c.loop-object.object-index (map (λ o. o.items) c.args.objects.now) (omega (arith, length-map c.args.objects.now (λ o. o.items)))) c.loop-object.invariant.0, c.loop-object.invariant.1)
