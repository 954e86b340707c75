use Rattle.std.proofs.Common.{◌∙◌, ◌++◌, ◌≡◌, ◌+◌, ◌<◌, ◌^◌, ap, sym, subst, arith, refl, length, true}
use Rattle.std.specs.Map.{lookup}
use Rattle.std.specs.Option.{option_map}
use Rattle.std.specs.Str.{bytes_eq}
use Rattle.std.proofs.lemmas.List.{length-map}
use Rattle.asm_line.specs.Replacing.Replaced.{SaySame, arguments_of, local_names}
use Rattle.asm_line.specs.Replacing.Views.{in_call}
use Rattle.asm_line.specs.Replacing.Views as replaced
use Rattle.asm_text.specs.declared.call.Call.{Call}
use Rattle.asm_text.specs.Prepared.{said}
use Rattle.asm_text.specs.Kept.{AreNames, opened_seen, VariesIn}
use Rattle.asm_text.specs.declared.signs.Sign.{Sign}
use Rattle.asm_text.specs.Plain.{ArePlain, are_plain}
use Rattle.asm_text.proofs.Put_plain.{plain_alike, plain_call}
use Rattle.asm_text.proofs.Unvaried.{call_of, said_in}
use Rattle.asm_text.proofs.prepared.prepare.Goals as goal

pub returns-clause-prepares : goal.returns-clause-prepares
returns-clause-prepares c = λ texts kept.
    let parameters = replaced.texts c.args.called.now.parameters.items in
    let locals = replaced.texts c.in-Some.opened.locals.items in
    let some = replaced.texts c.in_ok-arguments.arguments.items in
    let names = c.args.called.now.names.value in
    let call : Call = record { names = record { names = c.in_ok-clone.field-0; arguments = c.in_ok-arguments.arguments; counter = c.args.counter }; varying = c.in_ok-varying.varying; plain = c.plain_to-plain.result } in
    let named = subst (λ o. AreNames parameters o names) c.in-Some.is kept.1 in
    let same : SaySame (said call) (arguments_of parameters some ++ local_names c.args.counter locals) = λ name. ap (lookup (bytes_eq name)) (said_in call names c.in_ok-clone.ensures.cases) ∙ named some c.args.counter name in (
      opened_seen texts c.in-Some.opened,
      sym kept.0 ∙ ap (option_map (opened_seen texts)) c.in-Some.is,
      subst (λ qs. SaySame (said call) (arguments_of parameters qs ++ local_names c.args.counter locals)) c.in_ok-arguments.ensures same,
      omega (arith, c.in-Some-checked_add.ensures, c.len.ensures, c.in-Some.opened.locals.ok, length-map c.in-Some.opened.locals.items (λ text. text.items)),
      refl,
    )

pub returns-clause-call : goal.returns-clause-call
returns-clause-call c = λ texts kept.
    let counter = c.args.counter in
    let parameters = replaced.texts c.args.called.now.parameters.items in
    let locals = replaced.texts c.in-Some.opened.locals.items in
    let some = replaced.texts c.in_ok-arguments.arguments.items in
    let names = c.args.called.now.names.value in
    let call : Call = record { names = record { names = c.in_ok-clone.field-0; arguments = c.in_ok-arguments.arguments; counter = counter }; varying = c.in_ok-varying.varying; plain = c.plain_to-plain.result } in
    let named = subst (λ o. AreNames parameters o names) c.in-Some.is kept.1 in
    let varies = subst (λ o. VariesIn texts names o c.args.called.now.varying.value) c.in-Some.is kept.2 in
    let fits : counter + length locals < 2 ^ 64 = omega (arith, c.in-Some-checked_add.ensures, c.len.ensures, c.in-Some.opened.locals.ok, length-map c.in-Some.opened.locals.items (λ text. text.items)) in
    let are : (s : Sign) → are_plain s (replaced.texts c.deref.result.now) (replaced.texts c.deref-2.result.now) ≡ are_plain s parameters some = λ s. ap (λ ps. are_plain s (replaced.texts ps) (replaced.texts c.deref-2.result.now)) c.deref.ensures.value ∙ ap (λ qs. are_plain s parameters (replaced.texts qs)) c.deref-2.ensures.value in
    let plain : (s : Sign) → are_plain s (replaced.texts c.deref.result.now) (replaced.texts c.deref-2.result.now) ≡ true → ArePlain s (in_call names some counter) =
    λ s yes. plain_alike s (in_call names some counter) (arguments_of parameters some ++ local_names counter locals) (named some counter) (plain_call s parameters some counter locals fits (sym (are s) ∙ yes)) in
    call_of texts call names c.args.called.now.varying.value some counter (said_in call names c.in_ok-clone.ensures.cases)
    (λ yes. plain Sign.Word (sym c.plain_to-plain.ensures.word ∙ yes)) (λ yes. plain Sign.Second (sym c.plain_to-plain.ensures.second ∙ yes)) varies.2 c.in_ok-varying.ensures.cases
