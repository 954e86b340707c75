use Rattle.std.proofs.Common.{rules, ◌≡◌, ◌<◌, ◌+◌, ◌++◌, ◌∙◌, Bool, true, false, cond, [], Some, None, get_or, length, map, take, ap, sym}
use Rattle.std.specs.List.{cons_option, list_any}
use Rattle.std.specs.Str.{bytes_eq}
use Rattle.std.proofs.lemmas.List.{append-nil}
use Rattle.asm_names.specs.Lines.{lines_of}
use Rattle.zmo_object.specs.Modules.{label_of}
use Rattle.asm_module.specs.Holding.{listed, public_by, publics}
use Rattle.asm_module.proofs.Holding.Collected.{numbered_more}
use Rattle.asm_module.proofs.module_names.publics_of.Goals as goal
use Rattle.asm_module.proofs.module_names.publics_of.Goals.{then-has+in_ok-push, else-has}

pub loop-number-preserved : goal.loop-number-preserved
loop-number-preserved c =
    let labels = c.args.labels.now in
    let names = listed (lines_of c.args.lines.now) in
    let at = c.loop-number.number in
    let label = c.index-labels-number.result in
    let lt : at < length labels = search rules in
    let is : label ≡ get_or labels at label = c.index-labels-number.is in
    let has : c.has.result ≡ list_any (bytes_eq label.name.items) names =
    c.has.ensures ∙ ap (λ name. list_any (bytes_eq name) c.in_ok-listed.listed) c.deref.ensures.value ∙ c.in_ok-listed.ensures label.name.items in
    let on : (b : Bool) → c.has.result ≡ b → c.if-has.publics.items ≡ c.loop-number.publics.items ++ cons_option (cond b (Some at) None) [] → c.if-has.publics.items ≡ publics (map label_of (take (at + 1) labels)) names =
    λ b e put.
    numbered_more label_of (public_by names) labels at label c.loop-number.publics.items c.if-has.publics.items lt is
    (put ∙ ap (λ b. c.loop-number.publics.items ++ cons_option (cond b (Some at) None) []) (sym e ∙ has)) c.loop-number.invariant in
    elim c.if-has.branch as (λ _. c.if-has.publics.items ≡ publics (map label_of (take (at + 1) labels)) names) [
      | then-has+in_ok-push w ↦ on true w.if-has.true (ap (λ all. all.items) w.publics-is ∙ w.in_ok-push.ensures.items)
      | else-has w ↦ on false w.if-has.false (ap (λ all. all.items) w.publics-is ∙ sym (append-nil c.loop-number.publics.items))
    ]
