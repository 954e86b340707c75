use Rattle.std.proofs.Common.{◌≡◌, ◌<◌, ◌+◌, ◌++◌, ◌∷◌, ◌∙◌, [], true, None, get_or, is_some, length, not, ap, sym, subst}
use Rattle.zmo_object.specs.Modules.{module_of}
use Rattle.zlink.specs.Program.Parts.{public_found, label_at}
use Rattle.zlink.specs.Private.Joining.{part}
use Rattle.zlink.proofs.Programs.Names.{giving_next, giving_twice, label_there, none_from, turned}
use Rattle.zlink.proofs.program.publics.PublicNames.give.Goals as goal

pub returns-then-not-branch : goal.returns-then-not-branch
returns-then-not-branch c =
    let p = part c.args.number c.args.base (module_of c.args.object.now) in
    let at = c.loop-number_of_label.number_of_label-index in
    let l = get_or c.deref-number_of_label-items.result.now at 0 in
    let lt : at < length p.holds.publics = subst (λ ls. at < length ls) c.deref-number_of_label-items.ensures.value c.loop-number_of_label-test.true in
    let is : l ≡ get_or p.holds.publics at 0 = ap (λ ls. get_or ls at 0) c.deref-number_of_label-items.ensures.value in
    let one = c.index-label.result.now in
    let there : one ≡ get_or c.args.object.now.labels.items l one = c.index-label.ensures ∙ ap (λ k. get_or c.args.object.now.labels.items k one) c.from.ensures in
    let label = label_there c.args.object.now at l one c.requires.rules lt is there in
    let name : c.deref.result.now ≡ (label_at p.holds l).name = c.deref.ensures.value ∙ sym (ap (λ x. x.name) label) in
    let had : is_some (public_found c.loop-number_of_label.self c.deref.result.now) ≡ true = turned c.in_ok-add.field-0 _ c.in_ok-add.ensures.new ∙ ap not c.if-not-branch.true in
    giving_twice c.args.self.now c.loop-number_of_label.self p at l c.requires.rules lt is (ap (λ n. is_some (public_found c.loop-number_of_label.self n)) (sym name) ∙ had) c.loop-number_of_label.invariant

pub loop-number_of_label-preserved : goal.loop-number_of_label-preserved
loop-number_of_label-preserved c =
    let p = part c.args.number c.args.base (module_of c.args.object.now) in
    let at = c.loop-number_of_label.number_of_label-index in
    let l = get_or c.deref-number_of_label-items.result.now at 0 in
    let lt : at < length p.holds.publics = subst (λ ls. at < length ls) c.deref-number_of_label-items.ensures.value c.loop-number_of_label-test.true in
    let is : l ≡ get_or p.holds.publics at 0 = ap (λ ls. get_or ls at 0) c.deref-number_of_label-items.ensures.value in
    let one = c.index-label.result.now in
    let there : one ≡ get_or c.args.object.now.labels.items l one = c.index-label.ensures ∙ ap (λ k. get_or c.args.object.now.labels.items k one) c.from.ensures in
    let label = label_there c.args.object.now at l one c.requires.rules lt is there in
    let name : c.deref.result.now ≡ (label_at p.holds l).name = c.deref.ensures.value ∙ sym (ap (λ x. x.name) label) in
    let place : c.from-in-loop-number_of_label.result ≡ (label_at p.holds l).statement = c.from-in-loop-number_of_label.ensures ∙ sym (ap (λ x. x.statement) label) in
    let none : public_found c.loop-number_of_label.self c.deref.result.now ≡ None = none_from _ (turned c.in_ok-add.field-0 _ c.in_ok-add.ensures.new ∙ ap not c.if-not-branch.false) in
    giving_next c.args.self.now c.loop-number_of_label.self c.add.new.self p at l c.requires.rules lt is (ap (public_found c.loop-number_of_label.self) (sym name) ∙ none)
    (c.in_ok-add.ensures.added none ∙ ap (λ n. c.loop-number_of_label.self ++ (n, c.args.base + c.from-in-loop-number_of_label.result) ∷ []) name
    ∙ ap (λ n. c.loop-number_of_label.self ++ ((label_at p.holds l).name, c.args.base + n) ∷ []) place) c.loop-number_of_label.invariant
