use Rattle.std.proofs.Common.{List, ℕ, map, sym, ap, subst, ◌∙◌, refl, arith, []}
use Rattle.std.proofs.lemmas.List.{get_or-map, length-map, take_all}
use Rattle.host.specs.declared.answer.Kind.{Kind}
use Rattle.host.specs.Answers.{file_of}
use Rattle.host.specs.Private.Steps.{AreOutputs}
use Rattle.host.proofs.Stored.{one_output}
use Rattle.host.proofs.ending.outputs_of.Goals as goal

pub loop-file-init : goal.loop-file-init
loop-file-init c = subst (AreOutputs c.args.base.now []) (sym c.in_ok-outputs.ensures.items) refl

pub loop-file-preserved : goal.loop-file-preserved
loop-file-preserved c =
    let all : List (Kind × List ℕ) = map file_of c.args.new.now in
    let base : List ℕ = c.args.base.now in
    let k = c.loop-file.file-index in
    let item = file_of c.file-item.result in
    let at = ap file_of c.file-item.is ∙ sym (get_or-map file_of c.args.new.now k c.file-item.result item (omega arith)) in
    subst (AreOutputs base _) (sym c.in_ok-push.ensures.items) (one_output base all k item c.loop-file.outputs.items _ (omega (arith, length-map c.args.new.now file_of)) c.loop-file.invariant c.in_ok-path.ensures refl at)

pub returns : goal.returns
returns c =
    let all : List (Kind × List ℕ) = map file_of c.args.new.now in
    subst (λ files. AreOutputs c.args.base.now files c.loop-file.outputs.items) (take_all c.loop-file.file-index all (omega (arith, length-map c.args.new.now file_of))) c.loop-file.invariant
