use Rattle.std.proofs.Common.{◌∙◌, ◌++◌, ap, map, refl, sym}
use Rattle.std.proofs.lemmas.List.{drop_all}
use Rattle.std.specs.List.{list_any}
use Rattle.host.specs.SamePath.{is_same_path}
use Rattle.z80dev.specs.Outputs.{overwritten}
use Rattle.z80dev.proofs.Overwritten.{found, passed}
use Rattle.z80dev.proofs.programs.outputs.overwritten.Goals as goal

pub loop-kind-init : goal.loop-kind-init
loop-kind-init c = refl

pub returns-then-is_read : goal.returns-then-is_read
returns-then-is_read c =
    let read = map (λ path. path.now) c.args.shared.now ++ map (λ path. path.now) c.args.sources.now in
    let path = c.in_ok-path.ensures.ok ∙ ap (λ e. c.args.base.now ++ e) c.ending-ending.ensures in
    let here = ap (λ p. list_any (is_same_path p) read) (sym c.deref.ensures) ∙ sym c.is_read.ensures ∙ c.if-is_read.true in
    found c.args.base.now c.args.kinds.now read c.loop-kind.kind-index _ _ c.loop-kind-test.true path here c.loop-kind.invariant

pub loop-kind-preserved : goal.loop-kind-preserved
loop-kind-preserved c =
    let read = map (λ path. path.now) c.args.shared.now ++ map (λ path. path.now) c.args.sources.now in
    let path = c.in_ok-path.ensures.ok ∙ ap (λ e. c.args.base.now ++ e) c.ending-ending.ensures in
    let other = ap (λ p. list_any (is_same_path p) read) (sym c.deref.ensures) ∙ sym c.is_read.ensures ∙ c.if-is_read.false in
    passed c.args.base.now c.args.kinds.now read c.loop-kind.kind-index _ _ c.loop-kind-test.true path other c.loop-kind.invariant

pub returns : goal.returns
returns c =
    let read = map (λ path. path.now) c.args.shared.now ++ map (λ path. path.now) c.args.sources.now in
    ap (λ kinds. overwritten c.args.base.now kinds read) (sym (drop_all c.loop-kind.kind-index c.args.kinds.now c.loop-kind-test.false)) ∙ c.loop-kind.invariant
