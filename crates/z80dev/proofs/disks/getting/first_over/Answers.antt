use Rattle.std.proofs.Common.{◌∙◌, ℕ, Bool, List, ap, find, map, refl, string_bytes, sym}
use Rattle.std.proofs.lemmas.List.{drop_all}
use Rattle.host.specs.SamePath.{is_same_path}
use Rattle.z80dev.proofs.Images.{found_here, not_here}
use Rattle.z80dev.proofs.disks.getting.first_over.Goals as goal

pub loop-path-init : goal.loop-path-init
loop-path-init c = refl

pub returns-then-is_same_path : goal.returns-then-is_same_path
returns-then-is_same_path c =
    let holds : List ℕ → Bool = λ path. is_same_path path c.args.image.now in
    let same = ap holds (sym c.deref.ensures) ∙ sym c.is_same_path.ensures ∙ c.if-is_same_path.true in
    found_here holds c.args.paths.now c.loop-path.path-index c.path-item.result c.loop-path-test.true c.path-item.is c.loop-path.invariant same

pub loop-path-preserved : goal.loop-path-preserved
loop-path-preserved c =
    let holds : List ℕ → Bool = λ path. is_same_path path c.args.image.now in
    let other = ap holds (sym c.deref.ensures) ∙ sym c.is_same_path.ensures ∙ c.if-is_same_path.false in
    not_here holds c.args.paths.now c.loop-path.path-index c.path-item.result c.loop-path-test.true c.path-item.is c.loop-path.invariant other

pub returns : goal.returns
returns c =
    let holds : List ℕ → Bool = λ path. is_same_path path c.args.image.now in
    ap (λ ps. find holds (map string_bytes ps)) (sym (drop_all c.loop-path.path-index c.args.paths.now c.loop-path-test.false)) ∙ c.loop-path.invariant
