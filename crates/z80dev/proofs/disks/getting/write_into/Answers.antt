use Rattle.std.proofs.Common.{◌≡◌, ◌<◌, ◌∙◌, ap, ap₂, get_or, length, string_bytes}
use Rattle.std.proofs.lemmas.Option.{slice_get-get_or}
use Rattle.z80dev.specs.Disks.{path_in}
use Rattle.z80dev.proofs.Images.{into_more, into_stopped, path_at}
use Rattle.z80dev.proofs.disks.getting.write_into.Goals as goal

pub returns-in_default : goal.returns-in_default
returns-in_default g c =
    let folder = c.args.folder.now in
    let gotten = c.args.gotten.now in
    let k = c.loop-number.number in
    let item = c.index-gotten-number.result in
    let lt : k < length gotten = c.loop-number-test.true in
    let is = c.loop-number.invariant.1 in
    let path = c.deref.ensures ∙ ap string_bytes c.index.ensures ∙ path_at folder c.loop-number.paths.items gotten k c.index.result.now item is lt in
    let file : (c.deref.result.now, c.deref-in-loop-number.result.now) ≡ path_in folder (get_or gotten k item) = ap₂ (λ a b. (a, b)) path (c.deref-in-loop-number.ensures.value ∙ ap (λ x. x.bytes.items) c.index-gotten-number.is) in
    let stopped = into_stopped folder gotten k item (g.F.Files.folder c.args.files.now) (g.F.Files.folder c.loop-number.files) (g.F.Files.folder c.write.new.self) (c.deref.result.now, c.deref-in-loop-number.result.now) c.in_default.field-0
    lt file c.loop-number.invariant.0 c.in_default.ensures in
    let given = ap string_bytes c.swap_remove.ensures.value ∙ path_at folder c.loop-number.paths.items gotten k c.swap_remove.result item is lt in
    (k, get_or gotten k item, slice_get-get_or gotten k item lt, given, stopped.0, stopped.1)

pub loop-number-preserved : goal.loop-number-preserved
loop-number-preserved g c =
    let folder = c.args.folder.now in
    let gotten = c.args.gotten.now in
    let k = c.loop-number.number in
    let item = c.index-gotten-number.result in
    let lt : k < length gotten = c.loop-number-test.true in
    let is = c.loop-number.invariant.1 in
    let path = c.deref.ensures ∙ ap string_bytes c.index.ensures ∙ path_at folder c.loop-number.paths.items gotten k c.index.result.now item is lt in
    let file : (c.deref.result.now, c.deref-in-loop-number.result.now) ≡ path_in folder (get_or gotten k item) = ap₂ (λ a b. (a, b)) path (c.deref-in-loop-number.ensures.value ∙ ap (λ x. x.bytes.items) c.index-gotten-number.is) in
    (into_more folder gotten k item (g.F.Files.folder c.args.files.now) (g.F.Files.folder c.loop-number.files) (g.F.Files.folder c.write.new.self) (c.deref.result.now, c.deref-in-loop-number.result.now) lt file c.loop-number.invariant.0 c.in-Ok.ensures, is)
