use Rattle.std.proofs.Common.{◌<◌, ◌∙◌, List, ℕ, [], length, map, get_or, refl, sym, subst, arith}
use Rattle.std.proofs.lemmas.List.{get_or-map, get_or_default, length-map, map_push}
use Rattle.std.proofs.lemmas.List.Elements.{all_zip_more}
use Rattle.std.specs.List.{AllZip}
use Rattle.host.specs.Reading.{IsNotRead, IsRead}
use Rattle.host.proofs.One_by_one.{one_unread}
use Rattle.host.proofs.reading.read_all.Goals as goal

pub returns-in_err-text : goal.returns-in_err-text
returns-in_err-text g c =
    let mid = g.F.Files.folder c.loop-path.files in
    let new = g.F.Files.folder c.read.new.files in
    let paths : List (List ℕ) = map (λ path. path.now) c.args.paths.now in
    let k = c.loop-path.path-index in
    let lt : k < length paths = omega (arith, length-map c.args.paths.now (λ path. path.now)) in
    let at = get_or-map (λ path. path.now) c.args.paths.now k _ [] c.loop-path-test.true in
    one_unread (g.F.Files.folder c.args.files.now) mid new paths (map (λ text. text.items) c.loop-path.texts.items) k (get_or paths k []) c.in_err-text.field-0.0
    c.from_residual-in_err-text.result c.loop-path.invariant.0 lt refl c.loop-path.invariant.1 (subst (λ path. IsNotRead mid new path c.in_err-text.field-0.0) (sym at) c.in_err-text.ensures)
    c.from_residual-in_err-text.ensures.1

pub loop-path-preserved : goal.loop-path-preserved
loop-path-preserved g c =
    let old = g.F.Files.folder c.args.files.now in
    let paths : List (List ℕ) = map (λ path. path.now) c.args.paths.now in
    let k = c.loop-path.path-index in
    let lt : k < length paths = omega (arith, length-map c.args.paths.now (λ path. path.now)) in
    let at = get_or-map (λ path. path.now) c.args.paths.now k _ [] c.loop-path-test.true in
    let path = get_or paths k [] in
    let read = c.in_ok-text.ensures in
    let bytes = c.in_ok-text.text.items in
    let is = subst (λ f. IsRead f path bytes) c.loop-path.invariant.0 (subst (λ p. IsRead (g.F.Files.folder c.loop-path.files) p bytes) (sym at) read.1) in (
      read.0 ∙ c.loop-path.invariant.0,
      rw (c.in-Ok.ensures.items, map_push) (all_zip_more (IsRead old) paths (map (λ text. text.items) c.loop-path.texts.items) k path bytes lt (get_or_default paths k [] path lt) c.loop-path.invariant.1 is),
    )
