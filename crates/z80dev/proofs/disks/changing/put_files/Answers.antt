use Rattle.std.proofs.Common.{◌≡◌, ◌∙◌, ◌∷◌, List, [], Err, ap, inr, length, map, refl, rules, subst, sym}
use Rattle.z80dev_disk.specs.Put.{IsPutImage, named_file}
use Rattle.z80dev_disk.specs.Words.{own_name}
use Rattle.host.specs.declared.end.End.TheVariants as end
use Rattle.z80dev.specs.Disks.{as_put}
use Rattle.z80dev.proofs.Images.{as_many, put_all_changed, put_all_unnamed, put_all_unread}
use Rattle.z80dev.proofs.disks.changing.put_files.Goals as goal

fused : {A B C : Type 0} (f : B → C) (g : A → B) (xs : List A) → map f (map g xs) ≡ map (λ x. f (g x)) xs
fused f g [] = refl
fused f g (x ∷ xs) = ap (λ l. f (g x) ∷ l) (fused f g xs)

pub returns-in_err-names : goal.returns-in_err-names
returns-in_err-names g c = λ o.
    put_all_unnamed c.args.target c.args.manner (map (λ path. path.now) c.args.paths.now) (g.F.Files.folder c.args.files.now) o c.in_err-names.field-0.0 c.from_residual.result c.in_err-names.ensures.names c.from_residual.ensures.1

pub returns-in_err-texts : goal.returns-in_err-texts
returns-in_err-texts g c = λ o.
    put_all_unread c.args.target c.args.manner (map (λ path. path.now) c.args.paths.now) c.in_ok-names.names.items c.in_ok-names.ensures.names (g.F.Files.folder c.args.files.now) (g.F.Files.folder c.claim.new.files) (g.F.Files.folder c.read_all.new.files) o
    c.in_ok-image.image c.in_err-texts.field-0.0 c.from_residual-in_err-texts.result c.in_ok-image.ensures c.in_err-texts.ensures c.from_residual-in_err-texts.ensures.1

pub returns-in_err-texts-2 : goal.returns-in_err-texts-2
returns-in_err-texts-2 g c = λ o.
    put_all_unread c.args.target c.args.manner (map (λ path. path.now) c.args.paths.now) c.in_ok-names.names.items c.in_ok-names.ensures.names (g.F.Files.folder c.args.files.now) (g.F.Files.folder c.claim.new.files) (g.F.Files.folder c.read_all.new.files) o
    c.in_ok-image.image end.NoMemory c.from_residual-in_err-texts-2.result c.in_ok-image.ensures (inr (refl, c.in_ok-texts.ensures.0)) (search rules)

pub returns-in_default : goal.returns-in_default
returns-in_default g c = λ o.
    put_all_unread c.args.target c.args.manner (map (λ path. path.now) c.args.paths.now) c.in_ok-names.names.items c.in_ok-names.ensures.names (g.F.Files.folder c.args.files.now) (g.F.Files.folder c.claim.new.files) (g.F.Files.folder c.read_all.new.files) o
    c.in_ok-image.image end.NoMemory (Err end.NoMemory) c.in_ok-image.ensures (inr (refl, c.in_ok-texts.ensures.0)) refl

pub puts_of-requires-clause-lengths : goal.puts_of-requires-clause-lengths
puts_of-requires-clause-lengths g c =
    ap length c.deref.ensures.value
    ∙ as_many own_name (g.F.Files.folder c.claim.new.files) c.args.manner.text (map (λ path. path.now) c.args.paths.now) c.in_ok-names.names.items c.in_ok-texts.texts.items c.in_ok-texts-2.texts.items c.in_ok-names.ensures.names c.in_ok-texts.ensures.1 c.in_ok-texts-2.ensures
    ∙ sym (ap length c.deref-2.ensures.value)

pub returns : goal.returns
returns g c = λ o.
    let puts = map named_file c.in-Ok.puts.items in
    let names_are : map (λ p. p.0) puts ≡ c.in_ok-names.names.items = fused (λ p. p.0) named_file c.in-Ok.puts.items ∙ c.in-Ok.ensures.puts.0 ∙ c.deref.ensures.value in
    let files_are : map (λ p. p.1) puts ≡ map (as_put c.args.manner.text) (map (λ t. t.items) c.in_ok-texts.texts.items) =
    fused (λ p. p.1) named_file c.in-Ok.puts.items ∙ c.in-Ok.ensures.puts.1 ∙ ap (map (λ t. t.items)) c.deref-2.ensures.value ∙ c.in_ok-texts-2.ensures
    ∙ sym (fused (as_put c.args.manner.text) (λ t. t.items) c.in_ok-texts.texts.items) in
    put_all_changed c.args.target c.args.manner (map (λ path. path.now) c.args.paths.now) c.in_ok-names.names.items c.in_ok-names.ensures.names (g.F.Files.folder c.args.files.now) (g.F.Files.folder c.claim.new.files) (g.F.Files.folder c.read_all.new.files)
    (g.F.Files.folder c.change.new.files) o c.in_ok-image.image (map (λ t. t.items) c.in_ok-texts.texts.items) puts c.put-made.result c.change.result c.in_ok-image.ensures c.in_ok-texts.ensures.0 c.in_ok-texts.ensures.1 names_are files_are
    (subst (λ b. IsPutImage b c.args.target.user c.args.manner.replace puts c.put-made.result) c.deref-3.ensures.value (subst (λ ps. IsPutImage c.deref-3.result.now c.args.target.user c.args.manner.replace (map named_file ps) c.put-made.result) c.deref-4.ensures.value c.put-made.ensures.answer)) c.change.ensures
