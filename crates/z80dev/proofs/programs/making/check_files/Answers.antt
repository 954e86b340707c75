use Rattle.std.proofs.Common.{inl, inr, refl, subst}
use Rattle.std.proofs.lemmas.Result.{err_from_is_err_and}
use Rattle.host.specs.Reading.{IsNotRead}
use Rattle.z80dev.proofs.programs.making.check_files.Goals as goal

pub returns-in_err-cert : goal.returns-in_err-cert
returns-in_err-cert g c =
    let sizes = c.in_ok-sizes.ensures in
    let left = err_from_is_err_and c.from_residual-in_err-cert.result c.from_residual-in_err-cert.ensures.1 in
    let new = g.F.Files.folder c.read-2.new.files in
    rw (left.1, left.2)
    (inl (c.in_ok-sizes.sizes.items, sizes.1, inr (subst (λ f. IsNotRead f new c.args.cert.now c.in_err-cert.field-0.0) sizes.0 c.in_err-cert.ensures, refl)))
