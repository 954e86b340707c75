use Rattle.std.proofs.Common.{◌∙◌, [], Ok, ap, rules, refl, subst}
use Rattle.std.specs.List.{concat}
use Rattle.cpm_image.specs.Image.{blank_image}
use Rattle.host.specs.Files.{Replaces}
use Rattle.host.specs.declared.end.End.TheVariants as end
use Rattle.z80dev.proofs.Images.{blank_exists, blank_failed, blank_out, blank_unlocked, blank_unwarned}
use Rattle.z80dev.proofs.disks.changing.blank_image.Goals as goal

pub returns-in_err-made : goal.returns-in_err-made
returns-in_err-made g c = λ o.
    blank_out c.args.mega c.args.keep c.args.lock c.args.image.now (g.F.Files.folder c.args.files.now) o end.NoMemory c.from_residual.result refl (search rules)

pub returns-in_err-is_held : goal.returns-in_err-is_held
returns-in_err-is_held g c = λ o.
    blank_unlocked c.args.mega c.args.keep c.args.lock c.args.image.now (g.F.Files.folder c.args.files.now) (g.F.Files.folder c.lock_path.new.files) o c.in_err-is_held.field-0.0 c.from_residual-in_err-is_held.result
    c.in_err-is_held.ensures c.from_residual-in_err-is_held.ensures.1

pub returns-in_err-warnings : goal.returns-in_err-warnings
returns-in_err-warnings g c = λ o.
    blank_unwarned c.args.mega c.args.keep c.args.lock c.in_ok-is_held.is_held c.args.image.now (g.F.Files.folder c.args.files.now) (g.F.Files.folder c.lock_path.new.files) o end.NoMemory c.from_residual-in_err-warnings.result
    c.in_ok-is_held.ensures refl (search rules)

pub returns-in-Ok-Exists : goal.returns-in-Ok-Exists
returns-in-Ok-Exists g c = λ o.
    blank_exists c.args.mega c.args.keep c.args.lock c.in_ok-is_held.is_held c.args.image.now c.deref.result.now (g.F.Files.folder c.args.files.now) (g.F.Files.folder c.lock_path.new.files) (g.F.Files.folder c.replace.new.files) o c.refusal_end.result
    c.in_ok-is_held.ensures
    (subst (λ p. Replaces (g.F.Files.folder c.lock_path.new.files) (g.F.Files.folder c.replace.new.files) (c.args.image.now, c.deref.result.now) c.args.keep (Ok p)) c.in-Ok-Exists.field-0-is c.in-Ok-Exists.ensures) c.refusal_end.ensures

pub returns : goal.returns
returns g c = λ o.
    blank_failed c.args.mega c.args.keep c.args.lock c.in_ok-is_held.is_held c.args.image.now c.deref.result.now c.args.image (record { ref_ptr = c.args.image.ref_ptr; now = [] }) (g.F.Files.folder c.args.files.now) (g.F.Files.folder c.lock_path.new.files) (g.F.Files.folder c.replace.new.files) o
    c.in_ok-is_held.ensures (c.deref.ensures.value ∙ c.in_ok-made.ensures ∙ ap (λ k. concat (blank_image k)) c.kind_of.ensures) c.in-Err.ensures refl refl
