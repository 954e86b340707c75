use Rattle.std.proofs.Common.{◌∙◌, Bor, ap, sym}
use Rattle.std.specs.Option.{option_map}
use Rattle.state_text.specs.Labelled.{parts_of}
use Rattle.state_text.specs.declared.labels.Named.{Named}
use Rattle.state_text.proofs.Nearest.{other_label, own_label, without_label}
use Rattle.state_text.proofs.labels.Labels.at.Goals as goal

pub returns-in_err-label : goal.returns-in_err-label
returns-in_err-label c =
    ap (option_map (λ (label : Bor Named). parts_of label.now)) c.from_residual.ensures ∙ sym (without_label c.args.self.now.labels c.args.address (sym c.in_err-label.ensures))

pub returns-then-label-address : goal.returns-then-label-address
returns-then-label-address c = sym (own_label c.args.self.now.labels c.args.address (parts_of c.in_ok-label.label.now) (sym c.in_ok-label.ensures) c.if-label-address.true)

pub returns-else-label-address : goal.returns-else-label-address
returns-else-label-address c = sym (other_label c.args.self.now.labels c.args.address (parts_of c.in_ok-label.label.now) (sym c.in_ok-label.ensures) c.if-label-address.false)
