use Rattle.std.proofs.Common.{◌∙◌, ◌||◌, Bool, ap, sym}
use Rattle.std.specs.List.{list_any}
use Rattle.host.specs.SamePath.{is_same_path}
use Rattle.z80dev.proofs.Overwritten.{among}
use Rattle.z80dev.proofs.programs.outputs.is_read.Goals as goal

pub returns-then-is_among : goal.returns-then-is_among
returns-then-is_among c =
    let path = c.args.path.now in
    let other = list_any (λ other. is_same_path path other.now) c.args.sources.now in
    c.if-is_among.true ∙ sym (ap (λ (b : Bool). b || other) (sym c.is_among.ensures ∙ c.if-is_among.true)) ∙ among path c.args.shared.now c.args.sources.now

pub returns-else-is_among : goal.returns-else-is_among
returns-else-is_among c =
    let path = c.args.path.now in
    let other = list_any (λ other. is_same_path path other.now) c.args.sources.now in
    c.is_among-else-is_among.ensures ∙ sym (ap (λ (b : Bool). b || other) (sym c.is_among.ensures ∙ c.if-is_among.false)) ∙ among path c.args.shared.now c.args.sources.now
