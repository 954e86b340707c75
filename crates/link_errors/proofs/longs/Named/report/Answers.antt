use Rattle.std.proofs.Common.{◌∙◌, ◌++◌, ap, codes, string_bytes, subst, sym}
use Rattle.link_errors.specs.Longs.{BeginsWithReason}
use Rattle.link_errors.proofs.longs.Named.report.Goals as goal

pub returns : goal.returns
returns c = record {
  severity = c.in_ok-report.ensures.severity;
  unnamed = c.in_ok-report.ensures.unnamed;
  target = _;
  text = c.in_ok-report.ensures.text ∙ ap (λ reach. codes "this jump takes 3 bytes: " ++ reach) c.in_ok-reach.ensures;
  reason = subst (BeginsWithReason c.args.jump.now) (sym (ap (λ notes. notes.items) c.in_ok-report.ensures.notes ∙ c.in_ok-notes.ensures)) c.in_ok-reason.ensures;
}
