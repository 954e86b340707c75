use Rattle.std.proofs.Common.{◌∙◌, Some, ap, not, option_map, sym}
use Rattle.std.specs.List.{list_any}
use Rattle.report_texts.specs.Private.Kept.{error_of}
use Rattle.report_texts.specs.Repeats.{are_same}
use Rattle.report_texts.proofs.Leaving_out.{none_same}
use Rattle.report_texts.proofs.repeats.Seen.is_new.Goals as goal

pub returns-in-None-clause-new : goal.returns-in-None-clause-new
returns-in-None-clause-new c =
    let none = sym c.in_ok-error.ensures ∙ ap (option_map error_of) c.in-None.is in
    sym (ap (λ k. not (list_any (λ e. are_same k (Some e)) c.args.self.now)) none ∙ ap not (none_same c.args.self.now))
