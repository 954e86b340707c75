use Rattle.std.proofs.Common.{◌∙◌, ◌||◌, ap, map, not, sym}
use Rattle.std.specs.List.{list_any}
use Rattle.report_texts.specs.Private.Kept.{error_of}
use Rattle.report_texts.specs.Repeats.{is_same}
use Rattle.report_texts.proofs.Looking_up.{any_map, found_more}
use Rattle.report_texts.proofs.repeats.Seen.add.Goals as goal

pub returns-clause-new : goal.returns-clause-new
returns-clause-new c =
    let is = is_same (error_of c.args.error) in
    c.in_ok-insert.ensures.added ∙ ap not (sym (any_map is error_of c.self.inside.errors.keys) ∙ ap (list_any is) c.self.view_is)

pub returns-clause-added : goal.returns-clause-added
returns-clause-added c = λ other.
    ap (λ es. list_any (is_same other) (map error_of es)) c.in_ok-insert.ensures.keys
    ∙ found_more error_of other c.args.error c.self.inside.errors.keys
    ∙ ap (λ es. list_any (is_same other) es || is_same other (error_of c.args.error)) c.self.view_is
