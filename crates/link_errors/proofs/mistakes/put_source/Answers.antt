use Rattle.std.proofs.Common.{◌∙◌, ◌+◌, ap, length, map, refl}
use Rattle.source_warnings.specs.Warnings.{warning_of}
use Rattle.link_errors.specs.Counts.{own_count}
use Rattle.report_texts.proofs.Counting.{add_behind}
use Rattle.link_errors.proofs.mistakes.put_source.Goals as goal

pub returns : goal.returns
returns c =
    let before = c.args.sources.now.before in
    let first = length c.args.reports.now.items in
    let found = map warning_of c.in_ok-found.found.items in
    let calls = map warning_of c.in_ok-calls.calls.items in
    let one = c.in_ok-put_each.ensures ∙ ap (λ ws. first + own_count before (map warning_of ws)) c.deref.ensures.value in
    let two = c.in_ok-put_each-2.ensures ∙ ap (λ ws. length c.put_each.new.reports.items + own_count before (map warning_of ws)) c.deref-2.ensures.value in (
      own_count before found + own_count before calls,
      (found, calls, c.in_ok-found.ensures, c.in_ok-calls.ensures, refl),
      two ∙ ap (λ n. n + own_count before calls) one ∙ add_behind first (own_count before found) (own_count before calls),
    )
