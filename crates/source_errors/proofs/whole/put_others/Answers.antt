use Rattle.std.proofs.Common.{◌∙◌, ◌++◌, ℕ, [], Ok, Err, ap, append-nil, append_assoc, map, subst, sym}
use Rattle.asm_macro.specs.Expands.{IsExpanded}
use Rattle.asm_macro.specs.declared.fault.MacroFault.{MacroFault}
use Rattle.asm_macro.specs.Views.{lines_seen}
use Rattle.source_errors.specs.Findings.{finding_of}
use Rattle.source_errors.specs.Found.{scan_errors, without_made}
use Rattle.source_errors.specs.Found.AreOthers.{known, unknown}
use Rattle.source_errors.proofs.whole.put_others.Goals as goal

pub returns-in-Ok : goal.returns-in-Ok
returns-in-Ok c = λ text lines_are.
    let seen = lines_seen c.in-Ok.expanded.lines.items in
    let old = map finding_of c.args.findings.now.items in
    let scans = scan_errors c.args.number seen text in
    let others = without_made text (map finding_of c.in_ok-others-in-Ok.field-0.findings.items) in (
      scans ++ others,
      known (subst (λ t. IsExpanded t (Ok seen)) (c.deref.ensures.value ∙ c.in_ok-mended.ensures text lines_are) c.in-Ok.ensures) c.in_ok-others-in-Ok.ensures,
      c.in_ok-append_without_made-in-Ok.ensures text lines_are
          ∙ ap (λ fs. fs ++ others) (c.in_ok-put_scan_errors-in-Ok.ensures text lines_are ∙ ap (λ es. old ++ scan_errors c.args.number (lines_seen es) text) c.deref-in-Ok.ensures.value)
          ∙ append_assoc old scans others,
    )

pub returns : goal.returns
returns c = λ text lines_are.
    let stop : ℕ × MacroFault = (c.in-Err.field-0-0, c.in-Err.why) in (
      [],
      unknown stop c.in_ok-known_cause-in-Err.ensures (subst (λ t. IsExpanded t (Err stop)) (c.deref.ensures.value ∙ c.in_ok-mended.ensures text lines_are) c.in-Err.ensures),
      sym (append-nil _),
    )
