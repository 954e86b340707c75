use Rattle.std.proofs.Common.{ap, inl, map, refl, subst, sym}
use Rattle.host.specs.Answers.{answer_by}
use Rattle.report_texts.specs.Faults.Refusals.{told_text}
use Rattle.z80dev_make.specs.Build.{IsMade}
use Rattle.z80dev_make.specs.Warned.{AreWarnings}
use Rattle.report_texts.specs.declared.front.Front.{Front}
use Rattle.z80dev.specs.Products.{build_products}
use Rattle.z80dev.specs.Making.{AreFiles, source_paths}
use Rattle.host.specs.Ending.{IsCarriedOut, LinesAt, effect_of, end_with_lines, lines_after}
use Rattle.z80dev.specs.Private.FileSteps.{BuildsTexts}
use Rattle.host.proofs.Carried.{carried}
use Rattle.z80dev.proofs.Clear.{are_files}
use Rattle.z80dev.proofs.Lined.{ends_lined, with_lines}
use Rattle.z80dev.proofs.programs.making.build_texts.Goals as goal

pub returns : goal.returns
returns g c =
    let made = c.build-answer.result in
    let answer = answer_by told_text made.answer in
    let job = c.args.job.now in
    let base = c.args.base.now in
    let front : Front = record { defines = c.deref-3.result; files = c.deref-4.result } in
    let fronts = map (λ text. text.items) c.args.fronts.now in
    let texts = map (λ text. text.items) c.args.texts.now in
    let x = effect_of (g.F.Files.folder c.args.files.now) (g.F.Files.folder c.finish.new.files) (g.W.Sink.stream c.args.output.now) (g.W.Sink.stream c.finish.new.output) in
    let done = with_lines c.finish.result c.in_ok-lines.lines c.done_with_lines.result c.done_with_lines.ensures in
    let lines = subst (LinesAt (end_with_lines c.done_with_lines.result) (lines_after c.done_with_lines.result)) c.in_ok-lines.ensures done.1 in
    let carries = carried told_text base made.answer x.old x.old x.new x.before x.after c.finish.result refl c.finish.ensures in
    let are = are_files c.deref.result.now job.shared.files.items c.args.fronts.now c.args.fronts.now c.in_ok-shared_files.shared_files.items c.deref-4.result.now
    c.deref.ensures.value refl c.deref-4.ensures.value c.in_ok-shared_files.ensures in
    let sources = are_files c.deref-2.result.now job.sources.items c.args.texts.now c.args.texts.now c.in_ok-sources.sources.items c.in_ok-sources.sources.items
    c.deref-2.ensures.value refl refl c.in_ok-sources.ensures in
    let made_so = subst (λ products. IsMade front c.deref-5.result.now job.grow products answer made.jumps) c.build_products.ensures c.build-answer.ensures.made in
    let right = subst (λ files. IsMade front files job.grow (build_products job) answer made.jumps) c.deref-5.ensures.value made_so in
    let warned = subst (λ files. AreWarnings job.warn front files job.grow made.jumps made.warnings.items) c.deref-5.ensures.value c.build-answer.ensures.warned in
    ends_lined (BuildsTexts base job fronts texts x) c.done_with_lines.result
    (inl (
      made.jumps,
      made.warnings.items,
      lines,
      (
        answer,
        (front, c.in_ok-sources.sources.items, (ap (map (λ word. word.now)) c.deref-3.ensures.value, are), sources, right, warned),
        subst (IsCarriedOut base answer x) (sym done.0) carries,
      ),
    ))
