use Rattle.std.proofs.Common.{ap, inl, inr, map, option_map, refl, string_bytes, subst}
use Rattle.std.proofs.lemmas.Result.{err_from_is_err_and}
use Rattle.z80dev_explain.specs.Explanation.{IsExplanation}
use Rattle.report_texts.specs.declared.front.Front.{Front}
use Rattle.z80dev.proofs.Clear.{are_files}
use Rattle.z80dev_jobs.proofs.explaining.explain_texts.Goals as goal

pub returns-in_err-shared_files : goal.returns-in_err-shared_files
returns-in_err-shared_files g c =
    let left = err_from_is_err_and c.from_residual.result c.from_residual.ensures.1 in
    rw (left.1, left.2) (inr (refl, refl))

pub returns-in_err-sources : goal.returns-in_err-sources
returns-in_err-sources g c =
    let left = err_from_is_err_and c.from_residual-in_err-sources.result c.from_residual-in_err-sources.ensures.1 in
    rw (left.1, left.2) (inr (refl, refl))

pub returns-in_err-explained : goal.returns-in_err-explained
returns-in_err-explained g c =
    let left = err_from_is_err_and c.from_residual-in_err-explained.result c.from_residual-in_err-explained.ensures.1 in
    rw (left.1, left.2) (inr (refl, refl))

pub returns : goal.returns
returns g c =
    let job = c.args.job.now in
    let front : Front = record { defines = c.deref-3.result; files = c.deref-4.result } in
    let explained = c.in_ok-explained.explained in
    let text = explained.text.items in
    let summary = option_map string_bytes explained.summary in
    let are = are_files c.deref.result.now job.shared.files.items c.args.fronts.now c.args.fronts.now c.in_ok-shared_files.shared_files.items c.deref-4.result.now
    c.deref.ensures.value refl c.deref-4.ensures.value c.in_ok-shared_files.ensures in
    let sources = are_files c.deref-2.result.now job.sources.items c.args.texts.now c.args.texts.now c.in_ok-sources.sources.items c.in_ok-sources.sources.items
    c.deref-2.ensures.value refl refl c.in_ok-sources.ensures in
    let is = subst (λ files. IsExplanation front c.asked_of-asked.result files text summary) c.deref-5.ensures.value c.in_ok-explained.ensures in
    let for_asked = subst (λ asked. IsExplanation front asked c.in_ok-sources.sources.items text summary) c.asked_of-asked.ensures is in
    inl (front, c.in_ok-sources.sources.items, text, summary, (ap (map (λ word. word.now)) c.deref-3.ensures.value, are), sources, for_asked, c.print_explanation.ensures)
