use Rattle.std.proofs.Common.{◌∙◌, ℕ, Bor, Err, List, Ok, ap, inl, inr, length, map, refl, subst}
use Rattle.z80dev_jobs.proofs.Running.Debugged.{known_by, listed, not_known}
use Rattle.z80dev_jobs.proofs.Running.Given.{passed_on}
use Rattle.state_text.specs.Labelled.{symbol_parts}
use Rattle.z80dev_run.specs.Program.{IsDebuggedRun}
use Rattle.z80dev_jobs.specs.Runs.Debugging.{DebugEndsBy, arrivals_in, debugged_words}
use Rattle.host.specs.Ending.{ended}
use Rattle.z80dev_jobs.specs.Private.Debugging.{AreSymbols}
use Rattle.host.specs.Reading.{bytes_in, reader_of}
use Rattle.host.specs.World.{world_of}
use Rattle.debugger.specs.Conversation.{Debugs}
use Rattle.z80dev_jobs.proofs.runs.debugging.debugged.Goals as goal

pub returns-in_err-read-clause-ends : goal.returns-in_err-read-clause-ends
returns-in_err-read-clause-ends g c = λ errors.
    let input = c.args.input.now in
    let reader = reader_of (g.I.Input.remaining input) (g.I.Input.failed input) (g.I.Input.reads input) (g.I.Input.interruptions input) in
    let stream = g.W.Sink.stream c.args.output.now in
    let old = world_of (g.F.Files.folder c.args.files.now) reader stream errors in
    let new = world_of (g.F.Files.folder c.recorded_session_of.new.files) reader stream errors in
    passed_on (λ result. DebugEndsBy c.args.job.now old new (ended result)) c.in_err-read.field-0.0 c.from_residual.result c.from_residual.ensures.1 (inl (c.in_err-read.ensures, (refl, refl)))

pub returns-in_err-ready-clause-ends : goal.returns-in_err-ready-clause-ends
returns-in_err-ready-clause-ends g c = λ errors.
    let input = c.args.input.now in
    let reader = reader_of (g.I.Input.remaining input) (g.I.Input.failed input) (g.I.Input.reads input) (g.I.Input.interruptions input) in
    let stream = g.W.Sink.stream c.args.output.now in
    let old = world_of (g.F.Files.folder c.args.files.now) reader stream errors in
    let new = world_of (g.F.Files.folder c.recorded_session_of.new.files) reader stream errors in
    passed_on (λ result. DebugEndsBy c.args.job.now old new (ended result)) c.in_err-ready.field-0.0 c.from_residual-in_err-ready.result c.from_residual-in_err-ready.ensures.1
    (inr (c.in_ok-read.read, c.in_ok-read.ensures, inl (inl c.in_err-ready.ensures, (refl, refl))))

pub returns-in_err-symbols-clause-ends : goal.returns-in_err-symbols-clause-ends
returns-in_err-symbols-clause-ends g c = λ errors.
    let input = c.args.input.now in
    let reader = reader_of (g.I.Input.remaining input) (g.I.Input.failed input) (g.I.Input.reads input) (g.I.Input.interruptions input) in
    let stream = g.W.Sink.stream c.args.output.now in
    let old = world_of (g.F.Files.folder c.args.files.now) reader stream errors in
    let new = world_of (g.F.Files.folder c.recorded_session_of.new.files) reader stream errors in
    let e = c.in_err-symbols.field-0.0 in
    let inputs = c.in_ok-read.read.0 in
    let refused = not_known (bytes_in inputs.labels) e (subst (λ text. AreSymbols text (Err e)) c.as_deref.ensures.value c.in_err-symbols.ensures) in
    passed_on (λ result. DebugEndsBy c.args.job.now old new (ended result)) e c.from_residual-in_err-symbols.result c.from_residual-in_err-symbols.ensures.1
    (inr (c.in_ok-read.read, c.in_ok-read.ensures, inl (inr (_, c.in_ok-ready.ensures.disk_is, refused), (refl, refl))))

pub returns-clause-ends : goal.returns-clause-ends
returns-clause-ends g c = λ errors.
    let inputs = c.in_ok-read.read.0 in
    let rest = c.debug-debugged.new.commands in
    let from = g.I.Input.remaining c.args.input.now in
    let left = g.I.Input.remaining rest in
    let result = c.debug-debugged.result in
    let old = g.W.Sink.stream c.args.output.now in
    let new = g.W.Sink.stream c.debug-debugged.new.output in
    let program = inputs.program.items in
    let image = inputs.image.items in
    let typed = inputs.typed.items in
    let arrivals = c.arrivals_in-arrivals.result.now in
    let words = map (λ word. word.now) c.deref.result.now in
    let debugs = c.debug-debugged.ensures.debugs program words image typed c.in_ok-ready.ensures in
    let same = subst (λ words. Debugs program (map (λ word. word.now) words) old new (g.I.Input.failed rest) (g.I.Input.reads rest) result) c.deref.ensures.value debugs in
    let debugged = c.debug-debugged.ensures.debugged program words image typed c.in_ok-ready.ensures in
    let labels = known_by (bytes_in inputs.labels) (length program) c.in_ok-symbols.symbols (subst (λ text. AreSymbols text (Ok c.in_ok-symbols.symbols)) c.as_deref.ensures.value c.in_ok-symbols.ensures) in
    let known = ap (map symbol_parts) c.deref-2.ensures.value ∙ labels.same in
    let listing = listed c.as_deref-2.result (bytes_in inputs.list) _ c.as_deref-2.ensures.value refl in
    let by_words = subst (λ words. IsDebuggedRun program (map (λ word. word.now) words) image typed arrivals (map symbol_parts c.deref-2.result.now) c.unwrap_or-listing.result.now from left old new result) c.deref.ensures.value debugged in
    let by_record = subst (λ bytes. IsDebuggedRun program (debugged_words c.args.job.now) image typed bytes (map symbol_parts c.deref-2.result.now) c.unwrap_or-listing.result.now from left old new result) c.arrivals_in-arrivals.ensures by_words in
    let came = arrivals_in c.in_ok-read.read.1 in
    let by_labels = subst (λ symbols. IsDebuggedRun program (debugged_words c.args.job.now) image typed came symbols c.unwrap_or-listing.result.now from left old new result) known by_record in
    let by_listing = subst (λ text. IsDebuggedRun program (debugged_words c.args.job.now) image typed came labels.known.labels text from left old new result) (ap (λ (b : Bor (List ℕ)). b.now) c.unwrap_or-listing.ensures ∙ listing) by_labels in
    inr (c.in_ok-read.read, c.in_ok-read.ensures, inr (labels.known, labels.are, result, same, by_listing, c.debug_end.ensures))
