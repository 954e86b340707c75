use Rattle.std.proofs.Common.{◌≡◌, ◌∙◌, ap, false, inl, inr, map, refl, subst, sym}
use Rattle.std.specs.List.{concat}
use Rattle.z80dev_jobs.proofs.Running.Seated.{plays}
use Rattle.z80dev_jobs.specs.Runs.Playing.{EndsPlay, codes_of, keys_of, seated}
use Rattle.host.specs.Reading.{reader_of}
use Rattle.host.specs.World.{world_of}
use Rattle.cpm_console.specs.declared.codes.Pending.TheVariants.{Nothing}
use Rattle.cpm_console.specs.declared.screen.Screen.{Screen}
use Rattle.z80dev_run.specs.Desk.{seat_of}
use Rattle.z80dev_jobs.proofs.runs.playing.play.Goals as goal

pub returns-in-Err-ready_of-clause-ends : goal.returns-in-Err-ready_of-clause-ends
returns-in-Err-ready_of-clause-ends g c =
    let told = c.report-status-in-Err-ready_of.ensures in
    inr (c.in-Ok.read.0, c.in-Ok.read.1, g.F.Files.folder c.session_of.new.files, c.in-Ok.ensures, inl (c.in-Err-ready_of.end, c.in-Err-ready_of.ensures, refl, refl, (refl, told.status, told.told)))

pub returns-clause-ends : goal.returns-clause-ends
returns-clause-ends g c =
    let job = c.args.job.now in
    let host = c.args.host in
    let inputs = c.in-Ok.read.0 in
    let recorded = c.in-Ok.read.1 in
    let claimed = g.F.Files.folder c.session_of.new.files in
    let words = map (λ word. word.now) c.deref.result.now in
    let desk = c.new-desk.result in
    let seat = c.run_session-played.new.station in
    let played = c.run_session-played.result in
    let output = c.into_streams-input.result.1 in
    let rest = c.into_streams-input.result.0 in
    let old = world_of (g.F.Files.folder host.files) (reader_of (g.I.Input.remaining host.input) (g.I.Input.failed host.input) (g.I.Input.reads host.input) (g.I.Input.interruptions host.input)) (g.W.Sink.stream host.output) (g.E.Sink.stream host.errors) in
    let new = world_of (g.F.Files.folder c.end_play-status.new.files) (reader_of (g.I.Input.remaining rest) (g.I.Input.failed rest) (g.I.Input.reads rest) (g.I.Input.interruptions rest)) (g.W.Sink.stream c.flush.new.sink) (g.E.Sink.stream c.end_play-status.new.errors) in
    let before : seat_of desk.screen.codes desk.screen.pending desk.keys desk.is_leaving (g.I.Input.remaining desk.input) (g.W.Sink.stream desk.output).bytes ≡ seated job old =
    ap (λ (s : Screen). seat_of s.codes s.pending desk.keys desk.is_leaving (g.I.Input.remaining desk.input) (g.W.Sink.stream desk.output).bytes) c.new-desk.ensures.screen
    ∙ ap (λ k. seat_of k Nothing desk.keys desk.is_leaving (g.I.Input.remaining desk.input) (g.W.Sink.stream desk.output).bytes) c.codes_of.ensures
    ∙ ap (λ k. seat_of (codes_of job.terminal) Nothing k desk.is_leaving (g.I.Input.remaining desk.input) (g.W.Sink.stream desk.output).bytes) (c.new-desk.ensures.keys ∙ c.keys_of.ensures)
    ∙ ap (λ b. seat_of (codes_of job.terminal) Nothing (keys_of job.raw) b (g.I.Input.remaining desk.input) (g.W.Sink.stream desk.output).bytes) c.new-desk.ensures.half
    ∙ ap (λ i. seat_of (codes_of job.terminal) Nothing (keys_of job.raw) false (g.I.Input.remaining i) (g.W.Sink.stream desk.output).bytes) c.new-desk.ensures.input
    ∙ ap (λ o. seat_of (codes_of job.terminal) Nothing (keys_of job.raw) false (g.I.Input.remaining host.input) (g.W.Sink.stream o).bytes) c.new-desk.ensures.output in
    let after : seat_of seat.screen.codes seat.screen.pending seat.keys seat.is_leaving (g.I.Input.remaining seat.input) (g.W.Sink.stream seat.output).bytes
    ≡ seat_of seat.screen.codes seat.screen.pending seat.keys seat.is_leaving (g.I.Input.remaining rest) (g.W.Sink.stream output).bytes =
    ap (λ i. seat_of seat.screen.codes seat.screen.pending seat.keys seat.is_leaving (g.I.Input.remaining i) (g.W.Sink.stream seat.output).bytes) (sym c.into_streams-input.ensures.input)
    ∙ ap (λ o. seat_of seat.screen.codes seat.screen.pending seat.keys seat.is_leaving (g.I.Input.remaining rest) (g.W.Sink.stream o).bytes) (sym c.into_streams-input.ensures.output) in
    inr (
      inputs,
      recorded,
      claimed,
      c.in-Ok.ensures,
      inr (plays job inputs recorded claimed old new c.end_play-status.result words c.unwrap_or-steps.result _ _ seat.screen.codes seat.screen.pending seat.keys seat.is_leaving (g.W.Sink.stream output) c.flush.result played.end played.turns played.pc (concat played.image) played.arrivals.items
          (ap (map (λ word. word.now)) c.deref.ensures.value) c.unwrap_or-steps.ensures before after
          (c.run_session-played.ensures inputs.program.items words inputs.image.items inputs.typed.items c.in-Ok-ready_of.ensures) c.flush.ensures
          (subst (λ e. EndsPlay job inputs e played.turns played.pc (concat played.image) played.arrivals.items claimed new.folder old.errors new.errors c.end_play-status.result) c.flushed_end-end.ensures c.end_play-status.ensures)),
    )
