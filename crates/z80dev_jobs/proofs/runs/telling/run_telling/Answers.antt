use Rattle.std.proofs.Common.{◌∙◌, option_map, sym}
use Rattle.z80dev_jobs.proofs.Running.Told.{told_run}
use Rattle.z80dev_jobs.proofs.runs.telling.run_telling.Goals as goal

pub returns-clause-told : goal.returns-clause-told
returns-clause-told g c = λ program words image input ready.
    let traced = c.run_traced-traced.result in
    told_run c.args.telling c.args.labels.now (option_map (λ text. text.now) c.args.listing) program words image input (g.S.Sink.stream c.args.output) c.args.steps c.wish_of.result
    traced.ran.why traced.ran.turns traced.state traced.kept c.told_of.result c.ok-told.result (sym c.is_silent.ensures ∙ c.if-is_silent.false) c.wish_of.ensures
    (c.run_traced-traced.ensures.traced program words image input ready) c.told_of.ensures c.ok-told.ensures.value
