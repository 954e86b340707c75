use Rattle.std.proofs.Common.{◌∙◌, ℕ, List, ap, length, map, subst}
use Rattle.state_text.specs.Labelled.{symbol_parts}
use Rattle.z80dev_run.specs.Input.{typed}
use Rattle.z80dev_run.specs.Program.{DebugsBy}
use Rattle.z80dev_run.proofs.Debugged_so.{debugs_by}
use Rattle.z80dev_run.proofs.running.Ready.debug.Goals as goal

pub returns-clause-debugged : goal.returns-clause-debugged
returns-clause-debugged g c = λ program words image input ready.
    let own = c.args.self in
    let recorded = c.args.recorded.now in
    let labels = map symbol_parts c.args.symbols.now in
    let before = g.O.Sink.stream c.args.output.now in
    let after = g.O.Sink.stream c.debug.new.output in
    let from = g.I.Input.remaining c.args.commands.now in
    let left = g.I.Input.remaining c.debug.new.commands in
    let words_are = ap (λ ws. map (λ w. w.now) ws) c.deref.ensures.value ∙ ready.words_are in
    let known = debugs_by own.program.now (map (λ w. w.now) c.deref.result.now) own.disk own.typed.items recorded (record { labels = labels; size = length own.program.now }) c.args.listing.now from left before after c.debug.result
    c.debug.ensures.debugged c.debug.ensures.so_far in (
      own.disk,
      ready.disk_is,
      subst (λ (file : List ℕ). DebugsBy file words own.disk (typed input) recorded (record { labels = labels; size = length file }) c.args.listing.now from left before after c.debug.result) ready.program_is
          (subst (λ (ws : List (List ℕ)). DebugsBy own.program.now ws own.disk (typed input) recorded (record { labels = labels; size = length own.program.now }) c.args.listing.now from left before after c.debug.result) words_are
          (subst (λ (bytes : List ℕ). DebugsBy own.program.now (map (λ w. w.now) c.deref.result.now) own.disk bytes recorded (record { labels = labels; size = length own.program.now }) c.args.listing.now from left before after c.debug.result) ready.typed_is known)),
    )
