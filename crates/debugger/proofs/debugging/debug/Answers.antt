use Rattle.std.proofs.Common.{◌≡◌, ◌∙◌, Err, Result, ap, refl, length, map, subst, sym, false, Some, []}
use Rattle.cpm_console.specs.Dialog.{Dialog, dialog_of}
use Rattle.debugger.specs.Conversation.{SessionState, TalksSoFar, TalksThrough}
use Rattle.debugger.specs.declared.conversation.Broken.{Broken}
use Rattle.debugger.specs.declared.conversation.Broken.TheVariants as broken
use Rattle.debugger.specs.declared.debugging.DebugFault.{DebugFault}
use Rattle.debugger.specs.declared.debugging.DebugFault.TheVariants as debug
use Rattle.machine_history.specs.Going.{IsFirstShown}
use Rattle.state_text.specs.Labelled.{Known, symbol_parts}
use Rattle.machine_history.specs.Walk.{Shown}
use Rattle.machine_history.specs.declared.stops.Stops.{Stops}
use Rattle.debugger.proofs.debugging.debug.Goals as goal

abbrev broke_by : Broken → Result Unit Broken
broke_by b = Err b

-- the fault is that of the input
by_input : (b : Broken) → ◌≡◌ {A = Result Unit DebugFault} (Err (debug.Broken b)) (Err (debug.Broken broken.Input)) → b ≡ broken.Input
by_input broken.Input is = refl
by_input broken.Output is = absurd cc
by_input broken.NoMemory is = absurd cc

pub returns-in-Ok-converse-clause-debugged : goal.returns-in-Ok-converse-clause-debugged
returns-in-Ok-converse-clause-debugged g c =
    let file = c.args.program.file.now in
    let words = map (λ w. w.now) c.args.program.words.now in
    let begun = c.with_listing-session.result in
    let history = c.with_listing-session.ensures.history ∙ c.new-3.ensures.history in
    let labels = c.with_listing-session.ensures.labels ∙ c.new-3.ensures.labels ∙ c.in-Ok-new.ensures in
    let before = g.O.Sink.stream c.args.output.now in
    let after = g.O.Sink.stream c.converse.new.output in
    let from = g.I.Input.remaining c.args.commands.now in
    let left = g.I.Input.remaining c.converse.new.input in
    let last : SessionState = record { shown = c.converse.new.session.history; stops = c.converse.new.session.stops; is_over = c.converse.new.session.is_over } in
    let talks = subst (λ (known : Known). TalksThrough known begun.listing.now from left (record { shown = begun.history; stops = begun.stops; is_over = begun.is_over }) last before after) labels c.in-Ok-converse.ensures.talks in
    let known : Known = record { labels = map symbol_parts c.args.symbols.now; size = length file } in
    let first = subst (λ (d : Dialog). IsFirstShown file words c.args.program.disk d c.args.program.recorded.now c.in-Ok.history) c.new-console.ensures c.in-Ok.ensures.begins in (
      begun.history,
      begun.stops,
      last,
      subst (λ (h : Shown). IsFirstShown file words c.args.program.disk (dialog_of c.args.program.typed.items (Some []) 0) c.args.program.recorded.now h) (sym history) first,
      ap (λ (s : Stops). s.breakpoints.items) c.with_listing-session.ensures.stops ∙ c.new-3.ensures.breakpoints,
      ap (λ (s : Stops). s.watches.items) c.with_listing-session.ensures.stops ∙ c.new-3.ensures.watches,
      subst (λ l. TalksThrough known l.now from left (record { shown = begun.history; stops = begun.stops; is_over = false }) last before after) c.with_listing-session.ensures.listing
          (subst (λ b. TalksThrough known begun.listing.now from left (record { shown = begun.history; stops = begun.stops; is_over = b }) last before after) (c.with_listing-session.ensures.over ∙ c.new-3.ensures.over) talks),
    )

pub returns-clause-so_far : goal.returns-clause-so_far
returns-clause-so_far g c = λ failed.
    let is = ap (λ (b : Broken). broke_by b) (by_input c.in-Err-converse.broken failed) in
    let file = c.args.program.file.now in
    let words = map (λ w. w.now) c.args.program.words.now in
    let begun = c.with_listing-session.result in
    let history = c.with_listing-session.ensures.history ∙ c.new-3.ensures.history in
    let labels = c.with_listing-session.ensures.labels ∙ c.new-3.ensures.labels ∙ c.in-Ok-new.ensures in
    let before = g.O.Sink.stream c.args.output.now in
    let after = g.O.Sink.stream c.converse.new.output in
    let from = g.I.Input.remaining c.args.commands.now in
    let left = g.I.Input.remaining c.converse.new.input in
    let last : SessionState = record { shown = c.converse.new.session.history; stops = c.converse.new.session.stops; is_over = c.converse.new.session.is_over } in
    let talks = subst (λ (known : Known). TalksSoFar known begun.listing.now from left (record { shown = begun.history; stops = begun.stops; is_over = begun.is_over }) last before after) labels (c.in-Err-converse.ensures.so_far is) in
    let known : Known = record { labels = map symbol_parts c.args.symbols.now; size = length file } in
    let first = subst (λ (d : Dialog). IsFirstShown file words c.args.program.disk d c.args.program.recorded.now c.in-Ok.history) c.new-console.ensures c.in-Ok.ensures.begins in (
      begun.history,
      begun.stops,
      last,
      subst (λ (h : Shown). IsFirstShown file words c.args.program.disk (dialog_of c.args.program.typed.items (Some []) 0) c.args.program.recorded.now h) (sym history) first,
      ap (λ (s : Stops). s.breakpoints.items) c.with_listing-session.ensures.stops ∙ c.new-3.ensures.breakpoints,
      ap (λ (s : Stops). s.watches.items) c.with_listing-session.ensures.stops ∙ c.new-3.ensures.watches,
      subst (λ l. TalksSoFar known l.now from left (record { shown = begun.history; stops = begun.stops; is_over = false }) last before after) c.with_listing-session.ensures.listing
          (subst (λ b. TalksSoFar known begun.listing.now from left (record { shown = begun.history; stops = begun.stops; is_over = b }) last before after) (c.with_listing-session.ensures.over ∙ c.new-3.ensures.over) talks),
    )
