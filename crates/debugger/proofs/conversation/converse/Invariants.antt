use Rattle.std.proofs.Common.{◌≡◌, ◌≤◌, ◌-◌, List, [], ℕ, false}
use Rattle.std.specs.Io.KnownBytes.{Consumes}
use Rattle.debugger.specs.Private.Lines.{TakesLines}
use Rattle.machine_history.specs.Walk.{IsTrue_of_run}
use Rattle.debugger.proofs.conversation.converse.Given as goal

abbrev pub invariant-loop-line : goal.invariant-loop-line
invariant-loop-line g l = record {
  start : l.session.history.start ≡ l.initial.session.history.start;
  after : IsTrue_of_run l.session.history;
  labels : l.session.labels ≡ l.initial.session.labels;
  listing : l.session.listing ≡ l.initial.session.listing;
  talks : (bytes : List ℕ) × Consumes (g.I.Input.remaining l.initial.input) (g.I.Input.remaining l.input) bytes × TakesLines l.initial.session.labels l.initial.session.listing.now [] bytes l.line.items (record { shown = l.initial.session.history; stops = l.initial.session.stops; is_over = l.initial.session.is_over }) (record { shown = l.session.history; stops = l.session.stops; is_over = l.session.is_over }) (g.O.Sink.stream l.initial.output) (g.O.Sink.stream l.output);
  failures : (g.O.Sink.stream l.output).failures ≡ (g.O.Sink.stream l.initial.output).failures;
  failed : g.I.Input.failed l.input ≡ false;
  reads : g.I.Input.reads l.input ≡ l.reads;
  most : l.reads ≤ 4294967296;
}

abbrev pub decreases-loop-line : goal.decreases-loop-line
decreases-loop-line g l = 4294967296 - l.reads
