use Rattle.std.proofs.Common.{◌≡◌, take}
use Rattle.debugger.specs.Private.Lines.{TakesAllLines}
use Rattle.machine_history.specs.Walk.{IsTrue_of_run}
use Rattle.debugger.proofs.conversation.take_bytes.Given as goal

abbrev pub invariant-loop-byte : goal.invariant-loop-byte
invariant-loop-byte g l = record {
  start : l.session.history.start ≡ l.initial.session.history.start;
  after : IsTrue_of_run l.session.history;
  labels : l.session.labels ≡ l.initial.session.labels;
  listing : l.session.listing ≡ l.initial.session.listing;
  talks : TakesAllLines l.initial.session.labels l.initial.session.listing.now l.initial.line.items (take l.byte-index l.bytes) l.line.items (record { shown = l.initial.session.history; stops = l.initial.session.stops; is_over = l.initial.session.is_over }) (record { shown = l.session.history; stops = l.session.stops; is_over = l.session.is_over }) (g.O.Sink.stream l.initial.output) (g.O.Sink.stream l.output);
  failures : (g.O.Sink.stream l.output).failures ≡ (g.O.Sink.stream l.initial.output).failures;
}
