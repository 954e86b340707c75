use Rattle.std.proofs.Common.{List, ℕ, [], arith, subst, take}
use Rattle.std.specs.Io.KnownBytes.{Consumes}
use Rattle.debugger.specs.Conversation.{SessionState}
use Rattle.debugger.specs.Session.{Obeys}
use Rattle.debugger.proofs.Talking.{all_taken, nothing_read, one_line, untaken}
use Rattle.debugger.proofs.conversation.read_some.Goals as goal

pub returns-in_ok-answer_line-in-Ok-eq0-clause-talks : goal.returns-in_ok-answer_line-in-Ok-eq0-clause-talks
returns-in_ok-answer_line-in-Ok-eq0-clause-talks g c =
    let s = c.args.session.now in
    let u = c.answer_line.new.session in
    let line = c.args.line.now.items in
    let first : SessionState = record { shown = s.history; stops = s.stops; is_over = s.is_over } in
    let last : SessionState = record { shown = u.history; stops = u.stops; is_over = u.is_over } in
    let before = g.O.Sink.stream c.args.output.now in
    let after = g.O.Sink.stream c.answer_line.new.output in
    let said = c.in_ok-answer_line-in-Ok-eq0.ensures.obeys in
    let heard = subst (λ (bytes : List ℕ). Obeys s.labels s.listing.now bytes s.history s.stops s.is_over u.history u.stops u.is_over said.0) c.deref.ensures.value said.1 in
    let talks = one_line s.labels s.listing.now line first last before after said.0 c.requires.going heard said.2 c.in_ok-answer_line-in-Ok-eq0.ensures.handed in
    let from = g.I.Input.remaining c.args.input.now in
    let left = g.I.Input.remaining c.read.new.self in
    let nothing = subst (λ (n : ℕ). Consumes from left (take n c.read.new.buffer)) c.in-Ok-eq0.field-0-test c.in-Ok-eq0.ensures.bytes.0 in
    (nothing, c.in-Ok-eq0.ensures.bytes.1 c.in-Ok-eq0.field-0-test (omega arith), talks)

pub returns-in-Err-Interrupted-clause-talks : goal.returns-in-Err-Interrupted-clause-talks
returns-in-Err-Interrupted-clause-talks g c =
    let s = c.args.session.now in
    let t : SessionState = record { shown = s.history; stops = s.stops; is_over = s.is_over } in
    let out = g.O.Sink.stream c.args.output.now in
    let line = c.args.line.now.items in (
      [],
      nothing_read (g.I.Input.remaining c.args.input.now) (g.I.Input.remaining c.read.new.self) c.in-Err-Interrupted.ensures.bytes,
      all_taken s.labels s.listing.now line [] line t t out out (untaken s.labels s.listing.now line t out c.requires.line),
    )
