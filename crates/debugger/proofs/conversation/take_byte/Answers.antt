use Rattle.std.proofs.Common.{List, ℕ, ◌∷◌, [], sym, subst}
use Rattle.debugger.specs.Conversation.{SessionState}
use Rattle.debugger.specs.Private.Lines.{TakesAllLines}
use Rattle.debugger.specs.Session.{Obeys}
use Rattle.debugger.proofs.Talking.{line_end, one_line, one_more}
use Rattle.debugger.proofs.conversation.take_byte.Goals as goal

pub returns-then-byte-ne10-clause-talks : goal.returns-then-byte-ne10-clause-talks
returns-then-byte-ne10-clause-talks g c =
    let s = c.args.session.now in
    let line = c.args.line.now.items in
    let t : SessionState = record { shown = s.history; stops = s.stops; is_over = s.is_over } in
    let out = g.O.Sink.stream c.args.output.now in
    subst (λ (next : List ℕ). TakesAllLines s.labels s.listing.now line (c.args.byte ∷ []) next t t out out) (sym c.in_ok-push.ensures.items)
    (one_more s.labels s.listing.now line c.args.byte t out c.requires.line c.if-byte-ne10.true)

pub returns-clause-talks : goal.returns-clause-talks
returns-clause-talks g c =
    let s = c.args.session.now in
    let u = c.answer_line.new.session in
    let line = c.args.line.now.items in
    let first : SessionState = record { shown = s.history; stops = s.stops; is_over = s.is_over } in
    let last : SessionState = record { shown = u.history; stops = u.stops; is_over = u.is_over } in
    let before = g.O.Sink.stream c.args.output.now in
    let after = g.O.Sink.stream c.answer_line.new.output in
    let said = c.in_ok-answer_line.ensures.obeys in
    let heard = subst (λ (bytes : List ℕ). Obeys s.labels s.listing.now bytes s.history s.stops s.is_over u.history u.stops u.is_over said.0) c.deref.ensures.value said.1 in
    let talks = one_line s.labels s.listing.now line first last before after said.0 c.requires.going heard said.2 c.in_ok-answer_line.ensures.handed in
    let ends = line_end s.labels s.listing.now line first last before after c.requires.line talks in
    let byte = subst (λ (b : ℕ). TakesAllLines s.labels s.listing.now line (b ∷ []) [] first last before after) (sym c.if-byte-ne10.false) ends in
    subst (λ (next : List ℕ). TakesAllLines s.labels s.listing.now line (c.args.byte ∷ []) next first last before after) (sym c.clear.ensures.items) byte
