use Rattle.std.proofs.Common.{List, ℕ, ◌∷◌, [], ◌∙◌, drop, get_or, refl, subst, sym, take}
use Rattle.std.proofs.lemmas.List.{take-append-drop, take_all, take_more}
use Rattle.debugger.specs.Conversation.{SessionState}
use Rattle.state_text.specs.Labelled.{Known}
use Rattle.debugger.specs.Private.Lines.{TakesAllLines, TakesLines}
use Rattle.debugger.proofs.Talking.{all_taken, quit_before, take_on, untaken}
use Rattle.debugger.proofs.conversation.take_bytes.Goals as goal

pub loop-byte-init : goal.loop-byte-init
loop-byte-init g c =
    let s = c.args.session.now in
    record {
      start = refl;
      after = c.requires.after;
      labels = refl;
      listing = refl;
      talks = untaken s.labels s.listing.now c.args.line.now.items (record { shown = s.history; stops = s.stops; is_over = s.is_over }) (g.O.Sink.stream c.args.output.now) c.requires.line;
      failures = refl;
    }

pub take_byte-requires-clause-line : goal.take_byte-requires-clause-line
take_byte-requires-clause-line g c = c.loop-byte.invariant.talks.2

pub loop-byte-preserved : goal.loop-byte-preserved
loop-byte-preserved g c =
    let s = c.args.session.now in
    let t = c.loop-byte.session in
    let u = c.take_byte.new.session in
    let first : SessionState = record { shown = s.history; stops = s.stops; is_over = s.is_over } in
    let mid : SessionState = record { shown = t.history; stops = t.stops; is_over = t.is_over } in
    let last : SessionState = record { shown = u.history; stops = u.stops; is_over = u.is_over } in
    let a = g.O.Sink.stream c.args.output.now in
    let b = g.O.Sink.stream c.loop-byte.output in
    let d = g.O.Sink.stream c.take_byte.new.output in
    let bytes = c.args.bytes.now in
    let i = c.loop-byte.byte-index in
    let byte = get_or bytes i 0 in
    let from = c.args.line.now.items in
    let line = c.loop-byte.line.items in
    let next = c.take_byte.new.line.items in
    let same_labels = subst (λ (known : Known). TakesAllLines known t.listing.now line (byte ∷ []) next mid last b d) c.loop-byte.invariant.labels c.in_ok-take_byte.ensures.talks in
    let same = subst (λ l. TakesAllLines s.labels l.now line (byte ∷ []) next mid last b d) c.loop-byte.invariant.listing same_labels in
    let taken = take_on s.labels s.listing.now from (take i bytes) (byte ∷ []) line next first mid last a b d c.loop-byte.invariant.talks same in
    record {
      start = c.in_ok-take_byte.ensures.start ∙ c.loop-byte.invariant.start;
      after = c.in_ok-take_byte.ensures.after;
      labels = c.in_ok-take_byte.ensures.labels ∙ c.loop-byte.invariant.labels;
      listing = c.in_ok-take_byte.ensures.listing ∙ c.loop-byte.invariant.listing;
      talks = subst (λ (bs : List ℕ). TakesAllLines s.labels s.listing.now from bs next first last a d) (sym (take_more bytes i 0 c.loop-byte-test.true)) taken;
      failures = c.in_ok-take_byte.ensures.prints ∙ c.loop-byte.invariant.failures;
    }

pub returns-then-is_over-clause-talks : goal.returns-then-is_over-clause-talks
returns-then-is_over-clause-talks g c =
    let s = c.args.session.now in
    let t = c.loop-byte.session in
    let first : SessionState = record { shown = s.history; stops = s.stops; is_over = s.is_over } in
    let mid : SessionState = record { shown = t.history; stops = t.stops; is_over = t.is_over } in
    let a = g.O.Sink.stream c.args.output.now in
    let b = g.O.Sink.stream c.loop-byte.output in
    let bytes = c.args.bytes.now in
    let i = c.loop-byte.byte-index in
    let from = c.args.line.now.items in
    let line = c.loop-byte.line.items in
    let quit = quit_before s.labels s.listing.now from (take i bytes) (drop i bytes) line line first mid a b (sym c.is_over.ensures ∙ c.if-is_over.true) c.loop-byte.invariant.talks in
    subst (λ (bs : List ℕ). TakesLines s.labels s.listing.now from bs line first mid a b) (take-append-drop i bytes) quit

pub returns-clause-talks : goal.returns-clause-talks
returns-clause-talks g c =
    let s = c.args.session.now in
    let t = c.loop-byte.session in
    let first : SessionState = record { shown = s.history; stops = s.stops; is_over = s.is_over } in
    let mid : SessionState = record { shown = t.history; stops = t.stops; is_over = t.is_over } in
    let a = g.O.Sink.stream c.args.output.now in
    let b = g.O.Sink.stream c.loop-byte.output in
    let bytes = c.args.bytes.now in
    let i = c.loop-byte.byte-index in
    let from = c.args.line.now.items in
    let line = c.loop-byte.line.items in
    let all = all_taken s.labels s.listing.now from (take i bytes) line first mid a b c.loop-byte.invariant.talks in
    subst (λ (bs : List ℕ). TakesLines s.labels s.listing.now from bs line first mid a b) (take_all i bytes c.loop-byte-test.false) all
