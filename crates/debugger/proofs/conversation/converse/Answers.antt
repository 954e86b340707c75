use Rattle.std.proofs.Common.{rules, ◌≡◌, ◌∙◌, ◌++◌, List, [], Bool, ℕ, append-nil, arith, false, true, refl, subst, sym}
use Rattle.std.proofs.KnownBytes.{Consumes-nil, Consumes-trans}
use Rattle.std.specs.Io.KnownBytes.{Consumes}
use Rattle.std.proofs.lemmas.List.Elements.{All-nil}
use Rattle.debugger.specs.Conversation.{SessionState, TalksSoFar}
use Rattle.state_text.specs.Labelled.{Known}
use Rattle.debugger.specs.Private.Lines.{GetsLines, TakesLines}
use Rattle.debugger.proofs.Talking.{all_taken, going_on, last_read, lines_on, quit_read, so_far, untaken}
use Rattle.debugger.proofs.conversation.converse.Goals as goal

pub loop-line-init : goal.loop-line-init
loop-line-init g c =
    let s = c.args.session.now in
    let t : SessionState = record { shown = s.history; stops = s.stops; is_over = s.is_over } in
    let out = g.O.Sink.stream c.args.output.now in
    let none = all_taken s.labels s.listing.now [] [] [] t t out out (untaken s.labels s.listing.now [] t out (All-nil (λ b. ¬ (b ≡ 10)))) in
    record {
      start = refl;
      after = c.knows.ensures;
      labels = refl;
      listing = refl;
      talks = ([], Consumes-nil (g.I.Input.remaining c.args.input.now), subst (λ (next : List ℕ). TakesLines s.labels s.listing.now [] [] next t t out out) (sym c.new-line.ensures.items) none);
      failures = refl;
      failed = c.requires.sound;
      reads = c.requires.unread;
      most = omega arith;
    }

pub read_some-requires-clause-line : goal.read_some-requires-clause-line
read_some-requires-clause-line g c =
    let s = c.args.session.now in
    let t = c.loop-line.session in
    let first : SessionState = record { shown = s.history; stops = s.stops; is_over = s.is_over } in
    let mid : SessionState = record { shown = t.history; stops = t.stops; is_over = t.is_over } in
    let talks = c.loop-line.invariant.talks in
    let all = going_on s.labels s.listing.now [] talks.0 c.loop-line.line.items first mid (g.O.Sink.stream c.args.output.now) (g.O.Sink.stream c.loop-line.output) (sym c.is_over.ensures ∙ c.loop-line-test.true) talks.2 in
    all.2

pub loop-line-preserved : goal.loop-line-preserved
loop-line-preserved g c =
    let s = c.args.session.now in
    let t = c.loop-line.session in
    let u = c.read_some.new.session in
    let first : SessionState = record { shown = s.history; stops = s.stops; is_over = s.is_over } in
    let mid : SessionState = record { shown = t.history; stops = t.stops; is_over = t.is_over } in
    let last : SessionState = record { shown = u.history; stops = u.stops; is_over = u.is_over } in
    let a = g.O.Sink.stream c.args.output.now in
    let b = g.O.Sink.stream c.loop-line.output in
    let d = g.O.Sink.stream c.read_some.new.output in
    let from = g.I.Input.remaining c.args.input.now in
    let rest = g.I.Input.remaining c.loop-line.input in
    let left = g.I.Input.remaining c.read_some.new.input in
    let line = c.loop-line.line.items in
    let next = c.read_some.new.line.items in
    let talks = c.loop-line.invariant.talks in
    let goes_on = subst (λ (ended : Bool). GetsLines t.labels t.listing.now rest left line next mid last b d ended) c.if-branch.false c.in_ok-read_some.ensures.talks in
    let same_labels = subst (λ (known : Known). GetsLines known t.listing.now rest left line next mid last b d false) c.loop-line.invariant.labels goes_on in
    let got = subst (λ l. GetsLines s.labels l.now rest left line next mid last b d false) c.loop-line.invariant.listing same_labels in
    let lines = lines_on s.labels s.listing.now [] talks.0 got.0 line next first mid last a b d (sym c.is_over.ensures ∙ c.loop-line-test.true) talks.2 got.2 in
    record {
      start = c.in_ok-read_some.ensures.start ∙ c.loop-line.invariant.start;
      after = c.in_ok-read_some.ensures.after;
      labels = c.in_ok-read_some.ensures.labels ∙ c.loop-line.invariant.labels;
      listing = c.in_ok-read_some.ensures.listing ∙ c.loop-line.invariant.listing;
      talks = (talks.0 ++ got.0, Consumes-trans from rest left talks.0 got.0 talks.1 got.1, lines);
      failures = c.in_ok-read_some.ensures.ends.0 ∙ c.loop-line.invariant.failures;
      failed = c.in_ok-read_some.ensures.ends.1;
      reads = let more = c.in_ok-read_some.ensures.reads in let so_far = c.loop-line.invariant.reads in omega (arith, more, so_far);
      most = let so_far = c.loop-line.invariant.most in let more = c.if-reads-eq-MOST_READS.false in omega (arith, so_far, more);
    }

pub returns-clause-talks : goal.returns-clause-talks
returns-clause-talks g c =
    let s = c.args.session.now in
    let t = c.loop-line.session in
    let first : SessionState = record { shown = s.history; stops = s.stops; is_over = s.is_over } in
    let mid : SessionState = record { shown = t.history; stops = t.stops; is_over = t.is_over } in
    let a = g.O.Sink.stream c.args.output.now in
    let b = g.O.Sink.stream c.loop-line.output in
    let from = g.I.Input.remaining c.args.input.now in
    let rest = g.I.Input.remaining c.loop-line.input in
    let talks = c.loop-line.invariant.talks in
    quit_read s.labels s.listing.now talks.0 c.loop-line.line.items from rest first mid a b (sym c.is_over.ensures ∙ c.loop-line-test.false) talks.1 talks.2

pub returns-then-branch-clause-talks : goal.returns-then-branch-clause-talks
returns-then-branch-clause-talks g c =
    let s = c.args.session.now in
    let t = c.loop-line.session in
    let u = c.read_some.new.session in
    let first : SessionState = record { shown = s.history; stops = s.stops; is_over = s.is_over } in
    let mid : SessionState = record { shown = t.history; stops = t.stops; is_over = t.is_over } in
    let last : SessionState = record { shown = u.history; stops = u.stops; is_over = u.is_over } in
    let a = g.O.Sink.stream c.args.output.now in
    let b = g.O.Sink.stream c.loop-line.output in
    let d = g.O.Sink.stream c.read_some.new.output in
    let from = g.I.Input.remaining c.args.input.now in
    let rest = g.I.Input.remaining c.loop-line.input in
    let left = g.I.Input.remaining c.read_some.new.input in
    let line = c.loop-line.line.items in
    let next = c.read_some.new.line.items in
    let talks = c.loop-line.invariant.talks in
    let ends = subst (λ (ended : Bool). GetsLines t.labels t.listing.now rest left line next mid last b d ended) c.if-branch.true c.in_ok-read_some.ensures.talks in
    let same_labels = subst (λ (known : Known). GetsLines known t.listing.now rest left line next mid last b d true) c.loop-line.invariant.labels ends in
    let got = subst (λ l. GetsLines s.labels l.now rest left line next mid last b d true) c.loop-line.invariant.listing same_labels in
    last_read s.labels s.listing.now talks.0 line from rest left first mid last a b d (sym c.is_over.ensures ∙ c.loop-line-test.true) talks.1 talks.2 got.0 got.1 got.2

pub returns-in_err-read_some-clause-so_far : goal.returns-in_err-read_some-clause-so_far
returns-in_err-read_some-clause-so_far g c = λ failed.
    let s = c.args.session.now in
    let t = c.loop-line.session in
    let first : SessionState = record { shown = s.history; stops = s.stops; is_over = s.is_over } in
    let from = g.I.Input.remaining c.args.input.now in
    let rest = g.I.Input.remaining c.loop-line.input in
    let left = g.I.Input.remaining c.read_some.new.input in
    let a = g.O.Sink.stream c.args.output.now in
    let talks = c.loop-line.invariant.talks in
    let unread = c.in_err-read_some.ensures.unread (search rules) in
    let whole = subst (Consumes from left) (append-nil talks.0) (Consumes-trans from rest left talks.0 [] talks.1 unread.2) in
    subst (λ u. TalksSoFar s.labels s.listing.now from left first (record { shown = u.history; stops = u.stops; is_over = u.is_over }) a (g.O.Sink.stream c.read_some.new.output)) (sym unread.0)
    (subst (λ o. TalksSoFar s.labels s.listing.now from left first (record { shown = t.history; stops = t.stops; is_over = t.is_over }) a (g.O.Sink.stream o)) (sym unread.1)
    (so_far s.labels s.listing.now talks.0 c.loop-line.line.items from left first (record { shown = t.history; stops = t.stops; is_over = t.is_over }) a (g.O.Sink.stream c.loop-line.output) (sym c.is_over.ensures ∙ c.loop-line-test.true) whole talks.2))

pub returns-then-reads-eq-MOST_READS-clause-so_far : goal.returns-then-reads-eq-MOST_READS-clause-so_far
returns-then-reads-eq-MOST_READS-clause-so_far g c = λ failed.
    let s = c.args.session.now in
    let t = c.loop-line.session in
    let talks = c.loop-line.invariant.talks in
    so_far s.labels s.listing.now talks.0 c.loop-line.line.items (g.I.Input.remaining c.args.input.now) (g.I.Input.remaining c.loop-line.input) (record { shown = s.history; stops = s.stops; is_over = s.is_over })
    (record { shown = t.history; stops = t.stops; is_over = t.is_over }) (g.O.Sink.stream c.args.output.now) (g.O.Sink.stream c.loop-line.output) (sym c.is_over.ensures ∙ c.loop-line-test.true) talks.1 talks.2
