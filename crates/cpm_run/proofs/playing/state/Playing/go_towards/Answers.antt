use Rattle.std.proofs.Common.{inr}
use Rattle.cpm_run.proofs.Sitting.{gone, moved, over}
use Rattle.cpm_run.proofs.playing.state.Playing.go_towards.Goals as goal

pub returns-in-Err-clause-stands : goal.returns-in-Err-clause-stands
returns-in-Err-clause-stands g c = λ start before first.
    let seat = g.K.Station.seat c.args.station.now in
    let computed = moved _ _ start before seat c.args.self.now c.compute.new.self first (gone _ _ c.compute.result start _ c.in_default.not-Some (c.compute.ensures.goes start first.shown first.plays)) c.compute.ensures.ahead in
    let taken = moved _ _ start before seat c.compute.new.self c.take_turn.new.self computed (gone _ _ c.take_turn.result start _ c.in_default-take_turn.not-Some (c.take_turn.ensures.goes start computed.shown computed.plays)) c.take_turn.ensures.ahead in
    c.in-Err.ensures.so_far start before taken

pub returns-in-Some-take_turn-clause-stands : goal.returns-in-Some-take_turn-clause-stands
returns-in-Some-take_turn-clause-stands g c = λ start before first.
    let seat = g.K.Station.seat c.args.station.now in
    let computed = moved _ _ start before seat c.args.self.now c.compute.new.self first (gone _ _ c.compute.result start _ c.in_default.not-Some (c.compute.ensures.goes start first.shown first.plays)) c.compute.ensures.ahead in
    over _ _ c.args.limit c.in-Some-take_turn.why start before seat c.compute.new.self c.take_turn.new.self computed (inr (inr (c.in-Some-take_turn.ensures.goes start computed.shown computed.plays))) c.in-Some-take_turn.ensures.ahead
