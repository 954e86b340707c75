use Rattle.std.proofs.Common.{◌≤◌, ◌+◌, ◌∙◌, [], ap, arith, inl, subst, sym, ℕ}
use Rattle.z80_cpu.specs.declared.registers.Cpu.{Cpu}
use Rattle.cpm_run.specs.Looks.{TakesLine, patience_of, waits_after}
use Rattle.cpm_run.specs.Private.Playing.{state_of}
use Rattle.cpm_run.proofs.Asked.{byte_lacks}
use Rattle.cpm_run.proofs.Looking.{attended, byte_look, in_vain}
use Rattle.cpm_run.proofs.Sitting.{broken, no_step}
use Rattle.cpm_run.proofs.playing.state.Playing.await_byte.Goals as goal

pub returns-then-has_byte-clause-looks : goal.returns-then-has_byte-clause-looks
returns-then-has_byte-clause-looks g c = λ start before a watched all empty lately.
    let now = c.loop-look.invariant.3 start before a watched all empty lately in
    let is = ap (λ (r : Cpu). patience_of r) c.loop-look.invariant.0.cpu ∙ c.requires.byte in
    let lacks = byte_lacks (state_of c.loop-look.self []).run is (λ line. c.requires.other (subst TakesLine c.loop-look.invariant.0.cpu line)) in
    attended _ _ start before (g.K.Station.seat c.loop-look.station) c.loop-look.self now.0 now.1 is (λ none. c.has_byte.ensures.yes c.if-has_byte.true (lacks.1 none)) now.4 now.3 (inl (c.loop-look.invariant.1 ∙ empty))

pub returns-in-Err-clause-looks : goal.returns-in-Err-clause-looks
returns-in-Err-clause-looks g c = λ start before a watched all empty lately.
    let now = c.loop-look.invariant.3 start before a watched all empty lately in
    let is = ap (λ (r : Cpu). patience_of r) c.loop-look.invariant.0.cpu ∙ c.requires.byte in
    c.in-Err.ensures.looks start before now.0 now.1
    (byte_look _ _ start before (g.K.Station.seat c.loop-look.station) c.loop-look.self now.0 now.1 is (λ line. c.requires.other (subst TakesLine c.loop-look.invariant.0.cpu line)) now.3 (c.loop-look.invariant.1 ∙ empty) (c.has_byte.ensures.none c.if-has_byte.false) (c.has_byte.ensures.open c.if-has_byte.false))

pub returns-in-Err-clause-waits : goal.returns-in-Err-clause-waits
returns-in-Err-clause-waits g c = λ limit start before first empty. c.in-Err.ensures.waits limit start before (c.loop-look.invariant.2 limit start before first empty) (inl (c.loop-look.invariant.1 ∙ empty))

pub loop-look-preserved : goal.loop-look-preserved
loop-look-preserved g c = (
  no_step _ _ _ c.loop-look.invariant.0 c.listen.ensures.still,
  c.listen.ensures.ahead ∙ c.loop-look.invariant.1,
  λ limit start before first empty. c.in_default.ensures.waits limit start before (c.loop-look.invariant.2 limit start before first empty) (inl (c.loop-look.invariant.1 ∙ empty)),
  λ start before a watched all empty lately.
      let now = c.loop-look.invariant.3 start before a watched all empty lately in
      let is = ap (λ (r : Cpu). patience_of r) c.loop-look.invariant.0.cpu ∙ c.requires.byte in
      let then = c.in_default.ensures.looks start before now.0 now.1
      (byte_look _ _ start before (g.K.Station.seat c.loop-look.station) c.loop-look.self now.0 now.1 is (λ line. c.requires.other (subst TakesLine c.loop-look.invariant.0.cpu line)) now.3 (c.loop-look.invariant.1 ∙ empty) (c.has_byte.ensures.none c.if-has_byte.false) (c.has_byte.ensures.open c.if-has_byte.false)) in
      let more = subst (λ (n : ℕ). waits_after n now.0.events + 1 ≤ waits_after n then.0.events) (c.listen.ensures.still.turns ∙ c.loop-look.invariant.0.turns) then.3 in
      (then.0, then.1, let least = now.2 in omega (arith, more, least), c.listen.ensures.output ∙ now.3, let here = c.in_default.ensures.looked in omega (arith, here)),
)

pub returns-clause-waits : goal.returns-clause-waits
returns-clause-waits g c = λ limit start before first empty. broken _ _ limit start before _ _ (c.loop-look.invariant.2 limit start before first empty)

pub returns-clause-looks : goal.returns-clause-looks
returns-clause-looks g c = λ start before a watched all empty lately.
    let now = c.loop-look.invariant.3 start before a watched all empty lately in
    in_vain _ _ start before (g.K.Station.seat c.loop-look.station) c.loop-look.self now.0 now.1
    (subst (λ (n : ℕ). 4294967295 ≤ waits_after n now.0.events) (sym c.loop-look.invariant.0.turns) (let least = now.2 in let most = c.loop-look-test.false in omega (arith, least, most)))

pub returns-in-Err-clause-still : goal.returns-in-Err-clause-still
returns-in-Err-clause-still g c = no_step _ _ _ c.loop-look.invariant.0 c.listen.ensures.still
