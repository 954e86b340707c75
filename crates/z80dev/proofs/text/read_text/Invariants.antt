use Rattle.z80dev.proofs.TextSoFar.{TextSoFar}
use Rattle.z80dev.proofs.text.read_text.Given as goal

abbrev pub invariant-loop-turn : goal.invariant-loop-turn
invariant-loop-turn g l = TextSoFar (g.I.Input.remaining l.fn.input) (g.I.Input.remaining l.input) l.text.items (g.I.Input.failed l.input) (g.I.Input.reads l.input) (g.I.Input.interruptions l.input) l.turn
