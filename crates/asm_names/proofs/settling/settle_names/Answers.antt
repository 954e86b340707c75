use Rattle.std.proofs.Common.{◌∙◌, sym, ap, List, length, replicate, subst, None}
use Rattle.std.proofs.lemmas.List.{length-map, take_all}
use Rattle.asm_names.specs.Lines.{Taken, lines_of, taken_of}
use Rattle.asm_names.specs.Circles.{lines_named}
use Rattle.asm_names.specs.Layout.{layout_of}
use Rattle.asm_names.specs.Settles.{is_marked_circular}
use Rattle.asm_names.specs.Faults.{first}
use Rattle.asm_names.specs.Private.Turned.{Stands, numbered}
use Rattle.asm_names.proofs.Rounds.{turn_at}
use Rattle.asm_names.proofs.Turning.{Lines_in_order, all_faults, all_settled, can_take, known_lines, line_there, none_settled, turn_within, turned}
use Rattle.asm_names.proofs.settling.settle_names.Goals as goal

pub loop-turn-init : goal.loop-turn-init
loop-turn-init c =
    none_settled c.args.table.now (lines_of c.args.lines.now) (is_marked_circular c.args.turns.now) (layout_of c.args.layout.now) _ (rw (c.requires.names) (c.distinct.ensures (lines_of c.args.lines.now))) c.in_ok-places_of.ensures
    (c.in_ok-no_faults.ensures ∙ ap (λ n. replicate n None) (sym (length-map c.args.lines.now taken_of)))

pub bounds-lines-turn : goal.bounds-lines-turn
bounds-lines-turn c = turn_within (length c.args.lines.now) (lines_named c.args.table.now (lines_of c.args.lines.now)) c.args.turns.now c.loop-turn.turn-index c.requires.turns c.loop-turn-test.true

pub take-requires : goal.take-requires
take-requires c =
    let lines : List Taken = lines_of c.args.lines.now in
    let known : Lines_in_order c.args.table.now lines c.args.turns.now =
    known_lines c.args.table.now c.args.lines.now c.args.turns.now c.requires.names c.requires.sound c.requires.turns c.given.ensures.by c.given.ensures.each in
    let lt = turn_within (length c.args.lines.now) (lines_named c.args.table.now lines) c.args.turns.now c.loop-turn.turn-index c.requires.turns c.loop-turn-test.true in
    can_take c.args.table.now lines (layout_of c.args.layout.now) c.args.turns.now known c.loop-turn.turn-index _ c.loop-turn.settling c.loop-turn-test.true
    (line_there c.args.lines.now (turn_at c.args.turns.now c.loop-turn.turn-index).definition c.index-lines-turn.result lt) c.loop-turn.invariant

pub loop-turn-preserved : goal.loop-turn-preserved
loop-turn-preserved c =
    let lines : List Taken = lines_of c.args.lines.now in
    let known : Lines_in_order c.args.table.now lines c.args.turns.now =
    known_lines c.args.table.now c.args.lines.now c.args.turns.now c.requires.names c.requires.sound c.requires.turns c.given.ensures.by c.given.ensures.each in
    let lt = turn_within (length c.args.lines.now) (lines_named c.args.table.now lines) c.args.turns.now c.loop-turn.turn-index c.requires.turns c.loop-turn-test.true in
    turned c.args.table.now lines (layout_of c.args.layout.now) c.args.turns.now known c.loop-turn.turn-index _ c.loop-turn.settling c.take.new.self c.loop-turn-test.true
    (line_there c.args.lines.now (turn_at c.args.turns.now c.loop-turn.turn-index).definition c.index-lines-turn.result lt) c.loop-turn.invariant c.in_ok-take.ensures

pub returns : goal.returns
returns c =
    let lines : List Taken = lines_of c.args.lines.now in
    let known : Lines_in_order c.args.table.now lines c.args.turns.now =
    known_lines c.args.table.now c.args.lines.now c.args.turns.now c.requires.names c.requires.sound c.requires.turns c.given.ensures.by c.given.ensures.each in
    let stands : Stands c.args.table.now lines (is_marked_circular c.args.turns.now) (layout_of c.args.layout.now) c.args.turns.now c.loop-turn.settling =
    subst (λ ts. Stands c.args.table.now lines (is_marked_circular c.args.turns.now) (layout_of c.args.layout.now) ts c.loop-turn.settling)
    (take_all c.loop-turn.turn-index c.args.turns.now c.loop-turn-test.false) c.loop-turn.invariant in
    let all = all_settled c.args.table.now lines (layout_of c.args.layout.now) c.args.turns.now known c.loop-turn.settling stands in
    record { found = all.0; statements = stands.statements; each = all_faults c.args.table.now lines (layout_of c.args.layout.now) c.args.turns.now known c.loop-turn.settling stands; fault = c.first_of-fault.ensures ∙ ap (λ fs. first (numbered lines fs)) c.deref.ensures.value ∙ all.1 }
