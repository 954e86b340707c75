use Rattle.std.proofs.Common.{◌<◌, ◌≤◌, ◌++◌, ◌∷◌, ◌∙◌, List, [], ap, arith, get_or, length, map, sym, take}
use Rattle.std.proofs.lemmas.List.{get_or-map, length-map, map_push, take_all, take_more}
use Rattle.serde_json.specs.Data.{Data, array, null}
use Rattle.serde_json.specs.View.{items_of}
use Rattle.serde_json.proofs.Views.{view-Array}
use Rattle.report_texts.specs.Json.{json_note}
use Rattle.report_texts.proofs.json.notes_value.Goals as goal

pub loop-note-preserved : goal.loop-note-preserved
loop-note-preserved c =
    let all : List Data = map json_note c.args.notes.now in
    let k = c.loop-note.note-index in
    let lt : k < length all = omega (arith, c.loop-note-test.true, length-map c.args.notes.now json_note) in
    let at = get_or-map json_note c.args.notes.now k c.note-item.result null c.loop-note-test.true in
    let here = c.in_ok-value.ensures ∙ ap json_note c.note-item.is ∙ sym at in
    rw (c.in_ok-push.ensures.items, map_push, c.loop-note.invariant) (ap (λ p. take k all ++ p ∷ []) here ∙ sym (take_more all k null lt))

pub returns : goal.returns
returns c =
    let all : List Data = map json_note c.args.notes.now in
    let over : length all ≤ c.loop-note.note-index = omega (arith, c.loop-note-test.false, length-map c.args.notes.now json_note) in
    let whole = c.loop-note.invariant ∙ take_all c.loop-note.note-index all over in
    view-Array c.loop-note.values ∙ ap (λ ds. array (items_of ds)) whole
