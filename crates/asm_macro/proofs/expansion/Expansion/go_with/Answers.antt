use Rattle.std.proofs.Common.{◌∙◌, ◌+◌, ap, length, subst, sym, Err}
use Rattle.std.proofs.lemmas.Result.{err_from_is_err_and}
use Rattle.asm_text.specs.Spans.{text_of}
use Rattle.asm_text.specs.Sections.Views.{onward_seen}
use Rattle.asm_macro.specs.Private.Frames.{innermost}
use Rattle.asm_macro.specs.Parts.{onward_part}
use Rattle.asm_macro.specs.Private.Moves.{Resumes, moved, rest_of, state_of, tables_in}
use Rattle.asm_macro.proofs.Turned.{fits_into, gone_into, sound_into, stopped_into}
use Rattle.asm_macro.proofs.expansion.Expansion.go_with.Goals as goal

pub returns-in_err-count_turn-in-Into-clause-gone : goal.returns-in_err-count_turn-in-Into-clause-gone
returns-in_err-count_turn-in-Into-clause-gone c =
    let x = c.args.self.now in
    let y = c.count_turn.new.self in
    let texts = x.lines in
    let names = innermost (tables_in x) in
    let depth = (rest_of x).depth in
    let why = c.in_err-count_turn-in-Into.field-0.0 in
    let p = err_from_is_err_and c.from_residual.result c.from_residual.ensures.1 in
    rw (p.1, p.2) (subst (λ o. Resumes (Err why) (rest_of y) (moved depth (rest_of x).around (onward_part depth (state_of x) (onward_seen texts names o)))) (sym c.in-Into.is)
    (stopped_into (rest_of y) depth (rest_of x).around why _ _ _ _ _ (c.in_err-count_turn-in-Into.ensures.enters texts names depth (text_of texts names c.in-Into.text))))

pub returns-in_ok-push-in-Into-clause-sound : goal.returns-in_ok-push-in-Into-clause-sound
returns-in_ok-push-in-Into-clause-sound c =
    let x = c.args.self.now in
    let texts = x.lines in
    let names = innermost (tables_in x) in
    let counted = c.in_ok-count_turn-in-Into.ensures in
    let fits = fits_into (length x.calls.items + x.turns) texts names c.args.onward c.in-Into.text c.in-Into.following c.in-Into.is c.requires.fits in
    sound_into x c.count_turn.new.self c.push.new.self.items c.in-Into.following texts names c.requires.sound fits counted.counted counted.few c.in_ok-push-in-Into.ensures.items

pub returns-in_ok-push-in-Into-clause-gone : goal.returns-in_ok-push-in-Into-clause-gone
returns-in_ok-push-in-Into-clause-gone c =
    let x = c.args.self.now in
    let texts = x.lines in
    let names = innermost (tables_in x) in
    let depth = (rest_of x).depth in
    let counted = c.in_ok-count_turn-in-Into.ensures in
    let many = length x.calls.items + x.turns in
    let fits = fits_into many texts names c.args.onward c.in-Into.text c.in-Into.following c.in-Into.is c.requires.fits in
    ap (λ o. moved depth (rest_of x).around (onward_part depth (state_of x) (onward_seen texts names o))) c.in-Into.is
    ∙ ap (moved depth (rest_of x).around) (counted.enters texts names depth (text_of texts names c.in-Into.text))
    ∙ gone_into x c.count_turn.new.self c.push.new.self.items c.in-Into.following c.in-Into.text many c.requires.sound fits counted.counted c.in_ok-push-in-Into.ensures.items
