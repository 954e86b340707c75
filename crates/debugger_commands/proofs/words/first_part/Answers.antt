use Rattle.std.proofs.Common.{ap, length, sym, ◌∙◌, ◌∷◌, []}
use Rattle.std.specs.Char.{is_ascii_whitespace}
use Rattle.std.specs.List.{slice_split}
use Rattle.debugger_commands.proofs.Parts.{part_last, part_then}
use Rattle.debugger_commands.proofs.words.first_part.Goals as goal

pub returns-in-Some-clause-parts : goal.returns-in-Some-clause-parts
returns-in-Some-clause-parts c =
    let after = c.in-Some.after.now in
    let split = part_then is_ascii_whitespace c.args.text.now _ after _ c.part_len.ensures.len (sym c.split_at.ensures.back ∙ c.in-Some.ensures.cases.0) in
    split ∙ ap (λ part. part ∷ slice_split is_ascii_whitespace after) (sym c.split_at.ensures.front)

pub returns-in-None-clause-parts : goal.returns-in-None-clause-parts
returns-in-None-clause-parts c =
    let split = part_last is_ascii_whitespace c.args.text.now _ c.part_len.ensures.len (ap length (sym c.split_at.ensures.back) ∙ c.in-None.ensures.cases) in
    split ∙ ap (λ part. part ∷ []) (sym c.split_at.ensures.front)
