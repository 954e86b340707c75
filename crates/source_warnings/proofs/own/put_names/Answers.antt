use Rattle.std.proofs.Common.{◌≡◌, ◌∙◌, ◌+◌, ◌++◌, ◌∷◌, [], ap, sym, drop}
use Rattle.std.proofs.lemmas.List.{drop_more}
use Rattle.asm_spell.specs.Line.{listed_names}
use Rattle.source_warnings.specs.Noted.{noted_on}
use Rattle.source_warnings.specs.Private.Known.{Agrees, line_seen, says}
use Rattle.source_warnings.proofs.Agreeing.{agrees-step}
use Rattle.source_warnings.proofs.Steps.{name_more}
use Rattle.source_warnings.proofs.own.put_names.Goals as goal

pub loop-name-preserved : goal.loop-name-preserved
loop-name-preserved c =
    let i = c.loop-name.name-index in
    let item = c.name-item.result in
    let next : listed_names (drop i c.args.names.now) ≡ item.items ∷ listed_names (drop (i + 1) c.args.names.now) = ap listed_names (drop_more c.args.names.now i item c.loop-name-test.true) ∙ ap (λ x. x.items ∷ listed_names (drop (i + 1) c.args.names.now)) (sym c.name-item.is) in
    let was = rw next at c.loop-name.invariant.warnings in
    let noted = rw next at c.loop-name.invariant.noted in
    let agrees : Agrees c.note.new.self (c.loop-name.noted ++ (item.items, c.args.line.now.number) ∷ []) = rw c.deref-in-loop-name-2.ensures at c.in_ok-note.ensures in
    let said = rw (c.deref-in-loop-name.ensures, c.first-first.ensures, c.deref.ensures) at c.in_ok-put_name.ensures in
    record {
      warnings = name_more (says c.args.word c.args.mentioned.now (line_seen c.args.line.now)) c.args.line.now.number item.items (listed_names (drop (i + 1) c.args.names.now)) c.loop-name.noted c.note.new.self _ _ _ agrees said was;
      noted = agrees-step c.loop-name.noted c.note.new.self ((item.items, c.args.line.now.number) ∷ []) (noted_on c.args.line.now.number (listed_names (drop (i + 1) c.args.names.now))) _ agrees noted;
    }
