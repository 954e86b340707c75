use Rattle.std.proofs.Common.{◌≡◌, ◌∷◌, ◌++◌, [], sym, ap}
use Rattle.std.proofs.lemmas.Result.{on_ok_weaker}
use Rattle.source_warnings.specs.Noted.{first_noted}
use Rattle.source_warnings.specs.Private.Known.{Agrees}
use Rattle.source_warnings.proofs.Agreeing.{agrees-known}
use Rattle.source_warnings.proofs.first_lines.FirstLines.note.Goals as goal

pub returns-in-Some : goal.returns-in-Some
returns-in-Some c = agrees-known c.args.self.now c.args.name.now c.args.number c.in-Some.field-0 (sym c.in-Some.ensures)

pub returns-in-None : goal.returns-in-None
returns-in-None c =
    let same : (c.insert.new.self ≡ c.args.self.now ++ (c.args.name.now, c.args.number) ∷ [] → Agrees c.insert.new.self (c.args.self.now ++ (c.args.name.now, c.args.number) ∷ [])) = λ new q. ap (λ t. first_noted t q) new in
    on_ok_weaker c.insert.result same c.insert.ensures
