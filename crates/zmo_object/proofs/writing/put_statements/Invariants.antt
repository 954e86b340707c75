use Rattle.std.proofs.Common.{◌≡◌, ◌++◌, take, map}
use Rattle.std.specs.List.{flat_map}
use Rattle.zmo_object.specs.Modules.{statement_of}
use Rattle.zmo_object.specs.Texts.{statement_text}
use Rattle.zmo_object.proofs.writing.put_statements.Given as goal

abbrev pub invariant-loop-statement : goal.invariant-loop-statement
invariant-loop-statement l = l.text.items ≡ l.initial.text.items ++ flat_map statement_text (map statement_of (take l.statement-index l.statements))
