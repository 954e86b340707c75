use Rattle.std.proofs.Common.{◌≡◌, ◌++◌, drop, map}
use Rattle.asm_spell.specs.Line.{listed_names}
use Rattle.source_errors.proofs.using.put_names.Given as goal

-- What is there and what the other elements add is all.
abbrev pub invariant-loop-name : goal.invariant-loop-name
invariant-loop-name l = map (λ name. name.now) l.all.items ++ listed_names (drop l.name-index l.names) ≡ map (λ name. name.now) l.fn.all.items ++ listed_names l.names
