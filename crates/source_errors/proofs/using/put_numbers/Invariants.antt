use Rattle.std.proofs.Common.{◌≡◌, ◌++◌, drop, map}
use Rattle.std.specs.List.{flat_map}
use Rattle.asm_names.specs.Circles.{names_in}
use Rattle.source_errors.proofs.using.put_numbers.Given as goal

-- What is there and what the other elements add is all.
abbrev pub invariant-loop-number : goal.invariant-loop-number
invariant-loop-number l = map (λ name. name.now) l.all.items ++ flat_map (λ n. names_in n.1) (drop l.number-index l.numbers) ≡ map (λ name. name.now) l.fn.all.items ++ flat_map (λ n. names_in n.1) l.numbers
