use Rattle.std.proofs.Common.{◌≡◌, ◌++◌, map}
use Rattle.std.specs.Option.{option_map}
use Rattle.source_errors.specs.Findings.{finding_of, name_told}
use Rattle.source_errors.proofs.judging.put_each.Given as goal

-- An error was appended for each name so far.
abbrev pub invariant-loop-name : goal.invariant-loop-name
invariant-loop-name l =
    map finding_of l.findings.items ≡ map finding_of l.fn.findings.items
    ++ map (λ name. record { line = record { number = l.number; text = l.text }; why = l.why; name = name_told l.why name }) (map (option_map (λ name. name.items)) l.yielded)
