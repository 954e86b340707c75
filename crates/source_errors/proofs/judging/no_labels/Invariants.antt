use Rattle.std.proofs.Common.{◌≡◌, ◌++◌, drop, map, Some}
use Rattle.std.specs.Option.{option_map}
use Rattle.std.specs.Prelude.{filter, not}
use Rattle.asm_names.specs.Names.{kind_of_name}
use Rattle.asm_module.specs.Module.Faults.{is_label}
use Rattle.source_errors.proofs.judging.no_labels.Given as goal

-- What is there and what the other elements add is all.
abbrev pub invariant-loop-name : goal.invariant-loop-name
invariant-loop-name l = map (option_map (λ name. name.items)) l.all.items ++ map Some (filter (λ name. not (is_label (kind_of_name l.table name))) (map (λ name. name.now) (drop l.name-index l.names)))
    ≡ map Some (filter (λ name. not (is_label (kind_of_name l.table name))) (map (λ name. name.now) l.names))
