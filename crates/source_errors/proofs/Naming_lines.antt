-- Sources with too many statements or names.
use Rattle.std.proofs.Common.{◌≡◌, ℕ, List, Some, Err}
use Rattle.asm_names.specs.declared.fault.NameFault.{NameFault}
use Rattle.asm_names.specs.Faults.{IsNamed, first_name_fault}
use Rattle.asm_names.specs.Lines.{Taken}
use Rattle.asm_module.specs.Whys.{name_why}
use Rattle.asm_module.specs.declared.fault.Why.{Why}
use Rattle.source_errors.specs.Private.State.{why_of}

some_same : (a b : Why) → Some a ≡ Some b → a ≡ b
some_same a b is = cc

pub named_wrong : (ls : List Taken) (number : ℕ) (why : NameFault) (w : Why) → why_of why ≡ Some w → IsNamed ls (Err (number, why)) → (first_name_fault ls ≡ Some (number, why)) × (name_why why ≡ w)
named_wrong ls number NameFault.Duplicate w is named = (named, some_same _ _ is)
named_wrong ls number NameFault.TooManyStatements w is named = (named, some_same _ _ is)
named_wrong ls number NameFault.TooManyNames w is named = (named, some_same _ _ is)
named_wrong ls number NameFault.NoMemory w is named = absurd cc
