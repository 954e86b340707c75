-- The answers of `link` and `build_with` as plain lists, so that two answers can be compared.
use Rattle.std.specs.Prelude.{◌≡◌, ◌⊎◌, ℕ, List, Result, Ok, Err}
use Rattle.asm_module.specs.declared.fault.AsmFault.{AsmFault}
use Rattle.zlink.specs.declared.building.Built.{Built}
use Rattle.zlink.specs.declared.fault.BuildFault.{BuildFault}
use Rattle.zlink.specs.declared.fault.BuildFault.TheVariants as build
use Rattle.zlink.specs.declared.fault.LinkFault.{LinkFault}
use Rattle.zlink.specs.declared.fault.LinkFault.TheVariants as link
use Rattle.zlink.specs.declared.fault.Misfit.{Misfit}
use Rattle.zlink.specs.declared.linking.Linked.{Linked}
use Rattle.zlink.specs.Built.{built_output}
use Rattle.zlink.specs.Linked.{Output, linked_output}

-- The outcomes: a file with the other outputs; the reason why no choice fits, with sizes file and certificate; the reason why the modules
-- are no program; or the first error of the first source that has one.
pub data Outcome : Type 0 where
  Makes : Output → Outcome
  FitsNowhere : Misfit → List ℕ → List ℕ → Outcome
  IsNoProgram : LinkFault → Outcome
  IsFaulty : ℕ → AsmFault → Outcome

-- the outcome of a refusal of `link`
abbrev pub fault_outcome : LinkFault → Outcome
fault_outcome (link.NoFit why sizes cert) = FitsNowhere why sizes.items cert.items
fault_outcome fault = IsNoProgram fault

abbrev pub linked_outcome : Result Linked LinkFault → Outcome
linked_outcome (Ok l) = Makes (linked_output l)
linked_outcome (Err fault) = fault_outcome fault

-- the outcome of `build_with`
abbrev pub built_outcome : Result Built BuildFault → Outcome
built_outcome (Ok b) = Makes (built_output b)
built_outcome (Err (build.Link fault)) = fault_outcome fault
built_outcome (Err (build.Asm source fault)) = IsFaulty source fault

-- the outcome if memory ran out
abbrev pub without_memory : Outcome
without_memory = IsNoProgram link.NoMemory

-- The two outcomes are the same, or memory ran out in one of them.
abbrev pub AreSame : Outcome → Outcome → Type 0
AreSame one other = (one ≡ other) ⊎ ((one ≡ without_memory) ⊎ (other ≡ without_memory))
