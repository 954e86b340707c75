-- The statements of a program of modules.
use Rattle.std.specs.Prelude.{ℕ, ◌+◌, ◌-◌, List, [], ◌∷◌, Option, Some, if◌then◌else◌, length, map, nat_le, slice_get}
use Rattle.std.specs.List.{enumerate_from, flat_map}
use Rattle.zmo_object.specs.Modules.{Module, ModuleStatement, module_of}
use Rattle.source_warnings.specs.declared.jumps.part.Part as part
use Rattle.source_warnings.specs.declared.jumps.part.Site.{Site}

-- A module of a program, and the number of the statement for which each of its externals stands.
pub record Member : Type 0 where
  pub holds : Module
  pub externals : List ℕ

abbrev pub member_of : part.Part → Member
member_of p = record { holds = module_of p.«module».now; externals = p.externals.now }

-- A module of a program: its number, the number of its first statement in the program, what it holds, and for which statement each of its
-- externals stands.
pub record PlacedModule : Type 0 where
  pub number : ℕ
  pub base : ℕ
  pub holds : Module
  pub externals : List ℕ

abbrev pub modules_from : ℕ → ℕ → List Member → List PlacedModule
modules_from number base [] = []
modules_from number base (m ∷ ms) = record { number = number; base = base; holds = m.holds; externals = m.externals } ∷ modules_from (number + 1) (base + length m.holds.statements) ms

abbrev pub placed_modules : List Member → List PlacedModule
placed_modules members = modules_from 0 0 members

-- statements of a module, numbered from this one, each with its site
abbrev pub sited_from : ℕ → ℕ → List ModuleStatement → List (Site × ModuleStatement)
sited_from number first statements = map (λ s. (record { «module» = number; statement = s.0 }, s.1)) (enumerate_from first statements)

abbrev pub sited : PlacedModule → List (Site × ModuleStatement)
sited p = sited_from p.number 0 p.holds.statements

-- the statements of the program, each with its site
abbrev pub sited_statements : List Member → List (Site × ModuleStatement)
sited_statements members = flat_map sited (placed_modules members)

-- The statement for which a ref stands: up to the count of the module's statements, one of these or their end; after that, an external.
abbrev pub stands_at : PlacedModule → ℕ → Option ℕ
stands_at p ref =
    if nat_le ref (length p.holds.statements) then Some (p.base + ref)
    else slice_get p.externals (ref - (length p.holds.statements + 1))
