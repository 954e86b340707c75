-- The whole program of modules: their statements, one after the other, and which statement each ref stands for.
use Rattle.std.specs.Prelude.{◌≡◌, ℕ, ◌+◌, ◌-◌, List, [], if◌then◌else◌, length, map, nat_le}
use Rattle.std.specs.List.{AllZip, flat_map, slice_index_or}
use Rattle.std.specs.Option.{option_map_or}
use Rattle.zmo_object.specs.Modules.{Module, ModuleStatement}
use Rattle.zlink.specs.declared.program.joining.Links.{Links}
use Rattle.zlink.specs.Program.Parts.{ModulePart, Publics, public_found, parts, all_publics}

-- the statement for which a public name stands; if modules have no error together, every external is such a name
abbrev pub public_statement : Publics → List ℕ → ℕ
public_statement publics name = option_map_or (λ n. n) (public_found publics name) 0

-- What a ref of a module stands for in the program: up to the count of its statements, one of these or their end; after that, an external.
abbrev pub stands : Publics → ModulePart → ℕ → ℕ
stands publics p ref =
    if nat_le ref (length p.holds.statements) then p.base + ref
    else public_statement publics (slice_index_or p.holds.externals (ref - (length p.holds.statements + 1)) [])

-- A statement of a module, and for which statement of the program each of its refs stands.
pub record Placed : Type 0 where
  pub statement : ModuleStatement
  pub stands : ℕ → ℕ

abbrev pub placed_statements : Publics → ModulePart → List Placed
placed_statements publics p = map (λ s. record { statement = s; stands = stands publics p }) p.holds.statements

-- the statements of the whole program
abbrev pub program : List Module → List Placed
program modules = flat_map (placed_statements (all_publics (parts modules))) (parts modules)

-- The links of a module: the number of its first statement in the program, and the statement for which each external stands.
pub record IsLinks (publics : Publics) (p : ModulePart) (l : Links) : Type 0 where
  pub base : l.base ≡ p.base
  pub externals : l.externals.items ≡ map (public_statement publics) p.holds.externals

abbrev pub AreLinks : List Module → List Links → Type 0
AreLinks modules links = AllZip (IsLinks (all_publics (parts modules))) (parts modules) links
