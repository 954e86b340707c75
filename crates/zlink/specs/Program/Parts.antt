-- Modules put one after the other, and the names that they give to each other.
use Rattle.std.specs.Prelude.{ℕ, ◌+◌, List, [], ◌∷◌, Option, length, map}
use Rattle.std.specs.List.{flat_map, slice_index_or}
use Rattle.std.specs.Map.{lookup}
use Rattle.std.specs.Str.{bytes_eq}
use Rattle.zmo_object.specs.Modules.{Label, Module}

-- A module among others: its number, and how many statements come before its own.
pub record ModulePart : Type 0 where
  pub number : ℕ
  pub base : ℕ
  pub holds : Module

abbrev pub parts_from : ℕ → ℕ → List Module → List ModulePart
parts_from number base [] = []
parts_from number base (m ∷ ms) = record { number = number; base = base; holds = m } ∷ parts_from (number + 1) (base + length m.statements) ms

-- all modules in their order, each with its base
abbrev pub parts : List Module → List ModulePart
parts modules = parts_from 0 0 modules

-- the label with this number; a label without a name if there is none
abbrev pub label_at : Module → ℕ → Label
label_at m l = slice_index_or m.labels l (record { statement = 0; name = [] })

-- names, each with the number of a statement of the program
abbrev pub Publics : Type 0
Publics = List (List ℕ × ℕ)

-- a label's name, with the number of its statement in the program
abbrev pub given_label : ModulePart → ℕ → List ℕ × ℕ
given_label p l = ((label_at p.holds l).name, p.base + (label_at p.holds l).statement)

-- the public labels of a part
abbrev pub public_labels : ModulePart → Publics
public_labels p = map (given_label p) p.holds.publics

-- the public labels of all parts
abbrev pub all_publics : List ModulePart → Publics
all_publics ps = flat_map public_labels ps

-- the number of the statement for which a public name stands, if there is such a name
abbrev pub public_found : Publics → List ℕ → Option ℕ
public_found publics name = lookup (bytes_eq name) publics
