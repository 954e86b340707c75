-- Which jump lies between an address and a byte near it.
use Rattle.std.specs.Prelude.{ℕ, ◌-◌, List, [], ◌∷◌, Option, Some, None, if◌then◌else◌, drop, length, map, nat_lt, reverse, take}
use Rattle.std.specs.Option.{option_map_or}
use Rattle.asm_parse.specs.Values.Arithmetic.{modulus}
use Rattle.zmo_object.specs.Modules as object
use Rattle.zmo_object.specs.Modules.{ModuleStatement}
use Rattle.source_warnings.specs.declared.jumps.part.Site.{Site}

-- how many bytes a statement takes in every choice of jumps; None for a relaxable jump
abbrev pub fixed_size : ModuleStatement → Option ℕ
fixed_size (object.Bytes bytes holes) = Some (length bytes)
fixed_size (object.Jump marked condition target) = None
fixed_size (object.Short branch target) = Some 2
fixed_size (object.Space size fill) = Some size

-- the statements of a program, each with its site and its fixed size
abbrev pub Sizes : Type 0
Sizes = List (Site × Option ℕ)

abbrev pub sizes_of : List (Site × ModuleStatement) → Sizes
sizes_of statements = map (λ s. (s.0, fixed_size s.1)) statements

-- the first relaxable jump of some statements, if fewer than `bytes` bytes come before it
abbrev pub jump_within : ℕ → Sizes → Option Site
jump_within bytes [] = None
jump_within bytes (s ∷ rest) = option_map_or (λ size. jump_within (bytes - size) rest) s.1 (if nat_lt 0 bytes then Some s.0 else None)

-- The jump on whose form it depends which byte is this many bytes after the address of statement k: the first relaxable jump from there on,
-- if the byte is past its first byte. From 32,768 on, the byte is before the address: then it is the last relaxable jump before statement k,
-- if the byte is one of its own or before it.
abbrev pub jump_over : Sizes → ℕ → ℕ → Option Site
jump_over sizes k bytes = if nat_lt bytes 32768 then jump_within bytes (drop k sizes) else jump_within (modulus - bytes) (reverse (take k sizes))
