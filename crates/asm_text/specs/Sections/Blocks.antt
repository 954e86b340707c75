-- The body or the branches of a block, given the lines after its MACRO, REPT or IF line; and the lines after the block.
-- In words: docs/LANGUAGE.md, section 'REPT and IF'.
use Rattle.std.specs.Prelude.{ℕ, ◌+◌, List, [], ◌∷◌, Option, map, take, drop, slice_index_or, sum}
use Rattle.std.specs.Option.{option_map}
use Rattle.asm_text.specs.Nesting.Blocks.{Lengths, body_length, branch_lengths}
use Rattle.asm_text.specs.Lines.{Numbered}
use Rattle.asm_text.specs.Roles.{roles}

-- some lines, and the ELSE, ENDIF or ENDM after them
pub record Section : Type 0 where
  pub lines : List Numbered
  pub end : Numbered

-- the first n lines, and the one after them
abbrev pub section : ℕ → List Numbered → Section
section n lines = record { lines = take n lines; end = slice_index_or lines n (record { number = 0; text = [] }) }

-- a body up to its ENDM, and the lines after that
pub record BlockBody : Type 0 where
  pub section : Section
  pub after : List Numbered

abbrev pub body_of_length : List Numbered → ℕ → BlockBody
body_of_length lines n = record { section = section n lines; after = drop (n + 1) lines }

-- the body of a MACRO or REPT that these lines follow, if an ENDM among them closes it
abbrev pub block_body : List Numbered → Option BlockBody
block_body lines = option_map (body_of_length lines) (body_length 0 (roles lines))

-- the branches of an IF, each up to the next ELSE or the ENDIF, and the lines after the ENDIF
pub record Branches : Type 0 where
  pub first : Section
  pub others : List Section
  pub after : List Numbered

abbrev pub sections_of : List ℕ → List Numbered → List Section
sections_of [] lines = []
sections_of (n ∷ ns) lines = section n lines ∷ sections_of ns (drop (n + 1) lines)

abbrev pub branches_of_lengths : List Numbered → Lengths → Branches
branches_of_lengths lines lengths =
    let more = drop (lengths.0 + 1) lines in
    record { first = section lengths.0 lines; others = sections_of lengths.1 more; after = drop (sum (map (λ n. n + 1) lengths.1)) more }

-- the branches of an IF that these lines follow, if an ENDIF among them closes it
abbrev pub branches_of : List Numbered → Option Branches
branches_of lines = option_map (branches_of_lengths lines) (branch_lengths 0 0 (roles lines))
