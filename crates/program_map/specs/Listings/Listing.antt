-- The listing of a program.
use Rattle.std.specs.Prelude.{ℕ, ◌-◌, ◌==◌, ◌&&◌, List, [], ◌∷◌, Option, Some, None, filter, map, take, drop}
use Rattle.std.specs.List.{enumerate_from, flat_map, zip}
use Rattle.common.specs.declared.limits.TheConstants.{FIRST_PLACE}
use Rattle.asm_macro.specs.Texts.{source_lines}
use Rattle.zlink.specs.Built.{Origin, origin_of}
use Rattle.zlink.specs.declared.building.Built as built
use Rattle.zlink.specs.declared.source.Source as source
use Rattle.program_map.specs.Listings.Printed.{Byte, listed_line}

-- the bytes of a file, each with its number
abbrev pub file_bytes : List ℕ → List Byte
file_bytes file = map (λ b. record { number = b.0; value = b.1 }) (enumerate_from 0 file)

-- the part of a file from an address up to the next one, or to the end if there is no next one
abbrev pub file_between : {X : Type 0} → ℕ → Option ℕ → List X → List X
file_between place None file = drop (place - FIRST_PLACE) file
file_between place (Some next) file = take (next - place) (drop (place - FIRST_PLACE) file)

-- the address of the first of some statements
abbrev pub first_place : List Origin → Option ℕ
first_place [] = None
first_place (o ∷ os) = Some o.place

-- A statement: its source, its line, and its bytes.
pub record ListedStatement : Type 0 where
  pub source : ℕ
  pub line : ℕ
  pub bytes : List Byte

-- The statements of a file. Each has the bytes from its address up to the next statement's, or to the end of the file.
abbrev pub listed_statements : List Byte → List Origin → List ListedStatement
listed_statements file [] = []
listed_statements file (o ∷ os) = record { source = o.source; line = o.line; bytes = file_between o.place (first_place os) file } ∷ listed_statements file os

-- the bytes of a line: those of its statements
abbrev pub line_bytes : List ListedStatement → ℕ → ℕ → List Byte
line_bytes statements number line = flat_map (λ p. p.bytes) (filter (λ p. (p.source == number) && (p.line == line)) statements)

-- the lines of a source, from 1 on, up to the last that is listed
abbrev pub listed_source : List ListedStatement → ℕ → ℕ → List ℕ → List ℕ
listed_source statements number last text =
    flat_map (λ l. listed_line l.1 (line_bytes statements number l.0)) (enumerate_from 1 (take last (source_lines text)))

-- The listing: for each source, numbered from 0, each line with its bytes.
abbrev pub listing : built.Built → List source.Source → List ℕ
listing b sources =
    let statements = listed_statements (file_bytes b.com.items) (map origin_of b.statements.items) in
    flat_map (λ s. listed_source statements s.0 s.1.0 s.1.1.text.now) (enumerate_from 0 (zip b.last.items sources))
