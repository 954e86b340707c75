-- The text of a map.
use Rattle.std.specs.Prelude.{ℕ, ◌+◌, ◌-◌, Bool, true, false, List, ◌++◌, codes, decimal, if◌then◌else◌, nat_lt}
use Rattle.std.specs.List.{flat_map}
use Rattle.common.specs.declared.limits.TheConstants.{FIRST_PLACE, LONGEST_PROGRAM}
use Rattle.program_map.specs.declared.maps.figures.Figures.{Figures}
use Rattle.program_map.specs.Named.{NamedPlace}
use Rattle.program_map.specs.Mapped.{MappedModule, MappedProgram}
use Rattle.program_map.specs.Printed.{address_text, blanks, number_column, line_feed_text}

-- the heading; where data is not told from code, one number_column counts both
abbrev pub heading : Bool → List ℕ
heading true = codes "first last     code    data   space  module\n"
heading false = codes "first last   code+data   space  module\n"

abbrev pub byte_columns : Bool → Figures → List ℕ
byte_columns true f = number_column 8 f.code ++ number_column 8 f.«data» ++ number_column 8 f.space
byte_columns false f = number_column 12 f.code ++ number_column 8 f.space

-- the address of the last byte; dashes if there are no bytes
abbrev pub last_text : ℕ → ℕ → List ℕ
last_text first end = if nat_lt first end then address_text (end - 1) else codes "----"

-- a row: the addresses of the first and the last byte, the bytes by what they are, and a name
abbrev pub map_row : Bool → ℕ → ℕ → Figures → List ℕ → List ℕ
map_row tells_data first end f name =
    address_text first ++ blanks 2 ++ last_text first end ++ byte_columns tells_data f ++ blanks 2 ++ name ++ line_feed_text

-- the line of a public name
abbrev pub public_row : NamedPlace → List ℕ
public_row n = blanks 6 ++ address_text n.place ++ blanks 2 ++ n.name ++ line_feed_text

-- the row of a module and those of its public names
abbrev pub module_rows : Bool → MappedModule → List ℕ
module_rows tells_data m = map_row tells_data m.first m.end m.figures m.name ++ flat_map public_row m.publics

abbrev pub jumps_line : Figures → List ℕ
jumps_line f = codes "jumps that may be short: " ++ (decimal f.jumps ++ (codes ", short: " ++ (decimal f.short ++ (codes ", long: " ++ (decimal f.long ++ codes "\n")))))

-- what is free after a program with this end
abbrev pub free_bytes : ℕ → ℕ
free_bytes end = (FIRST_PLACE + LONGEST_PROGRAM) - end

abbrev pub free_line : ℕ → List ℕ
free_line end = codes "free below FD00H: " ++ decimal (free_bytes end) ++ codes " bytes\n"

-- The map: a heading, the rows of the modules, a row for the whole program, the jumps, and what is free.
abbrev pub map_text : MappedProgram → List ℕ
map_text p =
    heading p.tells_data ++ flat_map (module_rows p.tells_data) p.modules ++ map_row p.tells_data FIRST_PLACE p.end p.total (codes "program")
    ++ jumps_line p.total ++ free_line p.end
