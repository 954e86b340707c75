-- The files that are made of a program, and their kinds.
use Rattle.std.specs.Prelude.{◌≡◌, ℕ, Bool, true, false, List, [], ◌∷◌, ◌++◌, Option, Some, None, length, map}
use Rattle.zlink.specs.Linked.{Symbol}
use Rattle.zlink.specs.declared.building.Built.{Built}
use Rattle.zlink.specs.declared.source.Source.{Source}
use Rattle.program_map.specs.Mapped.{MappedProgram}
use Rattle.program_map.specs.Programs.{IsMapOf}
use Rattle.program_map.specs.Sums.{IsWholeMap}
use Rattle.program_map.specs.SymbolFile.{symbol_file}
use Rattle.program_map.specs.Text.{map_text}
use Rattle.program_map.specs.declared.symbol_files.form.SymbolForm.{SymbolForm}
use Rattle.host.specs.declared.answer.Kind.{Kind}
use Rattle.host.specs.declared.answer.Kind.TheVariants as kind
use Rattle.z80dev_make.specs.declared.products.Products.{Products}

-- The kinds of the files of labels: those beside the listing, unless SID's have the same path, and those of ucsim.
abbrev pub symbol_kinds : Bool → Option SymbolForm → List Kind
symbol_kinds list (Some SymbolForm.Sid) = kind.Symbols ∷ []
symbol_kinds true (Some SymbolForm.Ucsim) = kind.Symbols ∷ kind.Ucsim ∷ []
symbol_kinds false (Some SymbolForm.Ucsim) = kind.Ucsim ∷ []
symbol_kinds true None = kind.Symbols ∷ []
symbol_kinds false None = []

abbrev pub listing_kinds : Bool → List Kind
listing_kinds true = kind.Listing ∷ []
listing_kinds false = []

abbrev pub map_kinds : Bool → List Kind
map_kinds true = kind.Map ∷ []
map_kinds false = []

-- the kinds of the files of a program, in the order in which they are written
abbrev pub program_kinds : Products → List Kind
program_kinds p = (kind.Sizes ∷ kind.Certificate ∷ kind.Com ∷ []) ++ listing_kinds p.list ++ symbol_kinds p.list p.symbols ++ map_kinds p.«map»

-- only the sizes file, the certificate and the .COM file
abbrev pub nothing_more : Products
nothing_more = record { list = false; «map» = false; symbols = None }

abbrev pub listing_files : Bool → List ℕ → List (Kind × List ℕ)
listing_files true text = (kind.Listing, text) ∷ []
listing_files false text = []

-- the files of labels, given the text of those beside the listing
abbrev pub symbol_files : Bool → Option SymbolForm → List ℕ → List Symbol → List (Kind × List ℕ)
symbol_files list (Some SymbolForm.Sid) plain labels = (kind.Symbols, symbol_file SymbolForm.Sid labels) ∷ []
symbol_files true (Some SymbolForm.Ucsim) plain labels = (kind.Symbols, plain) ∷ (kind.Ucsim, symbol_file SymbolForm.Ucsim labels) ∷ []
symbol_files false (Some SymbolForm.Ucsim) plain labels = (kind.Ucsim, symbol_file SymbolForm.Ucsim labels) ∷ []
symbol_files true None plain labels = (kind.Symbols, plain) ∷ []
symbol_files false None plain labels = []

abbrev pub map_files : Bool → List ℕ → List (Kind × List ℕ)
map_files true text = (kind.Map, text) ∷ []
map_files false text = []

-- The text of the map of a program that was built of these sources, if it is wanted. The figures of the map add up to the program's bytes.
abbrev pub IsMapText : Bool → Bool → List Source → Built → List ℕ → Type 0
IsMapText true grow sources b text = (m : MappedProgram) × IsMapOf grow sources b m × IsWholeMap (length b.com.items) m × (text ≡ map_text m)
IsMapText false grow sources b text = text ≡ []
