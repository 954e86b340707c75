-- What `link` and `build` make besides the program.
use Rattle.std.specs.Prelude.{ℕ, false, List, Option, None, Some, codes, if◌then◌else◌}
use Rattle.std.specs.Borrow.{Bor}
use Rattle.std.specs.Str.{bytes_eq}
use Rattle.program_map.specs.declared.symbol_files.form.SymbolForm.{SymbolForm}
use Rattle.z80dev_commands.specs.declared.job.Build.{Build}
use Rattle.z80dev_commands.specs.declared.job.Link.{Link}
use Rattle.z80dev_make.specs.declared.products.Products.{Products}

-- the form of a file of symbols that a word of `--symbols` names
abbrev pub form_named : List ℕ → Option SymbolForm
form_named word = if bytes_eq word (codes "zsid") then Some SymbolForm.Sid else if bytes_eq word (codes "ucsim") then Some SymbolForm.Ucsim else None

abbrev pub symbols_form : Option (Bor (List ℕ)) → Option SymbolForm
symbols_form None = None
symbols_form (Some word) = form_named word.now

abbrev pub link_products : Link → Products
link_products link = record { list = false; «map» = link.«map»; symbols = symbols_form link.symbols }

abbrev pub build_products : Build → Products
build_products build = record { list = build.list; «map» = build.«map»; symbols = symbols_form build.symbols }
