-- Values of options that are wrong: the texts with which they are refused.
use Rattle.std.specs.Prelude.{ℕ, List, ◌++◌, Option, None, Some, codes, if◌then◌else◌, is_some}
use Rattle.std.specs.Borrow.{Bor}
use Rattle.std.specs.Option.{option_map}
use Rattle.z80dev_commands.specs.declared.job.Build.{Build}
use Rattle.z80dev_commands.specs.declared.job.Shared.{Shared}
use Rattle.z80dev.specs.Making.{defines_of}
use Rattle.z80dev.specs.Products.{form_named}
use Rattle.report_texts.specs.Defines.{first_bad}
use Rattle.host.specs.Reporting.{either}

-- the text for the first definition that is not NAME=VALUE
abbrev pub bad_define : Shared → Option (List ℕ)
bad_define shared = option_map (λ word. codes "BadDefine(" ++ word ++ codes ")") (first_bad (defines_of shared))

-- the text for a value of `--symbols` that names no form
abbrev pub bad_symbols : Option (Bor (List ℕ)) → Option (List ℕ)
bad_symbols None = None
bad_symbols (Some word) = if is_some (form_named word.now) then None else Some (codes "BadSymbols(" ++ word.now ++ codes ")")

-- the text for the first value of `build` that is wrong: a definition, then the form of the symbols
abbrev pub bad_in_build : Build → Option (List ℕ)
bad_in_build build = either (bad_define build.shared) (bad_symbols build.symbols)
