-- What a word in upper case names.
use Rattle.std.specs.Prelude.{ℕ, List, Option}
use Rattle.std.specs.List.{find}
use Rattle.std.specs.Str.{bytes_eq}
use Rattle.z80_form.specs.Types.{Name, Mnemonic}
use Rattle.z80_form.specs.Words.{mnemonic_word, operand_word}
use Rattle.z80_form.specs.Named.{each_mnemonic, each_name}

abbrev pub mnemonic_read : List ℕ → Option Mnemonic
mnemonic_read name = find (λ m. bytes_eq name (mnemonic_word m)) each_mnemonic

abbrev pub name_read : List ℕ → Option Name
name_read name = find (λ n. bytes_eq name (operand_word n)) each_name
