-- What private contracts say about the rows that a parse finds.
use Rattle.std.specs.Prelude.{◌≡◌, ◌⊎◌, ◌≤◌, ℕ, true, IfSome, List, [], Option, Some, codes, is_some}
use Rattle.clap.specs.Words.{App, Row, Shape, Text, first_of, kind_of, one_of, subcommand_of, with_rule}
use Rattle.clap.specs.declared.error.Error.{Error}
use Rattle.clap.specs.declared.error.kind.ErrorKind.TheVariants.{OutOfMemory}
use Rattle.z80dev_commands.specs.Commands.{IsMiscountedOf, AreParsed, ReadsAs, flag_rule, labels_rule, last_rule, option_rule, path_rule, user_rule, z80dev}

-- a command by itself
abbrev pub alone : Shape → App
alone s = record { top = s; subs = [] }

-- a command with the arguments of an image that it changes
abbrev pub with_target : App → App
with_target a = with_rule (with_rule (with_rule a user_rule) (flag_rule (codes "no-lock"))) (path_rule (codes "IMG"))

-- a command with the options of what `run` tells
abbrev pub with_telling : App → App
with_telling a = with_rule (with_rule (with_rule (with_rule (with_rule (with_rule a labels_rule) (flag_rule (codes "regs"))) last_rule)
    (option_rule (codes "trace") (codes "TRC"))) (option_rule (codes "profile") (codes "PRF"))) (option_rule (codes "list") (codes "LST"))

-- a parse without an error found these rows for the command with this name
abbrev pub AreFound : Text → List Row → Type 0
AreFound name rows = (words : List Text) × AreParsed words × (subcommand_of z80dev words ≡ Some (name, rows))

-- the value of a flag, if it has one, is `true` or `false`
abbrev pub IsFlag : Text → List Row → Type 0
IsFlag id rows = IfSome (one_of id rows) (λ text. (text ≡ codes "true") ⊎ (text ≡ codes "false"))

-- the value of an option, if it is given, is read as it is written, and is a number of at most `most`
abbrev pub IsNumber : Text → ℕ → List Row → Type 0
IsNumber id most rows = (one_of id rows ≡ first_of id rows) × IfSome (first_of id rows) (λ text. (n : ℕ) × ReadsAs text n × (n ≤ most))

-- the rows have what the image that a command changes is made from: its path, the user and the lock
abbrev pub HasTarget : List Row → Type 0
HasTarget rows = (is_some (first_of (codes "IMG") rows) ≡ true) × IsNumber (codes "N") 31 rows × IsFlag (codes "no-lock") rows

-- memory ran out, or the command that the parse found has a wrong number of paths
abbrev pub IsRefused : Option (Text × List Row) → Error → Type 0
IsRefused met e = (kind_of e ≡ OutOfMemory) ⊎ IsMiscountedOf met (kind_of e)
