-- Which words the command accepts, and which job they ask for.
use Rattle.std.specs.Prelude.{◌≡◌, ◌<◌, ◌≤◌, ◌^◌, ◌⊎◌, ℕ, Bool, true, false, not, if◌then◌else◌, IfSome, List, [], ◌∷◌, ◌++◌, Option, None, Some, codes, length, map, option_map, unwrap_or}
use Rattle.std.specs.Borrow.{Bor}
use Rattle.std.specs.Option.{option_map_or}
use Rattle.std.specs.Str.{bytes_eq}
use Rattle.std.specs.Str.Parse.{IsNumeral, digits_value, without_leading_plus}
use Rattle.clap.specs.Lexer.{usize_max}
use Rattle.clap.specs.Words.{App, Row, Rule, Shape, Text, all_of, fault_of, first_of, new_rule, one_of, subcommand_of, with_subcommand}
use Rattle.clap.specs.Simple.{new_shape}
use Rattle.clap.specs.declared.builder.action.ArgAction.TheVariants.{Append, Set, SetTrue}
use Rattle.clap.specs.declared.builder.value_parser.ValueParser.TheVariants.{Unsigned}
use Rattle.clap.specs.declared.error.kind.ErrorKind.{ErrorKind}
use Rattle.clap.specs.declared.error.kind.ErrorKind.TheVariants.{MissingRequiredArgument, TooManyValues}
use Rattle.z80dev_commands.specs.declared.job.Attribute.{Attribute}
use Rattle.z80dev_commands.specs.declared.job.Attribute.TheVariants.{ReadOnly, System}
use Rattle.z80dev_commands.specs.declared.job.DiskJob.{DiskJob}
use Rattle.z80dev_commands.specs.declared.job.DiskJob.TheVariants as on
use Rattle.z80dev_commands.specs.declared.job.Job.{Job}
use Rattle.z80dev_commands.specs.declared.job.Job.TheVariants.{Pipe, Asm, Link, Build, Explain, Check, Dis, Disk, Run, Debug, Play}
use Rattle.z80dev_commands.specs.declared.job.Manner.{Manner}
use Rattle.z80dev_commands.specs.declared.job.Shared.{Shared}
use Rattle.z80dev_commands.specs.declared.job.Target.{Target}
use Rattle.z80dev_commands.specs.declared.job.Telling.{Telling}

-- ---- arguments

-- a required path
abbrev pub path_rule : Text → Rule
path_rule name = record (new_rule name) { required = true; action = Some Set }

-- a name that need not be given
abbrev pub name_rule : Text → Rule
name_rule name = record (path_rule name) { required = false }

-- one or more paths
abbrev pub paths_rule : Text → Rule
paths_rule name = record (new_rule name) {
  required = true;
  action = Some Append;
  range = Some (record { start_inclusive = 1; end_inclusive = usize_max });
}

-- any number of words, even none
abbrev pub words_rule : Text → Rule
words_rule name = record (paths_rule name) { required = false }

-- `--out BASE`, or `-o BASE`, which need not be given
abbrev pub base_rule : Rule
base_rule = record (name_rule (codes "BASE")) { long = Some (codes "out"); short = Some 111 }

-- `--NAME ID`, which need not be given
abbrev pub option_rule : Text → Text → Rule
option_rule name id = record (new_rule id) { long = Some name; action = Some Set }

-- `--labels SYM`
abbrev pub labels_rule : Rule
labels_rule = option_rule (codes "labels") (codes "SYM")

-- `--NAME ID`, which may be given any number of times
abbrev pub list_rule : Text → Text → Rule
list_rule name id = record (option_rule name id) { action = Some Append }

-- `--define NAME=VALUE` and `--with FILE`, each any number of times
abbrev pub define_rule : Rule
define_rule = list_rule (codes "define") (codes "NAME=VALUE")

abbrev pub with_file_rule : Rule
with_file_rule = list_rule (codes "with") (codes "FILE")

-- `--symbols FORM`
abbrev pub symbols_rule : Rule
symbols_rule = option_rule (codes "symbols") (codes "FORM")

-- `--color WHEN`
abbrev pub color_rule : Rule
color_rule = option_rule (codes "color") (codes "WHEN")

-- `--NAME ID` with a number from 0 to `most` as its value
abbrev pub number_rule : Text → Text → ℕ → Rule
number_rule name id most = record (option_rule name id) { parser = Some (Unsigned 0 most) }

-- `--steps N`, with any number below 2 ^ 64
abbrev pub steps_rule : Rule
steps_rule = number_rule (codes "steps") (codes "N") 18446744073709551615

-- `--user N`, with a number from 0 to 31
abbrev pub user_rule : Rule
user_rule = number_rule (codes "user") (codes "N") 31

-- `--last COUNT`, with a number from 0 to 1,000,000
abbrev pub last_rule : Rule
last_rule = number_rule (codes "last") (codes "COUNT") 1000000

-- the flag `--NAME`
abbrev pub flag_rule : Text → Rule
flag_rule name = record (new_rule name) { long = Some name; action = Some SetTrue }

-- `--verbose`, or `-v`
abbrev pub verbose_rule : Rule
verbose_rule = record (flag_rule (codes "verbose")) { short = Some 118 }

-- the arguments of a command that changes an image: `[--user N] [--no-lock] IMG`
abbrev pub target_rules : List Rule
target_rules = user_rule ∷ flag_rule (codes "no-lock") ∷ path_rule (codes "IMG") ∷ []

-- ---- commands

-- a command with this name and these arguments
abbrev pub with_rules : Text → List Rule → Shape
with_rules name rules = record (new_shape name) { rules = rules }

-- `asm [--out BASE] [--grow] [--no-warn] [--define NAME=VALUE].. [--with FILE].. SRC`
abbrev pub asm_shape : Shape
asm_shape = with_rules (codes "asm") (base_rule ∷ flag_rule (codes "grow") ∷ flag_rule (codes "no-warn") ∷ define_rule ∷ with_file_rule ∷ path_rule (codes "SRC") ∷ [])

-- `link [--out BASE] [--map] [--symbols FORM] OBJ..`
abbrev pub link_shape : Shape
link_shape = with_rules (codes "link") (base_rule ∷ flag_rule (codes "map") ∷ symbols_rule ∷ paths_rule (codes "OBJ") ∷ [])

-- `build [--out BASE] [--grow] [--list] [--map] [--symbols FORM] [--verbose] [--no-warn] [--define NAME=VALUE].. [--with FILE].. SRC..`
abbrev pub build_shape : Shape
build_shape = with_rules (codes "build")
    (base_rule ∷ flag_rule (codes "grow") ∷ flag_rule (codes "list") ∷ flag_rule (codes "map") ∷ symbols_rule ∷ verbose_rule ∷ flag_rule (codes "no-warn")
    ∷ define_rule ∷ with_file_rule ∷ paths_rule (codes "SRC") ∷ [])

-- `explain [--grow] [--jumps] [--json] [--color WHEN] [--define NAME=VALUE].. [--with FILE].. SRC..`
abbrev pub explain_shape : Shape
explain_shape = with_rules (codes "explain")
    (flag_rule (codes "grow") ∷ flag_rule (codes "jumps") ∷ flag_rule (codes "json") ∷ color_rule ∷ define_rule ∷ with_file_rule ∷ paths_rule (codes "SRC") ∷ [])

-- `check SIZES CERT`
abbrev pub check_shape : Shape
check_shape = with_rules (codes "check") (path_rule (codes "SIZES") ∷ path_rule (codes "CERT") ∷ [])

-- `--data DATA`, which may be given any number of times
abbrev pub data_rule : Rule
data_rule = list_rule (codes "data") (codes "DATA")

-- `dis [--labels SYM] [--entry ADDR].. [--data DATA].. COM`
abbrev pub dis_shape : Shape
dis_shape = with_rules (codes "dis") (labels_rule ∷ list_rule (codes "entry") (codes "ADDR") ∷ data_rule ∷ path_rule (codes "COM") ∷ [])

-- `dir [--user N] [--long] IMG [NAME]`
abbrev pub dir_shape : Shape
dir_shape = with_rules (codes "dir") (user_rule ∷ flag_rule (codes "long") ∷ path_rule (codes "IMG") ∷ name_rule (codes "NAME") ∷ [])

-- `put [--to] [--replace] [--text] [--user N] [--no-lock] IMG FILE [NAME..]`
abbrev pub put_shape : Shape
put_shape = with_rules (codes "put")
    (flag_rule (codes "to") ∷ flag_rule (codes "replace") ∷ flag_rule (codes "text") ∷ (target_rules ++ (path_rule (codes "FILE") ∷ words_rule (codes "NAME") ∷ [])))

-- `get [--all] [--text] [--user N] IMG NAME [FILE..]`
abbrev pub get_shape : Shape
get_shape = with_rules (codes "get")
    (flag_rule (codes "all") ∷ flag_rule (codes "text") ∷ user_rule ∷ path_rule (codes "IMG") ∷ path_rule (codes "NAME") ∷ words_rule (codes "FILE") ∷ [])

-- `erase [--user N] [--no-lock] IMG NAME..`
abbrev pub erase_shape : Shape
erase_shape = with_rules (codes "erase") (target_rules ++ (paths_rule (codes "NAME") ∷ []))

-- `rename [--user N] [--no-lock] IMG OLD NEW`
abbrev pub rename_shape : Shape
rename_shape = with_rules (codes "rename") (target_rules ++ (path_rule (codes "OLD") ∷ path_rule (codes "NEW") ∷ []))

-- `protect [--system] [--user N] [--no-lock] IMG NAME..`, and `unprotect` with the same words
abbrev pub protect_shape : Text → Shape
protect_shape name = with_rules name (flag_rule (codes "system") ∷ (target_rules ++ (paths_rule (codes "NAME") ∷ [])))

-- `check-disk IMG`
abbrev pub check_disk_shape : Shape
check_disk_shape = with_rules (codes "check-disk") (path_rule (codes "IMG") ∷ [])

-- `blank [--mega] [--keep] [--no-lock] IMG`
abbrev pub blank_shape : Shape
blank_shape = with_rules (codes "blank") (flag_rule (codes "mega") ∷ flag_rule (codes "keep") ∷ flag_rule (codes "no-lock") ∷ path_rule (codes "IMG") ∷ [])

-- `[--labels SYM] [--regs] [--last COUNT] [--trace TRC] [--profile PRF] [--list LST]`, what `run` tells about a run
abbrev pub telling_rules : List Rule
telling_rules = labels_rule ∷ flag_rule (codes "regs") ∷ last_rule ∷ option_rule (codes "trace") (codes "TRC")
    ∷ option_rule (codes "profile") (codes "PRF") ∷ option_rule (codes "list") (codes "LST") ∷ []

-- `run [--disk IMG] [--no-lock] [--steps N]`, then those, then `COM [WORD..]`
abbrev pub run_shape : Shape
run_shape = with_rules (codes "run")
    (option_rule (codes "disk") (codes "IMG") ∷ flag_rule (codes "no-lock") ∷ steps_rule ∷ (telling_rules ++ (path_rule (codes "COM") ∷ words_rule (codes "WORD") ∷ [])))

-- `debug [--disk IMG] [--input FILE] [--replay REC] [--labels SYM] [--list LST] COM [WORD..]`
abbrev pub debug_shape : Shape
debug_shape = with_rules (codes "debug") (option_rule (codes "disk") (codes "IMG") ∷ option_rule (codes "input") (codes "FILE") ∷ option_rule (codes "replay") (codes "REC") ∷ labels_rule
    ∷ option_rule (codes "list") (codes "LST") ∷ path_rule (codes "COM") ∷ words_rule (codes "WORD") ∷ [])

-- `play [--disk IMG] [--no-lock] [--steps N] [--raw] [--terminal CODES] [--record FILE] [--replay REC] COM [WORD..]`
abbrev pub play_shape : Shape
play_shape = with_rules (codes "play") (option_rule (codes "disk") (codes "IMG") ∷ flag_rule (codes "no-lock") ∷ steps_rule ∷ flag_rule (codes "raw")
    ∷ option_rule (codes "terminal") (codes "CODES") ∷ option_rule (codes "record") (codes "FILE") ∷ option_rule (codes "replay") (codes "REC") ∷ path_rule (codes "COM") ∷ words_rule (codes "WORD") ∷ [])

-- the command `z80dev` without its commands: its help and its version
abbrev pub bare : App
bare = record { top = record (new_shape (codes "z80dev")) { disable_help_subcommand = true; has_version = true }; subs = [] }

-- the command with the commands that make programs and take them apart
abbrev pub programs : App
programs = with_subcommand (with_subcommand (with_subcommand (with_subcommand (with_subcommand (with_subcommand bare asm_shape) link_shape) build_shape) explain_shape) check_shape) dis_shape

-- with those that list, copy, erase and rename the files of a disk
abbrev pub with_files : App
with_files = with_subcommand (with_subcommand (with_subcommand (with_subcommand (with_subcommand programs dir_shape) put_shape) get_shape) erase_shape) rename_shape

-- with the other commands on disks, and with `run`, `debug` and `play`
abbrev pub z80dev : App
z80dev = with_subcommand (with_subcommand (with_subcommand (with_subcommand (with_subcommand (with_subcommand (with_subcommand with_files (protect_shape (codes "protect"))) (protect_shape (codes "unprotect")))
    check_disk_shape) blank_shape) run_shape) debug_shape) play_shape

-- ---- jobs

-- the words are parsed without an error
abbrev pub AreParsed : List Text → Type 0
AreParsed words = fault_of z80dev words ≡ []

-- the value of the argument is this text
abbrev pub FindsFirst : Text → Bor Text → List Row → Type 0
FindsFirst id value rows = first_of id rows ≡ Some value.now

-- the values of the argument are these texts, in this order
abbrev pub FindsAll : Text → List (Bor Text) → List Row → Type 0
FindsAll id values rows = all_of id rows ≡ Some (map (λ value. value.now) values)

-- the argument has one value, this text
abbrev pub FindsOnly : Text → Bor Text → List Row → Type 0
FindsOnly id value rows = all_of id rows ≡ Some (value.now ∷ [])

-- the value of the argument is this text, or it has no value and there is no text
abbrev pub FindsIfGiven : Text → Option (Bor Text) → List Row → Type 0
FindsIfGiven id value rows = first_of id rows ≡ option_map (λ text. text.now) value

-- all values of an argument; none if it is not given
abbrev pub values_of : Text → List Row → List Text
values_of id rows = unwrap_or (all_of id rows) []

-- the values of the argument are these texts, in this order; there are none if it is not given
abbrev pub FindsAny : Text → List (Bor Text) → List Row → Type 0
FindsAny id values rows = values_of id rows ≡ map (λ value. value.now) values

-- these texts are the value of the first argument and then all values of the second
abbrev pub FindsJoined : Text → Text → List (Bor Text) → List Row → Type 0
FindsJoined one more values rows = (text : Text) × (first_of one rows ≡ Some text) × (text ∷ values_of more rows ≡ map (λ value. value.now) values)

-- The definitions and the shared files that stand before each source, in the order of the words.
abbrev pub FindsShared : Shared → List Row → Type 0
FindsShared shared rows = FindsAny (codes "NAME=VALUE") shared.defines.items rows × FindsAny (codes "FILE") shared.files.items rows

-- the text reads as this number of 64 bits: decimal digits, with or without a plus in front
abbrev pub ReadsAs : Text → ℕ → Type 0
ReadsAs text n = IsNumeral 10 (without_leading_plus text) × (digits_value 10 (without_leading_plus text) ≡ n) × (n < 2 ^ 64)

-- the value of the argument reads as this number, or the argument has no value and there is no number
abbrev pub FindsNumber : Text → Option ℕ → List Row → Type 0
FindsNumber id None rows = first_of id rows ≡ None
FindsNumber id (Some n) rows = (text : Text) × (first_of id rows ≡ Some text) × ReadsAs text n

-- whether the flag is given: its value is `true`
abbrev pub is_on : Text → List Row → Bool
is_on id rows = option_map_or (λ text. bytes_eq text (codes "true")) (one_of id rows) false

-- `--user` gives this user, below 32, or it is not given and there is no user
abbrev pub FindsUser : Option ℕ → List Row → Type 0
FindsUser user rows = FindsNumber (codes "N") user rows × IfSome user (λ n. n < 32)

-- the user that `--user` gives, or user 0 if it is not given
abbrev pub FindsUserOrZero : ℕ → List Row → Type 0
FindsUserOrZero user rows = (user < 32) × (given : Option ℕ) × FindsNumber (codes "N") given rows × (unwrap_or given 0 ≡ user)

-- the image is locked unless `--no-lock` is given
abbrev pub FindsLock : Bool → List Row → Type 0
FindsLock lock rows = is_on (codes "no-lock") rows ≡ not lock

-- `--last` gives this number of steps, at most 1,000,000, or it is not given and there is no number
abbrev pub FindsLast : Option ℕ → List Row → Type 0
FindsLast last rows = FindsNumber (codes "COUNT") last rows × IfSome last (λ n. n ≤ 1000000)

-- what `run` tells about a run
abbrev pub FindsTelling : Telling → List Row → Type 0
FindsTelling telling rows = FindsIfGiven (codes "SYM") telling.labels rows × (is_on (codes "regs") rows ≡ telling.registers)
    × FindsLast telling.last rows × FindsIfGiven (codes "TRC") telling.trace rows × FindsIfGiven (codes "PRF") telling.profile rows
    × FindsIfGiven (codes "LST") telling.list rows

-- the image that a command changes, with the user and whether it is locked
abbrev pub FindsTarget : Target → List Row → Type 0
FindsTarget target rows = FindsFirst (codes "IMG") target.image rows × FindsUserOrZero target.user rows × FindsLock target.lock rows

-- whether files are replaced, and whether they are put as texts
abbrev pub FindsManner : Manner → List Row → Type 0
FindsManner manner rows = (is_on (codes "replace") rows ≡ manner.replace) × (is_on (codes "text") rows ≡ manner.text)

-- the name of the command that sets an attribute of files, and of the one that clears it
abbrev pub protect_name : Bool → Text
protect_name on = if on then codes "protect" else codes "unprotect"

-- whether the attribute is the one that `--system` names
abbrev pub is_system_attribute : Attribute → Bool
is_system_attribute ReadOnly = false
is_system_attribute System = true

-- the parse found the command with this name, and `Holds` is true of the rows that it found for its arguments
abbrev pub Meets : Option (Text × List Row) → Text → (List Row → Type 0) → Type 0
Meets met name Holds = (rows : List Row) × (met ≡ Some (name, rows)) × Holds rows

-- The job on a disk of the command that a parse found, with the values of its arguments.
abbrev pub IsDiskJobOf : Option (Text × List Row) → DiskJob → Type 0
IsDiskJobOf met (on.Dir dir) = Meets met (codes "dir") (λ rows. FindsFirst (codes "IMG") dir.image rows
    × FindsUser dir.user rows × (is_on (codes "long") rows ≡ dir.long) × FindsIfGiven (codes "NAME") dir.name rows)
IsDiskJobOf met (on.Put put) = Meets met (codes "put") (λ rows. (is_on (codes "to") rows ≡ false)
    × FindsTarget put.target rows × FindsManner put.manner rows × FindsFirst (codes "FILE") put.file rows × FindsOnly (codes "NAME") put.name rows)
IsDiskJobOf met (on.PutAll put) = Meets met (codes "put") (λ rows. (is_on (codes "to") rows ≡ true)
    × FindsTarget put.target rows × FindsManner put.manner rows × FindsJoined (codes "FILE") (codes "NAME") put.files.items rows)
IsDiskJobOf met (on.Get get) = Meets met (codes "get") (λ rows. (is_on (codes "all") rows ≡ false)
    × FindsFirst (codes "IMG") get.image rows × FindsUserOrZero get.user rows × (is_on (codes "text") rows ≡ get.text)
    × FindsFirst (codes "NAME") get.name rows × FindsOnly (codes "FILE") get.file rows)
IsDiskJobOf met (on.GetAll get) = Meets met (codes "get") (λ rows. (is_on (codes "all") rows ≡ true)
    × FindsFirst (codes "IMG") get.image rows × FindsUserOrZero get.user rows × (is_on (codes "text") rows ≡ get.text)
    × FindsFirst (codes "NAME") get.folder rows × FindsAny (codes "FILE") [] rows)
IsDiskJobOf met (on.Erase erase) = Meets met (codes "erase") (λ rows. FindsTarget erase.target rows × FindsAll (codes "NAME") erase.names.items rows)
IsDiskJobOf met (on.Rename rename) = Meets met (codes "rename") (λ rows. FindsTarget rename.target rows
    × FindsFirst (codes "OLD") rename.old rows × FindsFirst (codes "NEW") rename.new rows)
IsDiskJobOf met (on.Protect protect) = Meets met (protect_name protect.on) (λ rows. FindsTarget protect.target rows
    × (is_on (codes "system") rows ≡ is_system_attribute protect.attribute) × FindsAll (codes "NAME") protect.names.items rows)
IsDiskJobOf met (on.Check image) = Meets met (codes "check-disk") (λ rows. FindsFirst (codes "IMG") image rows)
IsDiskJobOf met (on.Blank blank) = Meets met (codes "blank") (λ rows. (is_on (codes "mega") rows ≡ blank.mega)
    × (is_on (codes "keep") rows ≡ blank.keep) × FindsLock blank.lock rows × FindsFirst (codes "IMG") blank.image rows)

-- The job of the command that a parse found, with the values of its arguments.
abbrev pub IsJobOf : Option (Text × List Row) → Job → Type 0
IsJobOf met Pipe = met ≡ None
IsJobOf met (Asm asm) = Meets met (codes "asm") (λ rows. FindsIfGiven (codes "BASE") asm.out rows
    × (is_on (codes "grow") rows ≡ asm.grow) × (is_on (codes "no-warn") rows ≡ not asm.warn) × FindsShared asm.shared rows × FindsFirst (codes "SRC") asm.source rows)
IsJobOf met (Link link) = Meets met (codes "link") (λ rows. FindsIfGiven (codes "BASE") link.out rows
    × (is_on (codes "map") rows ≡ link.map) × FindsIfGiven (codes "FORM") link.symbols rows × FindsAll (codes "OBJ") link.objects.items rows)
IsJobOf met (Build build) = Meets met (codes "build") (λ rows. FindsIfGiven (codes "BASE") build.out rows
    × (is_on (codes "grow") rows ≡ build.grow) × (is_on (codes "list") rows ≡ build.list)
    × (is_on (codes "map") rows ≡ build.map) × FindsIfGiven (codes "FORM") build.symbols rows × (is_on (codes "verbose") rows ≡ build.verbose)
    × (is_on (codes "no-warn") rows ≡ not build.warn) × FindsShared build.shared rows × FindsAll (codes "SRC") build.sources.items rows)
IsJobOf met (Explain explain) = Meets met (codes "explain") (λ rows. (is_on (codes "grow") rows ≡ explain.grow)
    × (is_on (codes "jumps") rows ≡ explain.jumps) × (is_on (codes "json") rows ≡ explain.json) × FindsIfGiven (codes "WHEN") explain.color rows
    × FindsShared explain.shared rows × FindsAll (codes "SRC") explain.sources.items rows)
IsJobOf met (Check check) = Meets met (codes "check") (λ rows. FindsFirst (codes "SIZES") check.sizes rows × FindsFirst (codes "CERT") check.cert rows)
IsJobOf met (Dis dis) = Meets met (codes "dis") (λ rows. FindsIfGiven (codes "SYM") dis.labels rows
    × FindsAny (codes "ADDR") dis.entries.items rows × FindsAny (codes "DATA") dis.data_starts.items rows × FindsFirst (codes "COM") dis.program rows)
IsJobOf met (Disk job) = IsDiskJobOf met job
IsJobOf met (Run run) = Meets met (codes "run") (λ rows. FindsIfGiven (codes "IMG") run.disk rows
    × FindsLock run.lock rows × FindsNumber (codes "N") run.steps rows × FindsTelling run.telling rows × FindsFirst (codes "COM") run.program rows × FindsAny (codes "WORD") run.words.items rows)
IsJobOf met (Debug debugging) = Meets met (codes "debug") (λ rows. FindsIfGiven (codes "IMG") debugging.disk rows
    × FindsIfGiven (codes "FILE") debugging.input rows × FindsIfGiven (codes "REC") debugging.replay rows × FindsIfGiven (codes "SYM") debugging.labels rows × FindsIfGiven (codes "LST") debugging.list rows
    × FindsFirst (codes "COM") debugging.program rows × FindsAny (codes "WORD") debugging.words.items rows)
IsJobOf met (Play play) = Meets met (codes "play") (λ rows. FindsIfGiven (codes "IMG") play.disk rows × FindsLock play.lock rows
    × FindsNumber (codes "N") play.steps rows × (is_on (codes "raw") rows ≡ play.raw) × FindsIfGiven (codes "CODES") play.terminal rows
    × FindsIfGiven (codes "FILE") play.record rows × FindsIfGiven (codes "REC") play.replay rows × FindsFirst (codes "COM") play.program rows × FindsAny (codes "WORD") play.words.items rows)

-- The words are parsed without an error, and the job is that of the command that they name, with the values that the parse found.
abbrev pub IsJob : List Text → Job → Type 0
IsJob words job = AreParsed words × IsJobOf (subcommand_of z80dev words) job

-- ---- a wrong number of paths

-- Whether there are fewer paths than are needed (some are missing) or more (there are too many).
abbrev pub Miscounts : ℕ → ℕ → ErrorKind → Type 0
Miscounts there wanted kind = ((there < wanted) × (kind ≡ MissingRequiredArgument)) ⊎ ((wanted < there) × (kind ≡ TooManyValues))

-- `put` without `--to` needs exactly one NAME. `get` needs exactly one FILE, and none with `--all`.
abbrev pub IsMiscountedOf : Option (Text × List Row) → ErrorKind → Type 0
IsMiscountedOf met kind =
    Meets met (codes "put") (λ rows. (is_on (codes "to") rows ≡ false) × Miscounts (length (values_of (codes "NAME") rows)) 1 kind)
    ⊎ Meets met (codes "get") (λ rows. Miscounts (length (values_of (codes "FILE") rows)) (if is_on (codes "all") rows then 0 else 1) kind)

-- The words are parsed without an error, but the command that they name has too few or too many paths, as the kind says.
abbrev pub IsMiscounted : List Text → ErrorKind → Type 0
IsMiscounted words kind = AreParsed words × IsMiscountedOf (subcommand_of z80dev words) kind

-- The words do not have a wrong number of paths.
abbrev pub HasRightCount : List Text → Type 0
HasRightCount words = (kind : ErrorKind) → IsMiscounted words kind → ⊥
