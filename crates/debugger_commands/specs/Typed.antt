-- What a line means: its words, the commands and their forms, and why a line is refused.
use Rattle.std.specs.Borrow.{Bor}
use Rattle.std.specs.Prelude.{◌+◌, ◌^◌, ◌==◌, ◌&&◌, ◌++◌, ◌∷◌, [], ℕ, Bool, List, Option, Some, None, Result, Ok, Err, codes, drop, filter, find, if◌then◌else◌, length, map, nat_le, nat_lt, option_map, take}
use Rattle.std.specs.Char.{is_ascii_whitespace, is_digit}
use Rattle.std.specs.List.{list_all, list_any, position, slice_split}
use Rattle.std.specs.Option.{ok_or, option_or}
use Rattle.std.specs.Str.{bytes_eq, str_eq_ignore_ascii_case}
use Rattle.std.specs.Str.Parse.{digits_value, without_leading_plus}
use Rattle.asm_line.specs.Numbers.{value_in}
use Rattle.asm_line.specs.Scanned.{scanned}
use Rattle.asm_line.specs.Tokens.{Lexeme}
use Rattle.asm_line.specs.declared.fault.ScanFault.{ScanFault}
use Rattle.asm_line.specs.declared.token.Kind.{Kind}
use Rattle.asm_line.specs.declared.token.Kind.TheVariants as kind
use Rattle.z80_cpu.specs.State.{down_by, up_by}
use Rattle.z80_cpu.specs.declared.registers.Cpu.{Cpu}
use Rattle.debugger_commands.specs.declared.command.Command.{Command}
use Rattle.debugger_commands.specs.declared.command.Command.TheVariants as command
use Rattle.debugger_commands.specs.declared.refusal.Refusal.{Refusal}
use Rattle.debugger_commands.specs.declared.refusal.Refusal.TheVariants as refusal
use Rattle.state_text.specs.declared.breakpoint.Breakpoint.{Breakpoint}
use Rattle.state_text.specs.declared.breakpoint.Condition.{Condition}
use Rattle.state_text.specs.declared.registers.RegisterName.{RegisterName}
use Rattle.debugger_commands.specs.declared.verb.Verb.{Verb}
use Rattle.debugger_commands.specs.declared.verb.Verb.TheVariants as verb
use Rattle.state_text.specs.Labelled.{Known, address_of_label}
use Rattle.state_text.specs.Printing.Memory.{shown_character}
use Rattle.state_text.specs.RegisterNames.{named_register, register_limit, register_named}

-- ---- words

-- a part of a line that is not empty
abbrev pub is_typed_word : List ℕ → Bool
is_typed_word part = nat_lt 0 (length part)

-- the words of a line, which ASCII white space divides
abbrev pub line_words : List ℕ → List (List ℕ)
line_words line = filter is_typed_word (slice_split is_ascii_whitespace line)

-- what is before and what is after the first place of this byte in a word
abbrev pub cut : ℕ → List ℕ → Option (List ℕ × List ℕ)
cut byte word = option_map (λ at. (take at word, drop (at + 1) word)) (position (λ b. b == byte) word)

-- ---- N

-- a number of turns: decimal digits, which may follow a `+`
abbrev pub turns_of : List ℕ → Option ℕ
turns_of word =
    let digits = without_leading_plus word in
    if nat_lt 0 (length digits) && (list_all (λ b. is_digit b 10) digits && nat_lt (digits_value 10 digits) (2 ^ 64)) then Some (digits_value 10 digits) else None

-- the number that a token of this kind is, if its text is the whole word
abbrev pub whole_number : List ℕ → List ℕ → Kind → Option ℕ
whole_number word text (kind.Number n) = if bytes_eq text word then Some n else None
whole_number word text other = None

abbrev pub one_number : List ℕ → Result (List Lexeme) ScanFault → Option ℕ
one_number word (Ok (token ∷ [])) = whole_number word token.text token.kind
one_number word other = None

-- a number of the assembler: the one token of the word, without blanks and comments
abbrev pub number_typed : List ℕ → Option ℕ
number_typed word = one_number word (scanned word)

-- ---- ADDR

-- four hexadecimal digits, as addresses are printed
abbrev pub printed_address : List ℕ → Option ℕ
printed_address word = if length word == 4 then value_in 16 word else None

-- the value of a register of two bytes; one of a single byte is no address
abbrev pub value_of_pair : Cpu → Option RegisterName → Option ℕ
value_of_pair cpu (Some register) = if nat_lt 0xFF (register_limit register) then Some (named_register register cpu) else None
value_of_pair cpu None = None

-- PC, or the value of the register of two bytes with this name, in upper or lower case; none if no register may be named
abbrev pub address_in_register : Option Cpu → List ℕ → Option ℕ
address_in_register (Some cpu) word = if str_eq_ignore_ascii_case word (codes "PC") then Some cpu.pc else value_of_pair cpu (register_named word)
address_in_register None word = None

-- the address of a label, otherwise the one in a register
abbrev pub named_address : Known → Option Cpu → List ℕ → Option ℕ
named_address known registers word = option_or (address_of_label known word) (address_in_register registers word)

abbrev pub both_found : Option ℕ → Option ℕ → Option (ℕ × ℕ)
both_found (Some address) (Some offset) = Some (address, offset)
both_found address offset = None

abbrev pub address_and_offset : Known → Option Cpu → Option (List ℕ × List ℕ) → Option (ℕ × ℕ)
address_and_offset known registers (Some (name, offset)) = both_found (named_address known registers name) (number_typed offset)
address_and_offset known registers None = None

-- NAME+N, otherwise NAME-N
abbrev pub address_near : Known → Option Cpu → List ℕ → Option ℕ
address_near known registers word =
    option_or (option_map (λ it. up_by it.1 it.0) (address_and_offset known registers (cut 0x2B word)))
    (option_map (λ it. down_by it.1 it.0) (address_and_offset known registers (cut 0x2D word)))

-- a label or a register, otherwise four digits, otherwise a label or a register and a number, otherwise a number
abbrev pub address_or_value : Known → Option Cpu → List ℕ → Option ℕ
address_or_value known registers word = option_or (named_address known registers word) (option_or (printed_address word) (option_or (address_near known registers word) (number_typed word)))

abbrev pub typed_address : Known → Cpu → List ℕ → Option ℕ
typed_address known cpu word = address_or_value known (Some cpu) word

-- ---- VALUE

-- The same without registers, since the names of many are hexadecimal digits: in `A=BC` the byte 0BCH may be meant.
abbrev pub typed_value : Known → List ℕ → Option ℕ
typed_value known word = address_or_value known None word

-- ---- the names of the commands

abbrev pub verb_name : Verb → List ℕ
verb_name verb.Step = codes "step"
verb_name verb.Back = codes "back"
verb_name verb.Turn = codes "turn"
verb_name verb.Run = codes "run"
verb_name verb.Next = codes "next"
verb_name verb.Finish = codes "finish"
verb_name verb.BackRun = codes "back-run"
verb_name verb.BackNext = codes "back-next"
verb_name verb.Break = codes "break"
verb_name verb.Watch = codes "watch"
verb_name verb.Delete = codes "delete"
verb_name verb.Info = codes "info"
verb_name verb.Registers = codes "regs"
verb_name verb.Memory = codes "mem"
verb_name verb.Disassemble = codes "dis"
verb_name verb.Stack = codes "stack"
verb_name verb.Output = codes "output"
verb_name verb.Who = codes "who"
verb_name verb.Files = codes "files"
verb_name verb.Where = codes "where"
verb_name verb.Help = codes "help"
verb_name verb.Quit = codes "quit"

-- what may follow the name
abbrev pub argument_forms : Verb → List ℕ
argument_forms verb.Step = codes " [N]"
argument_forms verb.Back = codes " [N]"
argument_forms verb.Turn = codes " N"
argument_forms verb.Run = codes " [ADDR]"
argument_forms verb.Break = codes " ADDR [if REG=VALUE]"
argument_forms verb.Watch = codes " ADDR [N]"
argument_forms verb.Delete = codes " [ADDR]"
argument_forms verb.Memory = codes " ADDR [N]"
argument_forms verb.Disassemble = codes " ADDR [N]"
argument_forms verb.Who = codes " ADDR"
argument_forms verb.Help = codes " [COMMAND]"
argument_forms other = []

-- the commands in the order in which `help` lists them
abbrev pub every_verb : List Verb
every_verb =
    verb.Step ∷ verb.Next ∷ verb.Finish ∷ verb.Run ∷ verb.Back ∷ verb.BackNext ∷ verb.BackRun ∷ verb.Turn ∷ verb.Where ∷ verb.Registers ∷ verb.Memory
    ∷ verb.Disassemble ∷ verb.Stack ∷ verb.Output ∷ verb.Who ∷ verb.Break ∷ verb.Watch ∷ verb.Info ∷ verb.Delete ∷ verb.Files ∷ verb.Help ∷ verb.Quit ∷ []

-- whether a word is the beginning of a name, in upper or lower case
abbrev pub is_short_for : List ℕ → List ℕ → Bool
is_short_for word name = str_eq_ignore_ascii_case (take (length word) name) word

-- the command that has this name elsewhere, in upper or lower case
abbrev pub foreign_verb : List ℕ → Option Verb
foreign_verb word = if str_eq_ignore_ascii_case word (codes "?") then Some verb.Help else (if str_eq_ignore_ascii_case word (codes "exit") then Some verb.Quit else None)

-- the command with this name, in upper or lower case; otherwise the first one whose name begins with the word; otherwise one that has this name elsewhere
abbrev pub verb_named : List ℕ → Option Verb
verb_named word =
    option_or (option_or (find (λ it. str_eq_ignore_ascii_case (verb_name it) word) every_verb) (find (λ it. is_short_for word (verb_name it)) every_verb))
    (foreign_verb word)

-- ---- the forms of the commands

-- the word that is wrong, and why
abbrev pub Refused : Type 0
Refused = List ℕ × Refusal

-- what words are read as, or why they are refused
abbrev pub Reading : Type 0 → Type 0
Reading T = Result T Refused

-- the words have another form than the command
abbrev pub usage : Verb → Refused
usage it = (verb_name it, refusal.Usage it)

-- both, or the first refusal
abbrev pub both_read : {A B : Type 0} → Reading A → Reading B → Reading (A × B)
both_read (Ok a) (Ok b) = Ok (a, b)
both_read (Ok a) (Err why) = Err why
both_read (Err why) b = Err why

abbrev pub read_as : {A B : Type 0} → (A → B) → Reading A → Reading B
read_as make (Ok it) = Ok (make it)
read_as make (Err why) = Err why

-- the same of the code, whose words are slices of the line
abbrev pub shown_reading : {T : Type 0} → Result T (Bor (List ℕ) × Refusal) → Reading T
shown_reading (Ok it) = Ok it
shown_reading (Err refused) = Err (refused.0.now, refused.1)

-- no more words
abbrev pub no_arguments : Verb → Command → List (List ℕ) → Reading Command
no_arguments it done [] = Ok done
no_arguments it done (word ∷ more) = Err (usage it)

-- N, a number of turns; or [N], if there is a default
abbrev pub typed_turns : Verb → Option ℕ → List (List ℕ) → Reading ℕ
typed_turns it default [] = ok_or default (usage it)
typed_turns it default (word ∷ []) = ok_or (turns_of word) (word, refusal.Turns)
typed_turns it default (word ∷ next ∷ more) = Err (usage it)

-- ADDR
abbrev pub address : Known → Cpu → List ℕ → Reading ℕ
address known cpu word = ok_or (typed_address known cpu word) (word, refusal.Address)

abbrev pub one_address : Known → Cpu → Verb → List (List ℕ) → Reading ℕ
one_address known cpu it (word ∷ []) = address known cpu word
one_address known cpu it other = Err (usage it)

-- [ADDR]
abbrev pub some_address : Known → Cpu → Verb → List (List ℕ) → Reading (Option ℕ)
some_address known cpu it [] = Ok None
some_address known cpu it words = read_as Some (one_address known cpu it words)

-- N, of bytes or instructions
abbrev pub typed_number : List ℕ → Reading ℕ
typed_number word = ok_or (number_typed word) (word, refusal.Number)

-- N that may not be 0
abbrev pub some_bytes : List ℕ → Reading ℕ → Reading ℕ
some_bytes word (Ok count) = if count == 0 then Err (word, refusal.NoBytes) else Ok count
some_bytes word (Err why) = Err why

-- N after ADDR: a watch is of at least one byte
abbrev pub typed_count : Verb → List ℕ → Reading ℕ
typed_count verb.Watch word = some_bytes word (typed_number word)
typed_count other word = typed_number word

-- ADDR [N]
abbrev pub address_and_number : Known → Cpu → Verb → ℕ → List (List ℕ) → Reading (ℕ × ℕ)
address_and_number known cpu it default (word ∷ []) = both_read (address known cpu word) (Ok default)
address_and_number known cpu it default (word ∷ count ∷ []) = both_read (address known cpu word) (typed_count it count)
address_and_number known cpu it default other = Err (usage it)

-- a value that fits into its register
abbrev pub fitting_value : List ℕ → Reading (RegisterName × ℕ) → Reading Condition
fitting_value word (Ok (register, value)) = if nat_le value (register_limit register) then Ok (record { register = register; value = value }) else Err (word, refusal.OneByte)
fitting_value word (Err why) = Err why

abbrev pub register_and_value : Known → List ℕ → Option (List ℕ × List ℕ) → Reading Condition
register_and_value known word (Some (register, value)) =
    fitting_value word (both_read (ok_or (register_named register) (word, refusal.Register)) (ok_or (typed_value known value) (word, refusal.Value)))
register_and_value known word None = Err (usage verb.Break)

-- REG=VALUE
abbrev pub typed_condition : Known → List ℕ → Reading Condition
typed_condition known word = register_and_value known word (cut 0x3D word)

-- ADDR if REG=VALUE
abbrev pub conditional_breakpoint : Known → Cpu → List ℕ → List ℕ → Reading Breakpoint
conditional_breakpoint known cpu word test = read_as (λ it. record { address = it.0; condition = Some it.1 }) (both_read (address known cpu word) (typed_condition known test))

-- ADDR [if REG=VALUE]
abbrev pub breakpoint : Known → Cpu → List (List ℕ) → Reading Breakpoint
breakpoint known cpu (word ∷ []) = read_as (λ at. record { address = at; condition = None }) (address known cpu word)
breakpoint known cpu (word ∷ between ∷ test ∷ []) = if str_eq_ignore_ascii_case between (codes "if") then conditional_breakpoint known cpu word test else Err (usage verb.Break)
breakpoint known cpu other = Err (usage verb.Break)

abbrev pub is_listed : List ℕ → Bool
is_listed word = list_any (str_eq_ignore_ascii_case word) (codes "break" ∷ codes "breakpoints" ∷ codes "watch" ∷ codes "watchpoints" ∷ [])

-- [break|breakpoints|watch|watchpoints], which all mean the same
abbrev pub info : List (List ℕ) → Reading Command
info [] = Ok command.Info
info (word ∷ []) = if is_listed word then Ok command.Info else Err (usage verb.Info)
info (word ∷ next ∷ more) = Err (usage verb.Info)

-- [COMMAND]
abbrev pub typed_help : List (List ℕ) → Reading Command
typed_help [] = Ok (command.Help None)
typed_help (word ∷ []) = read_as (λ it. command.Help (Some it)) (ok_or (verb_named word) (word, refusal.Command))
typed_help (word ∷ next ∷ more) = Err (usage verb.Help)

-- the command with this name and these words after it
abbrev pub typed_as : Known → Cpu → Verb → List (List ℕ) → Reading Command
typed_as known cpu verb.Step words = read_as command.Step (typed_turns verb.Step (Some 1) words)
typed_as known cpu verb.Back words = read_as command.Back (typed_turns verb.Back (Some 1) words)
typed_as known cpu verb.Turn words = read_as command.Turn (typed_turns verb.Turn None words)
typed_as known cpu verb.Run words = read_as command.Run (some_address known cpu verb.Run words)
typed_as known cpu verb.Next words = no_arguments verb.Next command.Next words
typed_as known cpu verb.Finish words = no_arguments verb.Finish command.Finish words
typed_as known cpu verb.BackRun words = no_arguments verb.BackRun command.BackRun words
typed_as known cpu verb.BackNext words = no_arguments verb.BackNext command.BackNext words
typed_as known cpu verb.Break words = read_as command.Break (breakpoint known cpu words)
typed_as known cpu verb.Watch words = read_as (λ at. command.Watch at.0 at.1) (address_and_number known cpu verb.Watch 1 words)
typed_as known cpu verb.Delete words = read_as command.Delete (some_address known cpu verb.Delete words)
typed_as known cpu verb.Info words = info words
typed_as known cpu verb.Registers words = no_arguments verb.Registers command.Registers words
typed_as known cpu verb.Memory words = read_as (λ at. command.Memory at.0 at.1) (address_and_number known cpu verb.Memory 16 words)
typed_as known cpu verb.Disassemble words = read_as (λ at. command.Disassemble at.0 at.1) (address_and_number known cpu verb.Disassemble 8 words)
typed_as known cpu verb.Stack words = no_arguments verb.Stack command.Stack words
typed_as known cpu verb.Output words = no_arguments verb.Output command.Output words
typed_as known cpu verb.Who words = read_as command.Who (one_address known cpu verb.Who words)
typed_as known cpu verb.Files words = no_arguments verb.Files command.Files words
typed_as known cpu verb.Where words = no_arguments verb.Where command.Where words
typed_as known cpu verb.Help words = typed_help words
typed_as known cpu verb.Quit words = no_arguments verb.Quit command.Quit words

-- ---- lines

abbrev pub verb_means : Known → Cpu → List ℕ → Option Verb → List (List ℕ) → Reading Command
verb_means known cpu first (Some it) more = typed_as known cpu it more
verb_means known cpu first None more = Err (first, refusal.Command)

abbrev pub words_mean : Known → Cpu → List (List ℕ) → Reading (Option Command)
words_mean known cpu [] = Ok None
words_mean known cpu (first ∷ more) = read_as Some (verb_means known cpu first (verb_named first) more)

-- what a line means: nothing, if it is blank; a command; or it is refused
abbrev pub line_meaning : Known → Cpu → List ℕ → Reading (Option Command)
line_meaning known cpu line = words_mean known cpu (line_words line)

-- ---- the line that is printed for a line that is refused

-- the bytes of a word, with a full stop for a byte outside 20H to 7EH
abbrev pub shown_word : List ℕ → List ℕ
shown_word word = map shown_character word

abbrev pub usage_line : Verb → List ℕ
usage_line it = codes "usage: " ++ verb_name it ++ argument_forms it ++ codes "\n"

abbrev pub refusal_line : Refused → List ℕ
refusal_line (word, refusal.Command) = shown_word word ++ codes ": not a command; try help\n"
refusal_line (word, refusal.Usage it) = usage_line it
refusal_line (word, refusal.Address) = shown_word word ++ codes ": not a label or an address, such as START+5, HL, 0125 or 125H\n"
refusal_line (word, refusal.Turns) = shown_word word ++ codes ": not a decimal number up to 18446744073709551615\n"
refusal_line (word, refusal.Number) = shown_word word ++ codes ": not a number up to 65535\n"
refusal_line (word, refusal.NoBytes) = shown_word word ++ codes ": watch needs at least one byte\n"
refusal_line (word, refusal.Register) = shown_word word ++ codes ": no register before =\n"
refusal_line (word, refusal.Value) = shown_word word ++ codes ": after = a number up to 65535 is needed, such as 5BH, 005B or 91, or a label\n"
refusal_line (word, refusal.OneByte) = shown_word word ++ codes ": a register of one byte, so the value is at most 255\n"
