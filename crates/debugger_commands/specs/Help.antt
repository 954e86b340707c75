-- The list that `help` prints, and its lines of one command.
use Rattle.std.specs.Prelude.{◌≡◌, ◌==◌, ◌||◌, ℕ, Bool, List, [], ◌∷◌, ◌++◌, Option, Some, None, codes, drop, filter, length, map, nat_eq, nat_lt, not, true}
use Rattle.std.specs.List.{flat_map, list_all, position_or_len, starts_with}
use Rattle.bstr.specs.Text.{lines_of, without_terminator}
use Rattle.state_text.specs.Printing.Columns.{column}
use Rattle.debugger_commands.specs.declared.help.TheConstants.{HELP}
use Rattle.debugger_commands.specs.declared.verb.Verb.{Verb}
use Rattle.debugger_commands.specs.Typed.{argument_forms, verb_name}

-- the forms of commands, with commas between them
abbrev pub verb_forms : List Verb → List ℕ
verb_forms [] = []
verb_forms (verb ∷ []) = verb_name verb ++ argument_forms verb
verb_forms (verb ∷ next ∷ more) = verb_name verb ++ argument_forms verb ++ codes ", " ++ verb_forms (next ∷ more)

-- a line of `help`: the forms of some commands, and what these do, from the 27th column on
abbrev pub help_line : List Verb × List ℕ → List ℕ
help_line entry = column 25 (verb_forms entry.0) ++ entry.1 ++ codes "\n"

-- what comes after the first comma of a line, and a blank
abbrev pub after_comma : List ℕ → List ℕ
after_comma line = drop 2 (drop (position_or_len (λ byte. byte == 0x2C) line) line)

-- whether a line of the list shows the form of a command: at its beginning, or after its first comma
abbrev pub shows_form : List ℕ → List ℕ → Bool
shows_form form line = starts_with nat_eq line form || starts_with nat_eq (after_comma line) form

-- the lines of the list that show the form of a command
abbrev pub help_of : Verb → List ℕ
help_of verb = flat_map (λ line. line ++ codes "\n") (filter (shows_form (verb_name verb ++ argument_forms verb)) (map without_terminator (lines_of HELP.now)))

-- what `help` prints: the list, or its lines of a command
abbrev pub help_answer : Option Verb → List ℕ
help_answer None = HELP.now
help_answer (Some verb) = help_of verb

-- each of these commands has one line of the list
abbrev pub EachHasOneLine : List Verb → Type 0
EachHasOneLine verbs = list_all (λ verb. length (filter (λ byte. byte == 0x0A) (help_of verb)) == 1) verbs ≡ true

-- words of one line that show no optional argument, which would be in brackets
abbrev pub is_prose : List ℕ → Bool
is_prose words = list_all (λ byte. not ((byte == 0x5B) || (byte == 0x0A))) words

-- A list has exactly these commands in their forms, in this order, one or more to a line; then come lines of prose.
abbrev pub ListsVerbs : List Verb → List ℕ → Type 0
ListsVerbs verbs text =
    (entries : List (List Verb × List ℕ)) × (notes : List (List ℕ)) × (flat_map (λ entry. entry.0) entries ≡ verbs) × (list_all (λ entry. is_prose entry.1) entries ≡ true)
    × (list_all is_prose notes ≡ true) × (text ≡ flat_map help_line entries ++ flat_map (λ note. note ++ codes "\n") notes)

-- A text fits on a terminal of 24 lines of 80 columns, with a line left for the next command.
abbrev pub FitsTerminal : List ℕ → Type 0
FitsTerminal text = (nat_lt (length (lines_of text)) 24 ≡ true) × (list_all (λ line. nat_lt (length (without_terminator line)) 80) (lines_of text) ≡ true)
