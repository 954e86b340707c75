-- What a warning says, and what to do about it.
use Rattle.std.specs.Prelude.{ℕ, ◌==◌, List, [], ◌++◌, codes, decimal, if◌then◌else◌, nat_lt}
use Rattle.std.specs.Str.{is_utf8}
use Rattle.source_warnings.specs.declared.warning.Kind.{Kind}
use Rattle.source_warnings.specs.declared.warning.Kind.TheVariants as kind

-- A name as it is printed. (A name of a source is in ASCII.)
abbrev pub printed_name : List ℕ → List ℕ
printed_name name = if is_utf8 name then name else codes "?"

-- the ending of a word for this many
abbrev pub plural : ℕ → List ℕ
plural count = if count == 1 then [] else codes "s"

-- what looks like a mistake, given the name as it is printed
abbrev pub message_text : Kind → List ℕ → List ℕ
message_text kind.UnusedLabel name = codes "`" ++ (name ++ codes "` is never used")
message_text kind.UnusedExternal name = codes "`" ++ (name ++ codes "` is never used")
message_text (kind.PublicAgain first) name = codes "`" ++ (name ++ codes "` is in PUBLIC twice")
message_text (kind.ExternalAgain first) name = codes "`" ++ (name ++ codes "` is in EXTRN twice")
message_text (kind.Arguments parameters arguments) name =
    codes "`" ++ (name ++ (codes "` has " ++ (decimal parameters ++ (codes " parameter" ++ (plural parameters
    ++ (codes ", and this call has " ++ (decimal arguments ++ (codes " argument" ++ plural arguments))))))))

abbrev pub again_text : ℕ → List ℕ
again_text first = codes "line " ++ (decimal first ++ codes " has it already: leave out one of the two")

-- what to do about it
abbrev pub help_text : Kind → List ℕ
help_text kind.UnusedLabel = codes "a label that no line uses may be left out"
help_text kind.UnusedExternal = codes "leave out its EXTRN"
help_text (kind.PublicAgain first) = again_text first
help_text (kind.ExternalAgain first) = again_text first
help_text (kind.Arguments parameters arguments) =
    if nat_lt parameters arguments then codes "the arguments after those are ignored" else codes "the parameters without an argument are empty"
