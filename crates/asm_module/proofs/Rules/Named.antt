-- An object file may hold the names that lines define.
use Rattle.std.proofs.Common.{◌≡◌, ◌≤◌, ◌+◌, ℕ, true, false, cond, All, List, [], ◌∷◌, ◌++◌, Option, Some, None, Ok, length, map}
use Rattle.std.specs.Prelude.{is_some}
use Rattle.std.specs.List.{IsDistinct, enumerate_from, flat_map}
use Rattle.std.specs.Str.{bytes_eq}
use Rattle.std.proofs.lemmas.List.Elements.{All-append, All-cons, All-head, All-nil, All-tail}
use Rattle.asm_parse.specs.Names.{IsDefinable}
use Rattle.asm_line.specs.Scanned.{scanned}
use Rattle.asm_line.specs.Tokens.{Lexeme}
use Rattle.asm_spell.specs.Few.{IsFew}
use Rattle.asm_spell.specs.Line as line
use Rattle.asm_spell.specs.Line.{Body, Line}
use Rattle.asm_spell.specs.Names.{line_names}
use Rattle.asm_spell.specs.Spelling.{option_names, spelled}
use Rattle.asm_names.specs.declared.kind.Kind.{Kind}
use Rattle.asm_names.specs.Faults.{first_name_fault}
use Rattle.asm_names.specs.Lines.{Taken}
use Rattle.asm_names.specs.Names.{Names, declared, defines, kind_of_name, names, with_name, with_names}
use Rattle.zmo_object.specs.Rules.{IsObjectName}
use Rattle.asm_module.specs.Layouts.Laid.{HasFew, IsFewIn}
use Rattle.asm_module.specs.Program.Spelled.{IsLineOfText}
use Rattle.asm_module.specs.Rules.Fitting.{IsReadLine}
use Rattle.asm_module.specs.Rules.Object.{AreObjectNames}

abbrev Key : Type 0
Key = List ℕ

-- P holds of the name
abbrev Of : (Key → Type 0) → Key × Kind → Type 0
Of P d = P d.0

-- What holds of each name in a line holds of each name that the line defines.

module _ (P : Key → Type 0) where
  externals_named : (list : List Key) → All P list → All (Of P) (map (λ name. (name, Kind.External)) list)
  externals_named [] all = All-nil (Of P)
  externals_named (x ∷ xs) all = All-cons (Of P) (x, Kind.External) (map (λ name. (name, Kind.External)) xs) (All-head P x xs all) (externals_named xs (All-tail P x xs all))

  declared_named : (body : Option Body) → All P (option_names body) → All (Of P) (declared body)
  declared_named None all = All-nil (Of P)
  declared_named (Some (line.External list)) all = externals_named list all
  declared_named (Some (line.Code i n)) all = All-nil (Of P)
  declared_named (Some (line.Jump c t)) all = All-nil (Of P)
  declared_named (Some (line.Short b t)) all = All-nil (Of P)
  declared_named (Some (line.Bytes vs)) all = All-nil (Of P)
  declared_named (Some (line.Words fs)) all = All-nil (Of P)
  declared_named (Some (line.Space s f)) all = All-nil (Of P)
  declared_named (Some (line.Public list)) all = All-nil (Of P)
  declared_named (Some (line.Origin e)) all = All-nil (Of P)
  declared_named (Some (line.End entry)) all = All-nil (Of P)
  declared_named (Some line.Z80) all = All-nil (Of P)

  line_named : (at : ℕ) (l : Line) → All P (line_names l) → All (Of P) (defines at l)
  line_named at (line.Equ name e) all = All-cons (Of P) (name, Kind.Equ at) [] (All-head P name [] all) (All-nil (Of P))
  line_named at (line.Statement None body) all = declared_named body all
  line_named at (line.Statement (Some name) body) all =
      All-cons (Of P) (name, Kind.Label at) (declared body) (All-head P name (option_names body) all) (declared_named body (All-tail P name (option_names body) all))

  abbrev Has : Taken → Type 0
  Has l = All P (line_names l.line)

  definitions_named : (n : ℕ) (lines : List Taken) → All Has lines → All (Of P) (flat_map (λ l. defines l.0 l.1.line) (enumerate_from n lines))
  definitions_named n [] all = All-nil (Of P)
  definitions_named n (l ∷ ls) all =
      All-append (Of P) (defines n l.line) (flat_map (λ l. defines l.0 l.1.line) (enumerate_from (n + 1) ls))
      (line_named n l.line (All-head Has l ls all)) (definitions_named (n + 1) ls (All-tail Has l ls all))

  one_named : (old : Names) (d : Key × Kind) → All (Of P) old → P d.0 → All (Of P) (with_name old d)
  one_named old d all one =
      elim (is_some (kind_of_name old d.0)) as (λ b. All (Of P) (cond b old (old ++ d ∷ []))) [
        | true ↦ all
        | false ↦ All-append (Of P) old (d ∷ []) all (All-cons (Of P) d [] one (All-nil (Of P)))
      ]

  all_named : (old more : Names) → All (Of P) old → All (Of P) more → All (Of P) (with_names old more)
  all_named old [] all rest = all
  all_named old (d ∷ ds) all rest = all_named (with_name old d) ds (one_named old d all (All-head (Of P) d ds rest)) (All-tail (Of P) d ds rest)

pub names_named : (P : Key → Type 0) (lines : List Taken) → All (λ l. All P (line_names l.line)) lines → All (λ d. P d.0) (names lines)
names_named P lines all = all_named P [] (flat_map (λ l. defines l.0 l.1.line) (enumerate_from 0 lines)) (All-nil (Of P)) (definitions_named P 0 lines all)

-- What holds of each line holds of each line of text.
all_lines : (P Q : Line → Type 0) → ((l : Line) → P l → Q l) → (lines : List Taken) → All (λ l. P l.line) lines → All (λ l. Q l.line) lines
all_lines P Q by lines all = λ k d lt. by _ (all k d lt)

-- the laws of `asm_spell` that are used here
pub record OfText : Type 0 where
  pub defined : (text : List ℕ) (tokens : List Lexeme) (found : Line) → scanned text ≡ Ok tokens → spelled tokens ≡ Ok found → All IsDefinable (line_names found)
  pub short : (text : List ℕ) (tokens : List Lexeme) (found : Line) → scanned text ≡ Ok tokens → spelled tokens ≡ Ok found → All (λ name. length name ≤ 255) (line_names found)

-- DB or DW in a line of text makes 1 to 65,535 bytes
abbrev pub FewData : Type 0
FewData = (text : List ℕ) (tokens : List Lexeme) (label : Option (List ℕ)) (body : Body) → scanned text ≡ Ok tokens → spelled tokens ≡ Ok (line.Statement label (Some body)) → IsFew body

pub all_few : FewData → (lines : List Taken) → All (λ l. IsLineOfText l.line) lines → All HasFew lines
all_few few = all_lines IsLineOfText IsFewIn by
  where
    by_line : (l : Line) (text : List ℕ) (tokens : List Lexeme) → scanned text ≡ Ok tokens → spelled tokens ≡ Ok l → IsFewIn l
    by_line (line.Equ name e) text tokens scans parses = tt
    by_line (line.Statement label None) text tokens scans parses = tt
    by_line (line.Statement label (Some body)) text tokens scans parses = few text tokens label body scans parses

    by : (l : Line) → IsLineOfText l → IsFewIn l
    by l it = by_line l it.text it.tokens it.scans it.parses

pub all_read : FewData → (lines : List Taken) → All (λ l. IsLineOfText l.line) lines → All (λ l. IsReadLine l.line) lines
all_read few = all_lines IsLineOfText IsReadLine by
  where
    by_line : (l : Line) (text : List ℕ) (tokens : List Lexeme) → scanned text ≡ Ok tokens → spelled tokens ≡ Ok l → IsReadLine l
    by_line (line.Equ name e) text tokens scans parses = tt
    by_line (line.Statement label None) text tokens scans parses = tt
    by_line (line.Statement label (Some body)) text tokens scans parses = (record { tokens = tokens; label = label; is = parses }, few text tokens label body scans parses)

    by : (l : Line) → IsLineOfText l → IsReadLine l
    by l it = by_line l it.text it.tokens it.scans it.parses

-- An object file may hold all names that the lines define.
pub object_names : OfText → ((lines : List Taken) → first_name_fault lines ≡ None → length (names lines) ≤ 40000) → ((lines : List Taken) → IsDistinct bytes_eq (map (λ d. d.0) (names lines)))
    → (lines : List Taken) → first_name_fault lines ≡ None → All (λ l. IsLineOfText l.line) lines → AreObjectNames (names lines)
object_names laws few distinct lines sound all = record {
  few = few lines sound;
  each = names_named IsObjectName lines (all_lines IsLineOfText (λ l. All IsObjectName (line_names l)) by lines all);
  distinct = distinct lines;
}
  where
    by : (l : Line) → IsLineOfText l → All IsObjectName (line_names l)
    by l it = λ j d lt. (laws.defined it.text it.tokens l it.scans it.parses j d lt, laws.short it.text it.tokens l it.scans it.parses j d lt)
