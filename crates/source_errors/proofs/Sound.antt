-- The lines that count are lines of text, and no more than there are.
use Rattle.std.proofs.Common.{◌≡◌, ◌≤◌, ◌+◌, arith, refl, subst, sym, ℕ, true, false, cond, All, List, [], ◌∷◌, ◌++◌, Option, Some, None, Result, Ok, Err, length}
use Rattle.std.specs.Option.{option_map, option_to_list}
use Rattle.std.specs.Prelude.{is_ok}
use Rattle.std.proofs.lemmas.List.Elements.{All-cons, All-nil, All-append}
use Rattle.std.proofs.lemmas.List.{length-append, map-append}
use Rattle.asm_line.specs.declared.fault.ScanFault.{ScanFault}
use Rattle.asm_line.specs.Scanned.{scanned}
use Rattle.asm_line.specs.Tokens.{Lexeme}
use Rattle.asm_spell.specs.declared.fault.StmtFault.{StmtFault}
use Rattle.asm_spell.specs.Line.{Line}
use Rattle.asm_spell.specs.Spelling.{spelled}
use Rattle.asm_text.specs.Lines.{Numbered}
use Rattle.asm_names.specs.Faults.{first}
use Rattle.asm_names.specs.Lines.{Taken}
use Rattle.asm_names.specs.Names.{defines, has_clash, names}
use Rattle.asm_module.specs.Program.Spelled.{IsLineOfText}
use Rattle.asm_module.specs.declared.line_fault.LineFault.{LineFault}
use Rattle.asm_module.specs.Reads.Read.{read_line, scanned_by, spelled_by}
use Rattle.source_errors.specs.Counted.{Counted, after_colon, lines_counted, counted_after, counts, counts_as, counts_by, meant_as, takens}

of_spelled : (r : Result Line StmtFault) (line : Line) → spelled_by r ≡ Ok line → r ≡ Ok line
of_spelled (Ok l) line e = cc
of_spelled (Err why) line e = absurd cc

of_scanned : (r : Result (List Lexeme) ScanFault) (line : Line) → scanned_by r ≡ Ok line → (tokens : List Lexeme) × (r ≡ Ok tokens) × (spelled tokens ≡ Ok line)
of_scanned (Ok tokens) line e = (tokens, refl, of_spelled (spelled tokens) line e)
of_scanned (Err why) line e = absurd cc

of_text : (text : List ℕ) (line : Line) → read_line text ≡ Ok line → IsLineOfText line
of_text text line e = (let found = of_scanned (scanned text) line e in record { text = text; tokens = found.0; scans = found.1; parses = found.2 })

abbrev IsText : Taken → Type 0
IsText t = IsLineOfText t.line

-- whatever a text counts as is a line of text
abbrev IsTextIf : Option Taken → Type 0
IsTextIf None = Unit {0}
IsTextIf (Some t) = IsText t

text_by : (before : List Taken) (number : ℕ) (text : List ℕ) (r : Result Line LineFault) → read_line text ≡ r → IsTextIf (counts_by before number r)
text_by before number text (Err why) read = tt
text_by before number text (Ok line) read =
    elim (has_clash (names before) (defines (length before) line)) as (λ b. IsTextIf (cond b None (Some (record { number = number; line = line })))) [
      | true ↦ tt
      | false ↦ of_text text line read
    ]

first_text : (a b c : Option Taken) → IsTextIf a → IsTextIf b → IsTextIf c → IsTextIf (first (a ∷ b ∷ c ∷ []))
first_text (Some t) b c of_a of_b of_c = of_a
first_text None (Some t) c of_a of_b of_c = of_b
first_text None None (Some t) of_a of_b of_c = of_c
first_text None None None of_a of_b of_c = tt

counts_text : (before : List Taken) (l : Numbered) → IsTextIf (counts before l)
counts_text before l =
    first_text (counts_as before l.number l.text) (counts_as before l.number (meant_as l.text)) (counts_as before l.number (after_colon l.text))
    (text_by before l.number l.text (read_line l.text) refl) (text_by before l.number (meant_as l.text) (read_line (meant_as l.text)) refl) (text_by before l.number (after_colon l.text) (read_line (after_colon l.text)) refl)

abbrev counted_by : Numbered → Option Taken → List Counted
counted_by l o = option_to_list (option_map (λ t. record { from = l; is_read = is_ok (read_line l.text); taken = t }) o)

all_by : (l : Numbered) (o : Option Taken) → IsTextIf o → All IsText (takens (counted_by l o))
all_by l None is = All-nil IsText
all_by l (Some t) is = All-cons IsText t [] is (All-nil IsText)

pub all_texts : (before : List Counted) (lines : List Numbered) → All IsText (takens before) → All IsText (takens (counted_after before lines))
all_texts before [] are = are
all_texts before (l ∷ lines) are =
    all_texts (before ++ lines_counted before l) lines
    (subst (All IsText) (sym (map-append (λ c. c.taken) before (lines_counted before l))) (All-append IsText (takens before) (takens (lines_counted before l)) are (all_by l (counts (takens before) l) (counts_text (takens before) l))))

one_at_most : (l : Numbered) (o : Option Taken) → length (counted_by l o) ≤ 1
one_at_most l None = omega arith
one_at_most l (Some t) = omega arith

pub no_more : (before : List Counted) (lines : List Numbered) → length (counted_after before lines) ≤ length before + length lines
no_more before [] = omega arith
no_more before (l ∷ lines) =
    let le = no_more (before ++ lines_counted before l) lines in
    let one = one_at_most l (counts (takens before) l) in
    let both = length-append before (lines_counted before l) in
    omega (arith, le, one, both)
