-- A macro definition: the macro is kept, and expansion continues after its ENDM.
use Rattle.std.proofs.Common.{◌≡◌, ◌∙◌, sym, ap, refl, ℕ, List, [], ◌∷◌, ◌++◌, Some, None, Vec, map, reverse, length, arith}
use Rattle.std.specs.Global.{Global}
use Rattle.std.proofs.lemmas.List.{map-append}
use Rattle.asm_line.specs.Replacing.Views as replaced
use Rattle.asm_text.specs.declared.call.Macro.{Macro}
use Rattle.asm_text.specs.declared.stretch.Block.{Block}
use Rattle.asm_text.specs.Lines.{Numbered}
use Rattle.asm_text.specs.Sections.Blocks.{block_body}
use Rattle.asm_text.specs.Sections.Sections.{body_seen, numbered_line}
use Rattle.asm_text.specs.Spans.{text_of}
use Rattle.asm_text.specs.Prepared.{macro_seen, macros_seen, said}
use Rattle.asm_macro.specs.declared.expansion.Expansion.{Expansion}
use Rattle.asm_macro.specs.Parts.{ExpansionPart, Go, closing, line_texts}
use Rattle.asm_macro.specs.Private.Frames.{innermost}
use Rattle.asm_macro.specs.Private.Heads.{kept}
use Rattle.asm_macro.specs.Private.Moves.{On, moved, rest_of, state_of, tables_in}

pub empty : {X : Type 0} (xs : List X) → length xs ≡ 0 → xs ≡ []
empty [] e = refl
empty (x ∷ xs) e = absurd (omega (arith, e))

pub no_tables : (x : Expansion) → length x.calls.items ≡ 0 → innermost (tables_in x) ≡ None
no_tables x e = ap (λ cs. innermost (map (λ call. said call) (reverse cs))) (empty x.calls.items e)

pub kept_is : (x : Expansion) (l : Numbered) (entries : List (Vec ℕ Global × Macro)) (key : Vec ℕ Global) (parameters : Vec (Vec ℕ Global) Global) (body : Block) (m : Macro) → length x.calls.items ≡ 0
    → block_body (rest_of x).text ≡ Some (body_seen x.lines (innermost (tables_in x)) body)
    → ((p : ExpansionPart) → closing (numbered_line x.lines (innermost (tables_in x)) body.stretch.end) p ≡ p)
    → m.parameters ≡ parameters → m.body ≡ body.stretch.lines → entries ≡ x.macros.entries ++ (key, m) ∷ []
    → moved (rest_of x).depth (rest_of x).around (kept (state_of x) l key.items (replaced.texts parameters.items) (block_body (rest_of x).text))
    ≡ On [] (record (rest_of x) { state = record (state_of x) { macros = macros_seen x.lines entries }; text = text_of x.lines (innermost (tables_in x)) body.after })
kept_is x l entries key parameters body m outside found closes named of is =
    let b = body_seen x.lines (innermost (tables_in x)) body in
    let lines = ap (λ n. line_texts (text_of x.lines n body.stretch.lines)) (no_tables x outside) in
    let all = ap (macros_seen x.lines) is ∙ map-append (λ m. (m.0.items, macro_seen x.lines m.1)) x.macros.entries ((key, m) ∷ [])
    ∙ ap (λ ps. (state_of x).macros ++ (key.items, record { parameters = replaced.texts ps.items; body = line_texts (text_of x.lines None m.body) }) ∷ []) named
    ∙ ap (λ b. (state_of x).macros ++ (key.items, record { parameters = replaced.texts parameters.items; body = line_texts (text_of x.lines None b) }) ∷ []) of in
    ap (λ o. moved (rest_of x).depth (rest_of x).around (kept (state_of x) l key.items (replaced.texts parameters.items) o)) found
    ∙ ap (moved (rest_of x).depth (rest_of x).around) (closes (Go [] (record (state_of x) { macros = (state_of x).macros ++ (key.items, record { parameters = replaced.texts parameters.items; body = line_texts b.section.lines }) ∷ [] }) b.after))
    ∙ ap (λ t. On [] (record (rest_of x) { state = record (state_of x) { macros = (state_of x).macros ++ (key.items, record { parameters = replaced.texts parameters.items; body = t }) ∷ [] }; text = b.after })) lines
    ∙ ap (λ ms. On [] (record (rest_of x) { state = record (state_of x) { macros = ms }; text = b.after })) (sym all)
