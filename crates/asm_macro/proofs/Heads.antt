-- Definitions judge a line by `part`, the code by its head. If the line can be tokenized and is counted, both say the same.
use Rattle.std.proofs.Common.{◌≡◌, ◌<◌, ◌∙◌, ◌||◌, ◌&&◌, if◌then◌else◌, sym, ap, refl, ℕ, Bool, true, false, not, nat_le, nat_lt, is_some, List, [], ◌∷◌, Option, Some, None, Ok}
use Rattle.std.proofs.lemmas.Bool.{lt-leb}
use Rattle.std.specs.Option.{option_map}
use Rattle.asm_macro.specs.declared.expansion.TheConstants.{MOST_LINES}
use Rattle.asm_line.specs.Tokens.{Lexeme}
use Rattle.asm_line.specs.Scanned.{scanned}
use Rattle.common.specs.Words.{upper, is_reserved}
use Rattle.asm_line.specs.declared.forms.BlockWord.{BlockWord}
use Rattle.asm_line.specs.Forms.{Form, Head, form}
use Rattle.asm_line.specs.Forms as line
use Rattle.asm_macro.specs.declared.fault.MacroFault.{MacroFault}
use Rattle.asm_text.specs.Lines.{Numbered, form_by, tokens_in}
use Rattle.asm_macro.specs.State.{State, with_line_counted, macro_named, constant_table}
use Rattle.asm_text.specs.Sections.Blocks.{BlockBody, block_body, branches_of}
use Rattle.asm_macro.specs.Judged.{first_macro_fault, is_counted, is_stray, parameters, redefined, stray_fault, too_many_lines, unclosed, unless_some, unscanned}
use Rattle.asm_macro.specs.Parts.{ExpansionPart, conditional, definition, fails, head_part, judged_part, line_part, read_part, repeated}
use Rattle.asm_macro.specs.Values.{value_of_tokens}
use Rattle.asm_macro.specs.Private.Heads.{by_head, defined, kept, unless_redefined, unless_stray}

has_parameters : (some : Bool) (ps : Option (List (List ℕ))) → (some || not (is_some ps)) ≡ false → is_some ps ≡ true
has_parameters true ps e = absurd (cc)
has_parameters false None e = absurd (cc)
has_parameters false (Some p) e = refl

by_macro : (depth : ℕ) (e : State) (l : Numbered) (rest : List Numbered) (name : List ℕ) (s r : Bool) (b : Option BlockBody) (ps : Option (List (List ℕ))) → (s ≡ false → is_some ps ≡ true)
    → read_part depth e l rest (scanned l.text) ≡ definition (with_line_counted e) l name ps b
    → judged_part depth e l rest (first_macro_fault ((if s then Some MacroFault.Stray else None) ∷ (if r then Some MacroFault.Redefined else None) ∷ unless_some (is_some b) ∷ []))
    ≡ unless_stray s l (unless_redefined r l (definition (with_line_counted e) l name ps b))
by_macro depth e l rest name true r b ps h is = refl
by_macro depth e l rest name false true b ps h is = refl
by_macro depth e l rest name false false (Some b) ps h is = is
by_macro depth e l rest name false false None (Some ps) h is = refl
by_macro depth e l rest name false false None None h is = let no : false ≡ true = h refl in absurd (cc)

-- a line with REPT or IF: it may not have a label, and its block has to be closed
by_block : {B : Type 0} (depth : ℕ) (e : State) (l : Numbered) (rest : List Numbered) (s : Bool) (b : Option B) (f : Option B → ExpansionPart) → f None ≡ fails l MacroFault.Unclosed
    → read_part depth e l rest (scanned l.text) ≡ f b
    → judged_part depth e l rest (first_macro_fault ((if s then Some MacroFault.Stray else None) ∷ None ∷ unless_some (is_some b) ∷ [])) ≡ unless_stray s l (f b)
by_block depth e l rest true b f u is = refl
by_block depth e l rest false None f u is = sym u
by_block depth e l rest false (Some b) f u is = is

by_each : (h : Head) (f : Form) (depth : ℕ) (e : State) (l : Numbered) (tokens : List Lexeme) (rest : List Numbered) → read_part depth e l rest (scanned l.text) ≡ head_part h depth (with_line_counted e) l f tokens rest
    → judged_part depth e l rest (first_macro_fault ((if is_stray depth f h then Some MacroFault.Stray else None) ∷ redefined e h ∷ unclosed h rest ∷ [])) ≡ by_head h depth (with_line_counted e) l f tokens rest
by_each (line.Equ name) f depth e l tokens rest is = is
by_each (line.Macro name) f depth e l tokens rest is =
    by_macro depth e l rest name (is_stray depth f (line.Macro name)) (is_some (macro_named e (upper name))) (block_body rest) (parameters f.rest)
    (λ h. has_parameters ((is_some f.label || nat_lt 0 depth) || is_reserved (upper name)) (parameters f.rest) h) is
by_each (line.Block BlockWord.Macro) f depth e l tokens rest is = refl
by_each (line.Block BlockWord.Local) f depth e l tokens rest is = refl
by_each (line.Block BlockWord.Else) f depth e l tokens rest is = refl
by_each (line.Block BlockWord.EndIf) f depth e l tokens rest is = refl
by_each (line.Block BlockWord.EndM) f depth e l tokens rest is = refl
by_each (line.Block BlockWord.Rept) f depth e l tokens rest is = by_block depth e l rest (is_some f.label) (block_body rest) (λ b. repeated depth (with_line_counted e) l b (value_of_tokens (constant_table (with_line_counted e)) f.rest)) refl is
by_each (line.Block BlockWord.If) f depth e l tokens rest is = by_block depth e l rest (is_some f.label) (branches_of rest) (λ b. conditional depth (with_line_counted e) l b (value_of_tokens (constant_table (with_line_counted e)) f.rest)) refl is
by_each (line.Word name) f depth e l tokens rest is = is
by_each line.Nothing f depth e l tokens rest is = is

none_of : (c m : Bool) → m ≡ false → (if c && m then Some MacroFault.TooManyLines else None) ≡ None
none_of true m e = rw e refl
none_of false m e = refl

few : (e : State) (h : Head) → e.count < MOST_LINES → too_many_lines e h ≡ None
few e h k = let less : nat_le MOST_LINES e.count ≡ false = lt-leb MOST_LINES e.count k in none_of (is_counted h) (nat_le MOST_LINES e.count) less

pub part_is : (depth : ℕ) (e : State) (l : Numbered) (rest : List Numbered) (tokens : List Lexeme) → scanned l.text ≡ Ok tokens → e.count < MOST_LINES
    → line_part depth e l rest ≡ by_head (form tokens).head depth (with_line_counted e) l (form tokens) tokens rest
part_is depth e l rest tokens is k =
    let f = form tokens in
    let now : read_part depth e l rest (scanned l.text) ≡ head_part f.head depth (with_line_counted e) l f tokens rest
    = ap (λ s. read_part depth e l rest s) is ∙ ap (λ s. head_part (form_by (tokens_in s)).head depth (with_line_counted e) l (form_by (tokens_in s)) tokens rest) is in
    let scan : line_part depth e l rest ≡ judged_part depth e l rest (first_macro_fault (too_many_lines e f.head ∷ None ∷ stray_fault depth f ∷ redefined e f.head ∷ unclosed f.head rest ∷ []))
    = ap (λ s. judged_part depth e l rest (first_macro_fault (too_many_lines e (form_by (tokens_in s)).head ∷ unscanned s ∷ stray_fault depth (form_by (tokens_in s)) ∷ redefined e (form_by (tokens_in s)).head ∷ unclosed (form_by (tokens_in s)).head rest ∷ []))) is in
    scan ∙ ap (λ o. judged_part depth e l rest (first_macro_fault (o ∷ None ∷ stray_fault depth f ∷ redefined e f.head ∷ unclosed f.head rest ∷ []))) (few e f.head k) ∙ by_each f.head f depth e l tokens rest now

definition_kept : (e : State) (l : Numbered) (name key : List ℕ) (some : List (List ℕ)) (found : Option BlockBody) → key ≡ upper name → definition e l name (Some some) found ≡ kept e l key some found
definition_kept e l name key some (Some body) same = ap (λ k. kept e l k some (Some body)) (sym same)
definition_kept e l name key some None same = refl

-- a MACRO line that is not misplaced, with a new name
pub defined_is : (depth : ℕ) (e : State) (l : Numbered) (f : Form) (name key : List ℕ) (rest : List Numbered) (some : List (List ℕ)) → key ≡ upper name → parameters f.rest ≡ Some some
    → ((is_some f.label || nat_lt 0 depth) || is_reserved (upper name)) ≡ false → macro_named e (upper name) ≡ None → defined depth e l f name rest ≡ kept e l key some (block_body rest)
defined_is depth e l f name key rest some same found stands new =
    let stray : is_stray depth f (line.Macro name) ≡ false = ap (λ b. b || not (is_some (parameters f.rest))) stands ∙ ap (λ o. false || not (is_some o)) found in
    ap (λ b. unless_stray b l (unless_redefined (is_some (macro_named e (upper name))) l (definition e l name (parameters f.rest) (block_body rest)))) stray
    ∙ ap (λ o. unless_redefined (is_some o) l (definition e l name (parameters f.rest) (block_body rest))) new
    ∙ ap (λ o. definition e l name o (block_body rest)) found ∙ definition_kept e l name key some (block_body rest) same

pub none_new : {X Y : Type 0} (f : X → Y) (o : Option X) (found : Option Y) → option_map f o ≡ found → is_some o ≡ false → found ≡ None
none_new f None found e n = sym e
none_new f (Some x) found e n = absurd (cc)

pub some_mapped : {X Y : Type 0} (f : X → Y) (o : Option X) → is_some (option_map f o) ≡ is_some o
some_mapped f None = refl
some_mapped f (Some x) = refl
