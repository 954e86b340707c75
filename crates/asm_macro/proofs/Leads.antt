-- How many lines a line of the source gives, and how many may be read where expansion continues.
use Rattle.std.proofs.Common.{◌≡◌, ◌≤◌, ◌+◌, ◌&&◌, if◌then◌else◌, refl, subst, inl, inr, ℕ, zero, suc, Bool, true, false, nat_le, List, [], ◌∷◌, Option, Some, None, Result, Ok, Err, codes, length, arith}
use Rattle.std.proofs.lemmas.Bool.{leb-false}
use Rattle.std.specs.Str.{bytes_eq}
use Rattle.asm_macro.specs.declared.take.TheConstants.{MOST_NESTED}
use Rattle.asm_macro.specs.declared.expansion.TheConstants.{MOST_LINES}
use Rattle.asm_line.specs.declared.fault.ScanFault.{ScanFault}
use Rattle.asm_line.specs.Tokens.{Lexeme}
use Rattle.asm_line.specs.Scanned.{scanned}
use Rattle.common.specs.Words.{upper}
use Rattle.asm_line.specs.declared.forms.BlockWord.{BlockWord}
use Rattle.asm_line.specs.Forms.{Form, Head}
use Rattle.asm_line.specs.Forms as line
use Rattle.asm_text.specs.Lines.{Numbered, form_of}
use Rattle.asm_text.specs.Sections.Blocks.{BlockBody, Branches, block_body, branches_of}
use Rattle.asm_text.specs.Roles.{is_alone}
use Rattle.asm_text.specs.Calls.{Macro, Opened, label_lines, opened}
use Rattle.asm_text.specs.Sections.Onward.{Next, Rest, BehindFirst, BehindSecond, Turns, Onward, Stray, On, Into, behind, branch, turns}
use Rattle.asm_macro.specs.declared.fault.MacroFault.{MacroFault}
use Rattle.asm_macro.specs.State.{State, with_line_counted, is_constant, macro_called, constant_table, room}
use Rattle.asm_macro.specs.Judged.{first_macro_fault, is_counted, line_fault, parameters, redefined, stray_fault, unclosed, unscanned}
use Rattle.asm_macro.specs.Parts.{ExpansionPart, Stop, Last, Go, Within, call_part, closing, conditional, definition, fails, head_part, into, judged_part, learned, line_part, onward_part, read_part, repeated, resumed, unless_deep, word_part}
use Rattle.asm_macro.specs.Values.{value_of_tokens}
use Rattle.asm_macro.specs.Leads.{IsOfBlocks, IsOfLine, Leads}
use Rattle.asm_macro.specs.Leads as leads

-- what a line leads to, given its tokens
abbrev by_scan : ℕ → State → Numbered → List Numbered → Option MacroFault → Result (List Lexeme) ScanFault → ExpansionPart
by_scan depth e l rest (Some fault) s = fails l fault
by_scan depth e l rest None s = read_part depth e l rest s

same_by_scan : (depth : ℕ) (e : State) (l : Numbered) (rest : List Numbered) (fault : Option MacroFault) → by_scan depth e l rest fault (scanned l.text) ≡ judged_part depth e l rest fault
same_by_scan depth e l rest (Some fault) = refl
same_by_scan depth e l rest None = refl

-- expansion may stop for an error of blocks
module _ (Why : MacroFault → Type 0) (of_blocks : (why : MacroFault) → IsOfBlocks why → Why why) where
  stops : (k n number : ℕ) (why : MacroFault) → Why why → Leads Why k n (Stop [] number why)
  stops k n number why h = (omega arith, omega arith, h)

  stops_stray : (k n number : ℕ) → Leads Why k n (Stop [] number MacroFault.Stray)
  stops_stray k n number = stops k n number MacroFault.Stray (of_blocks MacroFault.Stray leads.stray)

  goes : (k : ℕ) (e : State) (rest : List Numbered) → Leads Why k (suc (room e)) (Go [] e rest)
  goes k e rest = (omega arith, omega arith, tt)

  at_closing : (k n : ℕ) (l : Numbered) (p : ExpansionPart) → Leads Why k n p → Leads Why k n (closing l p)
  at_closing k n l p h = elim (is_alone (form_of l.text)) as (λ b. Leads Why k n (if b then p else Stop [] l.number MacroFault.Stray)) [
    | true ↦ h
    | false ↦ stops_stray k n l.number
  ]

  not_deep : (k n depth : ℕ) (l : Numbered) (p : ExpansionPart) → Leads Why k n p → Leads Why k n (unless_deep depth l p)
  not_deep k n depth l p h = elim (nat_le MOST_NESTED depth) as (λ b. Leads Why k n (if b then Stop [] l.number MacroFault.TooDeep else p)) [
    | true ↦ stops k n l.number MacroFault.TooDeep (of_blocks MacroFault.TooDeep leads.deep)
    | false ↦ h
  ]

  into_leads : (k depth : ℕ) (e : State) (text : List Numbered) (next : Next) → Leads Why k (suc (room e)) (into depth e text next)
  into_leads k depth e text (Turns n number body) =
      elim (nat_le MOST_LINES e.count) as (λ b. Leads Why k (suc (room e)) (if b then Stop [] number MacroFault.TooManyLines else Within [] (with_line_counted e) (depth + 1) text (Turns n number body))) [
        | true ↦ stops k (suc (room e)) number MacroFault.TooManyLines (of_blocks MacroFault.TooManyLines leads.many)
        | false ↦ (omega arith, omega arith, tt)
      ]
  into_leads k depth e text (Rest more) = (omega arith, omega arith, tt)
  into_leads k depth e text (BehindFirst b) = (omega arith, omega arith, tt)
  into_leads k depth e text (BehindSecond t more after) = (omega arith, omega arith, tt)

  -- wherever expansion continues
  onward_lead : (k depth : ℕ) (e : State) (o : Onward) → Leads Why k (suc (room e)) (onward_part depth e o)
  onward_lead k depth e (Stray number) = stops_stray k (suc (room e)) number
  onward_lead k depth e (On text) = goes k e text
  onward_lead k depth e (Into text next) = into_leads k depth e text next

  -- a REPT or an IF, given the value of its expression
  repeated_leads : (k depth : ℕ) (e : State) (l : Numbered) (body : Option BlockBody) (value : Result ℕ MacroFault) → ((why : MacroFault) → value ≡ Err why → Why why) → Leads Why k (suc (room e)) (repeated depth e l body value)
  repeated_leads k depth e l (Some body) (Ok n) valued = not_deep k (suc (room e)) depth l (onward_part depth e (turns n l.number body)) (onward_lead k depth e (turns n l.number body))
  repeated_leads k depth e l (Some body) (Err fault) valued = stops k (suc (room e)) l.number fault (valued fault refl)
  repeated_leads k depth e l None value valued = stops k (suc (room e)) l.number MacroFault.Unclosed (of_blocks MacroFault.Unclosed leads.unclosed)

  conditional_leads : (k depth : ℕ) (e : State) (l : Numbered) (branches : Option Branches) (value : Result ℕ MacroFault) → ((why : MacroFault) → value ≡ Err why → Why why) → Leads Why k (suc (room e)) (conditional depth e l branches value)
  conditional_leads k depth e l (Some b) (Ok n) valued = onward_lead k depth e (branch n b)
  conditional_leads k depth e l (Some b) (Err fault) valued = stops k (suc (room e)) l.number fault (valued fault refl)
  conditional_leads k depth e l None value valued = stops k (suc (room e)) l.number MacroFault.Unclosed (of_blocks MacroFault.Unclosed leads.unclosed)

  definition_leads : (k : ℕ) (e : State) (l : Numbered) (name : List ℕ) (some : Option (List (List ℕ))) (body : Option BlockBody) → Leads Why k (suc (room e)) (definition e l name some body)
  definition_leads k e l name (Some some) (Some body) = at_closing k (suc (room e)) body.section.end _ (omega arith, omega arith, tt)
  definition_leads k e l name None body = stops_stray k (suc (room e)) l.number
  definition_leads k e l name (Some some) None = stops k (suc (room e)) l.number MacroFault.Unclosed (of_blocks MacroFault.Unclosed leads.unclosed)

  equated_leads : (known : Bool) (value : Result ℕ MacroFault) (e : State) (l : Numbered) (name : List ℕ) (rest : List Numbered) → Leads Why 1 (suc (room e)) (Go (l ∷ []) (if known then e else learned name e value) rest)
  equated_leads true value e l name rest = (omega arith, omega arith, tt)
  equated_leads false (Ok n) e l name rest = (omega arith, omega arith, tt)
  equated_leads false (Err fault) e l name rest = (omega arith, omega arith, tt)

  one_label : (label : Option (List ℕ)) (l : Numbered) (tokens : List Lexeme) → length (label_lines label l tokens) ≤ 1
  one_label None l tokens = omega arith
  one_label (Some label) l tokens = omega arith

  label_stops : (n number : ℕ) (label : Option (List ℕ)) (l : Numbered) (tokens : List Lexeme) → Leads Why 1 (suc n) (Stop (label_lines label l tokens) number MacroFault.Stray)
  label_stops n number None l tokens = stops_stray 1 (suc n) number
  label_stops n number (Some label) l tokens = (omega arith, omega arith, of_blocks MacroFault.Stray leads.stray)

  called_leads : (depth : ℕ) (e : State) (l : Numbered) (f : Form) (tokens : List Lexeme) (rest : List Numbered) (m : Macro) (body : Option Opened) → Leads Why 1 (suc (room e)) (call_part depth e l f tokens rest m body)
  called_leads depth e l f tokens rest m (Some body) = (one_label f.label l tokens, omega arith, tt)
  called_leads depth e l f tokens rest m None = label_stops (room e) l.number f.label l tokens

  worded_leads : (depth : ℕ) (e : State) (l : Numbered) (f : Form) (tokens : List Lexeme) (rest : List Numbered) (name : List ℕ) (found : Option Macro) → Leads Why 1 (suc (room e)) (word_part depth e l f tokens rest name found)
  worded_leads depth e l f tokens rest name (Some m) = not_deep 1 (suc (room e)) depth l (call_part depth e l f tokens rest m (opened m.body)) (called_leads depth e l f tokens rest m (opened m.body))
  worded_leads depth e l f tokens rest name None = elim (bytes_eq name (codes "END")) as (λ b. Leads Why 1 (suc (room e)) (if b then Last l else Go (l ∷ []) e rest)) [
    | true ↦ (omega arith, omega arith, tt)
    | false ↦ (omega arith, omega arith, tt)
  ]

  -- a line that can be tokenized and is counted
  headed_leads : (h : Head) (depth : ℕ) (e : State) (l : Numbered) (f : Form) (tokens : List Lexeme) (rest : List Numbered) → ((why : MacroFault) → value_of_tokens (constant_table e) f.rest ≡ Err why → Why why) → Leads Why 1 (suc (room e)) (head_part h depth e l f tokens rest)
  headed_leads (line.Equ name) depth e l f tokens rest valued = equated_leads (is_constant e (upper name)) (value_of_tokens (constant_table e) f.rest) e l name rest
  headed_leads (line.Macro name) depth e l f tokens rest valued = definition_leads 1 e l name (parameters f.rest) (block_body rest)
  headed_leads (line.Block BlockWord.Rept) depth e l f tokens rest valued = repeated_leads 1 depth e l (block_body rest) (value_of_tokens (constant_table e) f.rest) valued
  headed_leads (line.Block BlockWord.If) depth e l f tokens rest valued = conditional_leads 1 depth e l (branches_of rest) (value_of_tokens (constant_table e) f.rest) valued
  headed_leads (line.Block BlockWord.Macro) depth e l f tokens rest valued = stops_stray 1 (suc (room e)) l.number
  headed_leads (line.Block BlockWord.Local) depth e l f tokens rest valued = stops_stray 1 (suc (room e)) l.number
  headed_leads (line.Block BlockWord.Else) depth e l f tokens rest valued = stops_stray 1 (suc (room e)) l.number
  headed_leads (line.Block BlockWord.EndIf) depth e l f tokens rest valued = stops_stray 1 (suc (room e)) l.number
  headed_leads (line.Block BlockWord.EndM) depth e l f tokens rest valued = stops_stray 1 (suc (room e)) l.number
  headed_leads (line.Word name) depth e l f tokens rest valued = worded_leads depth e l f tokens rest (upper name) (macro_called e (upper name))
  headed_leads line.Nothing depth e l f tokens rest valued = (omega arith, omega arith, tt)

  -- a line that can be tokenized but is not counted is misplaced
  uncounted_stops : (h : Head) (depth : ℕ) (e : State) (l : Numbered) (f : Form) (tokens : List Lexeme) (rest : List Numbered) (n : ℕ) → is_counted h ≡ false → Leads Why 1 n (head_part h depth e l f tokens rest)
  uncounted_stops (line.Equ name) depth e l f tokens rest n is = absurd (cc)
  uncounted_stops (line.Macro name) depth e l f tokens rest n is = absurd (cc)
  uncounted_stops (line.Block BlockWord.Rept) depth e l f tokens rest n is = absurd (cc)
  uncounted_stops (line.Block BlockWord.If) depth e l f tokens rest n is = absurd (cc)
  uncounted_stops (line.Block BlockWord.Macro) depth e l f tokens rest n is = absurd (cc)
  uncounted_stops (line.Block BlockWord.Local) depth e l f tokens rest n is = stops_stray 1 n l.number
  uncounted_stops (line.Block BlockWord.Else) depth e l f tokens rest n is = stops_stray 1 n l.number
  uncounted_stops (line.Block BlockWord.EndIf) depth e l f tokens rest n is = stops_stray 1 n l.number
  uncounted_stops (line.Block BlockWord.EndM) depth e l f tokens rest n is = stops_stray 1 n l.number
  uncounted_stops (line.Word name) depth e l f tokens rest n is = absurd (cc)
  uncounted_stops line.Nothing depth e l f tokens rest n is = absurd (cc)

  unless_found : (depth : ℕ) (e : State) (l : Numbered) (rest : List Numbered) (n : ℕ) (tokens : List Lexeme) (fault : Option MacroFault) → ((why : MacroFault) → fault ≡ Some why → Why why)
      → Leads Why 1 n (read_part depth e l rest (Ok tokens)) → Leads Why 1 n (by_scan depth e l rest fault (Ok tokens))
  unless_found depth e l rest n tokens (Some fault) own h = stops 1 n l.number fault (own fault refl)
  unless_found depth e l rest n tokens None own h = h

  tested_leads : (depth : ℕ) (e : State) (l : Numbered) (rest : List Numbered) (is_one many : Bool) (s : Result (List Lexeme) ScanFault) (faults : List (Option MacroFault)) → is_counted (form_of l.text).head ≡ is_one → nat_le MOST_LINES e.count ≡ many
      → ((why : MacroFault) → first_macro_fault ((if is_one && many then Some MacroFault.TooManyLines else None) ∷ unscanned s ∷ faults) ≡ Some why → Why why)
      → ((why : MacroFault) → value_of_tokens (constant_table (with_line_counted e)) (form_of l.text).rest ≡ Err why → Why why)
      → Leads Why 1 (room e) (by_scan depth e l rest (first_macro_fault ((if is_one && many then Some MacroFault.TooManyLines else None) ∷ unscanned s ∷ faults)) s)
  tested_leads depth e l rest true true s faults one is own valued = stops 1 (room e) l.number MacroFault.TooManyLines (own MacroFault.TooManyLines refl)
  tested_leads depth e l rest true false (Err fault) faults one is own valued = stops 1 (room e) l.number _ (own _ refl)
  tested_leads depth e l rest true false (Ok tokens) faults one is own valued =
      let h = headed_leads (form_of l.text).head depth (with_line_counted e) l (form_of l.text) tokens rest valued in
      let less = leb-false MOST_LINES e.count is in
      unless_found depth e l rest (room e) tokens (first_macro_fault faults) own (h.0, omega (arith, h.1, less), h.2)
  tested_leads depth e l rest false many (Err fault) faults one is own valued = stops 1 (room e) l.number _ (own _ refl)
  tested_leads depth e l rest false many (Ok tokens) faults one is own valued = unless_found depth e l rest (room e) tokens (first_macro_fault faults) own (uncounted_stops (form_of l.text).head depth (with_line_counted e) l (form_of l.text) tokens rest (room e) one)

-- what a line leads to
pub part_leads : (depth : ℕ) (e : State) (l : Numbered) (rest : List Numbered) → Leads (IsOfLine depth e l rest) 1 (room e) (line_part depth e l rest)
part_leads depth e l rest =
    let f = form_of l.text in
    let others = stray_fault depth f ∷ redefined e f.head ∷ unclosed f.head rest ∷ [] in
    subst (Leads (IsOfLine depth e l rest) 1 (room e)) (same_by_scan depth e l rest (line_fault depth e l rest))
    (tested_leads (IsOfLine depth e l rest) (λ why h. inl h) depth e l rest (is_counted f.head) (nat_le MOST_LINES e.count) (scanned l.text) others refl refl (λ why is. inr (inl is)) (λ why is. inr (inr is)))

-- where expansion continues after some lines
pub onward_leads : (depth : ℕ) (next : Next) (e : State) → Leads IsOfBlocks 0 (suc (room e)) (resumed depth next e)
onward_leads depth next e = onward_lead IsOfBlocks (λ why h. h) 0 depth e (behind next)
