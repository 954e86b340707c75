-- What holds for a parsed line, and which errors tokens alone can have: one walk over all that is read of a line.
use Rattle.std.proofs.Common.{◌≡◌, ◌≢◌, ℕ, Bool, true, false, List, [], ◌∷◌, Option, Some, None, Result, Ok, Err, All, codes, cond, map, refl, sym, subst}
use Rattle.std.specs.Result.{IfErr, IfOk}
use Rattle.std.specs.Option.{IfSome, is_some, option_and_then, option_map}
use Rattle.std.specs.Str.{str_eq_ignore_ascii_case}
use Rattle.std.specs.List.{list_any}
use Rattle.std.proofs.lemmas.List.Elements.{All-nil, All-cons}
use Rattle.common.specs.Words.{upper, is_reserved}
use Rattle.z80_form.specs.Named.{mnemonic_named}
use Rattle.z80_form.specs.Spelling.{instruction_of}
use Rattle.common.specs.Results.{◌>>=◌}
use Rattle.asm_line.specs.Tokens.{Lexeme}
use Rattle.asm_parse.specs.declared.fault.ExprFault.{ExprFault}
use Rattle.asm_parse.specs.Parsed.{parsed_by}
use Rattle.asm_parse.specs.Grammar.{Phrase, symbol}
use Rattle.asm_parse.specs.Private.Parsing.{reading, start}
use Rattle.asm_line.specs.Forms as front
use Rattle.asm_line.specs.Lists.{name_list}
use Rattle.z80_instr.specs.declared.IndexRegister.{IndexRegister}
use Rattle.z80_form.specs.declared.name.Name.{Name}
use Rattle.z80_form.specs.declared.mnemonic.Mnemonic.{Mnemonic}
use Rattle.z80_form.specs.declared.form.Pointed.{Pointed}
use Rattle.z80_instr.specs.declared.Instr.{Instr}
use Rattle.z80_instr.specs.declared.ShortCond.{ShortCond}
use Rattle.z80_form.specs.declared.form.Form.{Form}
use Rattle.z80_form.specs.declared.field.Field.{Field}
use Rattle.z80_form.specs.Numbers.{has_expression}
use Rattle.asm_spell.specs.declared.fault.StmtFault.{StmtFault}
use Rattle.asm_spell.specs.declared.line.Line as line
use Rattle.asm_spell.specs.Faults.{IsOfTokens, Gives, value_or, each}
use Rattle.asm_spell.specs.Line.{ExpressionItems, Value, Body, Code, Jump, Short, Bytes, Words, Public, External, End, Line, Equ, Statement, line_of}
use Rattle.asm_spell.specs.Operands as cut
use Rattle.asm_spell.specs.Operands.{WrittenOperand, parsed_expression, answered_by, is_one_name, token_name, name_alone, with_expression, at_expression, is_memory, inner, is_sign_kind, indexed, index_named, indexed_or, pointed, pointed_or, memory_operand, named_or, written_operand}
use Rattle.asm_spell.specs.Directives.{directive, external, nameless, of_bytes, of_nothing, of_origin, of_space, of_words, public, data_item, text_or, text_alone, is_empty_text, bytes_body, words_body, space_body, origin_body, z80_body, name_or_expression, names_or, names_listed, end_body, end}
use Rattle.asm_spell.specs.Spelling as spelling
use Rattle.asm_spell.specs.Spelling.{instruction, instruction_body, jump_or, jump_to, short_condition, target, word_by, operation, has_reserved, labelled_line, line_by, spelled}

pub record Answers {A : Type 0} (P : A → Type 0) (r : Result A StmtFault) : Type 0 where
  pub fault : IfErr r IsOfTokens
  pub value : IfOk r P

abbrev pub Refuses : {A : Type 0} → Result A StmtFault → Type 0
Refuses {A} r = Answers {A = A} (λ _. Unit {0}) r

then_known : {A B : Type 0} {P : A → Type 0} {Q : B → Type 0} (r : Result A StmtFault) (f : A → Result B StmtFault) → Answers P r → ((x : A) → r ≡ Ok x → P x → Answers Q (f x)) → Answers Q (r >>= f)
then_known (Ok x) f p q = q x refl p.value
then_known (Err fault) f p q = record { fault = p.fault; value = tt }

then_answers : {A B : Type 0} {P : A → Type 0} {Q : B → Type 0} (r : Result A StmtFault) (f : A → Result B StmtFault) → Answers P r → ((x : A) → Answers Q (f x)) → Answers Q (r >>= f)
then_answers r f p q = then_known r f p (λ x e given. q x)

each_answers : {A B : Type 0} (P : B → Type 0) (read : A → Result B StmtFault) → ((x : A) → Answers P (read x)) → (xs : List A) → Answers (All P) (each read xs)
each_answers P read p [] = record { fault = tt; value = All-nil P }
each_answers P read p (x ∷ xs) = then_known (read x) _ (p x) (λ y _ first. then_known (each read xs) _ (each_answers P read p xs) (λ ys _ others. (record { fault = tt; value = All-cons P y ys first others })))

each_refuses : {A B : Type 0} (read : A → Result B StmtFault) → ((x : A) → Refuses (read x)) → (xs : List A) → Answers (All (λ (y : B). Unit {0})) (each read xs)
each_refuses read p xs = each_answers (λ _. Unit {0}) read p xs

chosen : {A : Type 0} {P : A → Type 0} (b : Bool) (r s : Result A StmtFault) → Answers P r → Answers P s → Answers P (cond b r s)
chosen true r s p q = p
chosen false r s p q = q

parsed_refuses : (phrase : Option Phrase) → Refuses (answered_by (parsed_by phrase))
parsed_refuses None = record { fault = tt; value = tt }
parsed_refuses (Some phrase) = too_deep _ _
  where
    too_deep : (b : Bool) (e : ExpressionItems) → Refuses (answered_by (cond b (Err ExprFault.TooDeep) (Ok e)))
    too_deep true e = record { fault = tt; value = tt }
    too_deep false e = record { fault = tt; value = tt }

answered_refuses : (ts : List Lexeme) → Refuses (parsed_expression ts)
answered_refuses ts = parsed_refuses (reading (map symbol ts) start)

-- Operands of instructions: a property of all operands, with a name or without, holds for what is read.
module _ (P : WrittenOperand → Type 0) (plain : (form : Form) (e : Option ExpressionItems) → is_some e ≡ has_expression form → P (record { form = form; expression = e; is_name = false })) where
  plain_expression : (form : Form) (ts : List Lexeme) → has_expression form ≡ true → Answers P (with_expression form false ts)
  plain_expression form ts has = then_answers (parsed_expression ts) _ (answered_refuses ts) (λ e. (record { fault = tt; value = plain form (Some e) (sym has) }))

  indexed_answers : (x : IndexRegister) (register : Lexeme) (rest : List Lexeme) → Answers P (indexed x register rest)
  indexed_answers x register [] = record { fault = tt; value = plain (Form.AtIndex x) None refl }
  indexed_answers x register (sign ∷ more) =
      chosen (is_sign_kind sign.kind) (with_expression (Form.Displaced x) false (sign ∷ more)) (at_expression (register ∷ sign ∷ more))
      (plain_expression (Form.Displaced x) (sign ∷ more) refl) (plain_expression Form.AtNumber (register ∷ sign ∷ more) refl)

  pointed_answers : (p : Option Pointed) (ts : List Lexeme) → Answers P (pointed_or p ts)
  pointed_answers (Some p) ts = record { fault = tt; value = plain (Form.At p) None refl }
  pointed_answers None ts = plain_expression Form.AtNumber ts refl

  index_answers : (x : Option IndexRegister) (first : Lexeme) (rest : List Lexeme) → Answers P (indexed_or x first rest)
  index_answers (Some x) first rest = indexed_answers x first rest
  index_answers None first rest = pointed_answers (pointed (name_alone (first ∷ rest))) (first ∷ rest)

  memory_answers : (ts : List Lexeme) → Answers P (memory_operand ts)
  memory_answers [] = plain_expression Form.AtNumber [] refl
  memory_answers (first ∷ rest) = index_answers (index_named (token_name first)) first rest

  named_answers : (n : Option Name) (ts : List Lexeme) → ((e : ExpressionItems) → parsed_expression ts ≡ Ok e → P (record { form = Form.Number; expression = Some e; is_name = is_one_name ts })) → Answers P (named_or n ts)
  named_answers (Some n) ts number = record { fault = tt; value = plain (Form.Name n) None refl }
  named_answers None ts number =
      chosen (is_memory ts) (memory_operand (inner ts)) (with_expression Form.Number (is_one_name ts) ts) (memory_answers (inner ts))
      (then_known (parsed_expression ts) _ (answered_refuses ts) (λ e is given. (record { fault = tt; value = number e is })))

  pub written_answers : (ts : List Lexeme) → ((e : ExpressionItems) → parsed_expression ts ≡ Ok e → P (record { form = Form.Number; expression = Some e; is_name = is_one_name ts })) → Answers P (written_operand ts)
  written_answers ts number = named_answers (name_alone ts) ts number

-- The operand has an expression exactly if its form needs one.
abbrev pub Fits : WrittenOperand → Type 0
Fits w = is_some w.expression ≡ has_expression w.form

written_fits : (ts : List Lexeme) → Answers Fits (written_operand ts)
written_fits ts = written_answers Fits (λ form e fits. fits) ts (λ e is. refl)

-- Instructions.

-- the mnemonic and the operands from which an instruction was found
pub record IsFound (rest : List Lexeme) (instr : Instr) (numbers : List (Field × ExpressionItems)) : Type 0 where
  pub mnemonic : Mnemonic
  pub operands : List WrittenOperand
  pub read : each written_operand (cut.operands rest) ≡ Ok operands
  pub fit : All Fits operands
  pub found : instruction_of mnemonic (map (λ w. w.form) operands) ≡ Some instr
  pub numbers_are : numbers ≡ spelling.numbers instr operands

-- the operands from which the target of a jump was read
pub record IsTarget (rest : List Lexeme) (name : List ℕ) : Type 0 where
  pub operands : List WrittenOperand
  pub read : each written_operand (cut.operands rest) ≡ Ok operands
  pub target_is : target operands ≡ Some name

abbrev pub BodyFound : List Lexeme → Body → Type 0
BodyFound rest (Code instr numbers) = IsFound rest instr numbers
BodyFound rest (Jump condition name) = IsTarget rest name
BodyFound rest (Short branch name) = IsTarget rest name
BodyFound rest (Bytes values) = (each data_item (cut.operands rest) ≡ Ok values) × (values ≢ []) × (list_any is_empty_text values ≡ false)
BodyFound rest (Words fields) = (each parsed_expression (cut.operands rest) ≡ Ok fields) × (fields ≢ [])
BodyFound rest (Public list) = name_list rest ≡ Some list
BodyFound rest (External list) = name_list rest ≡ Some list
BodyFound rest (End (Some name)) = name_list rest ≡ Some (name ∷ [])
BodyFound rest _ = Unit {0}

abbrev pub OptionFound : List Lexeme → Option Body → Type 0
OptionFound rest None = Unit {0}
OptionFound rest (Some body) = BodyFound rest body

jump_found : (ts : List Lexeme) (instr : Instr) (name : List ℕ) (body : Body) → jump_to instr name ≡ Some body → IsTarget ts name → BodyFound ts body
jump_found ts (Instr.Jump nn) name body is found = subst (OptionFound ts) is found
jump_found ts (Instr.JumpIf cc nn) name body is found = subst (OptionFound ts) is (conditional (short_condition cc))
  where
    conditional : (c : Option ShortCond) → OptionFound ts (option_map (λ c. Jump (Some c) name) c)
    conditional None = tt
    conditional (Some c) = found
jump_found ts (Instr.JumpRelative e) name body is found = subst (OptionFound ts) is found
jump_found ts (Instr.JumpRelativeIf cc e) name body is found = subst (OptionFound ts) is found
jump_found ts (Instr.Djnz e) name body is found = subst (OptionFound ts) is found
jump_found ts _ name body is found = absurd cc

coded_found : (ts : List Lexeme) (instr : Instr) (read : List WrittenOperand) → each written_operand (cut.operands ts) ≡ Ok read → IsFound ts instr (spelling.numbers instr read) → BodyFound ts (instruction_body instr read)
coded_found ts instr read e found = by_target (target read) refl
  where
    by_jump : (name : List ℕ) (jump : Option Body) → jump_to instr name ≡ jump → target read ≡ Some name → BodyFound ts (jump_or jump instr read)
    by_jump name None is t = found
    by_jump name (Some body) is t = jump_found ts instr name body is (record { operands = read; read = e; target_is = t })

    by_target : (name : Option (List ℕ)) → target read ≡ name → BodyFound ts (jump_or (option_and_then (jump_to instr) name) instr read)
    by_target None t = found
    by_target (Some name) t = by_jump name (jump_to instr name) refl t

instruction_found : (m : Mnemonic) (ts : List Lexeme) (read : List WrittenOperand) → each written_operand (cut.operands ts) ≡ Ok read → All Fits read
    → (o : Option Instr) → instruction_of m (map (λ w. w.form) read) ≡ o
    → Answers (BodyFound ts) (value_or StmtFault.BadOperands o >>= λ instr. Ok (instruction_body instr read))
instruction_found m ts read e fit None is = record { fault = tt; value = tt }
instruction_found m ts read e fit (Some instr) is = record {
  fault = tt;
  value = coded_found ts instr read e (record { mnemonic = m; operands = read; read = e; fit = fit; found = is; numbers_are = refl });
}

instruction_answers : (m : Mnemonic) (ts : List Lexeme) → Answers (BodyFound ts) (instruction m ts)
instruction_answers m ts = then_known _ _ (each_answers Fits written_operand written_fits (cut.operands ts)) (λ read e fit. instruction_found m ts read e fit (instruction_of m (map (λ w. w.form) read)) refl)

-- Directives.

text_refuses : (text : Option (List ℕ)) (ts : List Lexeme) → Refuses (text_or text ts)
text_refuses (Some text) ts = record { fault = tt; value = tt }
text_refuses None ts = then_answers (parsed_expression ts) _ (answered_refuses ts) (λ e. (record { fault = tt; value = tt }))

value_refuses : (ts : List Lexeme) → Refuses (data_item ts)
value_refuses ts = text_refuses (text_alone ts) ts

judged_refuses : (ts : List Lexeme) → Refuses (name_or_expression ts)
judged_refuses ts = chosen (is_one_name ts) (Ok None) (parsed_expression ts >>= λ e. Ok (Some e)) (record { fault = tt; value = tt }) (then_answers (parsed_expression ts) _ (answered_refuses ts) (λ e. (record { fault = tt; value = tt })))

names_answer : (list : Option (List (List ℕ))) (ts : List Lexeme) → name_list ts ≡ list → Answers (λ found. name_list ts ≡ Some found) (names_or list ts)
names_answer (Some list) ts is = record { fault = tt; value = is }
names_answer None ts is = then_answers _ _ (each_refuses name_or_expression judged_refuses (cut.operands ts)) (λ _. (record { fault = tt; value = tt }))

-- what holds for every statement holds for this directive, whatever its tokens are
abbrev Directs : Result Body StmtFault → Type 0
Directs r = (rest : List Lexeme) → Answers (BodyFound rest) r

bytes_found : (ts : List Lexeme) (values : List Value) → each data_item (cut.operands ts) ≡ Ok values → Answers (BodyFound ts) (bytes_body values)
bytes_found ts [] is = record { fault = tt; value = tt }
bytes_found ts (v ∷ vs) is = by_test (list_any is_empty_text (v ∷ vs)) refl
  where
    by_test : (b : Bool) → list_any is_empty_text (v ∷ vs) ≡ b → Answers (BodyFound ts) (cond b (Err StmtFault.BadOperands) (Ok (Bytes (v ∷ vs))))
    by_test true was = record { fault = tt; value = tt }
    by_test false was = record { fault = tt; value = (is, λ bad. cc, was) }

words_found : (ts : List Lexeme) (es : List ExpressionItems) → each parsed_expression (cut.operands ts) ≡ Ok es → Answers (BodyFound ts) (words_body es)
words_found ts [] is = record { fault = tt; value = tt }
words_found ts (e ∷ es) is = record { fault = tt; value = (is, λ bad. cc) }

space_direct : (es : List ExpressionItems) → Directs (space_body es)
space_direct [] rest = record { fault = tt; value = tt }
space_direct (a ∷ []) rest = record { fault = tt; value = tt }
space_direct (a ∷ b ∷ []) rest = record { fault = tt; value = tt }
space_direct (a ∷ b ∷ c ∷ es) rest = record { fault = tt; value = tt }

origin_direct : (es : List ExpressionItems) → Directs (origin_body es)
origin_direct [] rest = record { fault = tt; value = tt }
origin_direct (e ∷ []) rest = record { fault = tt; value = tt }
origin_direct (e ∷ f ∷ es) rest = record { fault = tt; value = tt }

nothing_direct : (es : List ExpressionItems) → Directs (z80_body es)
nothing_direct [] rest = record { fault = tt; value = tt }
nothing_direct (e ∷ es) rest = record { fault = tt; value = tt }

entry_answers : (list : List (List ℕ)) (ts : List Lexeme) → name_list ts ≡ Some list → Answers (BodyFound ts) (end_body list)
entry_answers [] ts is = record { fault = tt; value = tt }
entry_answers (name ∷ []) ts is = record { fault = tt; value = is }
entry_answers (name ∷ other ∷ list) ts is = record { fault = tt; value = tt }

end_answers : (ts : List Lexeme) → Answers (BodyFound ts) (end ts)
end_answers [] = record { fault = tt; value = tt }
end_answers (t ∷ ts) = then_known (names_listed (t ∷ ts)) end_body (names_answer (name_list (t ∷ ts)) (t ∷ ts) refl) (λ list e is. entry_answers list (t ∷ ts) is)

expressions_direct : (ts : List Lexeme) (f : List ExpressionItems → Result Body StmtFault) → ((es : List ExpressionItems) → Directs (f es)) → Directs (each parsed_expression (cut.operands ts) >>= f)
expressions_direct ts f p rest = then_answers _ f (each_refuses parsed_expression answered_refuses (cut.operands ts)) (λ es. p es rest)

nameless_direct : (ts : List Lexeme) → Directs (nameless ts)
nameless_direct ts rest = expressions_direct ts _ (λ es rest. (record { fault = tt; value = tt })) rest

public_answers : (ts : List Lexeme) → Answers (BodyFound ts) (public ts)
public_answers ts = then_known (names_listed ts) _ (names_answer (name_list ts) ts refl) (λ list e is. (record { fault = tt; value = is }))

external_answers : (ts : List Lexeme) → Answers (BodyFound ts) (external ts)
external_answers ts = then_known (names_listed ts) _ (names_answer (name_list ts) ts refl) (λ list e is. (record { fault = tt; value = is }))

bytes_answers : (ts : List Lexeme) → Answers (BodyFound ts) (of_bytes ts)
bytes_answers ts = then_known _ bytes_body (each_refuses data_item value_refuses (cut.operands ts)) (λ values is _. bytes_found ts values is)

-- What holds for each directive holds for the one that a word names.
abbrev Spells : (List Lexeme → Result Body StmtFault) → Type 0
Spells d = (ts : List Lexeme) → Answers (BodyFound ts) (d ts)

looked_up : (name : List ℕ) (b : Bool) (d : List Lexeme → Result Body StmtFault) (others : Option (List Lexeme → Result Body StmtFault)) → Spells d → IfSome others Spells → IfSome (cond b (Some d) others) Spells
looked_up name true d others here later = here
looked_up name false d others here later = later

directive_answers : (name : List ℕ) → IfSome (directive name) Spells
directive_answers name =
    let same = str_eq_ignore_ascii_case name in
    looked_up name (same (codes "DB")) of_bytes _ bytes_answers (looked_up name (same (codes "DEFB")) of_bytes _ bytes_answers (looked_up name (same (codes "DEFM")) of_bytes _ bytes_answers
    (looked_up name (same (codes "DW")) of_words _ words_answers (looked_up name (same (codes "DEFW")) of_words _ words_answers
    (looked_up name (same (codes "DS")) of_space _ space_answers (looked_up name (same (codes "DEFS")) of_space _ space_answers
    (looked_up name (same (codes "PUBLIC")) public _ public_answers (looked_up name (same (codes "GLOBAL")) public _ public_answers
    (looked_up name (same (codes "EXTRN")) external _ external_answers (looked_up name (same (codes "EXTERNAL")) external _ external_answers
    (looked_up name (same (codes "ORG")) of_origin _ origin_answers (looked_up name (same (codes "END")) end _ end_answers
    (looked_up name (same (codes ".Z80")) of_nothing _ nothing_answers (looked_up name (same (codes "EQU")) nameless _ nameless_answers tt))))))))))))))
  where
    words_answers : Spells of_words
    words_answers ts = then_known _ words_body (each_refuses parsed_expression answered_refuses (cut.operands ts)) (λ es is _. words_found ts es is)

    space_answers : Spells of_space
    space_answers ts = expressions_direct ts space_body space_direct ts

    origin_answers : Spells of_origin
    origin_answers ts = expressions_direct ts origin_body origin_direct ts

    nothing_answers : Spells of_nothing
    nothing_answers ts = expressions_direct ts z80_body nothing_direct ts

    nameless_answers : Spells nameless
    nameless_answers ts = nameless_direct ts ts

-- Lines.

word_answers : (m : Option Mnemonic) (d : Option (List Lexeme → Result Body StmtFault)) (ts : List Lexeme) → IfSome d Spells → Answers (BodyFound ts) (word_by m d ts)
word_answers (Some m) d ts spells = instruction_answers m ts
word_answers None (Some d) ts spells = spells ts
word_answers None None ts spells = record { fault = tt; value = tt }

-- what holds for a line, given its label and head as written and the tokens after these
abbrev pub LineFound : Option (List ℕ) → front.Head → List Lexeme → Line → Type 0
LineFound label head rest (Equ name e) = (written : List ℕ) × (head ≡ front.Equ written) × (name ≡ upper written) × (is_reserved name ≡ false)
LineFound label head rest (Statement name body) = (name ≡ option_map upper label) × (has_reserved name body ≡ false) × OptionFound rest body

unless : {P : Line → Type 0} (reserved : Bool) (l : Line) → (reserved ≡ false → P l) → Answers P (cond reserved (Err StmtFault.ReservedName) (Ok l))
unless true l found = record { fault = tt; value = tt }
unless false l found = record { fault = tt; value = found refl }

labelled_answers : (label : Option (List ℕ)) (head : front.Head) (ts : List Lexeme) (body : Option Body) → OptionFound ts body → Answers (LineFound label head ts) (labelled_line (option_map upper label) body)
labelled_answers label head ts body found = unless (has_reserved (option_map upper label) body) (Statement (option_map upper label) body) (λ free. (refl, free, found))

line_answers : (label : Option (List ℕ)) (head : front.Head) (rest : List Lexeme) → Answers (LineFound label head rest) (line_by label head rest)
line_answers label (front.Equ name) rest = then_answers (parsed_expression rest) _ (answered_refuses rest) (λ e. unless (is_reserved (upper name)) (Equ (upper name) e) (λ free. (name, refl, refl, free)))
line_answers label (front.Word name) rest = then_known (operation name rest) _ (word_answers (mnemonic_named name) (directive name) rest (directive_answers name)) (λ body e found. labelled_answers label (front.Word name) rest (Some body) found)
line_answers label front.Nothing [] = labelled_answers label front.Nothing [] None tt
line_answers label front.Nothing (t ∷ ts) = record { fault = tt; value = tt }
line_answers label (front.Macro name) rest = record { fault = tt; value = tt }
line_answers label (front.Block word) rest = record { fault = tt; value = tt }

abbrev pub Found : List Lexeme → Line → Type 0
Found ts l = LineFound (front.form ts).label (front.form ts).head (front.form ts).rest l

spelled_answers : (ts : List Lexeme) → Answers (Found ts) (spelled ts)
spelled_answers ts = line_answers (front.form ts).label (front.form ts).head (front.form ts).rest

pub line_found : (ts : List Lexeme) (l : Line) → spelled ts ≡ Ok l → Found ts l
line_found ts l e = subst (λ (r : Result Line StmtFault). IfOk r (Found ts)) e (spelled_answers ts).value

-- Errors.

pub spelled_refusals : (ts : List Lexeme) → IfErr (spelled ts) IsOfTokens
spelled_refusals ts = (spelled_answers ts).fault

-- An error that the code answers is one that tokens alone can have.
pub of_tokens : (r : Result line.Line StmtFault) (s : Result Line StmtFault) → IfErr s IsOfTokens → Gives line_of r s → IfErr r IsOfTokens
of_tokens (Ok l) s p g = tt
of_tokens (Err StmtFault.NoMemory) s p g = tt
of_tokens (Err _) s p g = subst (λ (t : Result Line StmtFault). IfErr t IsOfTokens) g p
