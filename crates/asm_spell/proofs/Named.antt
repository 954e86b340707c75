-- The names of a line, given the tokens of a line that scans.
use Rattle.std.proofs.Common.{◌≡◌, ◌≤◌, ◌+◌, length, length-append, length-drop, ◌||◌, not, arith, ℕ, Bool, true, false, List, [], ◌∷◌, Option, Some, None, Result, Ok, Err, All, cond, ◌==◌, ◌&&◌, ◌⊎◌, ◌++◌, map, refl, sym, ap, ◌∙◌, inl, inr, subst, codes}
use Rattle.std.specs.Option.{IfSome, option_map}
use Rattle.std.specs.Result.{IfOk}
use Rattle.std.specs.List.{cons_option, list_any, prefix_len, range_with_len}
use Rattle.std.proofs.lemmas.List.{length-map}
use Rattle.std.specs.Char.{to_ascii_uppercase}
use Rattle.std.proofs.lemmas.Bool.{and_parts, cases_Bool, cases_lt, le-ltb}
use Rattle.z80_instr.proofs.Finite.{agree_below}
use Rattle.asm_line.specs.declared.forms.BlockWord.{BlockWord}
use Rattle.std.proofs.lemmas.List.Elements.{All-nil, All-cons, All-head, All-tail, All-map, All-weaker}
use Rattle.std.proofs.lemmas.Str.Ascii.{uppercase-uppercase}
use Rattle.common.specs.Results.{◌>>=◌}
use Rattle.common.specs.Words.{upper, is_reserved}
use Rattle.asm_line.specs.declared.token.Kind.{Kind}
use Rattle.asm_line.specs.Classes.{begins_name, continues_name, is_blank}
use Rattle.asm_line.specs.Tokens.{IsName, IsToken, Lexeme}
use Rattle.asm_line.specs.Lines.{BeginsTokens, Scans, without_blanks}
use Rattle.asm_line.specs.Scanned.{scanned}
use Rattle.asm_line.specs.Forms as front
use Rattle.asm_line.specs.Lists.{name_list}
use Rattle.asm_line.specs.Single.{is_colon, is_comma, is_name, is_name_kind, is_word}
use Rattle.asm_line.specs.Commas.{open_behind}
use Rattle.asm_parse.specs.declared.fault.ExprFault.{ExprFault}
use Rattle.asm_parse.specs.declared.item.Item.{Item}
use Rattle.asm_parse.specs.Expression.{postfix}
use Rattle.asm_parse.specs.Source.{Operand, Number, Name, Here}
use Rattle.asm_parse.specs.Grammar.{IsParsed, Phrase, Single, Enclosed, Prefixed, Joined, GrammarSymbol, Foreign, Term, expression, spelling, symbol, symbol_by, symbol_of_name}
use Rattle.asm_parse.specs.Words.{sign_of}
use Rattle.asm_parse.specs.Parsed.{parsed_symbols}
use Rattle.z80_form.specs.declared.form.Form.{Form}
use Rattle.asm_spell.specs.declared.fault.StmtFault.{StmtFault}
use Rattle.asm_spell.specs.Faults.{each}
use Rattle.asm_spell.specs.Line.{ExpressionItems, Body, Jump, Short, Public, External, End, Line, Equ, Statement}
use Rattle.asm_spell.specs.Operands as cut
use Rattle.asm_spell.specs.Operands.{WrittenOperand, parsed_expression, answered_by, is_one_name, pieces, with_first, written_operand}
use Rattle.asm_spell.specs.Spelling.{body_names, only_name, option_names, spelled, statement_names, target, target_by}
use Rattle.asm_parse.specs.Names.{IsDefinable}
use Rattle.asm_spell.specs.Names.{body_targets, line_names, line_targets}
use Rattle.asm_spell.proofs.Walk.{Answers, BodyFound, Found, IsTarget, OptionFound, line_found, written_answers}

-- Tokens are short, and a token that is a name has the text of a name.

abbrev pub IsShort : List ℕ → Type 0
IsShort text = length text ≤ 255

abbrev pub IsShortName : List ℕ → Type 0
IsShortName text = IsName text × IsShort text

abbrev pub HasName : Lexeme → Type 0
HasName t = IsShort t.text × (is_name t ≡ true → IsShortName t.text)

abbrev pub HaveNames : List Lexeme → Type 0
HaveNames ts = All HasName ts

token_name : (k : Kind) (text after : List ℕ) → IsToken k text after → is_name_kind k ≡ true → IsName text
token_name Kind.Name text after token name = token.0
token_name Kind.OtherAf text after token name = absurd cc
token_name (Kind.Number n) text after token name = absurd cc
token_name Kind.Quoted text after token name = absurd cc
token_name (Kind.Mark m) text after token name = absurd cc

begun_names : (line : List ℕ) (ts : List Lexeme) (rest : List ℕ) → length line ≤ 255 → BeginsTokens line ts rest → HaveNames ts
begun_names line [] rest short begins = All-nil HasName
begun_names line (t ∷ ts) rest short begins =
    let all : length t.text + length begins.0 ≡ length (without_blanks line) = sym (ap length begins.1.bytes_are ∙ length-append t.text begins.0) in
    let front : length (without_blanks line) ≤ length line = omega (arith, length-drop (prefix_len is_blank line) line) in
    let first : IsShort t.text = omega (arith, all, front, short) in
    All-cons HasName t ts (first, λ is. (token_name t.kind t.text begins.0 begins.1.token_is is, first)) (begun_names begins.0 ts rest (omega (arith, all, front, short)) begins.2)

scanned_names : (line : List ℕ) (ts : List Lexeme) → Scans line (Ok ts) → HaveNames ts
scanned_names line ts scans = begun_names line ts scans.1.rest scans.0 scans.1.begins

-- Upper case.

pub record IsUpperName (text : List ℕ) : Type 0 where
  pub name : IsShortName text
  pub upper_case : upper text ≡ text

upper_twice : (text : List ℕ) → upper (upper text) ≡ upper text
upper_twice [] = refl
upper_twice (b ∷ more) = ap (λ c. c ∷ upper (upper more)) (uppercase-uppercase b) ∙ ap (λ rest. to_ascii_uppercase b ∷ rest) (upper_twice more)

upper_keeps : (p : ℕ → Bool) → map (λ b. not (p b) || p (to_ascii_uppercase b)) (range_with_len 0 123) ≡ map (λ b. true) (range_with_len 0 123) → (b : ℕ) → p b ≡ true → p (to_ascii_uppercase b) ≡ true
upper_keeps p test b passes = elim (cases_lt b 123) [
  | inl small ↦
      let kept : (not (p b) || p (to_ascii_uppercase b)) ≡ true = agree_below (λ b. not (p b) || p (to_ascii_uppercase b)) (λ b. true) 123 test b small in
      rw passes at kept
  | inr large ↦
      let stays : to_ascii_uppercase b ≡ b = rw (le-ltb b 97 (omega arith), le-ltb b 123 large) refl in
      ap p stays ∙ passes
]

name_upper : (text : List ℕ) → IsName text → IsName (upper text)
name_upper [] none = absurd none
name_upper (b ∷ more) name = (
  upper_keeps begins_name refl b name.0,
  All-map (λ c. continues_name c ≡ true) to_ascii_uppercase more
      (All-weaker (λ c. continues_name c ≡ true) (λ c. continues_name (to_ascii_uppercase c) ≡ true) (λ c passes. upper_keeps continues_name refl c passes) more name.1),
)

upper_short : (text : List ℕ) → IsShort text → IsShort (upper text)
upper_short text short = omega (arith, length-map text to_ascii_uppercase, short)

upper_named : (text : List ℕ) → IsShortName text → IsUpperName (upper text)
upper_named text name = record { name = (name_upper text name.0, upper_short text name.1); upper_case = upper_twice text }

-- The label and head of a line.

abbrev pub HeadNamed : front.Head → Type 0
HeadNamed (front.Equ name) = IsShortName name
HeadNamed head = Unit {0}

pub record FormNamed (f : front.Form) : Type 0 where
  pub label : IfSome f.label IsShortName
  pub head : HeadNamed f.head
  pub rest : HaveNames f.rest

either_form : (b : Bool) (f g : front.Form) → (b ≡ true → FormNamed f) → FormNamed g → FormNamed (cond b f g)
either_form true f g named other = named refl
either_form false f g named other = other

block_head : (name : List ℕ) (block : Option BlockWord) → HeadNamed (front.head_of_block name block)
block_head name None = tt
block_head name (Some block) = tt

worded_named : (label : Option (List ℕ)) (word : Lexeme) (rest : List Lexeme) → IfSome label IsShortName → HaveNames (word ∷ rest) → FormNamed (front.worded label word rest)
worded_named label word rest named have = either_form (is_name word) _ _
    (λ _. (record { label = named; head = block_head word.text (front.block_named word.text); rest = All-tail HasName word rest have }))
    (record { label = named; head = tt; rest = have })

headed_named : (label : Option (List ℕ)) (ts : List Lexeme) → IfSome label IsShortName → HaveNames ts → FormNamed (front.headed label ts)
headed_named label [] named have = record { label = named; head = tt; rest = have }
headed_named label (word ∷ []) named have = worded_named label word [] named have
headed_named label (name ∷ word ∷ rest) named have = either_form (is_name name && is_word (codes "MACRO") word) _ _
    (λ _. (record { label = named; head = tt; rest = All-tail HasName word rest (All-tail HasName name (word ∷ rest) have) }))
    (worded_named label name (word ∷ rest) named have)

defined_named : (name : List ℕ) (rest : List Lexeme) → IsShortName name → HaveNames rest → FormNamed (front.defined name rest)
defined_named name rest named have = record { label = tt; head = named; rest = have }

labelled_named : (name : List ℕ) (rest : List Lexeme) → IsShortName name → HaveNames rest → FormNamed (front.labelled name rest)
labelled_named name [] named have = headed_named (Some name) [] named have
labelled_named name (word ∷ rest) named have = either_form (is_word (codes "EQU") word) _ _
    (λ _. defined_named name rest named (All-tail HasName word rest have)) (headed_named (Some name) (word ∷ rest) named have)

pub form_named : (ts : List Lexeme) → HaveNames ts → FormNamed (front.form ts)
form_named [] have = headed_named None [] tt have
form_named (word ∷ []) have = headed_named None (word ∷ []) tt have
form_named (name ∷ second ∷ rest) have =
    let first = All-head HasName name (second ∷ rest) have in
    let others = All-tail HasName second rest (All-tail HasName name (second ∷ rest) have) in
    either_form (is_name name && is_word (codes "EQU") second) _ _
    (λ both. defined_named name.text rest (first.1 (and_parts (is_name name) _ both).0) others)
    (either_form (is_name name && is_colon second) _ _
    (λ both. labelled_named name.text rest (first.1 (and_parts (is_name name) _ both).0) others) (headed_named None (name ∷ second ∷ rest) tt have))

-- Names separated by commas.

one_listed : (b : Bool) (name : List ℕ) (list : List (List ℕ)) → (b ≡ true → IsShortName name) → cond b (Some (upper name ∷ [])) None ≡ Some list → All IsUpperName list
one_listed false name list named e = absurd cc
one_listed true name list named e =
    let same : upper name ∷ [] ≡ list = cc in
    subst (All IsUpperName) same (All-cons IsUpperName (upper name) [] (upper_named name (named refl)) (All-nil IsUpperName))

more_listed : (b : Bool) (name : List ℕ) (others : Option (List (List ℕ))) (list : List (List ℕ)) → (b ≡ true → IsShortName name) → ((found : List (List ℕ)) → others ≡ Some found → All IsUpperName found)
    → cond b (option_map (λ ns. upper name ∷ ns) others) None ≡ Some list → All IsUpperName list
more_listed false name others list named behind e = absurd cc
more_listed true name None list named behind e = absurd cc
more_listed true name (Some found) list named behind e =
    let same : upper name ∷ found ≡ list = cc in
    subst (All IsUpperName) same (All-cons IsUpperName (upper name) found (upper_named name (named refl)) (behind found refl))

names_listed : (ts : List Lexeme) (list : List (List ℕ)) → HaveNames ts → name_list ts ≡ Some list → All IsUpperName list
names_listed [] list have e = absurd cc
names_listed (name ∷ []) list have e = one_listed (is_name name) name.text list (All-head HasName name [] have).1 e
names_listed (name ∷ comma ∷ rest) list have e =
    let first = All-head HasName name (comma ∷ rest) have in
    more_listed (is_name name && is_comma comma) name.text (name_list rest) list (λ both. first.1 (and_parts (is_name name) _ both).0)
    (λ found is. names_listed rest found (All-tail HasName comma rest (All-tail HasName name (comma ∷ rest) have)) is) e

-- The target of a jump is one token, which is a name. If tokens make an expression of one name, they are that one token.

no_end : (xs : List GrammarSymbol) (y : GrammarSymbol) (ys : List GrammarSymbol) → [] ≡ xs ++ y ∷ ys → ⊥
no_end [] y ys e = cc
no_end (x ∷ xs) y ys e = cc

some_symbol : (a : Phrase) → [] ≡ spelling a → ⊥
some_symbol (Single t) e = cc
some_symbol (Enclosed a) e = cc
some_symbol (Prefixed p a) e = cc
some_symbol (Joined o a b) e = no_end (spelling a) _ _ e

no_second : (s : GrammarSymbol) (xs : List GrammarSymbol) (y : GrammarSymbol) (ys : List GrammarSymbol) → ([] ≡ xs → ⊥) → s ∷ [] ≡ xs ++ y ∷ ys → ⊥
no_second s [] y ys some e = some refl
no_second s (x ∷ xs) y ys some e = let rest : [] ≡ xs ++ y ∷ ys = cc in no_end xs y ys rest

abbrev IsSingle : GrammarSymbol → Phrase → Type 0
IsSingle s a = (t : Operand) × (a ≡ Single t) × (s ≡ Term t)

one_symbol : (s : GrammarSymbol) (a : Phrase) → s ∷ [] ≡ spelling a → IsSingle s a
one_symbol s (Single t) e = (t, refl, first)
  where
    first : s ≡ Term t
    first = cc
one_symbol s (Enclosed a) e = absurd (no_end (spelling a) _ _ (tail_of e))
  where
    tail_of : {x y : GrammarSymbol} {xs ys : List GrammarSymbol} → x ∷ xs ≡ y ∷ ys → xs ≡ ys
    tail_of same = cc
one_symbol s (Prefixed p a) e = absurd (some_symbol a (tail_of e))
  where
    tail_of : {x y : GrammarSymbol} {xs ys : List GrammarSymbol} → x ∷ xs ≡ y ∷ ys → xs ≡ ys
    tail_of same = cc
one_symbol s (Joined o a b) e = absurd (no_second s (spelling a) _ _ (some_symbol a) e)

abbrev pub Parses : Type 0
Parses = (symbols : List GrammarSymbol) → IsParsed symbols (parsed_symbols symbols)

parsed_ok : (r : Result ExpressionItems ExprFault) (e : ExpressionItems) → answered_by r ≡ Ok e → r ≡ Ok e
parsed_ok (Ok x) e is = cc
parsed_ok (Err why) e is = absurd cc

named_symbol : (k : Kind) (text : List ℕ) (op : Operand) → is_name_kind k ≡ true → symbol_by k text ≡ Term op → (op ≡ Name (upper text)) × (is_reserved (upper text) ≡ false)
named_symbol Kind.Name text op name is = elim (sign_of (upper text)) as (λ s. symbol_of_name s (upper text) ≡ Term op → (op ≡ Name (upper text)) × (is_reserved (upper text) ≡ false)) [
  | Some sign ↦ λ e. absurd cc
  | None ↦ λ e. free_name (is_reserved (upper text)) e
] is
  where
    free_name : (b : Bool) → cond b Foreign (Term (Name (upper text))) ≡ Term op → (op ≡ Name (upper text)) × (b ≡ false)
    free_name true e = absurd cc
    free_name false e = let same : Name (upper text) ≡ op = cc in (sym same, refl)
named_symbol Kind.OtherAf text op name is = absurd cc
named_symbol (Kind.Number n) text op name is = absurd cc
named_symbol Kind.Quoted text op name is = absurd cc
named_symbol (Kind.Mark m) text op name is = absurd cc

named_leaf : (op : Operand) (name : List ℕ) → only_name (Some (Item.Leaf op ∷ [])) ≡ Some name → op ≡ Name name
named_leaf (Number n) name e = absurd cc
named_leaf (Name n) name e = let same : n ≡ name = cc in ap Name same
named_leaf Here name e = absurd cc

one_name : Parses → (t : Lexeme) (e : ExpressionItems) (name : List ℕ) → is_name t ≡ true → parsed_expression (t ∷ []) ≡ Ok e → only_name (Some e) ≡ Some name → (name ≡ upper t.text) × (is_reserved name ≡ false)
one_name parses t e name is answer found =
    let read : IsParsed (symbol t ∷ []) (Ok e) = subst (IsParsed (symbol t ∷ [])) (parsed_ok (parsed_symbols (symbol t ∷ [])) e answer) (parses (symbol t ∷ [])) in
    let one = one_symbol (symbol t) read.0 read.1.spelled in
    let items : e ≡ Item.Leaf one.0 ∷ [] = read.3 ∙ ap (λ a. postfix (expression a)) one.1 in
    let leaf : one.0 ≡ Name name = named_leaf one.0 name (rw items at found) in
    let token = named_symbol t.kind t.text one.0 is one.2 in
    let same : Name name ≡ Name (upper t.text) = sym leaf ∙ token.0 in
    let text : name ≡ upper t.text = cc in
    (text, rw text token.1)

abbrev IsShortDefinable : List ℕ → Type 0
IsShortDefinable text = IsDefinable text × IsShort text

definable : (text : List ℕ) → IsUpperName text → is_reserved text ≡ false → IsShortDefinable text
definable text named free = (record { name = named.name.0; upper_case = named.upper_case; free = free }, named.name.1)

abbrev IsNamed : List Lexeme → WrittenOperand → Type 0
IsNamed ts w = (name : List ℕ) → target_by w ≡ Some name → HaveNames ts → IsShortDefinable name

number_named : Parses → (ts : List Lexeme) (e : ExpressionItems) → parsed_expression ts ≡ Ok e → IsNamed ts (record { form = Form.Number; expression = Some e; is_name = is_one_name ts })
number_named parses [] e answer name found have = absurd cc
number_named parses (t ∷ u ∷ ts) e answer name found have = absurd cc
number_named parses (t ∷ []) e answer name found have = elim (cases_Bool (is_name t)) as (λ _. IsShortDefinable name) [
  | inl is ↦
      let here : cond (is_name t) (only_name (Some e)) None ≡ Some name = found in
      let one = one_name parses t e name is answer (rw is at here) in
      let upper_name : IsUpperName (upper t.text) = upper_named t.text ((All-head HasName t [] have).1 is) in
      definable name (subst IsUpperName (sym one.0) upper_name) one.1
  | inr other ↦
      let here : cond (is_name t) (only_name (Some e)) None ≡ Some name = found in
      let none : None ≡ Some name = rw other at here in
      absurd cc
]

written_named : Parses → (ts : List Lexeme) → Answers (IsNamed ts) (written_operand ts)
written_named parses ts = written_answers (IsNamed ts) (λ form e fits name none have. absurd cc) ts (number_named parses ts)

-- Operand by operand.

either_pieces : (b : Bool) (xs ys : List (List Lexeme)) → All HaveNames xs → All HaveNames ys → All HaveNames (cond b xs ys)
either_pieces true xs ys p q = p
either_pieces false xs ys p q = q

first_named : (t : Lexeme) (ps : List (List Lexeme)) → HasName t → All HaveNames ps → All HaveNames (with_first t ps)
first_named t [] named have = All-cons HaveNames (t ∷ []) [] (All-cons HasName t [] named (All-nil HasName)) (All-nil HaveNames)
first_named t (p ∷ ps) named have = All-cons HaveNames (t ∷ p) ps (All-cons HasName t p named (All-head HaveNames p ps have)) (All-tail HaveNames p ps have)

pieces_named : (depth : ℕ) (ts : List Lexeme) → HaveNames ts → All HaveNames (pieces depth ts)
pieces_named depth [] have = All-cons HaveNames [] [] (All-nil HasName) (All-nil HaveNames)
pieces_named depth (t ∷ ts) have =
    let others = All-tail HasName t ts have in
    either_pieces ((depth == 0) && is_comma t) ([] ∷ pieces 0 ts) (with_first t (pieces (open_behind depth t.kind) ts))
    (All-cons HaveNames [] (pieces 0 ts) (All-nil HasName) (pieces_named 0 ts others))
    (first_named t (pieces (open_behind depth t.kind) ts) (All-head HasName t ts have) (pieces_named (open_behind depth t.kind) ts others))

pub operands_named : (ts : List Lexeme) → HaveNames ts → All HaveNames (cut.operands ts)
operands_named [] have = All-nil HaveNames
operands_named (t ∷ ts) have = pieces_named 0 (t ∷ ts) have

abbrev pub Parts : {A B : Type 0} → (A → Result B StmtFault) → A → List A → List B → Type 0
Parts {A} {B} read x xs ys = (y : B) × (rest : List B) × (read x ≡ Ok y) × (each read xs ≡ Ok rest) × (ys ≡ y ∷ rest)

pub each_parts : {A B : Type 0} (read : A → Result B StmtFault) (x : A) (xs : List A) (ys : List B) → each read (x ∷ xs) ≡ Ok ys → Parts read x xs ys
each_parts {A} {B} read x xs ys e = by_first (read x) refl (each read xs) refl e
  where
    by_first : (r : Result B StmtFault) → read x ≡ r → (s : Result (List B) StmtFault) → each read xs ≡ s → (r >>= λ y. s >>= λ ys. Ok (y ∷ ys)) ≡ Ok ys → Parts read x xs ys
    by_first (Ok y) one (Ok rest) others e = let same : y ∷ rest ≡ ys = cc in (y, rest, one, others, sym same)
    by_first (Ok y) one (Err fault) others e = absurd cc
    by_first (Err fault) one s others e = absurd cc

last_or_later : (w : WrittenOperand) (rest : List WrittenOperand) (name : List ℕ) → target (w ∷ rest) ≡ Some name → (target_by w ≡ Some name) ⊎ (target rest ≡ Some name)
last_or_later w [] name e = inl e
last_or_later w (v ∷ more) name e = inr e

named_target : Parses → (ps : List (List Lexeme)) (read : List WrittenOperand) (name : List ℕ) → All HaveNames ps → each written_operand ps ≡ Ok read → target read ≡ Some name → IsShortDefinable name
named_target parses [] read name have e found =
    let same : [] ≡ read = cc in
    let none : None ≡ Some name = ap target same ∙ found in
    absurd cc
named_target parses (p ∷ ps) read name have e found =
    let parts = each_parts written_operand p ps read e in
    elim (last_or_later parts.0 parts.1 name (ap target (sym parts.4) ∙ found)) as (λ _. IsShortDefinable name) [
      | inl last ↦
          let named : IsNamed p parts.0 = subst (λ (r : Result WrittenOperand StmtFault). IfOk r (IsNamed p)) parts.2 (written_named parses p).value in
          named name last (All-head HaveNames p ps have)
      | inr later ↦ named_target parses ps parts.1 name (All-tail HaveNames p ps have) parts.3 later
    ]

-- Names that are not reserved.

none_reserved : (list : List (List ℕ)) → list_any is_reserved list ≡ false → All IsUpperName list → All IsShortDefinable list
none_reserved [] free named = All-nil IsShortDefinable
none_reserved (name ∷ list) free named =
    let parts = neither (is_reserved name) (list_any is_reserved list) free in
    All-cons IsShortDefinable name list (definable name (All-head IsUpperName name list named) parts.0) (none_reserved list parts.1 (All-tail IsUpperName name list named))
  where
    neither : (a b : Bool) → (a || b) ≡ false → (a ≡ false) × (b ≡ false)
    neither true b e = absurd cc
    neither false b e = (refl, e)

body_named : (rest : List Lexeme) (body : Body) → HaveNames rest → BodyFound rest body → All IsUpperName (body_names body)
body_named rest (Public list) have is = names_listed rest list have is
body_named rest (External list) have is = names_listed rest list have is
body_named rest (End (Some name)) have is = names_listed rest (name ∷ []) have is
body_named rest _ have is = All-nil IsUpperName

option_named : (rest : List Lexeme) (body : Option Body) → HaveNames rest → OptionFound rest body → All IsUpperName (option_names body)
option_named rest None have found = All-nil IsUpperName
option_named rest (Some body) have found = body_named rest body have found

label_named : (label : Option (List ℕ)) (others : List (List ℕ)) → IfSome label IsShortName → All IsUpperName others → All IsUpperName (cons_option (option_map upper label) others)
label_named None others named all = all
label_named (Some name) others named all = All-cons IsUpperName (upper name) others (upper_named name named) all

found_names : (ts : List Lexeme) (l : Line) → HaveNames ts → Found ts l → All IsShortDefinable (line_names l)
found_names ts (Equ name e) have found =
    let written : IsShortName found.0 = subst HeadNamed found.1 (form_named ts have).head in
    All-cons IsShortDefinable name [] (definable name (subst IsUpperName (sym found.2) (upper_named found.0 written)) found.3) (All-nil IsShortDefinable)
found_names ts (Statement name body) have found =
    let f = form_named ts have in
    let all : All IsUpperName (cons_option (option_map upper (front.form ts).label) (option_names body)) = label_named (front.form ts).label (option_names body) f.label (option_named (front.form ts).rest body f.rest found.2) in
    none_reserved (statement_names name body) found.1 (subst (λ n. All IsUpperName (statement_names n body)) (sym found.0) all)

target_found : Parses → (rest : List Lexeme) (name : List ℕ) → HaveNames rest → IsTarget rest name → All IsShortDefinable (name ∷ [])
target_found parses rest name have t = All-cons IsShortDefinable name [] (named_target parses (cut.operands rest) t.operands name (operands_named rest have) t.read t.target_is) (All-nil IsShortDefinable)

body_jumps : Parses → (rest : List Lexeme) (body : Body) → HaveNames rest → BodyFound rest body → All IsShortDefinable (body_targets body)
body_jumps parses rest (Jump condition name) have t = target_found parses rest name have t
body_jumps parses rest (Short branch name) have t = target_found parses rest name have t
body_jumps parses rest _ have t = All-nil IsShortDefinable

found_targets : Parses → (ts : List Lexeme) (l : Line) → HaveNames ts → Found ts l → All IsShortDefinable (line_targets l)
found_targets parses ts (Equ name e) have found = All-nil IsShortDefinable
found_targets parses ts (Statement name None) have found = All-nil IsShortDefinable
found_targets parses ts (Statement name (Some body)) have found = body_jumps parses (front.form ts).rest body (form_named ts have).rest found.2

-- A line that scans.

abbrev pub ScanAnswers : Type 0
ScanAnswers = (line : List ℕ) → Scans line (scanned line)

pub scanned_have : ScanAnswers → (line : List ℕ) (ts : List Lexeme) → scanned line ≡ Ok ts → HaveNames ts
scanned_have scans line ts e = scanned_names line ts (subst (Scans line) e (scans line))

line_short : ScanAnswers → (line : List ℕ) (ts : List Lexeme) (l : Line) → scanned line ≡ Ok ts → spelled ts ≡ Ok l → All IsShortDefinable (line_names l)
line_short scans line ts l e s = found_names ts l (scanned_have scans line ts e) (line_found ts l s)

targets_short : ScanAnswers → Parses → (line : List ℕ) (ts : List Lexeme) (l : Line) → scanned line ≡ Ok ts → spelled ts ≡ Ok l → All IsShortDefinable (line_targets l)
targets_short scans parses line ts l e s = found_targets parses ts l (scanned_have scans line ts e) (line_found ts l s)

pub names_defined : ScanAnswers → (line : List ℕ) (ts : List Lexeme) (l : Line) → scanned line ≡ Ok ts → spelled ts ≡ Ok l → All IsDefinable (line_names l)
names_defined scans line ts l e s = All-weaker IsShortDefinable IsDefinable (λ x is. is.0) (line_names l) (line_short scans line ts l e s)

pub targets_defined : ScanAnswers → Parses → (line : List ℕ) (ts : List Lexeme) (l : Line) → scanned line ≡ Ok ts → spelled ts ≡ Ok l → All IsDefinable (line_targets l)
targets_defined scans parses line ts l e s = All-weaker IsShortDefinable IsDefinable (λ x is. is.0) (line_targets l) (targets_short scans parses line ts l e s)

-- The names of a line have no more bytes than a line may have.
pub names_short : ScanAnswers → (line : List ℕ) (ts : List Lexeme) (l : Line) → scanned line ≡ Ok ts → spelled ts ≡ Ok l → All IsShort (line_names l)
names_short scans line ts l e s = All-weaker IsShortDefinable IsShort (λ x is. is.1) (line_names l) (line_short scans line ts l e s)

pub branches_short : ScanAnswers → Parses → (line : List ℕ) (ts : List Lexeme) (l : Line) → scanned line ≡ Ok ts → spelled ts ≡ Ok l → All IsShort (line_targets l)
branches_short scans parses line ts l e s = All-weaker IsShortDefinable IsShort (λ x is. is.1) (line_targets l) (targets_short scans parses line ts l e s)
