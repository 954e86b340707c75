-- A line has few tokens, and so its DB or DW takes few bytes.
use Rattle.std.proofs.Common.{◌≡◌, ◌≢◌, ◌≤◌, ◌*◌, ◌==◌, ◌&&◌, ℕ, suc, Bool, true, false, List, [], ◌∷◌, Option, Some, None, Result, Ok, Err, All, cond, length, codes, refl, sym, ap, subst, arith, length-append, length-drop}
use Rattle.std.specs.List.{list_any, prefix_len, sum_by}
use Rattle.std.proofs.lemmas.List.Elements.{All-head, All-tail}
use Rattle.std.proofs.lemmas.List.Sums.{sum_by-cons}
use Rattle.common.specs.Results.{◌>>=◌}
use Rattle.asm_line.specs.declared.token.Kind.{Kind}
use Rattle.asm_line.specs.Classes.{is_blank}
use Rattle.asm_line.specs.Lines.{BeginsTokens, Scans}
use Rattle.asm_line.specs.Scanned.{scanned}
use Rattle.asm_line.specs.Tokens.{Lexeme}
use Rattle.asm_line.proofs.Cuts.{token_some}
use Rattle.asm_line.specs.Forms as front
use Rattle.asm_line.specs.Commas.{open_behind}
use Rattle.asm_line.specs.Single.{is_colon, is_comma, is_name, is_word}
use Rattle.asm_spell.specs.declared.fault.StmtFault.{StmtFault}
use Rattle.asm_spell.specs.Faults.{each}
use Rattle.asm_spell.specs.Few.{IsFew, value_size}
use Rattle.asm_spell.specs.Line as line
use Rattle.asm_spell.specs.Line.{Body, ExpressionItems, Statement, Value}
use Rattle.asm_spell.specs.Directives.{content, is_empty_text, text_alone, text_by, text_or, undoubled, data_item}
use Rattle.asm_spell.specs.Operands.{parsed_expression, operands, pieces, with_first}
use Rattle.asm_spell.specs.Spelling.{spelled}
use Rattle.asm_spell.proofs.Named.{HasName, HaveNames, IsShort, ScanAnswers, each_parts, form_named, operands_named, scanned_have}
use Rattle.asm_spell.proofs.Walk.{BodyFound, Found, line_found}

-- A line has no more tokens than bytes.
fewer_begun : (line : List ℕ) (ts : List Lexeme) (rest : List ℕ) → BeginsTokens line ts rest → length ts ≤ length line
fewer_begun line [] rest begins = omega arith
fewer_begun line (t ∷ ts) rest begins =
    let others = fewer_begun begins.0 ts rest begins.2 in
    omega (arith, others, token_some t.kind t.text begins.0 begins.1.token_is, ap length begins.1.bytes_are, length-append t.text begins.0, length-drop (prefix_len is_blank line) line)

few_tokens : ScanAnswers → (line : List ℕ) (ts : List Lexeme) → scanned line ≡ Ok ts → length ts ≤ 255
few_tokens scans line ts is =
    let s : Scans line (Ok ts) = subst (Scans line) is (scans line) in
    let fewer = fewer_begun line ts s.1.rest s.1.begins in
    omega (arith, fewer, s.0)

-- There are no more tokens after a line's word.
abbrev Within : ℕ → front.Form → Type 0
Within n f = length f.rest ≤ n

either_within : (n : ℕ) (b : Bool) (f g : front.Form) → Within n f → Within n g → Within n (cond b f g)
either_within n true f g p q = p
either_within n false f g p q = q

worded_within : (label : Option (List ℕ)) (word : Lexeme) (rest : List Lexeme) → Within (suc (length rest)) (front.worded label word rest)
worded_within label word rest = either_within (suc (length rest)) (is_name word) _ _ (omega arith) (omega arith)

headed_within : (label : Option (List ℕ)) (ts : List Lexeme) → Within (length ts) (front.headed label ts)
headed_within label [] = omega arith
headed_within label (word ∷ []) = worded_within label word []
headed_within label (name ∷ word ∷ rest) = either_within (length (name ∷ word ∷ rest)) (is_name name && is_word (codes "MACRO") word) _ _ (omega arith) (worded_within label name (word ∷ rest))

labelled_within : (name : List ℕ) (rest : List Lexeme) → Within (length rest) (front.labelled name rest)
labelled_within name [] = omega arith
labelled_within name (word ∷ rest) = either_within (length (word ∷ rest)) (is_word (codes "EQU") word) _ _ (omega arith) (headed_within (Some name) (word ∷ rest))

form_within : (ts : List Lexeme) → Within (length ts) (front.form ts)
form_within [] = omega arith
form_within (word ∷ []) = headed_within None (word ∷ [])
form_within (name ∷ second ∷ rest) =
    let n = length (name ∷ second ∷ rest) in
    let behind : Within n (front.labelled name.text rest) = omega (arith, labelled_within name.text rest) in
    either_within n (is_name name && is_word (codes "EQU") second) _ _ (omega arith)
    (either_within n (is_name name && is_colon second) _ _ behind (headed_within None (name ∷ second ∷ rest)))

-- One more token adds at most one operand.
first_count : (t : Lexeme) (ps : List (List Lexeme)) (n : ℕ) → length ps ≤ suc n → length (with_first t ps) ≤ suc (suc n)
first_count t [] n few = omega arith
first_count t (p ∷ ps) n few = omega (arith, few)

either_count : {A : Type 0} (n : ℕ) (b : Bool) (xs ys : List A) → length xs ≤ n → length ys ≤ n → length (cond b xs ys) ≤ n
either_count n true xs ys p q = p
either_count n false xs ys p q = q

pieces_count : (depth : ℕ) (ts : List Lexeme) → length (pieces depth ts) ≤ suc (length ts)
pieces_count depth [] = omega arith
pieces_count depth (t ∷ ts) =
    either_count (suc (suc (length ts))) ((depth == 0) && is_comma t) ([] ∷ pieces 0 ts) (with_first t (pieces (open_behind depth t.kind) ts))
    (omega (arith, pieces_count 0 ts)) (first_count t (pieces (open_behind depth t.kind) ts) (length ts) (pieces_count (open_behind depth t.kind) ts))

operands_count : (ts : List Lexeme) → length (operands ts) ≤ suc (length ts)
operands_count [] = omega arith
operands_count (t ∷ ts) = pieces_count 0 (t ∷ ts)

each_count : {A B : Type 0} (read : A → Result B StmtFault) (xs : List A) (ys : List B) → each read xs ≡ Ok ys → length ys ≡ length xs
each_count read [] ys is = let same : [] ≡ ys = cc in ap length (sym same)
each_count read (x ∷ xs) ys is =
    let parts = each_parts read x xs ys is in
    omega (arith, ap length parts.4, each_count read xs parts.1 parts.3)

-- An item of DB has no more bytes than its token.
undoubled_short : (quote : ℕ) (bytes : List ℕ) → length (undoubled quote bytes) ≤ length bytes
undoubled_short quote [] = omega arith
undoubled_short quote (b ∷ []) = omega arith
undoubled_short quote (b ∷ c ∷ more) =
    let one = undoubled_short quote more in
    let two = undoubled_short quote (c ∷ more) in
    either_count (length (b ∷ c ∷ more)) (b == quote) (b ∷ undoubled quote more) (b ∷ undoubled quote (c ∷ more)) (omega (arith, one)) (omega (arith, two))

content_short : (text : List ℕ) → length (content text) ≤ length text
content_short [] = omega arith
content_short (quote ∷ more) = omega (arith, undoubled_short quote more)

text_short : (ts : List Lexeme) (text : List ℕ) → HaveNames ts → text_alone ts ≡ Some text → IsShort text
text_short [] text have is = cc
text_short (t ∷ u ∷ ts) text have is = cc
text_short (t ∷ []) text have is = by_kind t.kind is
  where
    by_kind : (k : Kind) → text_by k t.text ≡ Some text → IsShort text
    by_kind Kind.Quoted is = let same : t.text ≡ text = cc in subst IsShort same (All-head HasName t [] have).0
    by_kind Kind.Name is = cc
    by_kind Kind.OtherAf is = cc
    by_kind (Kind.Number n) is = cc
    by_kind (Kind.Mark m) is = cc

value_short : (ts : List Lexeme) (v : Value) → HaveNames ts → data_item ts ≡ Ok v → value_size v ≤ 255
value_short ts v have is = by_text (text_alone ts) refl is
  where
    of_byte : (r : Result ExpressionItems StmtFault) → (r >>= λ e. Ok (line.Byte e)) ≡ Ok v → value_size v ≤ 255
    of_byte (Ok e) is = let same : line.Byte e ≡ v = cc in subst (λ w. value_size w ≤ 255) same (omega arith)
    of_byte (Err why) is = cc

    by_text : (o : Option (List ℕ)) → text_alone ts ≡ o → text_or o ts ≡ Ok v → value_size v ≤ 255
    by_text (Some text) was is =
        let same : line.Text (content text) ≡ v = cc in
        let short = text_short ts text have was in
        subst (λ w. value_size w ≤ 255) same (omega (arith, short, content_short text))
    by_text None was is = of_byte (parsed_expression ts) is

values_short : (ps : List (List Lexeme)) (values : List Value) → All HaveNames ps → each data_item ps ≡ Ok values → sum_by value_size values ≤ 255 * length ps
values_short [] values have is = let same : [] ≡ values = cc in subst (λ vs. sum_by value_size vs ≤ 0) same (omega arith)
values_short (p ∷ ps) values have is =
    let parts = each_parts data_item p ps values is in
    let first = value_short p parts.0 (All-head HaveNames p ps have) parts.2 in
    let others = values_short ps parts.1 (All-tail HaveNames p ps have) parts.3 in
    omega (arith, first, others, ap (sum_by value_size) parts.4, sum_by-cons value_size parts.0 parts.1)

-- DB has at least one byte.
some_byte : (values : List Value) → values ≢ [] → list_any is_empty_text values ≡ false → 1 ≤ sum_by value_size values
some_byte [] some full = absurd (some refl)
some_byte (line.Byte e ∷ values) some full = omega (arith, sum_by-cons value_size (line.Byte e) values)
some_byte (line.Text [] ∷ values) some full = cc
some_byte (line.Text (b ∷ text) ∷ values) some full = omega (arith, sum_by-cons value_size (line.Text (b ∷ text)) values)

some_field : {A : Type 0} (xs : List A) → xs ≢ [] → 1 ≤ length xs
some_field [] some = absurd (some refl)
some_field (x ∷ xs) some = omega arith

body_few : (rest : List Lexeme) (b : Body) → length rest ≤ 255 → HaveNames rest → BodyFound rest b → IsFew b
body_few rest (line.Bytes values) few have found =
    let most = values_short (operands rest) values (operands_named rest have) found.0 in
    (some_byte values found.1 found.2, omega (arith, most, operands_count rest, few))
body_few rest (line.Words fields) few have found =
    let some = some_field fields found.1 in
    (omega (arith, some), omega (arith, each_count parsed_expression (operands rest) fields found.0, operands_count rest, few))
body_few rest b few have found = tt

pub few : ScanAnswers → (line : List ℕ) (ts : List Lexeme) (label : Option (List ℕ)) (b : Body) → scanned line ≡ Ok ts → spelled ts ≡ Ok (Statement label (Some b)) → IsFew b
few scans line ts label b is so =
    let found : Found ts (Statement label (Some b)) = line_found ts (Statement label (Some b)) so in
    let have = scanned_have scans line ts is in
    let count : length (front.form ts).rest ≤ 255 = omega (arith, form_within ts, few_tokens scans line ts is) in
    body_few (front.form ts).rest b count (form_named ts have).rest found.2
