-- The errors of lines and statements have a cause in the source: they are never that memory ran out, and have that never inside.
use Rattle.std.proofs.Common.{◌≢◌, ◌==◌, ◌&&◌, if◌then◌else◌, refl, ℕ, Bool, true, false, List, [], ◌∷◌, Option, Some, None, Result, Ok, Err, map}
use Rattle.std.specs.List.{AllByRecursion, list_all, list_any}
use Rattle.std.specs.Option.{option_map}
use Rattle.std.specs.Map.{lookup}
use Rattle.std.specs.Str.{str_eq_ignore_ascii_case}
use Rattle.common.specs.Results.{◌>>=◌}
use Rattle.common.specs.Words.{is_reserved, upper}
use Rattle.asm_line.specs.Tokens.{Lexeme}
use Rattle.asm_parse.specs.declared.fault.ExprFault.{ExprFault}
use Rattle.asm_parse.specs.Expression.{postfix}
use Rattle.asm_parse.specs.Parsed.{parsed}
use Rattle.asm_parse.specs.declared.item.Item.{Item}
use Rattle.asm_parse.specs.Source as operand
use Rattle.asm_line.specs.Forms as front
use Rattle.asm_line.specs.Lists.{name_list}
use Rattle.z80_instr.specs.declared.IndexRegister.{IndexRegister}
use Rattle.z80_form.specs.declared.field.Field.{Field}
use Rattle.z80_form.specs.declared.form.Form.{Form}
use Rattle.z80_form.specs.declared.form.Pointed.{Pointed}
use Rattle.z80_form.specs.declared.mnemonic.Mnemonic.{Mnemonic}
use Rattle.z80_form.specs.declared.name.Name.{Name}
use Rattle.z80_form.specs.Named.{mnemonic_named}
use Rattle.z80_form.specs.Numbers.{allows}
use Rattle.z80_form.specs.Spelling.{instruction_of}
use Rattle.z80_instr.specs.declared.Branch.{Branch}
use Rattle.z80_instr.specs.declared.ShortCond.{ShortCond}
use Rattle.asm_spell.specs.declared.fault.StmtFault.{StmtFault}
use Rattle.asm_spell.specs.Faults.{each, of_expression, value_or}
use Rattle.asm_spell.specs.Line.{Body, ExpressionItems, Line, Value}
use Rattle.asm_spell.specs.Line as line
use Rattle.zmo_object.specs.Holes.{ends_in_byte}
use Rattle.asm_spell.specs.Operands.{WrittenOperand, answered_by, index_named, indexed, indexed_or, inner, is_memory, is_one_name, is_sign_kind, memory_operand, name_alone, named_or, operands, parsed_expression, pointed, pointed_or, token_name, with_expression, written_operand}
use Rattle.asm_spell.specs.Directives.{bytes_body, data_item, directive, directives, end, end_body, external, is_empty_text, name_or_expression, nameless, names_listed, names_or, of_bytes, of_nothing, of_origin, of_space, of_words, origin_body, public, space_body, text_alone, text_or, words_body, z80_body}
use Rattle.asm_spell.specs.Spelling.{has_reserved, instruction, instruction_by, labelled_line, line_by, operation, spelled, word_by}
use Rattle.asm_expr.specs.declared.answer.Settled.{Settled}
use Rattle.asm_expr.specs.declared.here.Offset.{Offset}
use Rattle.asm_expr.specs.declared.unknown.Unknown.{Unknown}
use Rattle.asm_expr.specs.Below.{source_tree}
use Rattle.asm_expr.specs.Names.{Table, found}
use Rattle.asm_expr.specs.Offsets.{offset}
use Rattle.asm_expr.specs.Settling.{fault, is_constant_item, settled}
use Rattle.asm_stmt.specs.Fields.{as_stmt, byte, byte_by, distance_filling, distance_or, field_filling, fixed, fixed_by, from_end, is_number_unknown, number, settled_in}
use Rattle.asm_stmt.specs.Made.{code, fillings, is_origin, jump_by, long_jump, made, number_filled, ref_of, short_by, space_fill, space_size, value_cells, word_cells}
use Rattle.z80dev.specs.Causes.{IsOfStatement}
use Rattle.z80dev.proofs.Faults.{fault_caused, parsed_caused, settled_caused}

-- If the answer is an error of a statement, it has a cause in the source.
abbrev pub Caused : {A : Type 0} → Result A StmtFault → Type 0
Caused (Ok value) = Unit {0}
Caused (Err why) = IsOfStatement why

then_caused : {A B : Type 0} (r : Result A StmtFault) (f : A → Result B StmtFault) → Caused r → ((x : A) → Caused (f x)) → Caused (r >>= f)
then_caused (Ok x) f one rest = rest x
then_caused (Err why) f one rest = one

each_caused : {A B : Type 0} (read : A → Result B StmtFault) (xs : List A) → ((x : A) → Caused (read x)) → Caused (each read xs)
each_caused read [] h = tt
each_caused read (x ∷ xs) h = then_caused (read x) _ (h x) (λ y. then_caused (each read xs) _ (each_caused read xs h) (λ ys. tt))

-- one of two answers
if_caused : {A : Type 0} (b : Bool) (p q : Result A StmtFault) → Caused p → Caused q → Caused (if b then p else q)
if_caused true p q one other = one
if_caused false p q one other = other

value_caused : {A : Type 0} (why : StmtFault) (o : Option A) → IsOfStatement why → Caused (value_or why o)
value_caused why None h = h
value_caused why (Some x) h = tt

expression_caused : (why : ExprFault) → why ≢ ExprFault.NoMemory → IsOfStatement (of_expression why)
expression_caused ExprFault.Syntax none = tt
expression_caused ExprFault.DivideByZero none = tt
expression_caused ExprFault.LabelDivisor none = tt
expression_caused ExprFault.TooDeep none = tt
expression_caused ExprFault.TooLarge none = tt
expression_caused ExprFault.NoMemory none = none refl

-- Lines.

items_caused : (r : Result ExpressionItems ExprFault) → r ≢ Err ExprFault.NoMemory → Caused (answered_by r)
items_caused (Ok e) none = tt
items_caused (Err why) none = expression_caused why (λ w. none (cc w))

tokens_caused : (tokens : List Lexeme) → Caused (parsed_expression tokens)
tokens_caused tokens = items_caused (parsed tokens) (search (parsed_caused))

with_caused : (form : Form) (is_name : Bool) (tokens : List Lexeme) → Caused (with_expression form is_name tokens)
with_caused form is_name tokens = then_caused (parsed_expression tokens) _ (tokens_caused tokens) (λ e. tt)

indexed_caused : (x : IndexRegister) (register : Lexeme) (more : List Lexeme) → Caused (indexed x register more)
indexed_caused x register [] = tt
indexed_caused x register (sign ∷ more) =
    if_caused (is_sign_kind sign.kind) _ _ (with_caused (Form.Displaced x) false (sign ∷ more)) (with_caused Form.AtNumber false (register ∷ sign ∷ more))

pointed_caused : (p : Option Pointed) (tokens : List Lexeme) → Caused (pointed_or p tokens)
pointed_caused (Some p) tokens = tt
pointed_caused None tokens = with_caused Form.AtNumber false tokens

indexed_or_caused : (x : Option IndexRegister) (t : Lexeme) (rest : List Lexeme) → Caused (indexed_or x t rest)
indexed_or_caused (Some x) t rest = indexed_caused x t rest
indexed_or_caused None t rest = pointed_caused (pointed (name_alone (t ∷ rest))) (t ∷ rest)

memory_caused : (tokens : List Lexeme) → Caused (memory_operand tokens)
memory_caused [] = with_caused Form.AtNumber false []
memory_caused (t ∷ rest) = indexed_or_caused (index_named (token_name t)) t rest

named_caused : (n : Option Name) (tokens : List Lexeme) → Caused (named_or n tokens)
named_caused (Some n) tokens = tt
named_caused None tokens = if_caused (is_memory tokens) _ _ (memory_caused (inner tokens)) (with_caused Form.Number (is_one_name tokens) tokens)

operand_caused : (tokens : List Lexeme) → Caused (written_operand tokens)
operand_caused tokens = named_caused (name_alone tokens) tokens

instruction_by_caused : (m : Mnemonic) (read : List WrittenOperand) → Caused (instruction_by m read)
instruction_by_caused m read = then_caused (value_or StmtFault.BadOperands (instruction_of m (map (λ w. w.form) read))) _ (value_caused StmtFault.BadOperands _ tt) (λ instr. tt)

instruction_caused : (m : Mnemonic) (tokens : List Lexeme) → Caused (instruction m tokens)
instruction_caused m tokens = then_caused (each written_operand (operands tokens)) (instruction_by m) (each_caused written_operand (operands tokens) operand_caused) (instruction_by_caused m)

text_caused : (text : Option (List ℕ)) (tokens : List Lexeme) → Caused (text_or text tokens)
text_caused (Some text) tokens = tt
text_caused None tokens = then_caused (parsed_expression tokens) _ (tokens_caused tokens) (λ e. tt)

data_caused : (tokens : List Lexeme) → Caused (data_item tokens)
data_caused tokens = text_caused (text_alone tokens) tokens

bytes_caused : (values : List Value) → Caused (bytes_body values)
bytes_caused [] = tt
bytes_caused (v ∷ vs) = if_caused (list_any is_empty_text (v ∷ vs)) _ _ tt tt

words_caused : (fields : List ExpressionItems) → Caused (words_body fields)
words_caused [] = tt
words_caused (e ∷ es) = tt

space_caused : (fields : List ExpressionItems) → Caused (space_body fields)
space_caused [] = tt
space_caused (size ∷ []) = tt
space_caused (size ∷ fill ∷ []) = tt
space_caused (size ∷ fill ∷ e ∷ es) = tt

origin_body_caused : (fields : List ExpressionItems) → Caused (origin_body fields)
origin_body_caused [] = tt
origin_body_caused (e ∷ []) = tt
origin_body_caused (e ∷ f ∷ es) = tt

z80_caused : (fields : List ExpressionItems) → Caused (z80_body fields)
z80_caused [] = tt
z80_caused (e ∷ es) = tt

-- the operands as expressions, of which a directive is made
expressions_caused : (f : List ExpressionItems → Result Body StmtFault) → ((es : List ExpressionItems) → Caused (f es)) → (tokens : List Lexeme) → Caused (each parsed_expression (operands tokens) >>= f)
expressions_caused f h tokens = then_caused (each parsed_expression (operands tokens)) f (each_caused parsed_expression (operands tokens) tokens_caused) h

name_caused : (tokens : List Lexeme) → Caused (name_or_expression tokens)
name_caused tokens = if_caused (is_one_name tokens) _ _ tt (then_caused (parsed_expression tokens) _ (tokens_caused tokens) (λ e. tt))

names_or_caused : (list : Option (List (List ℕ))) (tokens : List Lexeme) → Caused (names_or list tokens)
names_or_caused (Some list) tokens = tt
names_or_caused None tokens = then_caused (each name_or_expression (operands tokens)) _ (each_caused name_or_expression (operands tokens) name_caused) (λ x. tt)

listed_caused : (tokens : List Lexeme) → Caused (names_listed tokens)
listed_caused tokens = names_or_caused (name_list tokens) tokens

end_body_caused : (list : List (List ℕ)) → Caused (end_body list)
end_body_caused [] = tt
end_body_caused (name ∷ []) = tt
end_body_caused (name ∷ more ∷ names) = tt

end_caused : (tokens : List Lexeme) → Caused (end tokens)
end_caused [] = tt
end_caused (t ∷ ts) = then_caused (names_listed (t ∷ ts)) end_body (listed_caused (t ∷ ts)) end_body_caused

-- Whatever a directive reads, its error has a cause.
abbrev Reads : (List Lexeme → Result Body StmtFault) → Type 0
Reads read = (tokens : List Lexeme) → Caused (read tokens)

abbrev ReadsIf : Option (List Lexeme → Result Body StmtFault) → Type 0
ReadsIf None = Unit {0}
ReadsIf (Some read) = Reads read

found_caused : (name : List ℕ) (entries : List (List ℕ × (List Lexeme → Result Body StmtFault))) → AllByRecursion (λ entry. Reads entry.1) entries → ReadsIf (lookup (str_eq_ignore_ascii_case name) entries)
found_caused name [] all = tt
found_caused name (entry ∷ entries) all = elim (str_eq_ignore_ascii_case name entry.0) as (λ b. ReadsIf (if b then Some entry.1 else lookup (str_eq_ignore_ascii_case name) entries)) [
  | true ↦ all.0
  | false ↦ found_caused name entries all.1
]

of_bytes_caused : Reads of_bytes
of_bytes_caused tokens = then_caused (each data_item (operands tokens)) bytes_body (each_caused data_item (operands tokens) data_caused) bytes_caused

of_words_caused : Reads of_words
of_words_caused = expressions_caused words_body words_caused

of_space_caused : Reads of_space
of_space_caused = expressions_caused space_body space_caused

public_caused : Reads public
public_caused tokens = then_caused (names_listed tokens) _ (listed_caused tokens) (λ list. tt)

external_caused : Reads external
external_caused tokens = then_caused (names_listed tokens) _ (listed_caused tokens) (λ list. tt)

origin_caused : Reads of_origin
origin_caused = expressions_caused origin_body origin_body_caused

nothing_caused : Reads of_nothing
nothing_caused = expressions_caused z80_body z80_caused

nameless_caused : Reads nameless
nameless_caused = expressions_caused (λ _. Err StmtFault.BadOperands) (λ es. tt)

directive_caused : (name : List ℕ) → ReadsIf (directive name)
directive_caused name = found_caused name directives
    (of_bytes_caused, (of_bytes_caused, (of_bytes_caused, (of_words_caused, (of_words_caused, (of_space_caused, (of_space_caused, (public_caused, (public_caused, (external_caused, (external_caused, (origin_caused, (end_caused, (nothing_caused, (nameless_caused, tt)))))))))))))))

word_caused : (m : Option Mnemonic) (read : Option (List Lexeme → Result Body StmtFault)) (tokens : List Lexeme) → ReadsIf read → Caused (word_by m read tokens)
word_caused (Some m) read tokens h = instruction_caused m tokens
word_caused None (Some read) tokens h = h tokens
word_caused None None tokens h = tt

labelled_caused : (label : Option (List ℕ)) (body : Option Body) → Caused (labelled_line label body)
labelled_caused label body = if_caused (has_reserved label body) _ _ tt tt

line_caused : (label : Option (List ℕ)) (head : front.Head) (rest : List Lexeme) → Caused (line_by label head rest)
line_caused label (front.Equ name) rest = then_caused (parsed_expression rest) _ (tokens_caused rest) (λ e. if_caused (is_reserved (upper name)) _ _ tt tt)
line_caused label (front.Word name) rest =
    then_caused (operation name rest) _ (word_caused (mnemonic_named name) (directive name) rest (directive_caused name)) (λ body. labelled_caused (option_map upper label) (Some body))
line_caused label front.Nothing [] = labelled_caused (option_map upper label) None
line_caused label front.Nothing (t ∷ ts) = tt
line_caused label (front.Macro name) rest = tt
line_caused label (front.Block word) rest = tt

pub spelled_caused : (tokens : List Lexeme) → Caused (spelled tokens)
spelled_caused tokens = let f = front.form tokens in line_caused f.label f.head f.rest

-- Values.

as_caused : {A : Type 0} (r : Result A ExprFault) → r ≢ Err ExprFault.NoMemory → Caused (as_stmt r)
as_caused (Ok x) none = tt
as_caused (Err why) none = expression_caused why (λ w. none (cc w))

settled_in_caused : (t : Table) (e : ExpressionItems) → Caused (settled_in t e)
settled_in_caused t e = as_caused (settled t (source_tree e)) (settled_caused t (source_tree e))

byte_caused : (s : Settled) → Caused (byte s)
byte_caused (Settled.Known items) = elim (number items) as (λ n. Caused (byte_by n items)) [
  | Some n ↦ if_caused (allows Field.Byte n) _ _ tt tt
  | None ↦ if_caused (ends_in_byte items) _ _ tt tt
]
byte_caused (Settled.Unknown Unknown.Varies) = tt
byte_caused (Settled.Unknown Unknown.Anything) = tt
byte_caused (Settled.Unknown Unknown.Number) = tt
byte_caused (Settled.Unknown Unknown.VariesInByte) = tt

fixed_by_caused : (field : Field) (n : Option ℕ) → Caused (fixed_by field n)
fixed_by_caused field (Some n) = if_caused (allows field n) _ _ tt tt
fixed_by_caused field None = tt

fixed_caused : (field : Field) (s : Settled) → Caused (fixed field s)
fixed_caused field (Settled.Known items) = fixed_by_caused field (number items)
fixed_caused field (Settled.Unknown what) = if_caused (is_number_unknown what) _ _ tt tt

distance_caused : (o : Offset) → Caused (distance_filling o)
distance_caused (Offset.Number n) = if_caused (allows Field.Distance (from_end n)) _ _ tt tt
distance_caused Offset.Unknown = tt
distance_caused Offset.NotConstant = tt
distance_caused Offset.Other = tt

distance_or_caused : (f : Option ExprFault) (o : Offset) → f ≢ Some ExprFault.NoMemory → Caused (distance_or f o)
distance_or_caused f Offset.Other none = tt
distance_or_caused (Some why) (Offset.Number n) none = expression_caused why (λ w. none (cc w))
distance_or_caused (Some why) Offset.Unknown none = expression_caused why (λ w. none (cc w))
distance_or_caused (Some why) Offset.NotConstant none = expression_caused why (λ w. none (cc w))
distance_or_caused None (Offset.Number n) none = distance_caused (Offset.Number n)
distance_or_caused None Offset.Unknown none = tt
distance_or_caused None Offset.NotConstant none = tt

fixed_field_caused : (t : Table) (field : Field) (e : ExpressionItems) → Caused (settled_in t e >>= fixed field)
fixed_field_caused t field e = then_caused (settled_in t e) (fixed field) (settled_in_caused t e) (fixed_caused field)

filling_caused : (t : Table) (field : Field) (e : ExpressionItems) → Caused (field_filling t field e)
filling_caused t Field.Distance e = distance_or_caused (fault t (source_tree e)) (offset t (source_tree e)) (fault_caused t (source_tree e))
filling_caused t Field.Byte e = then_caused (settled_in t e) byte (settled_in_caused t e) byte_caused
filling_caused t Field.Word e = then_caused (settled_in t e) _ (settled_in_caused t e) (λ s. tt)
filling_caused t Field.Displacement e = fixed_field_caused t Field.Displacement e
filling_caused t Field.Bit e = fixed_field_caused t Field.Bit e
filling_caused t Field.Mode e = fixed_field_caused t Field.Mode e
filling_caused t Field.Restart e = fixed_field_caused t Field.Restart e

value_cells_caused : (t : Table) (v : Value) → Caused (value_cells t v)
value_cells_caused t (line.Text text) = tt
value_cells_caused t (line.Byte e) = then_caused (field_filling t Field.Byte e) _ (filling_caused t Field.Byte e) (λ f. tt)

word_cells_caused : (t : Table) (e : ExpressionItems) → Caused (word_cells t e)
word_cells_caused t e = then_caused (field_filling t Field.Word e) _ (filling_caused t Field.Word e) (λ f. tt)

filled_caused : (t : Table) (n : Field × ExpressionItems) → Caused (number_filled t n)
filled_caused t n = then_caused (field_filling t n.0 n.1) _ (filling_caused t n.0 n.1) (λ f. tt)

code_caused : (t : Table) (instr : _) (numbers : List (Field × ExpressionItems)) → Caused (code t instr numbers)
code_caused t instr numbers = then_caused (fillings t numbers) _ (each_caused (number_filled t) numbers (filled_caused t)) (λ read. tt)

jump_caused : (r : Option ℕ) (t : Table) (condition : Option ShortCond) (target : List ℕ) → Caused (jump_by r t condition target)
jump_caused (Some r) t condition target = tt
jump_caused None t condition target = code_caused t (long_jump condition 0) ((Field.Word, Item.Leaf (operand.Name target) ∷ []) ∷ [])

short_caused : (r : Option ℕ) (branch : Branch) → Caused (short_by r branch)
short_caused (Some r) branch = tt
short_caused None branch = tt

fill_caused : (t : Table) (fill : Option ExpressionItems) → Caused (space_fill t fill)
fill_caused t None = tt
fill_caused t (Some e) = fixed_field_caused t Field.Byte e

size_caused : (t : Table) (e : ExpressionItems) → Caused (space_size t e)
size_caused t e = then_caused (settled_in t e) _ (settled_in_caused t e) (λ s. if_caused (list_all (is_constant_item t) (postfix (source_tree e))) _ _ tt tt)

pub made_caused : (t : Table) (b : Body) → Caused (made t b)
made_caused t (line.Code instr numbers) = code_caused t instr numbers
made_caused t (line.Jump condition target) = jump_caused (ref_of (found t target)) t condition target
made_caused t (line.Short branch target) = short_caused (ref_of (found t target)) branch
made_caused t (line.Bytes values) = then_caused (each (value_cells t) values) _ (each_caused (value_cells t) values (value_cells_caused t)) (λ cells. tt)
made_caused t (line.Words fields) = then_caused (each (word_cells t) fields) _ (each_caused (word_cells t) fields (word_cells_caused t)) (λ cells. tt)
made_caused t (line.Space size fill) = then_caused (space_size t size) _ (size_caused t size) (λ s. then_caused (space_fill t fill) _ (fill_caused t fill) (λ f. tt))
made_caused t (line.Origin e) = then_caused (settled_in t e) _ (settled_in_caused t e) (λ s. if_caused ((t.here == 0) && is_origin s) _ _ tt tt)
made_caused t (line.Public names) = tt
made_caused t (line.External names) = tt
made_caused t (line.End entry) = tt
made_caused t line.Z80 = tt
