-- The errors of lines and expressions have a cause in the source: they are never that memory ran out.
use Rattle.std.proofs.Common.{◌≡◌, ◌≢◌, ◌+◌, if◌then◌else◌, refl, subst, ℕ, zero, suc, true, false, nat_lt, List, [], ◌∷◌, Option, Some, None, Result, Ok, Err}
use Rattle.std.specs.List.{list_all}
use Rattle.asm_line.specs.declared.fault.ScanFault.{ScanFault}
use Rattle.asm_line.specs.Tokens.{Lexeme}
use Rattle.asm_line.specs.Lines.{Scans}
use Rattle.asm_parse.specs.declared.fault.ExprFault.{ExprFault}
use Rattle.asm_parse.specs.declared.item.Item.{Item}
use Rattle.asm_parse.specs.declared.operator.Binary.{Binary}
use Rattle.asm_parse.specs.declared.reader.TheConstants.{MOST_OPEN}
use Rattle.asm_parse.specs.Expression.{Expression, Leaf, Prefix, Infix, postfix}
use Rattle.asm_parse.specs.Grammar.{Phrase, depth, expression}
use Rattle.asm_parse.specs.Operators.{divides}
use Rattle.asm_parse.specs.Parsed.{parsed, parsed_by}
use Rattle.asm_parse.specs.Source.{Operand}
use Rattle.asm_parse.specs.declared.values.expr.TheConstants.{MOST_ITEMS}
use Rattle.asm_parse.specs.declared.values.atom.Atom.{Atom}
use Rattle.asm_parse.specs.declared.values.worth.Worth.{Worth}
use Rattle.asm_expr.specs.declared.answer.Settled.{Settled}
use Rattle.asm_expr.specs.Names.{Table}
use Rattle.asm_expr.specs.Origins.{is_number_item}
use Rattle.asm_expr.specs.Below.{source_tree}
use Rattle.asm_expr.specs.Settling.{division_fault, divisions_fault, divisor_fault, fault, fault_behind, first_of_two, replaced, settled, expression_size, operand_size, stands_for, too_large, unless_fault}
use Rattle.asm_expr.specs.Settling as settling
use Rattle.asm_macro.specs.declared.fault.MacroFault.{MacroFault}
use Rattle.asm_macro.specs.Faults.{fault_of_expr, fault_of_scan}
use Rattle.asm_macro.specs.Values.{settled_number, value_of_tokens, worth_of_items}
use Rattle.z80dev.specs.Causes.{IsOfSource}

-- the answer of scanning a line is never that memory ran out
no_scan : (text : List ℕ) (r : Result (List Lexeme) ScanFault) → Scans text r → r ≢ Err ScanFault.NoMemory
no_scan text r scans is = let stops = subst (Scans text) is scans in stops.1.stopped

abbrev NoneOf : Option ExprFault → Type 0
NoneOf fault = fault ≢ Some ExprFault.NoMemory

first_caused : (a b : Option ExprFault) → NoneOf a → NoneOf b → NoneOf (first_of_two a b)
first_caused (Some x) b one other = one
first_caused None b one other = other

too_large_caused : (n : ℕ) → NoneOf (too_large n)
too_large_caused n = elim (nat_lt MOST_ITEMS n) as (λ b. NoneOf (if b then Some ExprFault.TooLarge else None)) [
  | true ↦ λ is. absurd (cc is)
  | false ↦ λ is. absurd (cc is)
]

divisor_caused : (w : Worth) → NoneOf (divisor_fault w)
divisor_caused (Worth.Number (suc n)) is = absurd (cc is)
divisor_caused (Worth.Number zero) is = absurd (cc is)
divisor_caused Worth.Unknown is = absurd (cc is)
divisor_caused Worth.Varies is = absurd (cc is)

division_caused : (t : Table) (op : Binary) (divisor : Expression _) → NoneOf (division_fault t op divisor)
division_caused t op divisor = elim (divides op) as (λ b. NoneOf (if b then divisor_fault (settling.worth t divisor) else None)) [
  | true ↦ divisor_caused (settling.worth t divisor)
  | false ↦ λ is. absurd (cc is)
]

divisions_caused : (t : Table) (e : Expression _) → NoneOf (divisions_fault t e)
divisions_caused t (Leaf part) = λ is. absurd (cc is)
divisions_caused t (Prefix op a) = divisions_caused t a
divisions_caused t (Infix op a b) = first_caused _ _ (divisions_caused t a) (first_caused _ _ (divisions_caused t b) (division_caused t op b))

behind_caused : (n : ℕ) (t : Table) (e : Expression Operand) → NoneOf (fault_behind n t e)
behind_caused n t (Leaf operand) = first_caused _ _ (too_large_caused (n + operand_size t operand)) (divisions_caused t (stands_for t operand))
behind_caused n t (Prefix op a) = first_caused _ _ (behind_caused n t a) (too_large_caused (n + expression_size t (Prefix op a)))
behind_caused n t (Infix op a b) =
    first_caused _ _ (behind_caused n t a) (first_caused _ _ (behind_caused (n + expression_size t a) t b) (first_caused _ _ (too_large_caused (n + expression_size t (Infix op a b))) (division_caused t op (replaced t b))))

-- An answer for an expression is not that memory ran out.
abbrev Caused : {A : Type 0} → Result A ExprFault → Type 0
Caused r = r ≢ Err ExprFault.NoMemory

unless_caused : (why : Option ExprFault) (answer : Settled) → NoneOf why → Caused (unless_fault why answer)
unless_caused None answer none is = absurd (cc is)
unless_caused (Some why) answer none is = none (cc is)

-- what an expression is settled as
pub fault_caused : (t : Table) (e : Expression Operand) → NoneOf (fault t e)
fault_caused t e = behind_caused 0 t e

pub settled_caused : (t : Table) (e : Expression Operand) → Caused (settled t e)
settled_caused t e = unless_caused (fault t e) _ (fault_caused t e)

pub parsed_caused : (phrase : Option Phrase) → Caused (parsed_by phrase)
parsed_caused None = λ is. absurd (cc is)
parsed_caused (Some phrase) = elim (nat_lt MOST_OPEN (depth phrase)) as (λ b. Caused (if b then Err ExprFault.TooDeep else Ok (postfix (expression phrase)))) [
  | true ↦ λ is. absurd (cc is)
  | false ↦ λ is. absurd (cc is)
]

-- If the answer is an error of an expansion, it has a cause in the source.
abbrev IsCaused : {A : Type 0} → Result A MacroFault → Type 0
IsCaused (Ok value) = Unit {0}
IsCaused (Err why) = IsOfSource why

expr_caused : (why : ExprFault) → why ≢ ExprFault.NoMemory → IsOfSource (fault_of_expr why)
expr_caused ExprFault.Syntax none = tt
expr_caused ExprFault.DivideByZero none = tt
expr_caused ExprFault.LabelDivisor none = tt
expr_caused ExprFault.TooDeep none = tt
expr_caused ExprFault.TooLarge none = tt
expr_caused ExprFault.NoMemory none = none refl

scan_caused : (why : ScanFault) → why ≢ ScanFault.NoMemory → IsOfSource (fault_of_scan why)
scan_caused ScanFault.BadByte none = tt
scan_caused ScanFault.OpenString none = tt
scan_caused ScanFault.LineTooLong none = tt
scan_caused ScanFault.BadNumber none = tt
scan_caused ScanFault.NoMemory none = none refl

-- the scan error of a line, as an error of the expansion
pub scans_caused : (text : List ℕ) (why : ScanFault) → Scans text (Err why) → IsOfSource (fault_of_scan why)
scans_caused text why scans = scan_caused why (λ is. no_scan text (Err why) scans (cc is))

-- The error of scanning a line may be inside another.
inside : (why : ScanFault) → why ≢ ScanFault.NoMemory → IsOfSource (MacroFault.Scan why)
inside ScanFault.BadByte none = tt
inside ScanFault.OpenString none = tt
inside ScanFault.LineTooLong none = tt
inside ScanFault.BadNumber none = tt
inside ScanFault.NoMemory none = none refl

pub scan_inside : (text : List ℕ) (why : ScanFault) → Scans text (Err why) → IsOfSource (MacroFault.Scan why)
scan_inside text why scans = inside why (λ is. no_scan text (Err why) scans (cc is))

number_caused : (r : Result Settled ExprFault) → Caused r → IsCaused (settled_number r)
number_caused (Ok (Settled.Known (Item.Leaf (Atom.Number n) ∷ []))) none = tt
number_caused (Ok _) none = tt
number_caused (Err why) none = expr_caused why (λ w. none (cc w))

items_caused : (t : Table) (r : Result (List (Item Operand)) ExprFault) → Caused r → IsCaused (worth_of_items t r)
items_caused t (Ok items) none =
    elim (list_all (is_number_item t) items) as (λ b. IsCaused (if b then settled_number (settled t (source_tree items)) else Err MacroFault.ConditionNamesLabel)) [
      | true ↦ number_caused (settled t (source_tree items)) (settled_caused t (source_tree items))
      | false ↦ tt
    ]
items_caused t (Err why) none = expr_caused why (λ w. none (cc w))

pub worth_caused : (t : Table) (tokens : List Lexeme) (why : MacroFault) → value_of_tokens t tokens ≡ Err why → IsOfSource why
worth_caused t tokens why is = subst IsCaused is (items_caused t (parsed tokens) (search (parsed_caused)))
