-- Each source is a module, or has a first error.
use Rattle.std.proofs.Common.{◌≡◌, ◌≢◌, ◌≤◌, refl, ap, subst, ℕ, Bool, true, false, List, [], ◌∷◌, ◌++◌, Option, Some, None, Result, Ok, Err, option_map, map, length, filter_map}
use Rattle.std.proofs.lemmas.Option.{slice_get_past}
use Rattle.std.specs.Option.{option_map_or}
use Rattle.common.specs.Results.{◌>>=◌}
use Rattle.asm_line.specs.declared.fault.ScanFault.{ScanFault}
use Rattle.asm_line.specs.Lines.{Scans}
use Rattle.asm_line.specs.Scanned.{scanned}
use Rattle.asm_line.specs.Tokens.{Lexeme}
use Rattle.asm_parse.specs.declared.fault.ExprFault.{ExprFault}
use Rattle.asm_expr.specs.Below.{source_tree}
use Rattle.asm_expr.specs.Equating.{equated, meaning_of}
use Rattle.asm_expr.specs.Names.{Table}
use Rattle.asm_expr.specs.Settling.{settled}
use Rattle.asm_spell.specs.declared.fault.StmtFault.{StmtFault}
use Rattle.asm_spell.specs.Line.{Body, ExpressionItems, Line}
use Rattle.asm_spell.specs.Line as line
use Rattle.asm_spell.specs.Spelling.{spelled}
use Rattle.asm_text.specs.Lines.{Numbered}
use Rattle.asm_macro.specs.declared.fault.MacroFault.{MacroFault}
use Rattle.asm_macro.specs.Expands.{End, Ended, IsExpanded, IsExpansion, Stopped, Whole}
use Rattle.asm_macro.specs.Texts.{source_lines}
use Rattle.asm_names.specs.declared.fault.NameFault.{NameFault}
use Rattle.asm_names.specs.Faults as defined
use Rattle.asm_names.specs.Faults.{first, if_so}
use Rattle.asm_names.specs.Lines.{Taken, placed}
use Rattle.asm_names.specs.Names.{Names, names}
use Rattle.asm_names.specs.declared.equ_fault.EquFault.{EquFault}
use Rattle.asm_names.specs.Circles.{TellsCircles, equ_items, line_named, lines_named}
use Rattle.asm_names.specs.Layout.{Layout}
use Rattle.asm_names.specs.Meanings.{Entries, circular, equ_fault, equ_line_fault, name_meanings, table_at, undefined, expression_fault_of, expression_fault}
use Rattle.asm_module.specs.declared.line_fault.LineFault.{LineFault}
use Rattle.asm_module.specs.Reads.Read.{read_line, scanned_by, spelled_by, taken, unread, unread_or}
use Rattle.asm_module.specs.declared.statements.fault.StateFault.{StateFault}
use Rattle.asm_module.specs.Module.Faults.{body_fault, not_label, undefined_name, made_fault, value_fault}
use Rattle.asm_module.specs.Module.Stated as stated
use Rattle.asm_stmt.specs.Made.{Made, made}
use Rattle.asm_module.specs.declared.fault.AsmFault.{AsmFault}
use Rattle.asm_module.specs.declared.fault.Why.{Why}
use Rattle.asm_module.specs.Assembled.{Assembled, Assembles, HasCause, answer, assembled}
use Rattle.asm_module.specs.Below.{layout, source_table}
use Rattle.asm_module.specs.Source.{fault_on_line, first_equ_line_fault, first_pass, source_fault, state_fault}
use Rattle.asm_module.specs.Whys.{equ_why, line_why, macro_why, name_why, state_why}
use Rattle.z80dev.specs.Causes.{IsCauseOf, IsOfSource, IsOfStatement, LacksNoMemory}
use Rattle.z80dev.proofs.Faults.{scan_inside, settled_caused}
use Rattle.z80dev.proofs.Reach.{is_led, is_passed}
use Rattle.z80dev.proofs.Statements.{Caused, made_caused, spelled_caused}

-- The error, if there is one, is not that memory ran out, whatever its line is.
abbrev NoneIs : {A : Type 0} → A → Option (ℕ × A) → Type 0
NoneIs memory fault = (n : ℕ) → fault ≢ Some (n, memory)

-- the first of several errors, if that of the first line and those of the others have a cause
first_none : {A : Type 0} (memory : A) (number : ℕ) (one : Option A) (others : List (Option (ℕ × A))) → one ≢ Some memory → NoneIs memory (first others) → NoneIs memory (first (option_map (λ why. (number, why)) one ∷ others))
first_none {A} memory number (Some why) others is_not rest n is = is_not (ap (option_map (λ (f : ℕ × A). f.1)) is)
first_none {A} memory number None others is_not rest n is = rest n is

first_of : {A : Type 0} (memory : A) (one : Option A) (others : List (Option A)) → one ≢ Some memory → first others ≢ Some memory → first (one ∷ others) ≢ Some memory
first_of memory (Some why) others is_not rest = is_not
first_of memory None others is_not rest = rest

if_so_none : {A : Type 0} (memory why : A) (b : Bool) → why ≢ memory → if_so why b ≢ Some memory
if_so_none memory why true is_not = λ is. is_not (cc is)
if_so_none memory why false is_not = λ is. absurd (cc is)

-- the errors of names
name_caused : (before : List Taken) (l : Taken) → defined.name_fault before l ≢ Some NameFault.NoMemory
name_caused before l =
    first_of NameFault.NoMemory (defined.duplicate before l) _ (if_so_none NameFault.NoMemory NameFault.Duplicate _ (λ is. absurd (cc is)))
    (first_of NameFault.NoMemory (defined.too_many_statements before l) _ (if_so_none NameFault.NoMemory NameFault.TooManyStatements _ (λ is. absurd (cc is)))
    (first_of NameFault.NoMemory (defined.too_many_names before l) [] (if_so_none NameFault.NoMemory NameFault.TooManyNames _ (λ is. absurd (cc is))) (λ is. absurd (cc is))))

names_caused : (before lines : List Taken) → NoneIs NameFault.NoMemory (first (defined.name_faults before lines))
names_caused before [] = λ n is. absurd (cc is)
names_caused before (l ∷ ls) = first_none NameFault.NoMemory l.number (defined.name_fault before l) (defined.name_faults (before ++ l ∷ []) ls) (name_caused before l) (names_caused (before ++ l ∷ []) ls)

-- the error, if there is one, is of this kind
abbrev NoneBut : {A : Type 0} → (A → Type 0) → Option A → Type 0
NoneBut Is None = Unit {0}
NoneBut Is (Some why) = Is why

first_but : {A : Type 0} (Is : A → Type 0) (one : Option A) (others : List (Option A)) → NoneBut Is one → NoneBut Is (first others) → NoneBut Is (first (one ∷ others))
first_but Is (Some why) others is rest = is
first_but Is None others is rest = rest

if_so_but : {A : Type 0} (Is : A → Type 0) (why : A) (b : Bool) → Is why → NoneBut Is (if_so why b)
if_so_but Is why true is = is
if_so_but Is why false is = tt

on_line : {A : Type 0} (Is : A → Type 0) (number : ℕ) (one : Option A) → NoneBut Is one → NoneBut (λ (f : ℕ × A). Is f.1) (option_map (λ why. (number, why)) one)
on_line Is number (Some why) is = is
on_line Is number None is = tt

-- the errors of lines that cannot be parsed
abbrev IsOfText : LineFault → Type 0
IsOfText (LineFault.Scan why) = IsOfSource (MacroFault.Scan why)
IsOfText (LineFault.Stmt why) = IsOfStatement why

abbrev IsRead : Result Line LineFault → Type 0
IsRead (Ok line) = Unit {0}
IsRead (Err why) = IsOfText why

spelled_read : (r : Result Line StmtFault) → Caused r → IsRead (spelled_by r)
spelled_read (Ok line) is = tt
spelled_read (Err why) is = is

scanned_read : (text : List ℕ) (r : Result (List Lexeme) ScanFault) → Scans text r → IsRead (scanned_by r)
scanned_read text (Ok tokens) scans = spelled_read (spelled tokens) (spelled_caused tokens)
scanned_read text (Err why) scans = scan_inside text why scans

unread_or_but : (number : ℕ) (r : Result Line LineFault) (rest : Option (ℕ × LineFault)) → IsRead r → NoneBut (λ (f : ℕ × LineFault). IsOfText f.1) rest → NoneBut (λ (f : ℕ × LineFault). IsOfText f.1) (unread_or number r rest)
unread_or_but number (Ok line) rest is others = others
unread_or_but number (Err why) rest is others = is

-- the errors of EQU lines
abbrev IsOfEqu : EquFault → Type 0
IsOfEqu (EquFault.Expr why) = IsOfStatement (StmtFault.Expr why)
IsOfEqu why = Unit {0}

value_by_but : {A : Type 0} (r : Result A ExprFault) → r ≢ Err ExprFault.NoMemory → NoneBut IsOfEqu (expression_fault_of r)
value_by_but (Ok what) none = tt
value_by_but (Err ExprFault.Syntax) none = tt
value_by_but (Err ExprFault.DivideByZero) none = tt
value_by_but (Err ExprFault.LabelDivisor) none = tt
value_by_but (Err ExprFault.TooDeep) none = tt
value_by_but (Err ExprFault.TooLarge) none = tt
value_by_but (Err ExprFault.NoMemory) none = none refl

then_none : {A B : Type 0} (r : Result A ExprFault) (f : A → B) → r ≢ Err ExprFault.NoMemory → (r >>= λ x. Ok (f x)) ≢ Err ExprFault.NoMemory
then_none (Ok x) f none is = absurd (cc is)
then_none (Err why) f none is = none (cc is)

equ_but : (known : Names) (circle : ℕ → Bool) (t : Table) (at : ℕ) (e : ExpressionItems) → NoneBut IsOfEqu (equ_fault known circle t at e)
equ_but known circle t at e =
    first_but IsOfEqu (undefined known e) _ (if_so_but IsOfEqu EquFault.Undefined _ tt)
    (first_but IsOfEqu (circular circle at) _ (if_so_but IsOfEqu EquFault.EquCircle _ tt)
    (first_but IsOfEqu (expression_fault t e) [] (value_by_but (equated t (source_tree e)) (then_none (settled t (source_tree e)) (meaning_of t (source_tree e)) (settled_caused t (source_tree e)))) tt))

equ_line_but : (known : Names) (circle : ℕ → Bool) (laid : Layout) (entries : Entries) (at : ℕ) (l : Line) → NoneBut IsOfEqu (equ_line_fault known circle laid entries at l)
equ_line_but known circle laid entries at (line.Equ name e) = equ_but known circle (table_at laid entries at) at e
equ_line_but known circle laid entries at (line.Statement label body) = tt

equs_but : (known : Names) (circle : ℕ → Bool) (laid : Layout) (entries : Entries) (lines : List (ℕ × Taken))
    → NoneBut (λ (f : ℕ × EquFault). IsOfEqu f.1) (first (map (λ l. option_map (λ why. (l.1.number, why)) (equ_line_fault known circle laid entries l.0 l.1.line)) lines))
equs_but known circle laid entries [] = tt
equs_but known circle laid entries (l ∷ ls) =
    first_but (λ (f : ℕ × EquFault). IsOfEqu f.1) _ _ (on_line IsOfEqu l.1.number _ (equ_line_but known circle laid entries l.0 l.1.line)) (equs_but known circle laid entries ls)

-- the errors of other lines
abbrev IsOfState : StateFault → Type 0
IsOfState (StateFault.Stmt why) = IsOfStatement why
IsOfState StateFault.NoMemory = ⊥
IsOfState why = Unit {0}

made_but : (r : Result Made StmtFault) → Caused r → NoneBut IsOfState (made_fault r)
made_but (Ok made) is = tt
made_but (Err why) is = is

body_but : (known : Names) (t : Table) (body : Body) → NoneBut IsOfState (body_fault known t body)
body_but known t body =
    first_but IsOfState (undefined_name known body) _ (if_so_but IsOfState StateFault.Undefined _ tt)
    (first_but IsOfState (value_fault t body) _ (made_but (made t body) (made_caused t body))
    (first_but IsOfState (not_label known body) [] (if_so_but IsOfState StateFault.PublicNotLabel _ tt) tt))

state_but : (known : Names) (t : Table) (l : Line) → NoneBut IsOfState (stated.statement_fault known t l)
state_but known t (line.Statement label (Some body)) = body_but known t body
state_but known t (line.Statement label None) = tt
state_but known t (line.Equ name e) = tt

states_but : (known : Names) (t : Table) (laid : Layout) (lines : List (ℕ × Taken))
    → NoneBut (λ (f : ℕ × StateFault). IsOfState f.1) (first (map (λ l. option_map (λ why. (l.1.number, why)) (stated.statement_fault known (stated.table_at_line laid t l.0) l.1.line)) lines))
states_but known t laid [] = tt
states_but known t laid (l ∷ ls) = first_but (λ (f : ℕ × StateFault). IsOfState f.1) _ _ (on_line IsOfState l.1.number _ (state_but known (stated.table_at_line laid t l.0) l.1.line)) (states_but known t laid ls)

-- As errors of a source.
abbrev IsCaused : Option AsmFault → Type 0
IsCaused fault = NoneBut (λ (f : AsmFault). IsCauseOf f.why) fault

as_source : {A : Type 0} (Is : A → Type 0) (view : A → Why) → ((why : A) → Is why → IsCauseOf (view why)) → (fault : Option (ℕ × A)) → NoneBut (λ (f : ℕ × A). Is f.1) fault → IsCaused (fault_on_line view fault)
as_source Is view each (Some f) is = each f.1 is
as_source Is view each None is = tt

name_cause : (why : NameFault) → why ≢ NameFault.NoMemory → IsCauseOf (name_why why)
name_cause NameFault.Duplicate none = tt
name_cause NameFault.TooManyStatements none = tt
name_cause NameFault.TooManyNames none = tt
name_cause NameFault.NoMemory none = none refl

names_but : (fault : Option (ℕ × NameFault)) → NoneIs NameFault.NoMemory fault → NoneBut (λ (f : ℕ × NameFault). f.1 ≢ NameFault.NoMemory) fault
names_but (Some (n, why)) none = λ is. none n (cc is)
names_but None none = tt

line_cause : (why : LineFault) → IsOfText why → IsCauseOf (line_why why)
line_cause (LineFault.Scan why) is = is
line_cause (LineFault.Stmt why) is = is

equ_cause : (why : EquFault) → IsOfEqu why → IsCauseOf (equ_why why)
equ_cause EquFault.Undefined is = tt
equ_cause EquFault.EquCircle is = tt
equ_cause (EquFault.Expr why) is = is

state_cause : (why : StateFault) → IsOfState why → IsCauseOf (state_why why)
state_cause StateFault.Undefined is = tt
state_cause (StateFault.Stmt why) is = is
state_cause StateFault.PublicNotLabel is = tt
state_cause StateFault.NoMemory is = is

macro_cause : (why : MacroFault) → IsOfSource why → IsCauseOf (macro_why why)
macro_cause MacroFault.Unclosed is = tt
macro_cause MacroFault.Stray is = tt
macro_cause MacroFault.TooDeep is = tt
macro_cause MacroFault.TooManyLines is = tt
macro_cause MacroFault.Redefined is = tt
macro_cause MacroFault.ConditionNamesLabel is = tt
macro_cause MacroFault.LineTooLong is = tt
macro_cause (MacroFault.Scan why) is = is
macro_cause (MacroFault.Expr why) is = is
macro_cause MacroFault.NoMemory is = is

-- such an error is not that memory ran out
not_memory : (why : Why) → IsCauseOf why → why ≢ Why.NoMemory
not_memory why is e = subst IsCauseOf e is

-- which EQU lines lead back to themselves
abbrev circles : List Taken → ℕ → Bool
circles lines k = is_passed (lines_named (names lines) lines) (length lines) k k

names_nothing : (lines : List Taken) (k : ℕ) → length lines ≤ k → lines_named (names lines) lines k ≡ []
names_nothing lines k h = ap (λ found. filter_map (line_named (names lines)) (option_map_or (λ (l : Taken). equ_items l.line) found [])) (slice_get_past lines k h)

tells : (lines : List Taken) → TellsCircles (names lines) lines (circles lines)
tells lines k below = is_led (lines_named (names lines) lines) (length lines) (names_nothing lines) k k

answered_caused : (fault : Option AsmFault) (whole : Assembled) → IsCaused fault → HasCause (answer fault whole)
answered_caused (Some fault) whole is = not_memory fault.why is
answered_caused None whole is = tt

answered_lacks : (fault : Option AsmFault) (whole : Assembled) → IsCaused fault → LacksNoMemory (answer fault whole)
answered_lacks (Some fault) whole is = is
answered_lacks None whole is = tt

is_expanded : (text : List ℕ) (number : ℕ) (why : MacroFault) → IsOfSource why → (lines : List Numbered) × IsExpansion text lines (Stopped number why) → IsExpanded text (Err (number, why))
is_expanded text number MacroFault.Unclosed h is = is
is_expanded text number MacroFault.Stray h is = is
is_expanded text number MacroFault.TooDeep h is = is
is_expanded text number MacroFault.TooManyLines h is = is
is_expanded text number MacroFault.Redefined h is = is
is_expanded text number MacroFault.ConditionNamesLabel h is = is
is_expanded text number MacroFault.LineTooLong h is = is
is_expanded text number (MacroFault.Scan why) h is = is
is_expanded text number (MacroFault.Expr why) h is = is
is_expanded text number MacroFault.NoMemory h is = tt

abbrev Answers : List ℕ → List ℕ → Bool → Type 0
Answers name text grow = (result : Result Assembled AsmFault) × HasCause result × Assembles name text grow result

-- given the clause of `asm_line::laws::scanned`, and those of `some_expansion`
module _
    (scans : (text : List ℕ) → Scans text (scanned text))
    (some : (text : List ℕ) → (lines : List Numbered) × (end : End) × IsExpansion text lines end)
    (alone : (text : List ℕ) (lines : List Numbered) (number : ℕ) (why : MacroFault) → IsExpansion text lines (Stopped number why) → IsOfSource why)
  where
    unread_but : (lines : List Numbered) → NoneBut (λ (f : ℕ × LineFault). IsOfText f.1) (unread lines)
    unread_but [] = tt
    unread_but (l ∷ ls) = unread_or_but l.number (read_line l.text) (unread ls) (scanned_read l.text (scanned l.text) (scans l.text)) (unread_but ls)

    source_caused : (grow : Bool) (lines : List Numbered) (circle : ℕ → Bool) → IsCaused (source_fault grow lines circle)
    source_caused grow lines circle =
        let laid = layout grow (taken lines) circle in
        let by_name = as_source (λ why. why ≢ NameFault.NoMemory) name_why name_cause (defined.first_name_fault (taken lines)) (names_but _ (names_caused [] (taken lines))) in
        let by_line = as_source IsOfText line_why line_cause (unread lines) (unread_but lines) in
        let by_equ = as_source IsOfEqu equ_why equ_cause _ (equs_but (names (taken lines)) circle laid (name_meanings (names (taken lines)) (taken lines) circle laid) (placed (taken lines))) in
        let by_state = as_source IsOfState state_why state_cause _ (states_but (names (taken lines)) (source_table (taken lines) circle laid) laid (placed (taken lines))) in
        first_but (λ (f : AsmFault). IsCauseOf f.why) (first_pass lines) _ (first_but (λ (f : AsmFault). IsCauseOf f.why) (fault_on_line name_why (defined.first_name_fault (taken lines))) _ by_name (first_but (λ (f : AsmFault). IsCauseOf f.why) (fault_on_line line_why (unread lines)) [] by_line tt))
        (first_but (λ (f : AsmFault). IsCauseOf f.why) (first_equ_line_fault (taken lines) circle laid) _ by_equ
        (first_but (λ (f : AsmFault). IsCauseOf f.why) (state_fault (taken lines) circle laid) [] by_state tt))

    of_lines : (name text : List ℕ) (grow : Bool) (lines : List Numbered) → IsExpanded text (Ok lines) → Answers name text grow
    of_lines name text grow lines is =
        let circle = circles (taken lines) in
        let count = length (source_lines text) in
        (assembled name grow count circle (Ok lines), answered_caused (source_fault grow lines circle) _ (source_caused grow lines circle), (Ok lines, is, circle, λ pass. tells (taken lines), refl))

    of_end : (name text : List ℕ) (grow : Bool) (lines : List Numbered) (end : End) → IsExpansion text lines end → Answers name text grow
    of_end name text grow lines (Whole e) is = of_lines name text grow lines (Whole e, tt, is)
    of_end name text grow lines Ended is = of_lines name text grow lines (Ended, tt, is)
    of_end name text grow lines (Stopped number why) is =
        let caused = alone text lines number why is in
        (Err (record { line = number; why = macro_why why }), not_memory _ (macro_cause why caused), (Err (number, why), is_expanded text number why caused (lines, is), (λ k. false), tt, refl))

    pub some_answer : (name text : List ℕ) (grow : Bool) → Answers name text grow
    some_answer name text grow = let e = some text in of_end name text grow e.0 e.1 e.2

    stopped_lacks : (text : List ℕ) (number : ℕ) (why : MacroFault) → IsExpanded text (Err (number, why)) → macro_why why ≢ Why.NoMemory → IsCauseOf (macro_why why)
    stopped_lacks text number MacroFault.Unclosed is none = tt
    stopped_lacks text number MacroFault.Stray is none = tt
    stopped_lacks text number MacroFault.TooDeep is none = tt
    stopped_lacks text number MacroFault.TooManyLines is none = tt
    stopped_lacks text number MacroFault.Redefined is none = tt
    stopped_lacks text number MacroFault.ConditionNamesLabel is none = tt
    stopped_lacks text number MacroFault.LineTooLong is none = tt
    stopped_lacks text number (MacroFault.Scan why) is none = alone text is.0 number (MacroFault.Scan why) is.1
    stopped_lacks text number (MacroFault.Expr why) is none = alone text is.0 number (MacroFault.Expr why) is.1
    stopped_lacks text number MacroFault.NoMemory is none = none refl

    expanded_lacks : (name text : List ℕ) (grow : Bool) (circle : ℕ → Bool) (expanded : Result (List Numbered) (ℕ × MacroFault)) → IsExpanded text expanded
        → HasCause (assembled name grow (length (source_lines text)) circle expanded) → LacksNoMemory (assembled name grow (length (source_lines text)) circle expanded)
    expanded_lacks name text grow circle (Ok lines) is caused = answered_lacks (source_fault grow lines circle) _ (source_caused grow lines circle)
    expanded_lacks name text grow circle (Err (number, why)) is caused = stopped_lacks text number why is caused

    pub no_memory_inside : (name text : List ℕ) (grow : Bool) (result : Result Assembled AsmFault) → Assembles name text grow result → HasCause result → LacksNoMemory result
    no_memory_inside name text grow result (expanded, is, circle, _, same) caused = subst (λ r. HasCause r → LacksNoMemory r) same (expanded_lacks name text grow circle expanded is) caused
