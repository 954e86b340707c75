-- Which line defines a name by EQU.
use Rattle.std.proofs.Common.{◌≡◌, ◌<◌, ◌≤◌, ◌+◌, ◌∙◌, ◌||◌, sym, ap, refl, subst, ℕ, zero, suc, Bool, true, false, cond, List, [], ◌∷◌, ◌++◌, Option, Some, None, length, map, arith}
use Rattle.std.specs.Prelude.{is_some}
use Rattle.std.specs.List.{enumerate_from, flat_map, slice_get}
use Rattle.std.specs.Map.{lookup}
use Rattle.std.specs.Option.{option_map}
use Rattle.std.specs.Str.{bytes_eq}
use Rattle.std.proofs.lemmas.List.{append-nil, append_assoc, length_push}
use Rattle.std.proofs.lemmas.Slice.Eq.{bytes_eq-Decides}
use Rattle.asm_spell.specs.Line as line
use Rattle.asm_spell.specs.Line.{Body, ExpressionItems, Line}
use Rattle.asm_names.specs.declared.fault.NameFault.{NameFault}
use Rattle.asm_names.specs.declared.kind.Kind.{Kind}
use Rattle.asm_names.specs.Faults.{at_line, name_faults, first, first_name_fault, if_so, name_fault}
use Rattle.asm_names.specs.Lines.{Taken, has_statement}
use Rattle.asm_names.specs.Names.{Names, clashes, declared, definitions, defines, kind_of_name, label_definition, names, has_clash, with_name, with_names}
use Rattle.asm_names.proofs.Few.{sound_front}
use Rattle.asm_names.proofs.TakenUp.{names_more}

-- What holds for each definition holds for each name.

abbrev Each : (List ℕ × Kind → Type 0) → Names → Type 0
Each P [] = Unit {0}
Each P (d ∷ ds) = P d × Each P ds

each-append : (P : List ℕ × Kind → Type 0) (xs ys : Names) → Each P xs → Each P ys → Each P (xs ++ ys)
each-append P [] ys first more = more
each-append P (x ∷ xs) ys first more = (first.0, each-append P xs ys first.1 more)

each-with_name : (P : List ℕ × Kind → Type 0) (names : Names) (d : List ℕ × Kind) → Each P names → P d → Each P (with_name names d)
each-with_name P names d all one =
    elim (is_some (kind_of_name names d.0)) as (λ b. Each P (cond b names (names ++ d ∷ []))) [
      | true ↦ all
      | false ↦ each-append P names (d ∷ []) all (one, tt)
    ]

each-with_names : (P : List ℕ × Kind → Type 0) (names more : Names) → Each P names → Each P more → Each P (with_names names more)
each-with_names P names [] all rest = all
each-with_names P names (d ∷ ds) all rest = each-with_names P (with_name names d) ds (each-with_name P names d all rest.0) rest.1

found_so : (P : List ℕ × Kind → Type 0) (x : List ℕ) (kind : Kind) (es : Names) → Each P es → kind_of_name es x ≡ Some kind → P (x, kind)
found_so P x kind [] all is = absurd cc
found_so P x kind ((name, k) ∷ es) all is =
    elim (bytes_eq x name) as (λ b. bytes_eq x name ≡ b → cond b (Some k) (lookup (bytes_eq x) es) ≡ Some kind → P (x, kind)) [
      | true ↦ λ same one. (let e : k ≡ kind = cc in subst (λ n. P (n, kind)) (sym ((bytes_eq-Decides x name).0 same)) (subst (λ j. P (name, j)) e all.0))
      | false ↦ λ other more. found_so P x kind es all.1 more
    ] refl is

-- If EQU defines a name, one of the lines does.

abbrev pub IsGiven : List Taken → List ℕ × Kind → Type 0
IsGiven lines (name, Kind.Equ at) = (l : Taken) × (slice_get lines at ≡ Some l) × ((e : ExpressionItems) × (l.line ≡ line.Equ name e))
IsGiven lines _ = Unit {0}

externals_given : (lines : List Taken) (list : List (List ℕ)) → Each (IsGiven lines) (map (λ name. (name, Kind.External)) list)
externals_given lines [] = tt
externals_given lines (x ∷ xs) = (tt, externals_given lines xs)

declared_given : (lines : List Taken) (body : Option Body) → Each (IsGiven lines) (declared body)
declared_given lines (Some (line.External list)) = externals_given lines list
declared_given lines None = tt
declared_given lines (Some (line.Code instr numbers)) = tt
declared_given lines (Some (line.Jump condition target)) = tt
declared_given lines (Some (line.Short branch target)) = tt
declared_given lines (Some (line.Bytes values)) = tt
declared_given lines (Some (line.Words fields)) = tt
declared_given lines (Some (line.Space size fill)) = tt
declared_given lines (Some (line.Public list)) = tt
declared_given lines (Some (line.Origin e)) = tt
declared_given lines (Some (line.End entry)) = tt
declared_given lines (Some line.Z80) = tt

defines_given : (lines : List Taken) (at : ℕ) (t : Taken) (l : Line) → t.line ≡ l → slice_get lines at ≡ Some t → Each (IsGiven lines) (defines at l)
defines_given lines at t (line.Equ name e) is there = ((t, there, (e, is)), tt)
defines_given lines at t (line.Statement None body) is there = declared_given lines body
defines_given lines at t (line.Statement (Some label) body) is there = (tt, declared_given lines body)

-- the definitions of the lines from index `at` on
definitions_given : (lines rest : List Taken) (at : ℕ) → ((k : ℕ) → slice_get lines (at + k) ≡ slice_get rest k) → Each (IsGiven lines) (flat_map (λ l. defines l.0 l.1.line) (enumerate_from at rest))
definitions_given lines [] at same = tt
definitions_given lines (l ∷ ls) at same =
    each-append (IsGiven lines) (defines at l.line) (flat_map (λ m. defines m.0 m.1.line) (enumerate_from (at + 1) ls))
    (defines_given lines at l l.line refl (ap (slice_get lines) (omega arith) ∙ same 0))
    (definitions_given lines ls (at + 1) (λ k. ap (slice_get lines) (omega arith) ∙ same (suc k)))

pub names_given : (lines : List Taken) (x : List ℕ) (at : ℕ) → kind_of_name (names lines) x ≡ Some (Kind.Equ at) → IsGiven lines (x, Kind.Equ at)
names_given lines x at is = found_so (IsGiven lines) x (Kind.Equ at) (names lines) (each-with_names (IsGiven lines) [] (definitions lines) tt (definitions_given lines lines 0 (λ k. ap (slice_get lines) (omega arith)))) is

-- If no line has an error, each EQU line defines its name.

lookup_first : (p : List ℕ → Bool) (xs ys : Names) (k : Kind) → lookup p xs ≡ Some k → lookup p (xs ++ ys) ≡ Some k
lookup_first p [] ys k is = absurd cc
lookup_first p ((n, j) ∷ xs) ys k is =
    elim (p n) as (λ b. cond b (Some j) (lookup p xs) ≡ Some k → cond b (Some j) (lookup p (xs ++ ys)) ≡ Some k) [
      | true ↦ λ one. one
      | false ↦ λ more. lookup_first p xs ys k more
    ] is

kept_one : (names : Names) (x : List ℕ) (k : Kind) (d : List ℕ × Kind) → kind_of_name names x ≡ Some k → kind_of_name (with_name names d) x ≡ Some k
kept_one names x k d is =
    elim (is_some (kind_of_name names d.0)) as (λ b. kind_of_name (cond b names (names ++ d ∷ [])) x ≡ Some k) [
      | true ↦ is
      | false ↦ lookup_first (bytes_eq x) names (d ∷ []) k is
    ]

kept : (names more : Names) (x : List ℕ) (k : Kind) → kind_of_name names x ≡ Some k → kind_of_name (with_names names more) x ≡ Some k
kept names [] x k is = is
kept names (d ∷ ds) x k is = kept (with_name names d) ds x k (kept_one names x k d is)

kept_behind : (before rest : List Taken) (x : List ℕ) (k : Kind) → kind_of_name (names before) x ≡ Some k → kind_of_name (names (before ++ rest)) x ≡ Some k
kept_behind before [] x k is = subst (λ ls. kind_of_name (names ls) x ≡ Some k) (sym (append-nil before)) is
kept_behind before (l ∷ rest) x k is =
    subst (λ ls. kind_of_name (names ls) x ≡ Some k) (append_assoc before (l ∷ []) rest)
    (kept_behind (before ++ l ∷ []) rest x k (subst (λ ns. kind_of_name ns x ≡ Some k) (sym (names_more before l)) (kept (names before) (defines (length before) l.line) x k is)))

lookup_last : (x : List ℕ) (xs : Names) (k : Kind) → kind_of_name xs x ≡ None → kind_of_name (xs ++ (x, k) ∷ []) x ≡ Some k
lookup_last x [] k is = (let same : bytes_eq x x ≡ true = (bytes_eq-Decides x x).1 refl in rw same refl)
lookup_last x ((n, j) ∷ xs) k is =
    elim (bytes_eq x n) as (λ b. cond b (Some j) (lookup (bytes_eq x) xs) ≡ None → cond b (Some j) (lookup (bytes_eq x) (xs ++ (x, k) ∷ [])) ≡ Some k) [
      | true ↦ λ one. absurd cc
      | false ↦ λ more. lookup_last x xs k more
    ] is

-- If an EQU does not clash, its name is new.
clash_by : (at : ℕ) (k : Option Kind) (more : Bool) → (clashes (Kind.Equ at) k || more) ≡ false → k ≡ None
clash_by at None more e = refl
clash_by at (Some (Kind.Label l)) more e = absurd cc
clash_by at (Some Kind.External) more e = absurd cc
clash_by at (Some (Kind.Equ l)) more e = absurd cc

once_line : (d s n : Bool) → first (if_so NameFault.Duplicate d ∷ if_so NameFault.TooManyStatements s ∷ if_so NameFault.TooManyNames n ∷ []) ≡ None → d ≡ false
once_line true s n e = absurd cc
once_line false s n e = refl

given_here : (before : List Taken) (l : Taken) (name : List ℕ) (e : ExpressionItems) → name_fault before l ≡ None → l.line ≡ line.Equ name e
    → kind_of_name (names (before ++ l ∷ [])) name ≡ Some (Kind.Equ (length before))
given_here before l name e none is =
    let once : has_clash (names before) (defines (length before) (line.Equ name e)) ≡ false = subst (λ m. has_clash (names before) (defines (length before) m) ≡ false) is (once_line _ _ _ none) in
    let new : kind_of_name (names before) name ≡ None = clash_by (length before) (kind_of_name (names before) name) _ once in
    let there : names (before ++ l ∷ []) ≡ names before ++ (name, Kind.Equ (length before)) ∷ [] =
    names_more before l ∙ ap (λ m. with_names (names before) (defines (length before) m)) is ∙ ap (λ k. cond (is_some k) (names before) (names before ++ (name, Kind.Equ (length before)) ∷ [])) new in
    ap (λ ns. kind_of_name ns name) there ∙ lookup_last name (names before) (Kind.Equ (length before)) new

given_behind : (before rest : List Taken) (k : ℕ) (l : Taken) (name : List ℕ) (e : ExpressionItems) → first (name_faults before rest) ≡ None → slice_get rest k ≡ Some l → l.line ≡ line.Equ name e
    → kind_of_name (names (before ++ rest)) name ≡ Some (Kind.Equ (length before + k))
given_behind before [] k l name e none there is = absurd cc
given_behind before (m ∷ rest) zero l name e none there is =
    let same : m ≡ l = cc in
    subst (λ ls. kind_of_name (names ls) name ≡ Some (Kind.Equ (length before + 0))) (append_assoc before (m ∷ []) rest)
    (kept_behind (before ++ m ∷ []) rest name (Kind.Equ (length before + 0))
    (given_here before m name e (sound_front before m rest none).0 (ap (λ t. t.line) same ∙ is) ∙ ap (λ n. Some (Kind.Equ n)) (omega arith)))
given_behind before (m ∷ rest) (suc k) l name e none there is =
    subst (λ ls. kind_of_name (names ls) name ≡ Some (Kind.Equ (length before + suc k))) (append_assoc before (m ∷ []) rest)
    (given_behind (before ++ m ∷ []) rest k l name e (sound_front before m rest none).1 there is ∙ ap (λ n. Some (Kind.Equ n)) (ap (λ n. n + k) (length_push before m) ∙ omega arith))

pub line_given : (lines : List Taken) (at : ℕ) (l : Taken) (name : List ℕ) (e : ExpressionItems) → first_name_fault lines ≡ None → slice_get lines at ≡ Some l → l.line ≡ line.Equ name e
    → kind_of_name (names lines) name ≡ Some (Kind.Equ at)
line_given lines at l name e none there is = given_behind [] lines at l name e none there is ∙ ap (λ n. Some (Kind.Equ n)) (omega arith)
