-- Adding names, one after the other.
use Rattle.std.proofs.Common.{rules, ◌≡◌, ◌<◌, ◌≤◌, ◌+◌, ◌∙◌, ◌||◌, ◌&&◌, sym, ap, refl, subst, ℕ, zero, suc, Bool, true, false, cond, List, [], ◌∷◌, ◌++◌, Option, Some, None, Result, Ok, Err, length, map, count_by, take, drop, get_or, arith}
use Rattle.std.specs.Prelude.{nat_le, if◌then◌else◌}
use Rattle.std.specs.List.{flat_map, fold, enumerate_from}
use Rattle.std.proofs.lemmas.Grind.{flat_map-append}
use Rattle.std.proofs.lemmas.Bool.{le-leb, lt-leb, le-ltb, lt-ltb}
use Rattle.std.proofs.Math.Bool.{or_assoc}
use Rattle.std.proofs.lemmas.List.Sums.{sum_by-append}
use Rattle.std.proofs.lemmas.List.{append-nil, length_push, map-append, drop_more, take_more, take_all, drop_all}
use Rattle.asm_spell.specs.Line.{Line}
use Rattle.asm_names.specs.declared.fault.NameFault.{NameFault}
use Rattle.asm_names.specs.declared.naming.Naming.{Naming}
use Rattle.std.specs.Option.{option_map}
use Rattle.common.specs.declared.limits.TheConstants.{MOST_NAMES, MOST_STATEMENTS}
use Rattle.asm_names.specs.declared.kind.SourceLine.{SourceLine}
use Rattle.asm_names.specs.Lines.{Taken, has_statement, lines_of, placed, taken_of}
use Rattle.asm_names.specs.Names.{Names, clashes, definitions, defines, kind_of_name, names, has_clash, with_name, with_names}
use Rattle.asm_names.specs.Faults.{at_line, name_faults, first, first_name_fault, name_fault}
use Rattle.asm_names.specs.Private.Steps.{Goes, IsBehind}

-- adding some names and then others is adding all
pub with_names_on : (old first more : Names) → with_names old (first ++ more) ≡ with_names (with_names old first) more
with_names_on old [] more = refl
with_names_on old (d ∷ ds) more = with_names_on (with_name old d) ds more

pub repeats_on : (old first more : Names) → has_clash old (first ++ more) ≡ (has_clash old first || has_clash (with_names old first) more)
repeats_on old [] more = refl
repeats_on old (d ∷ ds) more =
    ap (λ b. clashes d.1 (kind_of_name old d.0) || b) (repeats_on (with_name old d) ds more)
    ∙ sym (or_assoc (clashes d.1 (kind_of_name old d.0)) (has_clash (with_name old d) ds) (has_clash (with_names (with_name old d) ds) more))

pub enumerate_more : (n : ℕ) (before : List Taken) (l : Taken) → enumerate_from n (before ++ l ∷ []) ≡ enumerate_from n before ++ (n + length before, l) ∷ []
enumerate_more n [] l = ap (λ k. (k, l) ∷ []) (omega arith)
enumerate_more n (x ∷ xs) l = ap (λ rest. (n, x) ∷ rest) (enumerate_more (n + 1) xs l ∙ ap (λ k. enumerate_from (n + 1) xs ++ (k, l) ∷ []) (omega arith))

-- the definitions of some lines and of one more
pub definitions_more : (before : List Taken) (l : Taken) → definitions (before ++ l ∷ []) ≡ definitions before ++ defines (length before) l.line
definitions_more before l =
    ap (flat_map (λ m. defines m.0 m.1.line)) (enumerate_more 0 before l)
    ∙ flat_map-append (λ m. defines m.0 m.1.line) (placed before) ((0 + length before, l) ∷ [])
    ∙ ap (λ ds. definitions before ++ ds) (append-nil (defines (0 + length before) l.line) ∙ ap (λ k. defines k l.line) (omega arith))

pub names_more : (before : List Taken) (l : Taken) → names (before ++ l ∷ []) ≡ with_names (names before) (defines (length before) l.line)
names_more before l = ap (with_names []) (definitions_more before l) ∙ with_names_on [] (definitions before) (defines (length before) l.line)

-- The first error of a line, by its tests in order.

pub is_duplicate : (before : List Taken) (l : Taken) → has_clash (names before) (defines (length before) l.line) ≡ true → name_fault before l ≡ Some NameFault.Duplicate
is_duplicate before l is = rw is refl

-- whether a line's statement is one too many
abbrev is_one_more : List Taken → Taken → Bool
is_one_more before l = has_statement l.line && nat_le MOST_STATEMENTS (count_by (λ b. has_statement b.line) before)

pub is_statement_too_many : (before : List Taken) (l : Taken) → has_clash (names before) (defines (length before) l.line) ≡ false → is_one_more before l ≡ true
    → name_fault before l ≡ Some NameFault.TooManyStatements
is_statement_too_many before l once is = rw once (rw is refl)

pub is_name_too_many : (before : List Taken) (l : Taken) → has_clash (names before) (defines (length before) l.line) ≡ false → is_one_more before l ≡ false
    → MOST_NAMES < length (names (before ++ l ∷ [])) → name_fault before l ≡ Some NameFault.TooManyNames
is_name_too_many before l once few more = rw once (rw few (rw (lt-ltb MOST_NAMES (length (names (before ++ l ∷ []))) more) refl))

pub is_sound : (before : List Taken) (l : Taken) → has_clash (names before) (defines (length before) l.line) ≡ false → is_one_more before l ≡ false
    → length (names (before ++ l ∷ [])) ≤ MOST_NAMES → name_fault before l ≡ None
is_sound before l once few le = rw once (rw few (rw (le-ltb MOST_NAMES (length (names (before ++ l ∷ []))) le) refl))

-- what the names and the count are after one more line that defines no name again and has no statement too many
pub record Comes (before : List Taken) (at : ℕ) (l : Taken) (old new : Naming) : Type 0 where
  pub behind : IsBehind before at old
  pub once : has_clash old.table (defines at l.line) ≡ false
  pub few : has_statement l.line ≡ true → old.statements < MOST_STATEMENTS
  pub new_is : new ≡ record { table = with_names old.table (defines at l.line); statements = if has_statement l.line then old.statements + 1 else old.statements }

once_behind : (before : List Taken) (at : ℕ) (l : Taken) (old new : Naming) → Comes before at l old new → has_clash (names before) (defines (length before) l.line) ≡ false
once_behind before at l old new c = rw (sym c.behind.count) (rw (sym c.behind.table) c.once)

and_false : (has : Bool) (n count most : ℕ) → n ≡ count → (has ≡ true → n < most) → (has && nat_le most count) ≡ false
and_false false n count most is few = refl
and_false true n count most is few = (let lt = few refl in lt-leb most count (omega arith))

few_behind : (before : List Taken) (at : ℕ) (l : Taken) (old new : Naming) → Comes before at l old new → is_one_more before l ≡ false
few_behind before at l old new c = and_false (has_statement l.line) old.statements (count_by (λ b. has_statement b.line) before) MOST_STATEMENTS c.behind.statements c.few

table_behind : (before : List Taken) (at : ℕ) (l : Taken) (old new : Naming) → Comes before at l old new → new.table ≡ names (before ++ l ∷ [])
table_behind before at l old new c =
    ap (λ n. n.table) c.new_is ∙ ap (λ t. with_names t (defines at l.line)) c.behind.table ∙ ap (λ k. with_names (names before) (defines k l.line)) c.behind.count
    ∙ sym (names_more before l)

counted : (has : Bool) (n : ℕ) → (if has then n + 1 else n) ≡ n + cond has 1 0
counted true n = refl
counted false n = omega arith

pub comes_too_many : (before : List Taken) (at : ℕ) (l : Taken) (old new : Naming) → Comes before at l old new → MOST_NAMES < length new.table
    → name_fault before l ≡ Some NameFault.TooManyNames
comes_too_many before at l old new c more =
    is_name_too_many before l (once_behind before at l old new c) (few_behind before at l old new c) (rw (sym (table_behind before at l old new c)) more)

pub comes_sound : (before : List Taken) (at : ℕ) (l : Taken) (old new : Naming) → Comes before at l old new → length new.table ≤ MOST_NAMES
    → (name_fault before l ≡ None) × IsBehind (before ++ l ∷ []) (length before + 1) new
comes_sound before at l old new c le = (
  is_sound before l (once_behind before at l old new c) (few_behind before at l old new c) (rw (sym (table_behind before at l old new c)) le),
  record {
    count = sym (length_push before l);
    table = table_behind before at l old new c;
    statements = ap (λ n. n.statements) c.new_is ∙ counted (has_statement l.line) old.statements ∙ ap (λ n. n + cond (has_statement l.line) 1 0) c.behind.statements
        ∙ sym (sum_by-append (λ b. cond (has_statement b.line) 1 0) before (l ∷ []) ∙ ap (λ n. count_by (λ b. has_statement b.line) before + n) (omega arith));
  },
)

-- The lines before index `at` have been taken.
pub record IsAt (lines : List SourceLine) (at : ℕ) (naming : Naming) : Type 0 where
  pub behind : IsBehind (lines_of (take at lines)) at naming
  pub goes : first (name_faults (lines_of (take at lines)) (lines_of (drop at lines))) ≡ first_name_fault (lines_of lines)

lines_before : (lines : List SourceLine) (at : ℕ) (l : SourceLine) → at < length lines → l ≡ get_or lines at l
    → lines_of (take (at + 1) lines) ≡ lines_of (take at lines) ++ taken_of l ∷ []
lines_before lines at l lt is =
    ap lines_of (take_more lines at l lt) ∙ map-append taken_of (take at lines) (get_or lines at l ∷ []) ∙ ap (λ m. lines_of (take at lines) ++ taken_of m ∷ []) (sym is)

lines_behind : (lines : List SourceLine) (at : ℕ) (l : SourceLine) → at < length lines → l ≡ get_or lines at l → lines_of (drop at lines) ≡ taken_of l ∷ lines_of (drop (at + 1) lines)
lines_behind lines at l lt is = ap lines_of (drop_more lines at l lt) ∙ ap (λ m. taken_of m ∷ lines_of (drop (at + 1) lines)) (sym is)

first_by : (before : List Taken) (l : Taken) (rest : List (Option (ℕ × NameFault))) (f : Option NameFault) → name_fault before l ≡ f → first (at_line before l ∷ rest) ≡ first (option_map (λ why. (l.number, why)) f ∷ rest)
first_by before l rest f is = ap (λ g. first (option_map (λ why. (l.number, why)) g ∷ rest)) is

at_first : (lines : List SourceLine) (at : ℕ) (l : SourceLine) (naming : Naming) → at < length lines → l ≡ get_or lines at l → IsAt lines at naming
    → first (at_line (lines_of (take at lines)) (taken_of l) ∷ name_faults (lines_of (take at lines) ++ taken_of l ∷ []) (lines_of (drop (at + 1) lines))) ≡ first_name_fault (lines_of lines)
at_first lines at l naming lt is was = ap (λ ls. first (name_faults (lines_of (take at lines)) ls)) (sym (lines_behind lines at l lt is)) ∙ was.goes

pub goes_wrong : (lines : List SourceLine) (at : ℕ) (l : SourceLine) (naming : Naming) (why : NameFault) → at < length lines → l ≡ get_or lines at l → IsAt lines at naming
    → name_fault (lines_of (take at lines)) (taken_of l) ≡ Some why → first_name_fault (lines_of lines) ≡ Some (l.number, why)
goes_wrong lines at l naming why lt is was fault =
    sym (at_first lines at l naming lt is was)
    ∙ first_by (lines_of (take at lines)) (taken_of l) (name_faults (lines_of (take at lines) ++ taken_of l ∷ []) (lines_of (drop (at + 1) lines))) (Some why) fault

pub goes_on : (lines : List SourceLine) (at : ℕ) (l : SourceLine) (old new : Naming) → at < length lines → l ≡ get_or lines at l → IsAt lines at old
    → Goes (lines_of (take at lines)) (taken_of l) (Ok tt) new → IsAt lines (at + 1) new
goes_on lines at l old new lt is was done = record {
  behind = rw (lines_before lines at l lt is) (subst (λ k. IsBehind (lines_of (take at lines) ++ taken_of l ∷ []) (k + 1) new) (sym was.behind.count) done.1);
  goes = rw (lines_before lines at l lt is)
      (sym (first_by (lines_of (take at lines)) (taken_of l) (name_faults (lines_of (take at lines) ++ taken_of l ∷ []) (lines_of (drop (at + 1) lines))) None done.0) ∙ at_first lines at l old lt is was);
}

pub all_named : (lines : List SourceLine) (at : ℕ) (naming : Naming) → length lines ≤ at → IsAt lines at naming
    → (first_name_fault (lines_of lines) ≡ None) × (naming.table ≡ names (lines_of lines))
all_named lines at naming le was =
    let all : take at lines ≡ lines = take_all at lines le in
    let none : drop at lines ≡ [] = drop_all at lines le in (
      sym was.goes ∙ ap (λ ls. first (name_faults (lines_of (take at lines)) (lines_of ls))) none,
      was.behind.table ∙ ap (λ ls. names (lines_of ls)) all,
    )
