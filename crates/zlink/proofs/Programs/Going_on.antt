-- Modules that a loop goes through one after the other.
use Rattle.std.proofs.Common.{◌≡◌, ◌≤◌, ◌<◌, ◌+◌, ◌∙◌, sym, ap, refl, subst, ℕ, zero, suc, Bool, true, false, List, [], ◌∷◌, ◌++◌, Option, Some, None, Ok, length, map, take, drop, get_or, arith, length-append, append_assoc}
use Rattle.std.specs.Prelude.{◌&&◌, nat_lt}
use Rattle.std.proofs.lemmas.Bool.{le-ltb}
use Rattle.std.specs.List.{All, AllZip}
use Rattle.std.proofs.lemmas.List.{append-nil, at_drop_more, length-map, take_at}
use Rattle.std.proofs.Math.ListN.{get_or-map}
use Rattle.std.proofs.lemmas.Grind.{flat_map-append}
use Rattle.zmo_object.specs.declared.module.Module as whole
use Rattle.zmo_object.specs.Modules.{Module, module_of, statement_of}
use Rattle.zmo_object.specs.Rules.{IsModule}
use Rattle.zlink.specs.declared.program.fault.JoinFault.{JoinFault}
use Rattle.zlink.specs.declared.program.joining.Links.{Links}
use Rattle.zlink.specs.Program.Faults.{begins_late, first_of, fault_if, some_or_else}
use Rattle.zlink.specs.Program.Laws.{statement_count}
use Rattle.zlink.specs.Program.Parts.{ModulePart, Publics, public_labels, parts, parts_from, all_publics}
use Rattle.zlink.specs.Program.Whole.{IsLinks}
use Rattle.zlink.specs.Private.Joining.{Fails, clashes, once, part, refused}
use Rattle.zlink.proofs.Programs.Laid_end_to_end.{count-cons}

-- The loop has gone through `number` modules with `base` statements in all, and `rest` are left.
pub record Reached (modules : List Module) (number base : ℕ) (rest : List Module) : Type 0 where
  pub before : List ModulePart
  pub whole : parts modules ≡ before ++ parts_from number base rest
  pub many : length before ≡ number
  pub total : base + statement_count rest ≡ statement_count modules

start : (modules : List Module) → Reached modules 0 0 modules
start modules = record { before = []; whole = refl; many = refl; total = omega arith }

next : (modules : List Module) (number base : ℕ) (m : Module) (rest : List Module) → Reached modules number base (m ∷ rest) → Reached modules (number + 1) (base + length m.statements) rest
next modules number base m rest was =
    let own = count-cons m rest in
    let many = was.many in
    let total = was.total in record {
      before = was.before ++ part number base m ∷ [];
      whole = was.whole ∙ sym (append_assoc was.before (part number base m ∷ []) (parts_from (number + 1) (base + length m.statements) rest));
      many = length-append was.before (part number base m ∷ []) ∙ omega arith;
      total = omega arith;
    }

-- the modules from this number on
abbrev pub left : List whole.Module → ℕ → List Module
left modules number = map module_of (drop number modules)

left_more : (modules : List whole.Module) (number : ℕ) (m : whole.Module) → number < length modules → m ≡ get_or modules number m → left modules number ≡ module_of m ∷ left modules (number + 1)
left_more modules number m lt is = at_drop_more (map module_of) modules number m lt ∙ ap (λ x. module_of x ∷ left modules (number + 1)) (sym is)

left_none : (modules : List whole.Module) (number : ℕ) → length modules ≤ number → left modules number ≡ []
left_none [] zero le = refl
left_none [] (suc number) le = refl
left_none (m ∷ ms) zero le = absurd (omega (arith, le))
left_none (m ∷ ms) (suc number) le = left_none ms number (omega (arith, le))

-- how many statements a module of the code has
statements_of : (m : whole.Module) → length (module_of m).statements ≡ length m.statements.items
statements_of m = length-map m.statements.items statement_of

pub reached_start : (modules : List whole.Module) → Reached (map module_of modules) 0 0 (left modules 0)
reached_start modules = start (map module_of modules)

pub reached_next : (modules : List whole.Module) (number base : ℕ) (m : whole.Module) → number < length modules → m ≡ get_or modules number m
    → Reached (map module_of modules) number base (left modules number) → Reached (map module_of modules) (number + 1) (base + length m.statements.items) (left modules (number + 1))
reached_next modules number base m lt is was =
    subst (λ n. Reached (map module_of modules) (number + 1) (base + n) (left modules (number + 1))) (statements_of m)
    (next (map module_of modules) number base (module_of m) (left modules (number + 1)) (subst (Reached (map module_of modules) number base) (left_more modules number m lt is) was))

-- the statements so far and those of the next module are not more than those of all modules
pub room : (modules : List whole.Module) (number base : ℕ) (m : whole.Module) → number < length modules → m ≡ get_or modules number m
    → Reached (map module_of modules) number base (left modules number) → base + length m.statements.items ≤ statement_count (map module_of modules)
room modules number base m lt is was = (let there = (reached_next modules number base m lt is was).total in omega (arith, there))

pub rules_there : (modules : List whole.Module) (number : ℕ) (m : whole.Module) → number < length modules → m ≡ get_or modules number m → All IsModule (map module_of modules) → IsModule (module_of m)
rules_there modules number m lt is all =
    subst IsModule (get_or-map module_of modules number m ∙ ap module_of (sym is)) (all number (module_of m) (subst (λ n. number < n) (sym (length-map modules module_of)) lt))

pub all_counted : (modules : List whole.Module) (number base : ℕ) → length modules ≤ number → Reached (map module_of modules) number base (left modules number) → statement_count (map module_of modules) ≡ base
all_counted modules number base le was =
    sym was.total ∙ ap (λ rest. base + statement_count rest) (left_none modules number le) ∙ omega arith

-- The modules so far have no error that f finds: the first error in all modules is the first in the rest.
pub record Judging (f : ModulePart → Option JoinFault) (modules : List whole.Module) (number base : ℕ) : Type 0 where
  pub reached : Reached (map module_of modules) number base (left modules number)
  pub judged : first_of f (parts (map module_of modules)) ≡ first_of f (parts_from number base (left modules number))

pub begin : (f : ModulePart → Option JoinFault) (modules : List whole.Module) → Judging f modules 0 0
begin f modules = record { reached = reached_start modules; judged = refl }

judged_next : (f : ModulePart → Option JoinFault) (modules : List whole.Module) (number base : ℕ) (m : whole.Module) → number < length modules → m ≡ get_or modules number m → Judging f modules number base
    → first_of f (parts (map module_of modules)) ≡ some_or_else (f (part number base (module_of m))) (first_of f (parts_from (number + 1) (base + length m.statements.items) (left modules (number + 1))))
judged_next f modules number base m lt is was =
    was.judged ∙ ap (λ rest. first_of f (parts_from number base rest)) (left_more modules number m lt is)
    ∙ ap (λ n. some_or_else (f (part number base (module_of m))) (first_of f (parts_from (number + 1) (base + n) (left modules (number + 1))))) (statements_of m)

pub passes : (f : ModulePart → Option JoinFault) (modules : List whole.Module) (number base : ℕ) (m : whole.Module) → number < length modules → m ≡ get_or modules number m → f (part number base (module_of m)) ≡ None
    → Judging f modules number base → Judging f modules (number + 1) (base + length m.statements.items)
passes f modules number base m lt is none was = record {
  reached = reached_next modules number base m lt is was.reached;
  judged = judged_next f modules number base m lt is was ∙ ap (λ o. some_or_else o (first_of f (parts_from (number + 1) (base + length m.statements.items) (left modules (number + 1))))) none;
}

pub stops : (f : ModulePart → Option JoinFault) (modules : List whole.Module) (number base : ℕ) (m : whole.Module) (fault : JoinFault) → number < length modules → m ≡ get_or modules number m
    → f (part number base (module_of m)) ≡ Some fault → Judging f modules number base → first_of f (parts (map module_of modules)) ≡ Some fault
stops f modules number base m fault lt is some was =
    judged_next f modules number base m lt is was ∙ ap (λ o. some_or_else o (first_of f (parts_from (number + 1) (base + length m.statements.items) (left modules (number + 1))))) some

pub ends : (f : ModulePart → Option JoinFault) (modules : List whole.Module) (number base : ℕ) → length modules ≤ number → Judging f modules number base → first_of f (parts (map module_of modules)) ≡ None
ends f modules number base le was = was.judged ∙ ap (λ rest. first_of f (parts_from number base rest)) (left_none modules number le)

-- `names` are the public names of the modules so far, and none of them is defined twice.

pub record Gives (modules : List whole.Module) (number base : ℕ) (names : Publics) : Type 0 where
  pub judging : Judging (once (map module_of modules)) modules number base
  pub names_are : names ≡ all_publics (take number (parts (map module_of modules)))

pub none_given : (modules : List whole.Module) → Gives modules 0 0 []
none_given modules = record { judging = begin (once (map module_of modules)) modules; names_are = refl }

-- the error that f finds in the next module, judged by the names so far
judged_by : (modules : List whole.Module) (number base : ℕ) (names : Publics) (m : Module) → Gives modules number base names → once (map module_of modules) (part number base m) ≡ clashes names (part number base m)
judged_by modules number base names m was = ap (λ ns. clashes ns (part number base m)) (sym was.names_are)

take_front : {X : Type 0} (n : ℕ) (all front rest : List X) → all ≡ front ++ rest → length front ≡ n → take n all ≡ front
take_front n all front rest is many = ap (take n) is ∙ take_at front rest n many

-- the parts so far, and one more
parts_more : (modules : List whole.Module) (number base : ℕ) (m : whole.Module) → number < length modules → m ≡ get_or modules number m → Reached (map module_of modules) number base (left modules number)
    → take (number + 1) (parts (map module_of modules)) ≡ take number (parts (map module_of modules)) ++ part number base (module_of m) ∷ []
parts_more modules number base m lt is was =
    let one = part number base (module_of m) in
    let rest = parts_from (number + 1) (base + length (module_of m).statements) (left modules (number + 1)) in
    let whole : parts (map module_of modules) ≡ was.before ++ one ∷ rest = was.whole ∙ ap (λ ms. was.before ++ parts_from number base ms) (left_more modules number m lt is) in
    take_front (number + 1) (parts (map module_of modules)) (was.before ++ one ∷ []) rest (whole ∙ sym (append_assoc was.before (one ∷ []) rest)) (length-append was.before (one ∷ []) ∙ omega (arith, was.many))
    ∙ ap (λ ps. ps ++ one ∷ []) (sym (take_front number (parts (map module_of modules)) was.before (one ∷ rest) whole was.many))

pub gives_more : (modules : List whole.Module) (number base : ℕ) (m : whole.Module) (names new : Publics) → number < length modules → m ≡ get_or modules number m → clashes names (part number base (module_of m)) ≡ None
    → new ≡ names ++ public_labels (part number base (module_of m)) → Gives modules number base names → Gives modules (number + 1) (base + length m.statements.items) new
gives_more modules number base m names new lt is none more was = record {
  judging = passes (once (map module_of modules)) modules number base m lt is (judged_by modules number base names (module_of m) was ∙ none) was.judging;
  names_are =
      more ∙ ap (λ ns. ns ++ public_labels (part number base (module_of m))) was.names_are
      ∙ ap (λ ns. all_publics (take number (parts (map module_of modules))) ++ ns) (sym (append-nil (public_labels (part number base (module_of m)))))
      ∙ sym (flat_map-append public_labels (take number (parts (map module_of modules))) (part number base (module_of m) ∷ []))
      ∙ ap all_publics (sym (parts_more modules number base m lt is was.judging.reached));
}

pub given_twice : (modules : List whole.Module) (number base : ℕ) (m : whole.Module) (names : Publics) (fault : JoinFault) → number < length modules → m ≡ get_or modules number m
    → clashes names (part number base (module_of m)) ≡ Some fault → Gives modules number base names → first_of (once (map module_of modules)) (parts (map module_of modules)) ≡ Some fault
given_twice modules number base m names fault lt is some was =
    stops (once (map module_of modules)) modules number base m fault lt is (judged_by modules number base names (module_of m) was ∙ some) was.judging

pub all_given : (modules : List whole.Module) (number base : ℕ) (names : Publics) → length modules ≤ number → Gives modules number base names → names ≡ all_publics (parts (map module_of modules))
all_given modules number base names le was =
    let r = was.judging.reached in
    let whole : parts (map module_of modules) ≡ r.before ++ [] = r.whole ∙ ap (λ rest. r.before ++ parts_from number base rest) (left_none modules number le) in
    was.names_are ∙ ap all_publics (take_front number (parts (map module_of modules)) r.before [] whole r.many ∙ sym (append-nil r.before) ∙ sym whole)

-- The links of the modules so far; with those of the rest they are all links.

pub record Links_so_far (modules : List whole.Module) (names : Publics) (f : ModulePart → Option JoinFault) (number base : ℕ) (links : List Links) : Type 0 where
  pub judging : Judging f modules number base
  pub with_rest : (more : List Links) → AllZip (IsLinks names) (parts_from number base (left modules number)) more → AllZip (IsLinks names) (parts (map module_of modules)) (links ++ more)

pub no_links : (modules : List whole.Module) (names : Publics) (f : ModulePart → Option JoinFault) → Links_so_far modules names f 0 0 []
no_links modules names f = record { judging = begin f modules; with_rest = λ more all. all }

pub more_links : (modules : List whole.Module) (names : Publics) (f : ModulePart → Option JoinFault) (number base : ℕ) (m : whole.Module) (links : List Links) (l : Links) → number < length modules → m ≡ get_or modules number m
    → f (part number base (module_of m)) ≡ None → IsLinks names (part number base (module_of m)) l → Links_so_far modules names f number base links
    → Links_so_far modules names f (number + 1) (base + length m.statements.items) (links ++ l ∷ [])
more_links modules names f number base m links l lt is none own was = record {
  judging = passes f modules number base m lt is none was.judging;
  with_rest = λ more all.
      subst (AllZip (IsLinks names) (parts (map module_of modules))) (sym (append_assoc links (l ∷ []) more))
      (was.with_rest (l ∷ more) (subst (λ rest. AllZip (IsLinks names) (parts_from number base rest) (l ∷ more)) (sym (left_more modules number m lt is))
      (own, subst (λ n. AllZip (IsLinks names) (parts_from (number + 1) (base + n) (left modules (number + 1))) more) (sym (statements_of m)) all)));
}

pub all_links : (modules : List whole.Module) (names : Publics) (f : ModulePart → Option JoinFault) (number base : ℕ) (links : List Links) → length modules ≤ number → Links_so_far modules names f number base links
    → AllZip (IsLinks names) (parts (map module_of modules)) links
all_links modules names f number base links le was =
    subst (AllZip (IsLinks names) (parts (map module_of modules))) (append-nil links)
    (was.with_rest [] (subst (λ rest. AllZip (IsLinks names) (parts_from number base rest) []) (sym (left_none modules number le)) tt))

-- The first module may say ORG 0100H, and any module may leave it out.

pub first_is_not_late : (base : ℕ) (number : ℕ) (m : Module) → number ≤ 0 → begins_late (part number base m) ≡ None
first_is_not_late base number m le = ap (λ b. fault_if (JoinFault.BeginsNotFirst number) (b && m.begins)) (le-ltb 0 number le)

pub other_is_not_late : (base : ℕ) (number : ℕ) (m : Module) → m.begins ≡ false → begins_late (part number base m) ≡ None
other_is_not_late base number m is = ap (λ b. fault_if (JoinFault.BeginsNotFirst number) (nat_lt 0 number && b)) is ∙ by_test (nat_lt 0 number)
  where
    by_test : (b : Bool) → fault_if (JoinFault.BeginsNotFirst number) (b && false) ≡ None
    by_test true = refl
    by_test false = refl

pub none_refused : (fault : Option JoinFault) (x : Unit {0}) → Ok x ≡ refused fault → fault ≡ None
none_refused None x is = refl
none_refused (Some why) x is = absurd cc

-- if the error of this step is also the first error of all, the failure of the step is the failure of all
pub fails_on : (fault other : Option JoinFault) (why : JoinFault) → Fails fault why → (fault ≡ Some why → other ≡ Some why) → Fails other why
fails_on fault other JoinFault.NoMemory told on = tt
fails_on fault other JoinFault.TooManyStatements told on = on told
fails_on fault other (JoinFault.BeginsNotFirst n) told on = on told
fails_on fault other (JoinFault.DefinedTwice n l) told on = on told
fails_on fault other (JoinFault.Unresolved n x) told on = on told
fails_on fault other (JoinFault.EntryNotFirst n) told on = on told
