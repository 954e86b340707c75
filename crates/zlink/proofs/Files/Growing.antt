-- The jumps that were written as JR and are long, module by module.
use Rattle.std.proofs.Common.{◌≡◌, ℕ, suc, ◌+◌, ◌<◌, ◌≤◌, Bool, true, false, List, [], ◌∷◌, ◌++◌, Some, None, cond, ◌&&◌, length, map, take, get_or, refl, sym, ap, ◌∙◌, arith, append_assoc, append-nil, length-append}
use Rattle.std.specs.List.{cons_option, enumerate_from, filter_map, flat_map, sum_by}
use Rattle.std.proofs.lemmas.List.{length-take-le, length-map, map-append, take-map}
use Rattle.std.proofs.lemmas.List.Elements.{filter_map-append}
use Rattle.std.proofs.lemmas.List.Concat.{length-flat_map}
use Rattle.std.proofs.lemmas.List.Sums.{sum_by-take-le}
use Rattle.std.proofs.lemmas.Grind.{flat_map-append}
use Rattle.relax.specs.Choice.{Choice}
use Rattle.zmo_object.specs.declared.module.Module as M
use Rattle.zmo_object.specs.declared.module.statement.Statement as S
use Rattle.zmo_object.specs.Modules.{Module, ModuleStatement, module_of, statement_of}
use Rattle.zlink.specs.Program.Parts.{ModulePart, Publics, parts, parts_from, all_publics}
use Rattle.zlink.specs.Program.Whole.{Placed, placed_statements, program, stands}
use Rattle.zlink.specs.File.Objects.{grown, grown_at, is_marked}
use Rattle.zlink.specs.Private.Marked.{marked_at, marked_from}
use Rattle.zlink.proofs.Files.Elements.{mapped-more}

enumerate-append : {X : Type 0} (n : ℕ) (xs ys : List X) → enumerate_from n (xs ++ ys) ≡ enumerate_from n xs ++ enumerate_from (n + length xs) ys
enumerate-append n [] ys = let same : n ≡ n + 0 = omega arith in ap (λ m. enumerate_from m ys) same
enumerate-append n (x ∷ xs) ys =
    let same : (n + 1) + length xs ≡ n + suc (length xs) = omega arith in
    ap (λ l. (n, x) ∷ l) (enumerate-append (n + 1) xs ys ∙ ap (λ m. enumerate_from (n + 1) xs ++ enumerate_from m ys) same)

-- the grown jumps of two lists of statements, one after the other
pub marked-append : (c : Choice) (n : ℕ) (xs ys : List ModuleStatement) → marked_from c n (xs ++ ys) ≡ marked_from c n xs ++ marked_from c (n + length xs) ys
marked-append c n xs ys = ap (filter_map (marked_at c)) (enumerate-append n xs ys) ∙ filter_map-append (marked_at c) (enumerate_from n xs) (enumerate_from (n + length xs) ys)

single : (b : Bool) (n : ℕ) → cons_option (cond b (Some n) None) [] ≡ cond b (n ∷ []) []
single true n = refl
single false n = refl

-- the grown jumps with one more statement
pub marked-push : (c : Choice) (n k m : ℕ) (xs : List ModuleStatement) (s : ModuleStatement) → length xs ≡ k → m ≡ n + k → marked_from c n (xs ++ s ∷ []) ≡ marked_from c n xs ++ cond (is_marked s && c m) (m ∷ []) []
marked-push c n k m xs s len at =
    let here : n + length xs ≡ m = omega arith in
    marked-append c n xs (s ∷ []) ∙ ap (λ j. marked_from c n xs ++ marked_from c j (s ∷ [])) here ∙ ap (λ l. marked_from c n xs ++ l) (single (is_marked s && c m) m)

-- the statements of all modules, one after the other
abbrev pub statements_in : List Module → List ModuleStatement
statements_in modules = flat_map (λ m. m.statements) modules

-- the statements of all modules are those of the whole program
statements-placed : (f : ℕ → ℕ) (ss : List ModuleStatement) → map {A = Placed} (λ p. p.statement) (map (λ s. record { statement = s; stands = f }) ss) ≡ ss
statements-placed f [] = refl
statements-placed f (s ∷ ss) = ap (λ l. s ∷ l) (statements-placed f ss)

statements-from : (names : Publics) (number base : ℕ) (modules : List Module) → map (λ p. p.statement) (flat_map (placed_statements names) (parts_from number base modules)) ≡ statements_in modules
statements-from names number base [] = refl
statements-from names number base (m ∷ ms) =
    let p : ModulePart = record { number = number; base = base; holds = m } in
    map-append (λ q. q.statement) (placed_statements names p) (flat_map (placed_statements names) (parts_from (number + 1) (base + length m.statements) ms))
    ∙ ap (λ l. l ++ map (λ q. q.statement) (flat_map (placed_statements names) (parts_from (number + 1) (base + length m.statements) ms))) (statements-placed (stands names p) m.statements)
    ∙ ap (λ l. m.statements ++ l) (statements-from names (number + 1) (base + length m.statements) ms)

pub statements-of : (modules : List Module) → map (λ p. p.statement) (program modules) ≡ statements_in modules
statements-of modules = statements-from (all_publics (parts modules)) 0 0 modules

pub count-of : (modules : List Module) → length (program modules) ≡ length (statements_in modules)
count-of modules = sym (length-map (program modules) (λ p. p.statement)) ∙ ap length (statements-of modules)

-- the first k modules have no more statements than all modules
pub front-fits : (ms : List M.Module) (k : ℕ) → length (statements_in (map module_of (take k ms))) ≤ length (program (map module_of ms))
front-fits ms k =
    let size : Module → ℕ = λ m. length m.statements in
    let less = sum_by-take-le size (map module_of ms) k in
    let front : length (statements_in (map module_of (take k ms))) ≡ sum_by size (take k (map module_of ms)) = length-flat_map (λ m. m.statements) (map module_of (take k ms)) ∙ ap (sum_by size) (sym (take-map module_of k ms)) in
    omega (arith, front, less, length-flat_map (λ m. m.statements) (map module_of ms), count-of (map module_of ms))

-- the grown jumps of the whole program are those of the list of its statements
marked-same : (c : Choice) (n : ℕ) (ps : List Placed) → filter_map (grown_at c) (enumerate_from n ps) ≡ marked_from c n (map (λ p. p.statement) ps)
marked-same c n [] = refl
marked-same c n (p ∷ ps) = ap (cons_option (grown_at c (n, p))) (marked-same c (n + 1) ps)

pub grown-is : (c : Choice) (modules : List Module) → grown (program modules) c ≡ marked_from c 0 (statements_in modules)
grown-is c modules = marked-same c 0 (program modules) ∙ ap (marked_from c 0) (statements-of modules)

-- one turn of the loop over the statements of a module
pub marked-step : (c : Choice) (n k : ℕ) (ss : List S.Statement) (s : S.Statement) (old now next : List ℕ) (b : Bool) → k < length ss → s ≡ get_or ss k s
    → now ≡ old ++ marked_from c n (map statement_of (take k ss)) → b ≡ (is_marked (statement_of s) && c (n + k)) → next ≡ now ++ cond b ((n + k) ∷ []) []
    → next ≡ old ++ marked_from c n (map statement_of (take (k + 1) ss))
marked-step c n k ss s old now next b lt is before test more =
    let front = map statement_of (take k ss) in
    let len : length front ≡ k = length-map (take k ss) statement_of ∙ length-take-le k ss (omega arith) in
    let longer = mapped-more statement_of ss k s lt is in
    let pushed = marked-push c n k (n + k) front (statement_of s) len refl in
    more ∙ ap (λ l. l ++ cond b ((n + k) ∷ []) []) before ∙ append_assoc old (marked_from c n front) (cond b ((n + k) ∷ []) [])
    ∙ ap (λ t. old ++ (marked_from c n front ++ cond t ((n + k) ∷ []) [])) test ∙ ap (λ l. old ++ l) (sym pushed ∙ ap (marked_from c n) (sym longer))

-- the statements of one more module
statements-more : (ms : List M.Module) (k : ℕ) (m : M.Module) → k < length ms → m ≡ get_or ms k m
    → statements_in (map module_of (take (k + 1) ms)) ≡ statements_in (map module_of (take k ms)) ++ map statement_of m.statements.items
statements-more ms k m lt is =
    let front = map module_of (take k ms) in
    ap statements_in (mapped-more module_of ms k m lt is)
    ∙ flat_map-append (λ x. x.statements) front (module_of m ∷ []) ∙ ap (λ l. statements_in front ++ l) (append-nil (map statement_of m.statements.items))

pub count-more : (ms : List M.Module) (k : ℕ) (m : M.Module) → k < length ms → m ≡ get_or ms k m
    → length (statements_in (map module_of (take (k + 1) ms))) ≡ length (statements_in (map module_of (take k ms))) + length m.statements.items
count-more ms k m lt is =
    omega (arith, ap length (statements-more ms k m lt is), length-append (statements_in (map module_of (take k ms))) (map statement_of m.statements.items), length-map m.statements.items statement_of)

-- one turn of the loop over the modules
pub modules-step : (c : Choice) (k n : ℕ) (ms : List M.Module) (m : M.Module) (now next : List ℕ) → k < length ms → m ≡ get_or ms k m → n ≡ length (statements_in (map module_of (take k ms)))
    → now ≡ marked_from c 0 (statements_in (map module_of (take k ms))) → next ≡ now ++ marked_from c n (map statement_of m.statements.items)
    → next ≡ marked_from c 0 (statements_in (map module_of (take (k + 1) ms)))
modules-step c k n ms m now next lt is at before more =
    let front = statements_in (map module_of (take k ms)) in
    let own = map statement_of m.statements.items in
    let here : n ≡ 0 + length front = omega (arith, at) in
    more ∙ ap (λ l. l ++ marked_from c n own) before ∙ ap (λ j. marked_from c 0 front ++ marked_from c j own) here
    ∙ sym (marked-append c 0 front own) ∙ ap (marked_from c 0) (sym (statements-more ms k m lt is))
