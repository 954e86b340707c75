-- The modules of a program, one by one, and what their refs stand for.
use Rattle.std.proofs.Common.{◌≡◌, ℕ, suc, ◌+◌, ◌-◌, ◌<◌, ◌≤◌, Bool, true, false, List, [], ◌∷◌, ◌++◌, Some, All, cond, length, map, take, get_or, slice_index, vec_len, refl, sym, ap, subst, ◌∙◌, arith}
use Rattle.std.specs.Prelude.{nat_le}
use Rattle.std.specs.List.{AllByRecursion, flat_map, slice_get, slice_index_or}
use Rattle.std.specs.Option.{IsSomeAnd, MatchOption, option_map}
use Rattle.std.proofs.lemmas.Bool.{leb-false}
use Rattle.std.proofs.lemmas.Grind.{flat_map-append}
use Rattle.std.proofs.lemmas.List.{append-nil, get_or-map, length-map, map-append, take_all, take_more}
use Rattle.std.proofs.lemmas.List.Elements.{All-map, All-weaker, recursion_from_All}
use Rattle.std.proofs.lemmas.List.Sums.{sum_by_more, sum_by_more_le}
use Rattle.std.proofs.lemmas.Option.{get_or_from_slice_get, slice_get-get_or, slice_get-map, slice_get_within}
use Rattle.std.proofs.lemmas.Slice.Zip.{AllZip-left, AllZip-long}
use Rattle.common.specs.declared.limits.TheConstants.{MOST_STATEMENTS}
use Rattle.relax.specs.declared.shape.Statement.{Statement as Sized}
use Rattle.relax.specs.declared.shape.Statement.TheVariants as sized
use Rattle.relax.specs.Choice.{IsShape, IsStatement as IsSized}
use Rattle.zmo_object.specs.declared.module.Module as M
use Rattle.zmo_object.specs.Modules as object
use Rattle.zmo_object.specs.Modules.{Module, ModuleStatement, module_of, statement_of}
use Rattle.zmo_object.specs.Rules.{IsModule, IsModuleStatement, refs_of}
use Rattle.zlink.specs.declared.program.joining.Links.{Links}
use Rattle.zlink.specs.Program.Laws.{IsWithin, part_at, statement_count}
use Rattle.zlink.specs.Program.Parts.{parts, parts_from, all_publics}
use Rattle.zlink.specs.Program.Whole.{AreLinks, IsLinks, Placed, placed_statements, program, public_statement, stands}
use Rattle.zlink.specs.File.Objects.{placed_shape, sized_by}
use Rattle.zlink.specs.Private.Refs.{IsSizable, stands_by}
use Rattle.zlink.proofs.Files.Elements.{element}

-- part number m is module number m, with its base
abbrev pub PartsLaw : Type 0
PartsLaw = (modules : List Module) (m : ℕ) → slice_get (parts modules) m ≡ option_map (part_at modules m) (slice_get modules m)

-- module number k, its part, and the links that `join` made for it
pub record IsHere (modules : List Module) (k : ℕ) (m : Module) (l : Links) : Type 0 where
  pub within : k < length modules
  pub element : slice_get modules k ≡ Some m
  pub part : slice_get (parts modules) k ≡ Some (part_at modules k m)
  pub linked : IsLinks (all_publics (parts modules)) (part_at modules k m) l
  pub rules : IsModule m

-- the module at a number, as definitions see it
there : (ms : List M.Module) (k : ℕ) (m : M.Module) → k < length ms → m ≡ get_or ms k m → slice_get (map module_of ms) k ≡ Some (module_of m)
there ms k m lt is = slice_get-map module_of ms k ∙ ap (option_map module_of) (slice_get-get_or ms k m lt ∙ ap Some (sym is))

pub links-long : PartsLaw → (ms : List M.Module) (links : List Links) (k : ℕ) (m : M.Module) → k < length ms → m ≡ get_or ms k m → AreLinks (map module_of ms) links → k < length links
links-long law ms links k m lt is linked =
    let part = law (map module_of ms) k ∙ ap (option_map (part_at (map module_of ms) k)) (there ms k m lt is) in
    omega (arith, AllZip-long _ (parts (map module_of ms)) links linked, slice_get_within (parts (map module_of ms)) k (part_at (map module_of ms) k (module_of m)) part)

pub here : PartsLaw → (ms : List M.Module) (links : List Links) (k : ℕ) (m : M.Module) (l : Links) → k < length ms → m ≡ get_or ms k m → l ≡ get_or links k l → All IsModule (map module_of ms) → AreLinks (map module_of ms) links
    → IsHere (map module_of ms) k (module_of m) l
here law ms links k m l lt is at rules linked =
    let modules = map module_of ms in
    let p = part_at modules k (module_of m) in
    let part : slice_get (parts modules) k ≡ Some p = law modules k ∙ ap (option_map (part_at modules k)) (there ms k m lt is) in
    let Linked = IsLinks (all_publics (parts modules)) in
    let kept : slice_get links k ≡ Some l = slice_get-get_or links k l (links-long law ms links k m lt is linked) ∙ ap Some (sym at) in
    let both = AllZip-left Linked (parts modules) links linked k in
    record {
      within = omega (arith, length-map ms module_of);
      element = there ms k m lt is;
      part = part;
      linked = subst (λ o. IsSomeAnd o (Linked p)) kept (subst (λ o. MatchOption o (Unit {0}) (λ x. IsSomeAnd (slice_get links k) (Linked x))) part both);
      rules = element IsModule module_of ms k m lt is rules;
    }

-- the last statement of a module is within the whole program
pub ends : (modules : List Module) (k : ℕ) (m : Module) (l : Links) → IsHere modules k m l → l.base + length m.statements ≤ statement_count modules
ends modules k m l h =
    let more = sum_by_more_le (λ x. length x.statements) modules k m h.within in
    omega (arith, h.linked.base, more, ap (λ x. length x.statements) (get_or_from_slice_get modules k m m h.element))

-- the next module begins where this one ends
pub base-next : (modules : List Module) (k : ℕ) (m : Module) (l : Links) → IsHere modules k m l → statement_count (take (k + 1) modules) ≡ l.base + length m.statements
base-next modules k m l h =
    let more = sum_by_more (λ x. length x.statements) modules k m h.within in
    omega (arith, h.linked.base, more, ap (λ x. length x.statements) (get_or_from_slice_get modules k m m h.element))

-- the module has as many refs as its statements, its end and the kept externals
pub refs-same : (modules : List Module) (k : ℕ) (m : Module) (l : Links) → IsHere modules k m l → length m.statements + 1 + vec_len l.externals ≡ refs_of m
refs-same modules k m l h = omega (arith, l.externals.ok, ap length h.linked.externals, length-map m.externals (public_statement (all_publics (parts modules))))

-- the links of a module say what each ref stands for
pub stands-same : (modules : List Module) (k : ℕ) (m : Module) (l : Links) (ref : ℕ) → IsHere modules k m l → ref < refs_of m
    → stands_by (length m.statements) l.base l.externals.items ref ≡ stands (all_publics (parts modules)) (part_at modules k m) ref
stands-same modules k m l ref h lt = by (nat_le ref (length m.statements)) refl
  where
    by : (b : Bool) → nat_le ref (length m.statements) ≡ b → cond b (l.base + ref) (slice_index l.externals.items (ref - (length m.statements + 1)))
        ≡ cond b ((part_at modules k m).base + ref) (public_statement (all_publics (parts modules)) (slice_index_or m.externals (ref - (length m.statements + 1)) []))
    by true test = ap (λ n. n + ref) h.linked.base
    by false test =
        let above = leb-false ref (length m.statements) test in
        ap (λ xs. slice_index xs (ref - (length m.statements + 1))) h.linked.externals
        ∙ get_or-map (public_statement (all_publics (parts modules))) m.externals (ref - (length m.statements + 1)) [] 0 (omega arith)

-- the size and target of a statement depend only on what its refs below `refs` stand for
sized-same : (f g : ℕ → ℕ) (grow : Bool) (refs : ℕ) (s : ModuleStatement) → ((ref : ℕ) → ref < refs → f ref ≡ g ref) → IsModuleStatement grow refs s → sized_by f s ≡ sized_by g s
sized-same f g grow refs (object.Bytes bytes holes) same rules = refl
sized-same f g grow refs (object.Jump marked condition target) same rules = ap sized.Jump (same target rules.1)
sized-same f g grow refs (object.Short branch target) same rules = ap sized.Short (same target rules.1)
sized-same f g grow refs (object.Space size fill) same rules = refl

sizes-same : (f g : ℕ → ℕ) (grow : Bool) (refs : ℕ) (ss : List ModuleStatement) → ((ref : ℕ) → ref < refs → f ref ≡ g ref) → AllByRecursion (IsModuleStatement grow refs) ss
    → map (sized_by f) ss ≡ placed_shape (map (λ s. record { statement = s; stands = g }) ss)
sizes-same f g grow refs [] same rules = refl
sizes-same f g grow refs (s ∷ ss) same rules = ap (λ x. x ∷ map (sized_by f) ss) (sized-same f g grow refs s same rules.0) ∙ ap (λ xs. sized_by g s ∷ xs) (sizes-same f g grow refs ss same rules.1)

pub length-parts : (number base : ℕ) (modules : List Module) → length (parts_from number base modules) ≡ length modules
length-parts number base [] = refl
length-parts number base (m ∷ ms) = ap suc (length-parts (number + 1) (base + length m.statements) ms)

-- the statements of all parts are the program
pub parts-all : (modules : List Module) (k : ℕ) → length modules ≤ k → flat_map (placed_statements (all_publics (parts modules))) (take k (parts modules)) ≡ program modules
parts-all modules k le = ap (flat_map (placed_statements (all_publics (parts modules)))) (take_all k (parts modules) (omega (arith, length-parts 0 0 modules)))

-- the statements of the parts before, and of one more
pub parts-more : (modules : List Module) (k : ℕ) (m : Module) (l : Links) → IsHere modules k m l
    → flat_map (placed_statements (all_publics (parts modules))) (take (k + 1) (parts modules)) ≡ flat_map (placed_statements (all_publics (parts modules))) (take k (parts modules)) ++ placed_statements (all_publics (parts modules)) (part_at modules k m)
parts-more modules k m l h =
    let p = part_at modules k m in
    let names = all_publics (parts modules) in
    let longer = take_more (parts modules) k p (slice_get_within (parts modules) k p h.part) ∙ ap (λ x. take k (parts modules) ++ x ∷ []) (get_or_from_slice_get (parts modules) k p p h.part) in
    ap (flat_map (placed_statements names)) longer ∙ flat_map-append (placed_statements names) (take k (parts modules)) (p ∷ []) ∙ ap (λ l. flat_map (placed_statements names) (take k (parts modules)) ++ l) (append-nil (placed_statements names p))

pub shape-more : (modules : List Module) (k : ℕ) (m : Module) (l : Links) (count : ℕ) (ss : List ModuleStatement) (now next : List Sized) → IsHere modules k m l → count ≡ length m.statements → ss ≡ m.statements
    → now ≡ placed_shape (flat_map (placed_statements (all_publics (parts modules))) (take k (parts modules))) → next ≡ now ++ map (sized_by (stands_by count l.base l.externals.items)) ss
    → next ≡ placed_shape (flat_map (placed_statements (all_publics (parts modules))) (take (k + 1) (parts modules)))
shape-more modules k m l count ss now next h counted all before more =
    let names = all_publics (parts modules) in
    let p = part_at modules k m in
    let front = flat_map (placed_statements names) (take k (parts modules)) in
    let own = sizes-same (stands_by (length m.statements) l.base l.externals.items) (stands names p) m.grow (refs_of m) m.statements (λ ref lt. stands-same modules k m l ref h lt)
    (recursion_from_All (IsModuleStatement m.grow (refs_of m)) m.statements h.rules.statements) in
    more ∙ ap (λ xs. xs ++ map (sized_by (stands_by count l.base l.externals.items)) ss) before
    ∙ ap (λ n. placed_shape front ++ map (sized_by (stands_by n l.base l.externals.items)) ss) counted ∙ ap (λ xs. placed_shape front ++ map (sized_by (stands_by (length m.statements) l.base l.externals.items)) xs) all
    ∙ ap (λ xs. placed_shape front ++ xs) own
    ∙ sym (map-append (λ q. sized_by q.stands q.statement) front (placed_statements names p)) ∙ ap placed_shape (sym (parts-more modules k m l h))

-- the size and target of each statement of a module can be computed
pub sizable : (modules : List Module) (k : ℕ) (m : Module) (l : Links) (count : ℕ) → IsHere modules k m l → count ≡ length m.statements → All (IsSizable (count + 1 + vec_len l.externals)) m.statements
sizable modules k m l count h counted = let same : count + 1 + vec_len l.externals ≡ refs_of m = omega (arith, refs-same modules k m l h) in
    subst (λ n. All (IsSizable n) m.statements) (sym same) (All-weaker (IsModuleStatement m.grow (refs_of m)) (IsSizable (refs_of m)) by m.statements h.rules.statements)
  where
    by : (s : ModuleStatement) → IsModuleStatement m.grow (refs_of m) s → IsSizable (refs_of m) s
    by (object.Bytes bytes holes) rules = rules.0.1
    by (object.Jump marked condition target) rules = rules.1
    by (object.Short branch target) rules = rules.1
    by (object.Space size fill) rules = tt

-- the sizes and targets of the program are a shape
pub is_shape : (ps : List Placed) → length ps ≤ MOST_STATEMENTS → All (IsWithin (length ps)) ps → IsShape (placed_shape ps)
is_shape ps few all =
    let same : length (placed_shape ps) ≡ length ps = length-map ps (λ p. sized_by p.stands p.statement) in
    record {
      few = omega (arith, few, same);
      each = subst (λ n. All (IsSized n) (placed_shape ps)) (sym same) (All-map (IsSized (length ps)) (λ p. sized_by p.stands p.statement) ps (All-weaker (IsWithin (length ps)) (λ p. IsSized (length ps) (sized_by p.stands p.statement)) (λ p. one (length ps) p) ps all));
    }
  where
    by : (count refs : ℕ) (grow : Bool) (f : ℕ → ℕ) (s : ModuleStatement) → ((ref : ℕ) → ref < refs → f ref ≤ count) → IsModuleStatement grow refs s → IsSized count (sized_by f s)
    by count refs grow f (object.Bytes bytes holes) within rules = rules.0
    by count refs grow f (object.Jump marked condition target) within rules = within target rules.1
    by count refs grow f (object.Short branch target) within rules = within target rules.1
    by count refs grow f (object.Space size fill) within rules = rules

    one : (count : ℕ) (p : Placed) → IsWithin count p → IsSized count (sized_by p.stands p.statement)
    one count p w = by count w.refs w.grow p.stands p.statement w.stands w.rules
