-- Public names: defined and looked up.
use Rattle.std.proofs.Common.{◌≡◌, ◌≤◌, ◌<◌, ◌+◌, ◌∙◌, sym, ap, refl, subst, ℕ, Bool, true, false, cond, List, [], ◌∷◌, ◌++◌, Option, Some, None, length, map, take, drop, get_or, arith, append_assoc, is_some, not, Vec}
use Rattle.std.specs.Map.{lookup}
use Rattle.std.specs.Str.{bytes_eq}
use Rattle.std.specs.Borrow.{Bor}
use Rattle.std.specs.Global.{Global}
use Rattle.std.specs.List.{All, enumerate_from}
use Rattle.std.specs.Option.{option_map_or}
use Rattle.std.proofs.Math.ListN.{get_or-map}
use Rattle.std.proofs.lemmas.List.{append-nil, at_drop_more, drop_all, get_or-take, get_or_append_left, get_or_read, length-append, length-map, length-take-le, map-append, take_all, take_more}
use Rattle.std.proofs.lemmas.List.Elements.{All-from_get_or, All-get_or, All-head, All-tail}
use Rattle.std.proofs.lemmas.List.Kept.{AllPairs-from_increasing}
use Rattle.std.proofs.lemmas.Map.Keys.{apart_from_distinct}
use Rattle.std.proofs.lemmas.Slice.Eq.{bytes_eq-Decides}
use Rattle.zmo_object.specs.declared.module.Label as label
use Rattle.zmo_object.specs.declared.module.Module as whole
use Rattle.zmo_object.specs.Modules.{Module, label_of, module_of}
use Rattle.zmo_object.specs.Rules.{IsModule, names_of}
use Rattle.zlink.specs.declared.program.fault.JoinFault.{JoinFault}
use Rattle.zlink.specs.Program.Faults.{first_of, fault_if, some_or_else, unresolved}
use Rattle.zlink.specs.Program.Parts.{ModulePart, Publics, public_found, public_labels, given_label, label_at}
use Rattle.zlink.specs.Program.Whole.{public_statement}
use Rattle.zlink.specs.Private.Joining.{clash, clashes}

-- the names in the code's table, as definitions see them
abbrev pub seen : List (Bor (List ℕ) × ℕ) → Publics
seen entries = map (λ e. (e.0.now, e.1)) entries

pub lookup-seen : (entries : List (Bor (List ℕ) × ℕ)) (name : List ℕ) → public_found (seen entries) name ≡ lookup (λ k. bytes_eq name k.now) entries
lookup-seen [] name = refl
lookup-seen (e ∷ es) name = ap (cond (bytes_eq name e.0.now) (Some e.1)) (lookup-seen es name)

pub seen-append : (entries : List (Bor (List ℕ) × ℕ)) (e : Bor (List ℕ) × ℕ) → seen (entries ++ e ∷ []) ≡ seen entries ++ (e.0.now, e.1) ∷ []
seen-append [] e = refl
seen-append (x ∷ xs) e = ap (λ rest. (x.0.now, x.1) ∷ rest) (seen-append xs e)

-- The public labels of one module have different names.

differ_back : (x y : List ℕ) → bytes_eq x y ≡ false → bytes_eq y x ≡ false
differ_back x y e = by_test (bytes_eq y x) refl
  where
    by_test : (b : Bool) → bytes_eq y x ≡ b → b ≡ false
    by_test true same = (let back : bytes_eq x y ≡ true = (bytes_eq-Decides x y).1 (sym ((bytes_eq-Decides y x).0 same)) in cc)
    by_test false same = refl

-- two labels of a module have different names
labels_differ : (m : Module) (a b : ℕ) → IsModule m → a < b → b < length m.labels → bytes_eq (label_at m b).name (label_at m a).name ≡ false
labels_differ m a b rules lt within =
    let names = map (λ l. l.name) m.labels in
    let many : length names ≡ length m.labels = length-map m.labels (λ l. l.name) in
    let all = length-append names m.externals in
    let name : (i : ℕ) → i < length m.labels → get_or (names_of m) i [] ≡ (label_at m i).name = λ i there.
    get_or_append_left names m.externals [] i (omega (arith, there, many)) ∙ get_or-map (λ l. l.name) m.labels i (record { statement = 0; name = [] }) in
    differ_back (label_at m a).name (label_at m b).name
    (ap (λ x. bytes_eq x (label_at m b).name) (sym (name a (omega (arith, lt, within)))) ∙ ap (bytes_eq (get_or (names_of m) a [])) (sym (name b within))
    ∙ apart_from_distinct bytes_eq (names_of m) a b [] rules.distinct lt (omega (arith, within, many, all)))

none_found : (p : ModulePart) (ls : List ℕ) (name : List ℕ) → All (λ l. bytes_eq name (label_at p.holds l).name ≡ false) ls → public_found (map (given_label p) ls) name ≡ None
none_found p [] name all = refl
none_found p (l ∷ ls) name all =
    ap (λ b. cond b (Some (given_label p l).1) (public_found (map (given_label p) ls) name)) (All-head (λ k. bytes_eq name (label_at p.holds k).name ≡ false) l ls all)
    ∙ none_found p ls name (All-tail (λ k. bytes_eq name (label_at p.holds k).name ≡ false) l ls all)

-- no earlier public label of the same module has this label's name
own_new : (p : ModulePart) (at : ℕ) → IsModule p.holds → at < length p.holds.publics → public_found (map (given_label p) (take at p.holds.publics)) (label_at p.holds (get_or p.holds.publics at 0)).name ≡ None
own_new p at rules lt =
    let ls = p.holds.publics in
    let name = (label_at p.holds (get_or ls at 0)).name in
    let many : length (take at ls) ≡ at = length-take-le at ls (omega (arith, lt)) in
    none_found p (take at ls) name (All-from_get_or (λ l. bytes_eq name (label_at p.holds l).name ≡ false) (take at ls) 0 (λ i there.
    let before : i < at = omega (arith, there, many) in
    subst (λ l. bytes_eq name (label_at p.holds l).name ≡ false) (sym (get_or-take at ls i 0 before))
    (labels_differ p.holds (get_or ls i 0) (get_or ls at 0) rules (AllPairs-from_increasing ls rules.publics_ascend i at 0 before lt) (All-get_or (λ l. l < length p.holds.labels) ls at 0 lt rules.public_labels))))

found_front : (xs ys : Publics) (name : List ℕ) → public_found ys name ≡ None → public_found (xs ++ ys) name ≡ public_found xs name
found_front [] ys name none = none
found_front (x ∷ xs) ys name none = ap (cond (bytes_eq name x.0) (Some x.1)) (found_front xs ys name none)

-- The first public labels of a part are in the table, and no earlier module defines one of them.
pub record Giving (old : Publics) (p : ModulePart) (at : ℕ) (now : Publics) : Type 0 where
  pub names : now ≡ old ++ map (given_label p) (take at p.holds.publics)
  pub judged : clashes old p ≡ first_of (clash old p) (drop at p.holds.publics)

pub giving_start : (old : Publics) (p : ModulePart) → Giving old p 0 old
giving_start old p = record { names = sym (append-nil old); judged = refl }

-- the name of the next label is in the table exactly if an earlier module defines it
there_before : (old now : Publics) (p : ModulePart) (at l : ℕ) → IsModule p.holds → at < length p.holds.publics → l ≡ get_or p.holds.publics at 0 → Giving old p at now → public_found now (label_at p.holds l).name ≡ public_found old (label_at p.holds l).name
there_before old now p at l rules lt is was =
    ap (λ ns. public_found ns (label_at p.holds l).name) was.names
    ∙ found_front old (map (given_label p) (take at p.holds.publics)) (label_at p.holds l).name (ap (λ k. public_found (map (given_label p) (take at p.holds.publics)) (label_at p.holds k).name) is ∙ own_new p at rules lt)

judged_next : (old now : Publics) (p : ModulePart) (at l : ℕ) → IsModule p.holds → at < length p.holds.publics → l ≡ get_or p.holds.publics at 0 → Giving old p at now
    → clashes old p ≡ some_or_else (clash now p l) (first_of (clash old p) (drop (at + 1) p.holds.publics))
judged_next old now p at l rules lt is was =
    was.judged ∙ at_drop_more (first_of (clash old p)) p.holds.publics at 0 lt ∙ ap (λ k. some_or_else (clash old p k) (first_of (clash old p) (drop (at + 1) p.holds.publics))) (sym is)
    ∙ ap (λ o. some_or_else (fault_if (JoinFault.DefinedTwice p.number l) (is_some o)) (first_of (clash old p) (drop (at + 1) p.holds.publics))) (sym (there_before old now p at l rules lt is was))

pub giving_next : (old now new : Publics) (p : ModulePart) (at l : ℕ) → IsModule p.holds → at < length p.holds.publics → l ≡ get_or p.holds.publics at 0 → public_found now (label_at p.holds l).name ≡ None
    → new ≡ now ++ given_label p l ∷ [] → Giving old p at now → Giving old p (at + 1) new
giving_next old now new p at l rules lt is none more was = record {
  names =
      more ∙ ap (λ ns. ns ++ given_label p l ∷ []) was.names ∙ append_assoc old (map (given_label p) (take at p.holds.publics)) (given_label p l ∷ [])
      ∙ ap (λ ns. old ++ ns) (ap (λ k. map (given_label p) (take at p.holds.publics) ++ given_label p k ∷ []) is
      ∙ sym (map-append (given_label p) (take at p.holds.publics) (get_or p.holds.publics at 0 ∷ [])) ∙ ap (map (given_label p)) (sym (take_more p.holds.publics at 0 lt)));
  judged = judged_next old now p at l rules lt is was ∙ ap (λ o. some_or_else (fault_if (JoinFault.DefinedTwice p.number l) (is_some o)) (first_of (clash old p) (drop (at + 1) p.holds.publics))) none;
}

pub giving_twice : (old now : Publics) (p : ModulePart) (at l : ℕ) → IsModule p.holds → at < length p.holds.publics → l ≡ get_or p.holds.publics at 0 → is_some (public_found now (label_at p.holds l).name) ≡ true → Giving old p at now
    → clashes old p ≡ Some (JoinFault.DefinedTwice p.number l)
giving_twice old now p at l rules lt is there was =
    judged_next old now p at l rules lt is was ∙ ap (λ b. some_or_else (fault_if (JoinFault.DefinedTwice p.number l) b) (first_of (clash old p) (drop (at + 1) p.holds.publics))) there

pub giving_end : (old now : Publics) (p : ModulePart) (at : ℕ) → length p.holds.publics ≤ at → Giving old p at now → (clashes old p ≡ None) × (now ≡ old ++ public_labels p)
giving_end old now p at le was =
    (was.judged ∙ ap (first_of (clash old p)) (drop_all at p.holds.publics le), was.names ∙ ap (λ ls. old ++ map (given_label p) ls) (take_all at p.holds.publics le))

-- The externals of a module are looked up in the public names.

abbrev lacks : Publics → ModulePart → ℕ × List ℕ → Option JoinFault
lacks names p x = fault_if (JoinFault.Unresolved p.number x.0) (not (is_some (public_found names x.1)))

-- The first externals of a part are found, and `numbers` are the statements that they stand for.
pub record Resolving (names : Publics) (p : ModulePart) (at : ℕ) (numbers : List ℕ) : Type 0 where
  pub stand : numbers ≡ map (public_statement names) (take at p.holds.externals)
  pub judged : unresolved names p ≡ first_of (lacks names p) (enumerate_from at (drop at p.holds.externals))

pub resolving_start : (names : Publics) (p : ModulePart) → Resolving names p 0 []
resolving_start names p = record { stand = refl; judged = refl }

lacks_next : (names : Publics) (p : ModulePart) (at : ℕ) (name : List ℕ) (numbers : List ℕ) → at < length p.holds.externals → name ≡ get_or p.holds.externals at [] → Resolving names p at numbers
    → unresolved names p ≡ some_or_else (fault_if (JoinFault.Unresolved p.number at) (not (is_some (public_found names name)))) (first_of (lacks names p) (enumerate_from (at + 1) (drop (at + 1) p.holds.externals)))
lacks_next names p at name numbers lt is was =
    was.judged ∙ at_drop_more (λ xs. first_of (lacks names p) (enumerate_from at xs)) p.holds.externals at [] lt
    ∙ ap (λ n. some_or_else (lacks names p (at, n)) (first_of (lacks names p) (enumerate_from (at + 1) (drop (at + 1) p.holds.externals)))) (sym is)

pub resolving_next : (names : Publics) (p : ModulePart) (at : ℕ) (name : List ℕ) (numbers new : List ℕ) (number : ℕ) → at < length p.holds.externals → name ≡ get_or p.holds.externals at [] → Some number ≡ public_found names name
    → new ≡ numbers ++ number ∷ [] → Resolving names p at numbers → Resolving names p (at + 1) new
resolving_next names p at name numbers new number lt is there more was =
    let stands : number ≡ public_statement names name = ap (λ o. option_map_or (λ n. n) o 0) there in
    record {
      stand =
          more ∙ ap (λ ns. ns ++ number ∷ []) was.stand ∙ ap (λ n. map (public_statement names) (take at p.holds.externals) ++ n ∷ []) (stands ∙ ap (public_statement names) is)
          ∙ sym (map-append (public_statement names) (take at p.holds.externals) (get_or p.holds.externals at [] ∷ [])) ∙ ap (map (public_statement names)) (sym (take_more p.holds.externals at [] lt));
      judged = lacks_next names p at name numbers lt is was ∙ ap (λ o. some_or_else (fault_if (JoinFault.Unresolved p.number at) (not (is_some o))) (first_of (lacks names p) (enumerate_from (at + 1) (drop (at + 1) p.holds.externals)))) (sym there);
    }

pub resolving_stops : (names : Publics) (p : ModulePart) (at : ℕ) (name : List ℕ) (numbers : List ℕ) → at < length p.holds.externals → name ≡ get_or p.holds.externals at [] → public_found names name ≡ None → Resolving names p at numbers
    → unresolved names p ≡ Some (JoinFault.Unresolved p.number at)
resolving_stops names p at name numbers lt is none was =
    lacks_next names p at name numbers lt is was ∙ ap (λ o. some_or_else (fault_if (JoinFault.Unresolved p.number at) (not (is_some o))) (first_of (lacks names p) (enumerate_from (at + 1) (drop (at + 1) p.holds.externals)))) none

pub resolving_end : (names : Publics) (p : ModulePart) (at : ℕ) (numbers : List ℕ) → length p.holds.externals ≤ at → Resolving names p at numbers → (unresolved names p ≡ None) × (numbers ≡ map (public_statement names) p.holds.externals)
resolving_end names p at numbers le was =
    (was.judged ∙ ap (λ xs. first_of (lacks names p) (enumerate_from at xs)) (drop_all at p.holds.externals le), was.stand ∙ ap (map (public_statement names)) (take_all at p.holds.externals le))

-- a public label of a module of the code is the same label in the definitions
pub label_there : (m : whole.Module) (at l : ℕ) (one : label.Label) → IsModule (module_of m) → at < length m.publics.items → l ≡ get_or m.publics.items at 0 → one ≡ get_or m.labels.items l one → label_at (module_of m) l ≡ label_of one
label_there m at l one rules lt is there =
    let labels = m.labels.items in
    let within : l < length (map label_of labels) = subst (λ k. k < length (map label_of labels)) (sym is) (All-get_or (λ k. k < length (map label_of labels)) m.publics.items at 0 lt rules.public_labels) in
    sym (get_or_read (map label_of labels) l (label_of one) within (ap label_of there ∙ sym (get_or-map label_of labels l one)) (record { statement = 0; name = [] }))

pub turned : (a b : Bool) → a ≡ not b → b ≡ not a
turned true true is = absurd cc
turned true false is = refl
turned false true is = refl
turned false false is = absurd cc

pub none_from : {A : Type 0} (o : Option A) → is_some o ≡ false → o ≡ None
none_from None is = refl
none_from (Some x) is = absurd cc

-- an external of a module of the code is the same name in the definitions
pub external_there : (m : whole.Module) (names : List (Vec ℕ Global)) (at : ℕ) (name : Vec ℕ Global) → names ≡ m.externals.items → at < length names → name ≡ get_or names at name
    → (at < length (module_of m).externals) × (name.items ≡ get_or (module_of m).externals at [])
external_there m names at name same lt is =
    let all = m.externals.items in
    let within : at < length (map (λ (n : Vec ℕ Global). n.items) all) = subst (λ n. at < n) (sym (length-map all (λ n. n.items))) (subst (λ ns. at < length ns) same lt) in
    (within, get_or_read (map (λ (n : Vec ℕ Global). n.items) all) at name.items within (ap (λ n. n.items) (is ∙ ap (λ ns. get_or ns at name) same) ∙ sym (get_or-map (λ (n : Vec ℕ Global). n.items) all at name)) [])
