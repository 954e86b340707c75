-- Where the refs of an expression come from.
use Rattle.std.proofs.Common.{◌≡◌, ℕ, All, List, [], ◌∷◌, ◌++◌, Option, Some, None, Ok, true, false, if◌then◌else◌, inl, refl, sym, subst}
use Rattle.std.proofs.lemmas.List.Elements.{All-append, All-cons, All-head, All-nil, All-tail}
use Rattle.std.specs.List.{list_all}
use Rattle.std.proofs.lemmas.List.Concat.{flat_map-append}
use Rattle.asm_expr.specs.Types.{Atom, Item, Meaning, Settled, Unknown, Worth}
use Rattle.asm_expr.specs.declared.part.Part.{Part}
use Rattle.asm_parse.specs.Expression.{Expression, Leaf, Prefix, Infix, postfix}
use Rattle.asm_parse.specs.Source.{Operand, Number, Name, Here}
use Rattle.asm_parse.specs.Values.Postfix.{run, only, tree}
use Rattle.asm_parse.specs.Values.Items.{refs, refs_in}
use Rattle.asm_expr.specs.Names.{Table, found}
use Rattle.asm_expr.specs.Settling.{known, leaf_or, meant, reduced, replaced, settled, expression_size, standing, is_constant_item, worth}
use Rattle.asm_expr.specs.Equating.{constant_of, equated, meaning_of}
use Rattle.asm_expr.specs.Origins.{AllBring, AreRefs, Brings}
use Rattle.asm_expr.proofs.Answers.{is_settled}
use Rattle.asm_expr.proofs.Equates.{equated_as}
use Rattle.asm_expr.proofs.Known.{object_tree}

-- Each ref in an expression has the property.
abbrev pub Places : (ℕ → Type 0) → Expression Part → Type 0
Places P (Leaf (Part.Ref r)) = P r
Places P (Leaf _) = Unit {0}
Places P (Prefix op a) = Places P a
Places P (Infix op a b) = Places P a × Places P b

abbrev AllPlaces : (ℕ → Type 0) → List (Expression Atom) → Type 0
AllPlaces P [] = Unit {0}
AllPlaces P (e ∷ before) = Places P (known e) × AllPlaces P before

abbrev refs-append : (xs ys : List (Item Atom)) → refs (xs ++ ys) ≡ refs xs ++ refs ys
refs-append = flat_map-append refs_in

-- the items of an expression have the refs of the expression,
items_of_places : (P : ℕ → Type 0) (e : Expression Atom) → Places P (known e) → All P (refs (postfix e))
items_of_places P (Leaf (Atom.Number n)) p = All-nil P
items_of_places P (Leaf (Atom.Ref r)) p = All-cons P r [] p (All-nil P)
items_of_places P (Prefix op a) p =
    subst (All P) (sym (refs-append (postfix a) (Item.Unary op ∷ []))) (All-append P (refs (postfix a)) [] (items_of_places P a p) (All-nil P))
items_of_places P (Infix op a b) p =
    let both = subst (All P) (sym (refs-append (postfix a) (postfix b))) (All-append P (refs (postfix a)) (refs (postfix b)) (items_of_places P a p.0) (items_of_places P b p.1)) in
    subst (All P) (sym (refs-append (postfix a ++ postfix b) (Item.Binary op ∷ []))) (All-append P (refs (postfix a ++ postfix b)) [] both (All-nil P))

-- and the other way round.
left_places : (P : ℕ → Type 0) (items : List (Item Atom)) (before now : List (Expression Atom)) → All P (refs items) → AllPlaces P before → run items before ≡ Some now → AllPlaces P now
left_places P [] before now all p e = let same : before ≡ now = cc in subst (AllPlaces P) same p
left_places P (Item.Leaf (Atom.Number n) ∷ items) before now all p e = left_places P items (Leaf (Atom.Number n) ∷ before) now all (tt, p) e
left_places P (Item.Leaf (Atom.Ref r) ∷ items) before now all p e =
    left_places P items (Leaf (Atom.Ref r) ∷ before) now (All-tail P r (refs items) all) (All-head P r (refs items) all, p) e
left_places P (Item.Unary op ∷ items) [] now all p e = cc
left_places P (Item.Unary op ∷ items) (a ∷ before) now all p e = left_places P items (Prefix op a ∷ before) now all p e
left_places P (Item.Binary op ∷ items) [] now all p e = cc
left_places P (Item.Binary op ∷ items) (b ∷ []) now all p e = cc
left_places P (Item.Binary op ∷ items) (b ∷ a ∷ before) now all p e = left_places P items (Infix op a b ∷ before) now all ((p.1.0, p.0), p.1.1) e

tree_places : (P : ℕ → Type 0) (items : List (Item Atom)) → All P (refs items) → Places P (known (tree items))
tree_places P items all =
    elim (run items []) as (λ r. run items [] ≡ r → Places P (known (only (Atom.Number 0) r))) [
      | None ↦ λ _. tt
      | Some [] ↦ λ _. tt
      | Some (e ∷ []) ↦ λ is. (left_places P items [] (e ∷ []) all tt is).0
      | Some (e ∷ f ∷ more) ↦ λ _. tt
    ] refl

-- Names bring their refs,
meant_places : (P : ℕ → Type 0) (m : Option Meaning) → ((what : Meaning) → m ≡ Some what → Brings P what) → Places P (meant m)
meant_places P None brings = tt
meant_places P (Some (Meaning.Label s)) brings = brings (Meaning.Label s) refl
meant_places P (Some (Meaning.External r)) brings = brings (Meaning.External r) refl
meant_places P (Some (Meaning.Constant n)) brings = tt
meant_places P (Some Meaning.UnknownConstant) brings = tt
meant_places P (Some Meaning.Faulty) brings = tt
meant_places P (Some (Meaning.Equ equated)) brings = standing_places equated.settled (brings (Meaning.Equ equated) refl)
  where
    standing_places : (s : Settled) → AreRefs P s → Places P (standing s)
    standing_places (Settled.Known items) all = tree_places P items all
    standing_places (Settled.Unknown what) all = tt

replaced_places : (P : ℕ → Type 0) (t : Table) → AllBring P t → (e : Expression Operand) → Places P (replaced t e)
replaced_places P t all (Leaf (Number n)) = tt
replaced_places P t all (Leaf Here) = all.here
replaced_places P t all (Leaf (Name name)) = meant_places P (found t name) (all.names name)
replaced_places P t all (Prefix op a) = replaced_places P t all a
replaced_places P t all (Infix op a b) = (replaced_places P t all a, replaced_places P t all b)

-- and reducing brings none.
leaf_places : (P : ℕ → Type 0) (e : Expression Part) (w : Worth) → Places P e → Places P (leaf_or e w)
leaf_places P e (Worth.Number n) p = tt
leaf_places P e Worth.Unknown p = tt
leaf_places P e Worth.Varies p = p

reduced_places : (P : ℕ → Type 0) (t : Table) (e : Expression Part) → Places P e → Places P (reduced t e)
reduced_places P t (Leaf part) p = p
reduced_places P t (Prefix op a) p = leaf_places P (Prefix op (reduced t a)) (worth t (Prefix op a)) (reduced_places P t a p)
reduced_places P t (Infix op a b) p =
    leaf_places P (Infix op (reduced t a) (reduced t b)) (worth t (Infix op a b)) (reduced_places P t a p.0, reduced_places P t b p.1)

pub settled_refs : (P : ℕ → Type 0) (t : Table) → AllBring P t → (e : Expression Operand) (s : Settled) → settled t e ≡ Ok s → AreRefs P s
settled_refs P t all e (Settled.Known items) is =
    let made = is_settled t e (Ok (Settled.Known items)) (inl (sym is)) in
    let object = object_tree items (reduced t (replaced t e)) made.1 in
    let places = subst (Places P) object.1 (reduced_places P t (replaced t e) (replaced_places P t all e)) in
    subst (λ xs. All P (refs xs)) object.2 (items_of_places P object.0 places)
settled_refs P t all e (Settled.Unknown what) is = tt

-- The same holds for what an EQU's expression stands for.
pub equated_refs : (P : ℕ → Type 0) (t : Table) → AllBring P t → (e : Expression Operand) (what : Meaning) → equated t e ≡ Ok what → Brings P what
equated_refs P t all e what is =
    let s = equated_as t e what is in
    subst (Brings P) (sym s.2) (meaning_refs s.0 (settled_refs P t all e s.0 s.1))
  where
    constant_refs : (s : Settled) → Brings P (constant_of s)
    constant_refs (Settled.Known items) = tt
    constant_refs (Settled.Unknown Unknown.Anything) = tt
    constant_refs (Settled.Unknown Unknown.Number) = tt
    constant_refs (Settled.Unknown Unknown.Varies) = tt
    constant_refs (Settled.Unknown Unknown.VariesInByte) = tt

    meaning_refs : (s : Settled) → AreRefs P s → Brings P (meaning_of t e s)
    meaning_refs s refs = elim (list_all (is_constant_item t) (postfix e)) as (λ c. Brings P (if c then constant_of s else Meaning.Equ (record { settled = s; size = expression_size t e }))) [
      | true ↦ constant_refs s
      | false ↦ refs
    ]
