-- The bytes of a statement depend only on the addresses of the refs that it has.
use Rattle.std.proofs.Common.{◌≡◌, ℕ, ◌+◌, ◌%◌, ◌<◌, ◌++◌, Bool, true, false, List, [], ◌∷◌, length, take, drop, refl, sym, ap, subst, ◌∙◌}
use Rattle.std.specs.List.{AllByRecursion}
use Rattle.std.proofs.lemmas.List.Elements.{recursion_from_All}
use Rattle.std.proofs.lemmas.Grind.{flat_map-append}
use Rattle.asm_parse.specs.declared.item.Item.{Item}
use Rattle.asm_parse.specs.Expression.{Expression, Leaf, Prefix, Infix, postfix}
use Rattle.asm_parse.specs.declared.values.atom.Atom.{Atom}
use Rattle.asm_parse.specs.Values.Arithmetic.{binary, modulus, unary}
use Rattle.asm_parse.specs.Values.Items.{refs, refs_in, value}
use Rattle.asm_parse.specs.Values.Postfix.{tree}
use Rattle.asm_parse.proofs.Judgements.{spelled_tree}
use Rattle.z80_instr.specs.Codes.{Codes}
use Rattle.asm_stmt.specs.Cells.{written}
use Rattle.asm_stmt.specs.Made.{long_jump}
use Rattle.asm_module.specs.Program.Linked.{IsLinkedPiece, fill_one, filled}
use Rattle.zmo_object.specs.declared.module.hole.Hole.{Hole}
use Rattle.zmo_object.specs.Holes.{IsHole}
use Rattle.zmo_object.specs.Modules as object
use Rattle.zmo_object.specs.Modules.{ModuleStatement}
use Rattle.zmo_object.specs.Rules.{IsModuleStatement}

-- what holds of the elements of two lists together holds of those of each
parts : (P : ℕ → Type 0) (xs ys : List ℕ) → AllByRecursion P (xs ++ ys) → AllByRecursion P xs × AllByRecursion P ys
parts P [] ys all = (tt, all)
parts P (x ∷ xs) ys all = let rest = parts P xs ys all.1 in ((all.0, rest.0), rest.1)

module _ (f g : ℕ → ℕ) (n : ℕ) (same : (ref : ℕ) → ref < n → f ref ≡ g ref) where
  abbrev Below : List (Item Atom) → Type 0
  Below items = AllByRecursion (λ r. r < n) (refs items)

  apart : (xs ys : List (Item Atom)) → Below (xs ++ ys) → Below xs × Below ys
  apart xs ys all = parts (λ r. r < n) (refs xs) (refs ys) (subst (AllByRecursion (λ r. r < n)) (flat_map-append refs_in xs ys) all)

  same-value : (e : Expression Atom) → Below (postfix e) → value f e ≡ value g e
  same-value (Leaf (Atom.Number k)) all = refl
  same-value (Leaf (Atom.Ref r)) all = ap (λ p. p % modulus) (same r all.0)
  same-value (Prefix op a) all = ap (unary op) (same-value a (apart (postfix a) (Item.Unary op ∷ []) all).0)
  same-value (Infix op a b) all =
      let both = apart (postfix a) (postfix b) (apart (postfix a ++ postfix b) (Item.Binary op ∷ []) all).0 in
      ap (λ v. binary op v (value f b)) (same-value a both.0) ∙ ap (binary op (value g a)) (same-value b both.1)

  same-hole : (blank bytes : List ℕ) (h : Hole) → IsHole n blank h → fill_one f bytes h ≡ fill_one g bytes h
  same-hole blank bytes h rules =
      let same_value = same-value (tree h.value) (subst Below (sym (spelled_tree h.value rules.expr)) (recursion_from_All (λ r. r < n) (refs h.value) rules.refs)) in
      ap (λ v. take h.offset bytes ++ (written h.width v ++ drop (h.offset + length (written h.width v)) bytes)) same_value

  same-filled : (blank bytes : List ℕ) (hs : List Hole) → AllByRecursion (IsHole n blank) hs → filled f bytes hs ≡ filled g bytes hs
  same-filled blank bytes [] rules = refl
  same-filled blank bytes (h ∷ hs) rules = ap (λ bs. filled f bs hs) (same-hole blank bytes h rules.0) ∙ same-filled blank (fill_one g bytes h) hs rules.1

  -- bytes of a statement at one list of addresses are its bytes at another that agrees on its refs
  pub moved : (at at' : ℕ) (long grow : Bool) (s : ModuleStatement) (bytes : List ℕ) → at ≡ at' → IsModuleStatement grow n s → IsLinkedPiece at long f s bytes → IsLinkedPiece at' long g s bytes
  moved at at' long grow (object.Bytes blank holes) bytes e rules piece = piece ∙ same-filled blank blank holes (recursion_from_All (IsHole n blank) holes rules.2)
  moved at at' true grow (object.Jump marked condition target) bytes e rules piece = subst (λ to. Codes (long_jump condition to) bytes) (same target rules.1) piece
  moved at at' false grow (object.Jump marked condition target) bytes e rules piece = rw (← e, ← same target rules.1) piece
  moved at at' long grow (object.Short branch target) bytes e rules piece = rw (← e, ← same target rules.1) piece
  moved at at' long grow (object.Space size fill) bytes e rules piece = piece
