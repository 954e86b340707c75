-- Names that are defined nowhere, in the places where a statement uses names; and what follows if there is none.
use Rattle.std.proofs.Common.{◌≡◌, ℕ, Bool, true, false, ◌||◌, ◌&&◌, List, [], ◌∷◌, Option, Some, None, is_some, map, refl, sym, ap, ◌∙◌, append-nil}
use Rattle.std.specs.Prelude.{is_none}
use Rattle.std.specs.List.{flat_map, list_all, list_any}
use Rattle.std.specs.Option.{option_to_list}
use Rattle.std.proofs.lemmas.List.Folds.{list_any-append}
use Rattle.asm_parse.specs.declared.item.Item.{Item}
use Rattle.asm_parse.specs.Source.{Operand, Number, Name, Here}
use Rattle.asm_expr.specs.Names.{Table, found}
use Rattle.asm_expr.specs.Settling.{is_known}
use Rattle.asm_spell.specs.Line as line
use Rattle.asm_spell.specs.Line.{Body, ExpressionItems, Value}
use Rattle.asm_names.specs.Names.{Names, kind_of_name}
use Rattle.asm_stmt.specs.Made.{AreDefined}
use Rattle.asm_stmt.specs.Private.Defined.{fill_defined, is_defined, operands_defined, value_defined}
use Rattle.asm_stmt.proofs.Passing.{passes}
use Rattle.asm_names.specs.Circles.{names_in}
use Rattle.asm_module.specs.Module.Faults.{used, value_names}
use Rattle.asm_module.specs.Private.Missing.{fill_misses, is_missing, item_misses, tree_misses, value_misses}

pub any_map : {A B : Type 0} (p : B → Bool) (f : A → B) (xs : List A) → list_any p (map f xs) ≡ list_any (λ x. p (f x)) xs
any_map p f [] = refl
any_map p f (x ∷ xs) = ap (λ b. p (f x) || b) (any_map p f xs)

pub any_flat_map : {A B : Type 0} (p : B → Bool) (f : A → List B) (xs : List A) → list_any p (flat_map f xs) ≡ list_any (λ x. list_any p (f x)) xs
any_flat_map p f [] = refl
any_flat_map p f (x ∷ xs) = list_any-append p (f x) (flat_map f xs) ∙ ap (λ b. list_any p (f x) || b) (any_flat_map p f xs)

module _ (names : Names) where
  pub of_items : (e : ExpressionItems) → list_any (item_misses names) e ≡ tree_misses names e
  of_items [] = refl
  of_items (Item.Leaf (Name name) ∷ e) = ap (λ b. is_missing names name || b) (of_items e)
  of_items (Item.Leaf (Number n) ∷ e) = of_items e
  of_items (Item.Leaf Here ∷ e) = of_items e
  of_items (Item.Unary op ∷ e) = of_items e
  of_items (Item.Binary op ∷ e) = of_items e

  pub of_fill : (fill : Option ExpressionItems) → fill_misses names fill ≡ list_any (is_missing names) (flat_map names_in (option_to_list fill))
  of_fill None = refl
  of_fill (Some e) = ap (list_any (is_missing names)) (sym (append-nil (names_in e)))

  pub of_space : (size : ExpressionItems) (fill : Option ExpressionItems) → (tree_misses names size || fill_misses names fill) ≡ list_any (is_missing names) (used (line.Space size fill))
  of_space size fill =
      ap (λ b. tree_misses names size || b) (of_fill fill)
      ∙ sym (list_any-append (is_missing names) (names_in size) (flat_map names_in (option_to_list fill)))

-- If no name is missing, each name stands for something.

or_false : (a b : Bool) → (a || b) ≡ false → (a ≡ false) × (b ≡ false)
or_false false b none = (refl, none)
or_false true b none = absurd cc

any_all : {A : Type 0} (p q : A → Bool) → ((x : A) → p x ≡ false → q x ≡ true) → (xs : List A) → list_any p xs ≡ false → list_all q xs ≡ true
any_all p q one [] none = refl
any_all p q one (x ∷ xs) none =
    let parts = or_false (p x) (list_any p xs) none in
    ap (λ b. b && list_all q xs) (one x parts.0) ∙ any_all p q one xs parts.1

module _ (names : Names) (t : Table) (there : (name : List ℕ) → found t name ≡ None → kind_of_name names name ≡ None) where
  name_known : (name : List ℕ) → is_missing names name ≡ false → is_some (found t name) ≡ true
  name_known name none = elim (found t name) as (λ m. found t name ≡ m → is_some m ≡ true) [
    | Some what ↦ λ is. refl
    | None ↦ λ is. (let missing : is_missing names name ≡ true = ap (λ k. is_none k) (there name is) in absurd cc)
  ] refl

  item_known : (x : Item Operand) → item_misses names x ≡ false → is_known t x ≡ true
  item_known (Item.Leaf (Name name)) none = name_known name none
  item_known (Item.Leaf (Number n)) none = refl
  item_known (Item.Leaf Here) none = refl
  item_known (Item.Unary op) none = refl
  item_known (Item.Binary op) none = refl

  tree_known : (e : ExpressionItems) → tree_misses names e ≡ false → is_defined t e ≡ true
  tree_known e none = any_all (item_misses names) (is_known t) item_known e (of_items names e ∙ none)

  value_known : (v : Value) → value_misses names v ≡ false → value_defined t v ≡ true
  value_known (line.Text text) none = refl
  value_known (line.Byte e) none = tree_known e none

  fill_known : (fill : Option ExpressionItems) → fill_misses names fill ≡ false → fill_defined t fill ≡ true
  fill_known None none = refl
  fill_known (Some e) none = tree_known e none

  one_known : (name : List ℕ) → list_any (is_missing names) (name ∷ []) ≡ false → is_some (found t name) ≡ true
  one_known name none = name_known name (or_false (is_missing names name) false none).0

  operands_known : (b : Body) → list_any (is_missing names) (used b) ≡ false → operands_defined t b ≡ true
  operands_known (line.Code instr numbers) none =
      any_all (λ n. tree_misses names n.1) (λ n. is_defined t n.1) (λ n. tree_known n.1) numbers (sym (any_flat_map (is_missing names) (λ n. names_in n.1) numbers) ∙ none)
  operands_known (line.Jump condition target) none = one_known target none
  operands_known (line.Short branch target) none = one_known target none
  operands_known (line.Bytes values) none =
      any_all (value_misses names) (value_defined t) value_known values (sym (any_flat_map (is_missing names) value_names values) ∙ none)
  operands_known (line.Words fields) none =
      any_all (tree_misses names) (is_defined t) tree_known fields (sym (any_flat_map (is_missing names) names_in fields) ∙ none)
  operands_known (line.Space size fill) none =
      let parts = or_false (tree_misses names size) (fill_misses names fill) (of_space names size fill ∙ none) in
      ap (λ b. b && fill_defined t fill) (tree_known size parts.0) ∙ fill_known fill parts.1
  operands_known (line.Origin e) none = tree_known e none
  operands_known (line.Public list) none = refl
  operands_known (line.External list) none = refl
  operands_known (line.End entry) none = refl
  operands_known line.Z80 none = refl

  pub all_known : (b : Body) → list_any (is_missing names) (used b) ≡ false → AreDefined t b
  all_known b none = (passes t b).0 (operands_known b none)
