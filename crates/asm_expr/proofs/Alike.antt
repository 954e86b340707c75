-- Two tables settle an expression in the same way if its leaves stand for the same in both.
use Rattle.std.proofs.Common.{◌≡◌, ℕ, ◌+◌, Bool, true, [], ◌∷◌, ◌++◌, None, Ok, if◌then◌else◌, ◌&&◌, refl, sym, ap, ◌∙◌}
use Rattle.std.specs.List.{list_all}
use Rattle.std.proofs.lemmas.List.Folds.{list_all-append}
use Rattle.common.specs.Results.{◌>>=◌}
use Rattle.asm_expr.specs.Types.{Item, Binary, Meaning, Settled}
use Rattle.asm_expr.specs.declared.part.Part.{Part}
use Rattle.asm_parse.specs.Operators.{divides}
use Rattle.asm_parse.specs.Expression.{Expression, Leaf, Prefix, Infix, postfix}
use Rattle.asm_parse.specs.Source.{Operand}
use Rattle.asm_expr.specs.Names.{Table}
use Rattle.asm_expr.specs.Settling.{division_fault, divisions_fault, divisor_fault, fault_behind, first_of_two, is_constant_item, items_known, leaf_or, reduced, replaced, settled, settled_as, expression_size, operand_size, stands_for, too_large, unknown_of, unless_fault, worth}
use Rattle.asm_expr.specs.Equating.{constant_of, equated, meaning_of}
use Rattle.asm_expr.proofs.Origins.{Places}

-- A leaf stands for the same in both tables, and each ref in it has the property.
pub record IsAlike (t u : Table) (P : ℕ → Type 0) (operand : Operand) : Type 0 where
  pub part : stands_for t operand ≡ stands_for u operand
  pub size : operand_size t operand ≡ operand_size u operand
  pub constant : is_constant_item t (Item.Leaf operand) ≡ is_constant_item u (Item.Leaf operand)
  pub places : Places P (stands_for u operand)

-- That holds for each leaf of an expression.
abbrev pub AreAlike : Table → Table → (ℕ → Type 0) → Expression Operand → Type 0
AreAlike t u P (Leaf operand) = IsAlike t u P operand
AreAlike t u P (Prefix op a) = AreAlike t u P a
AreAlike t u P (Infix op a b) = AreAlike t u P a × AreAlike t u P b

-- In both tables the same is known of each expression whose refs have the property.
abbrev pub WeighAlike : Table → Table → (ℕ → Type 0) → Type 0
WeighAlike t u P = (e : Expression Part) → Places P e → worth t e ≡ worth u e

module _ (t u : Table) (P : ℕ → Type 0) (weigh : WeighAlike t u P) where
  pub same_reduced : (e : Expression Part) → Places P e → reduced t e ≡ reduced u e
  same_reduced (Leaf part) p = refl
  same_reduced (Prefix op a) p =
      ap (λ x. leaf_or (Prefix op x) (worth t (Prefix op a))) (same_reduced a p) ∙ ap (leaf_or (Prefix op (reduced u a))) (weigh (Prefix op a) p)
  same_reduced (Infix op a b) p =
      ap (λ x. leaf_or (Infix op x (reduced t b)) (worth t (Infix op a b))) (same_reduced a p.0)
      ∙ ap (λ x. leaf_or (Infix op (reduced u a) x) (worth t (Infix op a b))) (same_reduced b p.1)
      ∙ ap (leaf_or (Infix op (reduced u a) (reduced u b))) (weigh (Infix op a b) p)

  same_division : (op : Binary) (b : Expression Part) → Places P b → division_fault t op b ≡ division_fault u op b
  same_division op b p = ap (λ w. if divides op then divisor_fault w else None) (weigh b p)

  pub same_divisions : (e : Expression Part) → Places P e → divisions_fault t e ≡ divisions_fault u e
  same_divisions (Leaf part) p = refl
  same_divisions (Prefix op a) p = same_divisions a p
  same_divisions (Infix op a b) p =
      ap (λ f. first_of_two f (first_of_two (divisions_fault t b) (division_fault t op b))) (same_divisions a p.0)
      ∙ ap (λ f. first_of_two (divisions_fault u a) (first_of_two f (division_fault t op b))) (same_divisions b p.1)
      ∙ ap (λ f. first_of_two (divisions_fault u a) (first_of_two (divisions_fault u b) f)) (same_division op b p.1)

  pub same_replaced : (e : Expression Operand) → AreAlike t u P e → replaced t e ≡ replaced u e
  same_replaced (Leaf operand) alike = alike.part
  same_replaced (Prefix op a) alike = ap (Prefix op) (same_replaced a alike)
  same_replaced (Infix op a b) alike = ap (λ x. Infix op x (replaced t b)) (same_replaced a alike.0) ∙ ap (Infix op (replaced u a)) (same_replaced b alike.1)

  replaced_places : (e : Expression Operand) → AreAlike t u P e → Places P (replaced u e)
  replaced_places (Leaf operand) alike = alike.places
  replaced_places (Prefix op a) alike = replaced_places a alike
  replaced_places (Infix op a b) alike = (replaced_places a alike.0, replaced_places b alike.1)

  same_size : (e : Expression Operand) → AreAlike t u P e → expression_size t e ≡ expression_size u e
  same_size (Leaf operand) alike = alike.size
  same_size (Prefix op a) alike = ap (λ n. n + 1) (same_size a alike)
  same_size (Infix op a b) alike = ap (λ n. (n + expression_size t b) + 1) (same_size a alike.0) ∙ ap (λ n. (expression_size u a + n) + 1) (same_size b alike.1)

  same_fault : (n : ℕ) (e : Expression Operand) → AreAlike t u P e → fault_behind n t e ≡ fault_behind n u e
  same_fault n (Leaf operand) alike =
      ap (λ k. first_of_two (too_large (n + k)) (divisions_fault t (stands_for t operand))) alike.size
      ∙ ap (λ x. first_of_two (too_large (n + operand_size u operand)) (divisions_fault t x)) alike.part
      ∙ ap (first_of_two (too_large (n + operand_size u operand))) (same_divisions (stands_for u operand) alike.places)
  same_fault n (Prefix op a) alike =
      ap (λ f. first_of_two f (too_large (n + expression_size t (Prefix op a)))) (same_fault n a alike)
      ∙ ap (λ k. first_of_two (fault_behind n u a) (too_large (n + k))) (same_size (Prefix op a) alike)
  same_fault n (Infix op a b) alike =
      let division : division_fault t op (replaced t b) ≡ division_fault u op (replaced u b) =
      ap (division_fault t op) (same_replaced b alike.1) ∙ same_division op (replaced u b) (replaced_places b alike.1) in
      ap (λ f. first_of_two f (first_of_two (fault_behind (n + expression_size t a) t b) (first_of_two (too_large (n + expression_size t (Infix op a b))) (division_fault t op (replaced t b))))) (same_fault n a alike.0)
      ∙ ap (λ k. first_of_two (fault_behind n u a) (first_of_two (fault_behind (n + k) t b) (first_of_two (too_large (n + expression_size t (Infix op a b))) (division_fault t op (replaced t b))))) (same_size a alike.0)
      ∙ ap (λ f. first_of_two (fault_behind n u a) (first_of_two f (first_of_two (too_large (n + expression_size t (Infix op a b))) (division_fault t op (replaced t b))))) (same_fault (n + expression_size u a) b alike.1)
      ∙ ap (λ k. first_of_two (fault_behind n u a) (first_of_two (fault_behind (n + expression_size u a) u b) (first_of_two (too_large (n + k)) (division_fault t op (replaced t b))))) (same_size (Infix op a b) alike)
      ∙ ap (λ f. first_of_two (fault_behind n u a) (first_of_two (fault_behind (n + expression_size u a) u b) (first_of_two (too_large (n + expression_size u (Infix op a b))) f))) division

  pub settled_alike : (e : Expression Operand) → AreAlike t u P e → settled t e ≡ settled u e
  settled_alike e alike =
      let r : reduced t (replaced t e) ≡ reduced u (replaced u e) =
      ap (reduced t) (same_replaced e alike) ∙ same_reduced (replaced u e) (replaced_places e alike) in
      ap (λ f. unless_fault f (settled_as (items_known (postfix (reduced t (replaced t e)))) (unknown_of (reduced t (replaced t e))))) (same_fault 0 e alike)
      ∙ ap (λ x. unless_fault (fault_behind 0 u e) (settled_as (items_known (postfix x)) (unknown_of x))) r

  pub same_constant : (e : Expression Operand) → AreAlike t u P e → list_all (is_constant_item t) (postfix e) ≡ list_all (is_constant_item u) (postfix e)
  same_constant (Leaf operand) alike = ap (λ b. b && true) alike.constant
  same_constant (Prefix op a) alike =
      list_all-append (is_constant_item t) (postfix a) (Item.Unary op ∷ []) ∙ ap (λ b. b && true) (same_constant a alike)
      ∙ sym (list_all-append (is_constant_item u) (postfix a) (Item.Unary op ∷ []))
  same_constant (Infix op a b) alike =
      list_all-append (is_constant_item t) (postfix a ++ postfix b) (Item.Binary op ∷ [])
      ∙ ap (λ x. x && true) (list_all-append (is_constant_item t) (postfix a) (postfix b)
      ∙ ap (λ x. x && list_all (is_constant_item t) (postfix b)) (same_constant a alike.0)
      ∙ ap (λ x. list_all (is_constant_item u) (postfix a) && x) (same_constant b alike.1)
      ∙ sym (list_all-append (is_constant_item u) (postfix a) (postfix b)))
      ∙ sym (list_all-append (is_constant_item u) (postfix a ++ postfix b) (Item.Binary op ∷ []))

  pub equated_alike : (e : Expression Operand) → AreAlike t u P e → equated t e ≡ equated u e
  equated_alike e alike =
      ap (λ r. r >>= λ s. Ok (meaning_of t e s)) (settled_alike e alike)
      ∙ ap (λ c. settled u e >>= λ s. Ok (meaning_as c s (expression_size t e))) (same_constant e alike)
      ∙ ap (λ k. settled u e >>= λ s. Ok (meaning_as (list_all (is_constant_item u) (postfix e)) s k)) (same_size e alike)
    where
      meaning_as : Bool → Settled → ℕ → Meaning
      meaning_as c s k = if c then constant_of s else Meaning.Equ (record { settled = s; size = k })
