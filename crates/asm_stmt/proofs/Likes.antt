-- The size of a statement depends only on the kinds of its names.
use Rattle.std.proofs.Common.{◌≡◌, ℕ, ◌&&◌, Bool, true, false, List, [], ◌∷◌, ◌++◌, Option, Some, None, Result, Ok, Err, if◌then◌else◌, refl, sym, ap, ◌∙◌}
use Rattle.std.specs.List.{Contains, list_all}
use Rattle.std.proofs.lemmas.Bool.{false≢true}
use Rattle.std.proofs.lemmas.List.Folds.{list_all-append}
use Rattle.std.proofs.lemmas.List.Sums.{AllPass-from_list_all}
use Rattle.common.specs.Results.{◌>>=◌}
use Rattle.asm_parse.specs.declared.item.Item.{Item}
use Rattle.asm_parse.specs.Expression.{Expression, Leaf, Prefix, Infix, postfix}
use Rattle.asm_parse.specs.Source.{Operand, Number, Name, Here}
use Rattle.asm_expr.specs.declared.answer.Settled.{Settled}
use Rattle.asm_expr.specs.Below.{Atom}
use Rattle.asm_expr.specs.declared.meaning.Meaning.{Meaning}
use Rattle.asm_expr.specs.Types.{Statement}
use Rattle.asm_expr.specs.Names.{Table, found}
use Rattle.asm_expr.specs.Origins.{AgreeOn, is_number_item, is_number_name}
use Rattle.asm_expr.specs.Below.{source_tree}
use Rattle.asm_expr.specs.Settling.{fault, is_constant_item, is_constant_name, items_known, known, meant, reduced, replaced, settled, unknown_of}
use Rattle.asm_expr.proofs.Answers.{items_back}
use Rattle.asm_expr.proofs.Fixed.{same}
use Rattle.asm_expr.proofs.Below.{and_parts}
use Rattle.asm_expr.proofs.Known.{object_tree}
use Rattle.asm_spell.specs.declared.fault.StmtFault.{StmtFault}
use Rattle.asm_spell.specs.Line as line
use Rattle.asm_stmt.specs.Fields.{as_stmt}
use Rattle.asm_stmt.specs.Made.{ref_of, space_size}
use Rattle.asm_stmt.specs.Sized as size
use Rattle.asm_stmt.specs.Sized.{IsLike, Kind, jump_sized, kind, size_in, space_sized}
use Rattle.asm_stmt.proofs.Making.{answered_items, number_in_ok, space_settled}

-- The size of a JP, by the kind of its target.
abbrev jump_by : Kind → Statement
jump_by size.Place = Statement.Relaxable
jump_by (size.Number n) = Statement.Sized 3
jump_by size.Neither = Statement.Sized 3

jump_kind : (m : Option Meaning) → jump_sized (ref_of m) ≡ jump_by (kind m)
jump_kind None = refl
jump_kind (Some (Meaning.Label r)) = refl
jump_kind (Some (Meaning.External r)) = refl
jump_kind (Some (Meaning.Constant n)) = refl
jump_kind (Some Meaning.UnknownConstant) = refl
jump_kind (Some (Meaning.Equ equated)) = refl
jump_kind (Some Meaning.Faulty) = refl

-- If both tables give each name the same kind, a name that is a number in one is the same number in the other.
abbrev is_number : Kind → Bool
is_number size.Place = false
is_number (size.Number n) = true
is_number size.Neither = false

number_kind : (m : Option Meaning) → is_number_name m ≡ is_number (kind m)
number_kind None = refl
number_kind (Some (Meaning.Label r)) = refl
number_kind (Some (Meaning.External r)) = refl
number_kind (Some (Meaning.Constant n)) = refl
number_kind (Some Meaning.UnknownConstant) = refl
number_kind (Some (Meaning.Equ equated)) = refl
number_kind (Some Meaning.Faulty) = refl

same_number : (m n : Option Meaning) → kind m ≡ kind n → is_number_name m ≡ true → m ≡ n
same_number (Some (Meaning.Constant a)) (Some (Meaning.Constant b)) like so = let same : a ≡ b = cc in ap (λ k. Some (Meaning.Constant k)) same
same_number (Some (Meaning.Constant a)) None like so = cc
same_number (Some (Meaning.Constant a)) (Some (Meaning.Label r)) like so = cc
same_number (Some (Meaning.Constant a)) (Some (Meaning.External r)) like so = cc
same_number (Some (Meaning.Constant a)) (Some Meaning.UnknownConstant) like so = cc
same_number (Some (Meaning.Constant a)) (Some (Meaning.Equ equated)) like so = cc
same_number (Some (Meaning.Constant a)) (Some Meaning.Faulty) like so = cc
same_number None n like so = cc
same_number (Some (Meaning.Label r)) n like so = cc
same_number (Some (Meaning.External r)) n like so = cc
same_number (Some Meaning.UnknownConstant) n like so = cc
same_number (Some (Meaning.Equ equated)) n like so = cc
same_number (Some Meaning.Faulty) n like so = cc

item_like : (t u : Table) → IsLike t u → (x : Item Operand) → is_number_item t x ≡ is_number_item u x
item_like t u like (Item.Leaf (Number n)) = refl
item_like t u like (Item.Leaf (Name name)) = number_kind (found t name) ∙ ap is_number (like name) ∙ sym (number_kind (found u name))
item_like t u like (Item.Leaf Here) = refl
item_like t u like (Item.Unary op) = refl
item_like t u like (Item.Binary op) = refl

pub items_like : (t u : Table) → IsLike t u → (xs : List (Item Operand)) → list_all (is_number_item t) xs ≡ list_all (is_number_item u) xs
items_like t u like [] = refl
items_like t u like (x ∷ xs) = ap (λ b. b && list_all (is_number_item t) xs) (item_like t u like x) ∙ ap (λ b. is_number_item u x && b) (items_like t u like xs)

-- Numbers are constant.
number_constant : (t : Table) (x : Item Operand) → is_number_item t x ≡ true → is_constant_item t x ≡ true
number_constant t (Item.Leaf (Number n)) so = refl
number_constant t (Item.Leaf (Name name)) so = of_name (found t name) so
  where
    of_name : (m : Option Meaning) → is_number_name m ≡ true → is_constant_name m ≡ true
    of_name (Some (Meaning.Constant a)) so = refl
    of_name None so = cc
    of_name (Some (Meaning.Label r)) so = cc
    of_name (Some (Meaning.External r)) so = cc
    of_name (Some Meaning.UnknownConstant) so = cc
    of_name (Some (Meaning.Equ equated)) so = cc
    of_name (Some Meaning.Faulty) so = cc
number_constant t (Item.Leaf Here) so = cc
number_constant t (Item.Unary op) so = refl
number_constant t (Item.Binary op) so = refl

pub numbers_constant : (t : Table) (xs : List (Item Operand)) → list_all (is_number_item t) xs ≡ true → list_all (is_constant_item t) xs ≡ true
numbers_constant t [] all = refl
numbers_constant t (x ∷ xs) all =
    let parts = and_parts (is_number_item t x) (list_all (is_number_item t) xs) all in
    ap (λ b. b && list_all (is_constant_item t) xs) (number_constant t x parts.0) ∙ numbers_constant t xs parts.1

-- The laws of `asm_expr` that are used here.
pub record Laws : Type 0 where
  pub names : (t u : Table) (e : Expression Operand) → AgreeOn (postfix e) t u → settled t e ≡ settled u e
  pub anywhere : (t : Table) (e : Expression Operand) → list_all (is_constant_item t) (postfix e) ≡ true → (here : ℕ) (statements : List Statement)
      → settled (record t { here = here; statements = statements }) e ≡ settled t e

-- If both tables give each name the same kind, they agree on an expression in which each name is a number.
pub agree_like : (t u : Table) → IsLike t u → (e : Expression Operand) → list_all (is_number_item t) (postfix e) ≡ true
    → AgreeOn (postfix e) t (record u { here = t.here; statements = t.statements })
agree_like t u like e all = record { here = refl; statements = refl; names = λ name there. same_number (found t name) (found u name) (like name) (in_list name there) }
  where
    in_list : (name : List ℕ) → Contains (postfix e) (Item.Leaf (Name name)) → is_number_name (found t name) ≡ true
    in_list name there =
        let passes = AllPass-from_list_all (is_number_item t) (postfix e) all there.0 (Item.Leaf (Name name)) there.1 in
        ap (is_number_item t) (sym there.2) ∙ passes

same_settled : Laws → (t u : Table) → IsLike t u → (e : Expression Operand) → list_all (is_number_item t) (postfix e) ≡ true → settled t e ≡ settled u e
same_settled laws t u like e all =
    let among = numbers_constant u (postfix e) (sym (items_like t u like (postfix e)) ∙ all) in
    laws.names t (record u { here = t.here; statements = t.statements }) e (agree_like t u like e all) ∙ laws.anywhere u e among t.here t.statements

-- In a constant expression that has a value, each name is a number.
module _ (t : Table) where
  no_value : (m : Option Meaning) (w : Expression Atom) → meant m ≡ known w → is_constant_name m ≡ true → is_number_name m ≡ true
  no_value (Some (Meaning.Constant a)) w is constant = refl
  no_value None (Leaf (Atom.Number n)) is constant = cc
  no_value None (Leaf (Atom.Ref n)) is constant = cc
  no_value None (Prefix op a) is constant = cc
  no_value None (Infix op a b) is constant = cc
  no_value (Some (Meaning.Label r)) w is constant = cc
  no_value (Some (Meaning.External r)) w is constant = cc
  no_value (Some Meaning.UnknownConstant) (Leaf (Atom.Number n)) is constant = cc
  no_value (Some Meaning.UnknownConstant) (Leaf (Atom.Ref n)) is constant = cc
  no_value (Some Meaning.UnknownConstant) (Prefix op a) is constant = cc
  no_value (Some Meaning.UnknownConstant) (Infix op a b) is constant = cc
  no_value (Some (Meaning.Equ equated)) w is constant = cc
  no_value (Some Meaning.Faulty) (Leaf (Atom.Number n)) is constant = cc
  no_value (Some Meaning.Faulty) (Leaf (Atom.Ref n)) is constant = cc
  no_value (Some Meaning.Faulty) (Prefix op a) is constant = cc
  no_value (Some Meaning.Faulty) (Infix op a b) is constant = cc

  pub of_numbers : (e : Expression Operand) (w : Expression Atom) → replaced t e ≡ known w → list_all (is_constant_item t) (postfix e) ≡ true → list_all (is_number_item t) (postfix e) ≡ true
  of_numbers (Leaf (Number n)) w is c = refl
  of_numbers (Leaf Here) w is c = cc
  of_numbers (Leaf (Name name)) w is c = ap (λ b. b && true) (no_value (found t name) w is (and_parts (is_constant_name (found t name)) true c).0)
  of_numbers (Prefix op a) (Leaf (Atom.Number n)) is c = cc
  of_numbers (Prefix op a) (Leaf (Atom.Ref n)) is c = cc
  of_numbers (Prefix op a) (Infix o x y) is c = cc
  of_numbers (Prefix op a) (Prefix o x) is c =
      let operand : replaced t a ≡ known x = cc in
      let parts = and_parts _ _ (sym (list_all-append (is_constant_item t) (postfix a) (Item.Unary op ∷ [])) ∙ c) in
      list_all-append (is_number_item t) (postfix a) (Item.Unary op ∷ []) ∙ ap (λ b. b && true) (of_numbers a x operand parts.0)
  of_numbers (Infix op a b) (Leaf (Atom.Number n)) is c = cc
  of_numbers (Infix op a b) (Leaf (Atom.Ref n)) is c = cc
  of_numbers (Infix op a b) (Prefix o x) is c = cc
  of_numbers (Infix op a b) (Infix o x y) is c =
      let left : replaced t a ≡ known x = cc in
      let right : replaced t b ≡ known y = cc in
      let parts = and_parts _ _ (sym (list_all-append (is_constant_item t) (postfix a ++ postfix b) (Item.Binary op ∷ [])) ∙ c) in
      let sides = and_parts _ _ (sym (list_all-append (is_constant_item t) (postfix a) (postfix b)) ∙ parts.0) in
      list_all-append (is_number_item t) (postfix a ++ postfix b) (Item.Binary op ∷ [])
      ∙ ap (λ p. p && true) (list_all-append (is_number_item t) (postfix a) (postfix b) ∙ ap (λ p. p && list_all (is_number_item t) (postfix b)) (of_numbers a x left sides.0) ∙ of_numbers b y right sides.1)

-- if the expression has a value, so has each part of it
pub whole_known : (t : Table) (e : Expression Operand) (items : List (Item Atom)) → settled t e ≡ Ok (Settled.Known items) → (w : Expression Atom) × (replaced t e ≡ known w)
whole_known t e items is =
    let found = answered_items (fault t e) (items_known (postfix (reduced t (replaced t e)))) (unknown_of (reduced t (replaced t e))) items is in
    let object = object_tree items (reduced t (replaced t e)) (items_back (postfix (reduced t (replaced t e))) items found) in
    let whole = same t (replaced t e) object.0 object.1 in
    (whole.whole, whole.known)

-- If the size of a DS is known, each name in it is a number.
known_of_numbers : (t : Table) (e : line.ExpressionItems) (n : ℕ) → size_in (space_size t e) ≡ Some n → list_all (is_number_item t) (postfix (source_tree e)) ≡ true
known_of_numbers t e n is = by_answer (space_size t e) refl is
  where
    by_answer : (r : Result Settled StmtFault) → space_size t e ≡ r → size_in r ≡ Some n → list_all (is_number_item t) (postfix (source_tree e)) ≡ true
    by_answer (Err why) was is = cc
    by_answer (Ok s) was is =
        let items = number_in_ok s n is in
        let so = space_settled t e s was in
        let whole = whole_known t (source_tree e) items.0 (so.0 ∙ ap (λ x. Ok x) items.1) in
        of_numbers t (source_tree e) whole.0 whole.1 so.1

space_same : Laws → (t u : Table) → IsLike t u → (e : line.ExpressionItems) → list_all (is_number_item t) (postfix (source_tree e)) ≡ true → space_size t e ≡ space_size u e
space_same laws t u like e all =
    let there = sym (items_like t u like (postfix (source_tree e))) ∙ all in
    ap (λ r. as_stmt r >>= λ s. if list_all (is_constant_item t) (postfix (source_tree e)) then Ok s else Err StmtFault.SizeNamesLabel) (same_settled laws t u like (source_tree e) all)
    ∙ ap (λ b. as_stmt (settled u (source_tree e)) >>= λ s. if b then Ok s else Err StmtFault.SizeNamesLabel) (numbers_constant t (postfix (source_tree e)) all ∙ sym (numbers_constant u (postfix (source_tree e)) there))

size_same : Laws → (t u : Table) → IsLike t u → (e : line.ExpressionItems) → size_in (space_size t e) ≡ size_in (space_size u e)
size_same laws t u like e = by_test (list_all (is_number_item t) (postfix (source_tree e))) refl
  where
    none : (v : Table) → list_all (is_number_item v) (postfix (source_tree e)) ≡ false → (o : Option ℕ) → size_in (space_size v e) ≡ o → o ≡ None
    none v other None is = refl
    none v other (Some n) is = absurd (false≢true (sym other ∙ known_of_numbers v e n is))

    by_test : (b : Bool) → list_all (is_number_item t) (postfix (source_tree e)) ≡ b → size_in (space_size t e) ≡ size_in (space_size u e)
    by_test true all = ap size_in (space_same laws t u like e all)
    by_test false other = none t other _ refl ∙ sym (none u (sym (items_like t u like (postfix (source_tree e))) ∙ other) _ refl)

pub like : Laws → (t u : Table) (b : line.Body) → IsLike t u → size.sized t b ≡ size.sized u b
like laws t u (line.Jump condition target) is = ap (λ s. Some s) (jump_kind (found t target) ∙ ap jump_by (is target) ∙ sym (jump_kind (found u target)))
like laws t u (line.Space e fill) is = ap space_sized (size_same laws t u is e)
like laws t u (line.Code instr numbers) is = refl
like laws t u (line.Short branch target) is = refl
like laws t u (line.Bytes values) is = refl
like laws t u (line.Words fields) is = refl
like laws t u b is = refl
