-- An expression whose names are replaced has the same value as the one that the line describes.
use Rattle.std.proofs.Common.{◌≡◌, ℕ, List, [], ◌∷◌, Option, Some, None, Ok, sym, ap, ◌∙◌}
use Rattle.asm_parse.specs.declared.item.Item.{Item}
use Rattle.asm_parse.specs.Expression.{Expression, Leaf, Prefix, Infix, postfix}
use Rattle.asm_parse.specs.Source.{Operand, Number, Name, Here}
use Rattle.asm_expr.specs.declared.answer.Settled.{Settled}
use Rattle.asm_expr.specs.Below.{Atom, value, tree}
use Rattle.asm_expr.specs.declared.meaning.Meaning.{Meaning}
use Rattle.asm_expr.specs.declared.unknown.Unknown.{Unknown}
use Rattle.asm_expr.specs.Types.{Worth}
use Rattle.asm_expr.specs.Distances.{Step}
use Rattle.asm_expr.specs.Names.{Table, found}
use Rattle.asm_expr.specs.Settling.{fault, items_known, known, meant, reduced, replaced, settled, standing, unknown_of, worth}
use Rattle.asm_expr.specs.Private.Folding.{root, worth_of}
use Rattle.asm_expr.proofs.Answers.{items_back}
use Rattle.asm_expr.proofs.Fixed.{same}
use Rattle.asm_expr.proofs.Folds.{worth-reduced}
use Rattle.asm_expr.proofs.Guards.{reduced_number}
use Rattle.asm_expr.proofs.Known.{object_tree}
use Rattle.asm_expr.proofs.Below.{one_expression, tree-postfix}
use Rattle.asm_stmt.specs.Fields.{number}
use Rattle.asm_stmt.proofs.Making.{answered_items}
use Rattle.asm_module.specs.Program.Statement as statement
use Rattle.asm_module.specs.Program.Statement.{of_settled, with_meant}

-- Different expressions of an object file stay different when they are seen as expressions that may lack a value.
known_one : (x y : Expression Atom) → known x ≡ known y → x ≡ y
known_one (Leaf (Atom.Number m)) (Leaf (Atom.Number n)) is = let same : m ≡ n = cc in ap (λ k. Leaf (Atom.Number k)) same
known_one (Leaf (Atom.Number m)) (Leaf (Atom.Ref n)) is = cc
known_one (Leaf (Atom.Ref m)) (Leaf (Atom.Number n)) is = cc
known_one (Leaf (Atom.Ref m)) (Leaf (Atom.Ref n)) is = let same : m ≡ n = cc in ap (λ k. Leaf (Atom.Ref k)) same
known_one (Leaf (Atom.Number m)) (Prefix op b) is = cc
known_one (Leaf (Atom.Ref m)) (Prefix op b) is = cc
known_one (Leaf (Atom.Number m)) (Infix op b d) is = cc
known_one (Leaf (Atom.Ref m)) (Infix op b d) is = cc
known_one (Prefix op a) (Leaf (Atom.Number n)) is = cc
known_one (Prefix op a) (Leaf (Atom.Ref n)) is = cc
known_one (Prefix op a) (Prefix o b) is =
    let operator : op ≡ o = cc in
    let operand : known a ≡ known b = cc in
    ap (λ p. Prefix p a) operator ∙ ap (Prefix o) (known_one a b operand)
known_one (Prefix op a) (Infix o b d) is = cc
known_one (Infix op a c) (Leaf (Atom.Number n)) is = cc
known_one (Infix op a c) (Leaf (Atom.Ref n)) is = cc
known_one (Infix op a c) (Prefix o b) is = cc
known_one (Infix op a c) (Infix o b d) is =
    let operator : op ≡ o = cc in
    let left : known a ≡ known b = cc in
    let right : known c ≡ known d = cc in
    ap (λ p. Infix p a c) operator ∙ ap (λ x. Infix o x c) (known_one a b left) ∙ ap (Infix o b) (known_one c d right)

-- What a name stands for is the same expression by both definitions.
standing_same : (s : Settled) (x : Expression Atom) → standing s ≡ known x → of_settled s ≡ x
standing_same (Settled.Known items) x is = known_one (tree items) x is
standing_same (Settled.Unknown what) (Leaf (Atom.Number n)) is = cc
standing_same (Settled.Unknown what) (Leaf (Atom.Ref n)) is = cc
standing_same (Settled.Unknown what) (Prefix op a) is = cc
standing_same (Settled.Unknown what) (Infix op a b) is = cc

no_value : (u : Unknown) (x y : Expression Atom) → standing (Settled.Unknown u) ≡ known x → y ≡ x
no_value u (Leaf (Atom.Number n)) y is = cc
no_value u (Leaf (Atom.Ref n)) y is = cc
no_value u (Prefix op a) y is = cc
no_value u (Infix op a b) y is = cc

meant_same : (m : Option Meaning) (x : Expression Atom) → meant m ≡ known x → statement.meant_expression m ≡ x
meant_same (Some (Meaning.Label r)) x is = known_one (Leaf (Atom.Ref r)) x is
meant_same (Some (Meaning.External r)) x is = known_one (Leaf (Atom.Ref r)) x is
meant_same (Some (Meaning.Constant n)) x is = known_one (Leaf (Atom.Number n)) x is
meant_same (Some Meaning.UnknownConstant) x is = no_value Unknown.Number x _ is
meant_same (Some (Meaning.Equ equated)) x is = standing_same equated.settled x is
meant_same (Some Meaning.Faulty) x is = no_value Unknown.Anything x _ is
meant_same None x is = no_value Unknown.Anything x _ is

pub whole_same : (t : Table) (e : Expression Operand) (x : Expression Atom) → replaced t e ≡ known x → with_meant t e ≡ x
whole_same t (Leaf (Number n)) x is = known_one (Leaf (Atom.Number n)) x is
whole_same t (Leaf (Name name)) x is = meant_same (found t name) x is
whole_same t (Leaf Here) x is = known_one (Leaf (Atom.Ref t.here)) x is
whole_same t (Prefix op a) (Leaf (Atom.Number n)) is = cc
whole_same t (Prefix op a) (Leaf (Atom.Ref n)) is = cc
whole_same t (Prefix op a) (Prefix o y) is =
    let operator : op ≡ o = cc in
    let operand : replaced t a ≡ known y = cc in
    ap (λ p. Prefix p (with_meant t a)) operator ∙ ap (Prefix o) (whole_same t a y operand)
whole_same t (Prefix op a) (Infix o y z) is = cc
whole_same t (Infix op a b) (Leaf (Atom.Number n)) is = cc
whole_same t (Infix op a b) (Leaf (Atom.Ref n)) is = cc
whole_same t (Infix op a b) (Prefix o y) is = cc
whole_same t (Infix op a b) (Infix o y z) is =
    let operator : op ≡ o = cc in
    let left : replaced t a ≡ known y = cc in
    let right : replaced t b ≡ known z = cc in
    ap (λ p. Infix p (with_meant t a) (with_meant t b)) operator ∙ ap (λ x. Infix o x (with_meant t b)) (whole_same t a y left) ∙ ap (Infix o y) (whole_same t b z right)

-- The value of the items that replacing gives is that of the expression.
pub settled_value : (t : Table) (e : Expression Operand) (items : List (Item Atom)) → settled t e ≡ Ok (Settled.Known items) → (places : ℕ → ℕ) → Step t.statements places
    → value places (tree items) ≡ value places (with_meant t e)
settled_value t e items is places step =
    let found = answered_items (fault t e) (items_known (postfix (reduced t (replaced t e)))) (unknown_of (reduced t (replaced t e))) items is in
    let object = object_tree items (reduced t (replaced t e)) (items_back (postfix (reduced t (replaced t e))) items found) in
    let whole = same t (replaced t e) object.0 object.1 in
    ap (value places) (tree-postfix items object.0 object.2) ∙ whole.value places step ∙ ap (value places) (sym (whole_same t e whole.whole whole.known))

-- The items are one number.
pub number_is : (items : List (Item Atom)) (n : ℕ) → number items ≡ Some n → items ≡ Item.Leaf (Atom.Number n) ∷ []
number_is [] n is = cc
number_is (Item.Leaf (Atom.Number m) ∷ []) n is = let same : m ≡ n = cc in ap (λ k. Item.Leaf (Atom.Number k) ∷ []) same
number_is (Item.Leaf (Atom.Number m) ∷ y ∷ ys) n is = cc
number_is (Item.Leaf (Atom.Ref r) ∷ ys) n is = cc
number_is (Item.Unary op ∷ ys) n is = cc
number_is (Item.Binary op ∷ ys) n is = cc

pub number_value : (places : ℕ → ℕ) (items : List (Item Atom)) (n : ℕ) → number items ≡ Some n → value places (tree items) ≡ n
number_value places items n is = ap (λ xs. value places (tree xs)) (number_is items n is)

-- The value of a fixed expression is its number, at any addresses.
pub fixed_value : (t : Table) (e : Expression Operand) (n : ℕ) → worth t (replaced t e) ≡ Worth.Number n → (places : ℕ → ℕ) → Step t.statements places → value places (with_meant t e) ≡ n
fixed_value t e n is places step =
    let whole = same t (replaced t e) (Leaf (Atom.Number n)) (reduced_number t (replaced t e) n is) in
    ap (value places) (whole_same t e whole.whole whole.known) ∙ sym (whole.value places step)

pub settled_worth : (t : Table) (e : Expression Operand) (items : List (Item Atom)) (n : ℕ) → settled t e ≡ Ok (Settled.Known items) → number items ≡ Some n → worth t (replaced t e) ≡ Worth.Number n
settled_worth t e items n is one =
    let found = answered_items (fault t e) (items_known (postfix (reduced t (replaced t e)))) (unknown_of (reduced t (replaced t e))) items is in
    let object = object_tree items (reduced t (replaced t e)) (items_back (postfix (reduced t (replaced t e))) items found) in
    sym (worth-reduced t (replaced t e)) ∙ ap (λ x. worth_of (root x)) (object.1 ∙ ap known (one_expression object.0 (Leaf (Atom.Number n)) (object.2 ∙ number_is items n one)))
