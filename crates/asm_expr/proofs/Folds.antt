-- Reducing item by item is reducing the expression.
use Rattle.std.proofs.Common.{◌≡◌, ℕ, ◌+◌, List, [], ◌∷◌, ◌++◌, Option, Some, None, Result, Ok, if◌then◌else◌, refl, sym, ap, ◌∙◌, arith, append_assoc, append-nil}
use Rattle.asm_expr.specs.Types.{Unary, Binary, Item, ExprFault, Unknown, Worth}
use Rattle.asm_expr.specs.declared.part.Part.{Part}
use Rattle.asm_expr.specs.declared.single.Single.{Single}
use Rattle.common.specs.Results.{◌>>=◌}
use Rattle.asm_parse.specs.Operators.{divides}
use Rattle.asm_parse.specs.Values.Arithmetic.{unary, binary}
use Rattle.asm_parse.specs.Expression.{Expression, Leaf, Prefix, Infix, postfix}
use Rattle.asm_parse.specs.Source.{Operand}
use Rattle.asm_expr.specs.Names.{Table}
use Rattle.asm_expr.specs.Settling.{stands_for, replaced, expression_size, operand_size, single, distance_of, difference, or_else, through, both, worth, leaf_or, reduced, first_of_two, divisor_fault, division_fault, divisions_fault, too_large, fault_behind}
use Rattle.asm_expr.specs.Private.Folding.{root, worth_of, single_of, difference_of, prefixed, joined, item_fault, unless, fold_one, fold_all, settling}

-- The last item of a reduced expression says what is known of it, and whether it is an address.
worth_root : (other : Expression Part) (o : Worth) → worth_of (root other) ≡ Worth.Varies → worth_of (root (leaf_or other o)) ≡ o
worth_root other Worth.Varies varies = varies
worth_root other Worth.Unknown varies = refl
worth_root other (Worth.Number n) varies = refl

pub worth-reduced : (t : Table) (e : Expression Part) → worth_of (root (reduced t e)) ≡ worth t e
worth-reduced t (Leaf (Part.Number n)) = refl
worth-reduced t (Leaf (Part.Ref r)) = refl
worth-reduced t (Leaf (Part.Unknown what)) = refl
worth-reduced t (Prefix op a) = worth_root (Prefix op (reduced t a)) _ refl
worth-reduced t (Infix op a b) = worth_root (Infix op (reduced t a) (reduced t b)) _ refl

single_root : (other : Expression Part) (o : Worth) → single_of (root other) ≡ Single.Other → single_of (root (leaf_or other o)) ≡ Single.Other
single_root other Worth.Varies none = none
single_root other Worth.Unknown none = refl
single_root other (Worth.Number n) none = refl

pub single-reduced : (t : Table) (e : Expression Part) → single_of (root (reduced t e)) ≡ single e
single-reduced t (Leaf (Part.Number n)) = refl
single-reduced t (Leaf (Part.Ref r)) = refl
single-reduced t (Leaf (Part.Unknown Unknown.Anything)) = refl
single-reduced t (Leaf (Part.Unknown Unknown.Number)) = refl
single-reduced t (Leaf (Part.Unknown Unknown.Varies)) = refl
single-reduced t (Leaf (Part.Unknown Unknown.VariesInByte)) = refl
single-reduced t (Prefix op a) = single_root (Prefix op (reduced t a)) _ refl
single-reduced t (Infix op a b) = single_root (Infix op (reduced t a) (reduced t b)) _ refl

difference-reduced : (t : Table) (op : Binary) (a b : Expression Part) → difference_of t op (root (reduced t a)) (root (reduced t b)) ≡ difference t op a b
difference-reduced t Binary.Subtract a b =
    ap (λ p. distance_of t p (single_of (root (reduced t b)))) (single-reduced t a) ∙ ap (distance_of t (single a)) (single-reduced t b)
difference-reduced t op a b = refl

pub prefixed-reduced : (t : Table) (op : Unary) (a : Expression Part) → prefixed op (reduced t a) ≡ reduced t (Prefix op a)
prefixed-reduced t op a = ap (λ o. leaf_or (Prefix op (reduced t a)) (through (unary op) o)) (worth-reduced t a)

pub joined-reduced : (t : Table) (op : Binary) (a b : Expression Part) → joined t op (reduced t a) (reduced t b) ≡ reduced t (Infix op a b)
joined-reduced t op a b = ap (leaf_or (Infix op (reduced t a) (reduced t b)))
    (ap (λ d. or_else d (both (binary op) (worth_of (root (reduced t a))) (worth_of (root (reduced t b))))) (difference-reduced t op a b)
    ∙ ap (λ n. or_else (difference t op a b) (both (binary op) n (worth_of (root (reduced t b))))) (worth-reduced t a)
    ∙ ap (λ n. or_else (difference t op a b) (both (binary op) (worth t a) n)) (worth-reduced t b))

pub fault-reduced : (t : Table) (op : Binary) (b : Expression Part) → item_fault op (root (reduced t b)) ≡ division_fault t op b
fault-reduced t op b = ap (λ n. if divides op then divisor_fault n else None) (worth-reduced t b)

unless-first : {A : Type 0} (f g : Option ExprFault) (answer : Result A ExprFault) → unless (first_of_two f g) answer ≡ unless f (unless g answer)
unless-first None g answer = refl
unless-first (Some fault) g answer = refl

unless-then : {A B : Type 0} (f : Option ExprFault) (answer : Result A ExprFault) (go : A → Result B ExprFault) → (unless f answer >>= go) ≡ unless f (answer >>= go)
unless-then None answer go = refl
unless-then (Some fault) answer go = refl

pub fold-postfix : (t : Table) (e : Expression Part) (rest : List (Item Part)) (before : List (Expression Part))
    → fold_all t (postfix e ++ rest) before ≡ unless (divisions_fault t e) (fold_all t rest (reduced t e ∷ before))
fold-postfix t (Leaf part) rest before = refl
fold-postfix t (Prefix op a) rest before =
    ap (λ items. fold_all t items before) (append_assoc (postfix a) (Item.Unary op ∷ []) rest)
    ∙ fold-postfix t a (Item.Unary op ∷ rest) before
    ∙ ap (λ e. unless (divisions_fault t a) (fold_all t rest (e ∷ before))) (prefixed-reduced t op a)
fold-postfix t (Infix op a b) rest before =
    let split : (postfix a ++ postfix b) ++ Item.Binary op ∷ [] ++ rest ≡ postfix a ++ (postfix b ++ Item.Binary op ∷ rest) = simp append_assoc in
    let last : fold_all t (Item.Binary op ∷ rest) (reduced t b ∷ reduced t a ∷ before) ≡ unless (division_fault t op b) (fold_all t rest (reduced t (Infix op a b) ∷ before)) =
    unless-then (item_fault op (root (reduced t b))) _ _
    ∙ ap (λ f. unless f (fold_all t rest (joined t op (reduced t a) (reduced t b) ∷ before))) (fault-reduced t op b)
    ∙ ap (λ e. unless (division_fault t op b) (fold_all t rest (e ∷ before))) (joined-reduced t op a b) in
    ap (λ items. fold_all t items before) split
    ∙ fold-postfix t a (postfix b ++ Item.Binary op ∷ rest) before
    ∙ ap (unless (divisions_fault t a)) (fold-postfix t b (Item.Binary op ∷ rest) (reduced t a ∷ before) ∙ ap (unless (divisions_fault t b)) last ∙ sym (unless-first (divisions_fault t b) (division_fault t op b) _))
    ∙ sym (unless-first (divisions_fault t a) (first_of_two (divisions_fault t b) (division_fault t op b)) _)

pub fold-whole : (t : Table) (e : Expression Part) (before : List (Expression Part)) → fold_all t (postfix e) before ≡ unless (divisions_fault t e) (Ok (reduced t e ∷ before))
fold-whole t e before = ap (λ items. fold_all t items before) (sym (append-nil (postfix e))) ∙ fold-postfix t e [] before

-- the step of an infix operator, which is the m-th term or operator
abbrev settling_last : Table → Binary → List (Item Operand) → ℕ → List (Expression Part) → Result (List (Expression Part)) ExprFault
settling_last t op rest m before = unless (too_large m) ((fold_one t (Item.Binary op) before >>= λ now. fold_all t [] now) >>= λ now. settling t rest m now)

pub settling-postfix : (t : Table) (e : Expression Operand) (rest : List (Item Operand)) (n : ℕ) (before : List (Expression Part))
    → settling t (postfix e ++ rest) n before ≡ unless (fault_behind n t e) (settling t rest (n + expression_size t e) (reduced t (replaced t e) ∷ before))
settling-postfix t (Leaf operand) rest n before =
    let m = n + operand_size t operand in
    ap (λ r. unless (too_large m) (r >>= λ now. settling t rest m now)) (fold-whole t (stands_for t operand) before)
    ∙ ap (unless (too_large m)) (unless-then (divisions_fault t (stands_for t operand)) _ _)
    ∙ sym (unless-first (too_large m) (divisions_fault t (stands_for t operand)) _)
settling-postfix t (Prefix op a) rest n before =
    let sum : (n + expression_size t a) + 1 ≡ n + (expression_size t a + 1) = omega arith in
    ap (λ items. settling t items n before) (append_assoc (postfix a) (Item.Unary op ∷ []) rest)
    ∙ settling-postfix t a (Item.Unary op ∷ rest) n before
    ∙ ap (λ k. unless (fault_behind n t a) (unless (too_large k) (settling t rest k (prefixed op (reduced t (replaced t a)) ∷ before)))) sum
    ∙ ap (λ e. unless (fault_behind n t a) (unless (too_large (n + (expression_size t a + 1))) (settling t rest (n + (expression_size t a + 1)) (e ∷ before)))) (prefixed-reduced t op (replaced t a))
    ∙ sym (unless-first (fault_behind n t a) (too_large (n + (expression_size t a + 1))) _)
settling-postfix t (Infix op a b) rest n before =
    let fa = fault_behind n t a in
    let fb = fault_behind (n + expression_size t a) t b in
    let k = n + ((expression_size t a + expression_size t b) + 1) in
    let d = division_fault t op (replaced t b) in
    let ra = reduced t (replaced t a) in
    let rb = reduced t (replaced t b) in
    let sum : ((n + expression_size t a) + expression_size t b) + 1 ≡ n + ((expression_size t a + expression_size t b) + 1) = omega arith in
    let split : (postfix a ++ postfix b) ++ Item.Binary op ∷ [] ++ rest ≡ postfix a ++ (postfix b ++ Item.Binary op ∷ rest) = simp append_assoc in
    let last : settling t (Item.Binary op ∷ rest) ((n + expression_size t a) + expression_size t b) (rb ∷ ra ∷ before)
    ≡ unless (too_large k) (unless d (settling t rest k (reduced t (replaced t (Infix op a b)) ∷ before))) =
    ap (λ m. settling_last t op rest m (rb ∷ ra ∷ before)) sum
    ∙ ap (λ r. unless (too_large k) (r >>= λ now. settling t rest k now)) (unless-then (item_fault op (root rb)) (Ok (joined t op ra rb ∷ before)) (λ now. fold_all t [] now))
    ∙ ap (unless (too_large k)) (unless-then (item_fault op (root rb)) (Ok (joined t op ra rb ∷ before)) (λ now. settling t rest k now)
    ∙ ap (λ f. unless f (settling t rest k (joined t op ra rb ∷ before))) (fault-reduced t op (replaced t b))
    ∙ ap (λ e. unless d (settling t rest k (e ∷ before))) (joined-reduced t op (replaced t a) (replaced t b))) in
    ap (λ items. settling t items n before) split
    ∙ settling-postfix t a (postfix b ++ Item.Binary op ∷ rest) n before
    ∙ ap (unless fa) (settling-postfix t b (Item.Binary op ∷ rest) (n + expression_size t a) (ra ∷ before) ∙ ap (unless fb) (last ∙ sym (unless-first (too_large k) d _)) ∙ sym (unless-first fb (first_of_two (too_large k) d) _))
    ∙ sym (unless-first fa (first_of_two fb (first_of_two (too_large k) d)) _)

-- What settling all items of an expression gives.
pub settling-whole : (t : Table) (e : Expression Operand) → settling t (postfix e) 0 [] ≡ unless (fault_behind 0 t e) (Ok (reduced t (replaced t e) ∷ []))
settling-whole t e = ap (λ items. settling t items 0 []) (sym (append-nil (postfix e))) ∙ settling-postfix t e [] 0 []
