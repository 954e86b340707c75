-- What holds while the items of an expression are settled one by one.
use Rattle.std.proofs.Common.{◌≡◌, ℕ, ◌+◌, ◌≤◌, ◌<◌, List, [], ◌∷◌, ◌++◌, Option, Some, None, Result, Ok, Err, length, map, if◌then◌else◌, drop, get_or, refl, sym, ap, ◌∙◌, arith, length-append}
use Rattle.std.proofs.lemmas.List.{at_drop_more, at_drop_all, length-map}
use Rattle.std.proofs.lemmas.Bool.{lt-ltb, le-ltb}
use Rattle.asm_expr.specs.Types.{Item, Atom, ExprFault, Settled, Worth}
use Rattle.asm_expr.specs.declared.part.Part.{Part}
use Rattle.asm_parse.specs.Expression.{Expression, Leaf, Prefix, Infix, postfix}
use Rattle.asm_parse.specs.Values.Postfix.{spread, put, run, only, tree, source_tree}
use Rattle.asm_expr.specs.Names.{AreCounted, IsCounted, Table, found, item_count}
use Rattle.common.specs.Results.{◌>>=◌}
use Rattle.asm_expr.specs.declared.meaning.Meaning.{Meaning}
use Rattle.asm_parse.specs.declared.item.Term.{Term}
use Rattle.std.proofs.Math.ListN.{get_or-map}
use Rattle.asm_parse.specs.Values.Items.{value}
use Rattle.asm_parse.specs.Source.{Operand, Number, Name, Here, AreExpressionItems, source_item}
use Rattle.asm_expr.specs.Settling.{stands_for, standing, meant, size_meant, expression_size, known, known_item, replaced, reduced, worth, divisions_fault, too_large, fault, IsWorth}
use Rattle.asm_expr.specs.Private.Folding.{root, worth_of, item_fault, unless, fold_one, fold_all, joined, prefixed, Folds, IsReduced, items_for, item_size, settling}
use Rattle.asm_parse.specs.Private.Steps.{arity}
use Rattle.asm_expr.proofs.Folds.{fold-whole, settling-whole, worth-reduced}
use Rattle.asm_expr.proofs.Guards.{positive, reduced_shorter, reduced_number, reduced_unknown, small, sound, guarded_postfix, guarded_reduced}
use Rattle.asm_expr.proofs.Fixed.{leaf_unknown, same}
use Rattle.asm_expr.proofs.Constants.{steady}
use Rattle.asm_expr.proofs.Known.{object_tree, known-postfix}
use Rattle.asm_parse.proofs.Postfix.{next, run-one, run-whole, tree-postfix, one_expression}

-- The first `read` items are folded, after the expressions that were there before; `now` are the expressions that are there.
pub record Folded (t : Table) (items : List (Item Part)) (before : List (Expression Part)) (read : ℕ) (out : List (Item Part)) : Type 0 where
  pub now : List (Expression Part)
  pub folds : fold_all t (drop read items) now ≡ fold_all t items before
  pub written : out ≡ spread now
  pub values : List (Expression Part)
  pub runs : run (drop read items) values ≡ run items []
  pub enough : length values ≤ length now

-- The output has at least as many items as the items read so far leave values.
pub record Room (items : List (Item Part)) (read len : ℕ) : Type 0 where
  pub values : List (Expression Part)
  pub runs : run (drop read items) values ≡ run items []
  pub enough : length values ≤ len

put_len : {L : Type 0} (x : Item L) (values now : List (Expression L)) → put x values ≡ Some now → (arity x ≤ length values) × (length now + arity x ≡ length values + 1)
put_len (Item.Leaf l) values now p = let is : Leaf l ∷ values ≡ now = cc in (omega arith, omega (arith, sym (ap length is)))
put_len (Item.Unary op) [] now p = cc
put_len (Item.Unary op) (a ∷ values) now p = let is : Prefix op a ∷ values ≡ now = cc in (omega arith, omega (arith, sym (ap length is)))
put_len (Item.Binary op) [] now p = cc
put_len (Item.Binary op) (b ∷ []) now p = cc
put_len (Item.Binary op) (b ∷ a ∷ values) now p = let is : Infix op a b ∷ values ≡ now = cc in (omega arith, omega (arith, sym (ap length is)))

unless_ok : {A : Type 0} (f : Option ExprFault) (x y : A) → unless f (Ok x) ≡ Ok y → x ≡ y
unless_ok None x y e = cc
unless_ok (Some why) x y e = cc

fold_len : (t : Table) (x : Item Part) (before now : List (Expression Part)) → arity x ≤ length before → fold_one t x before ≡ Ok now → length now + arity x ≡ length before + 1
fold_len t (Item.Leaf a) before now h e = let is : Leaf a ∷ before ≡ now = cc in omega (arith, sym (ap length is))
fold_len t (Item.Unary op) [] now h e = absurd (omega (arith, h))
fold_len t (Item.Unary op) (a ∷ before) now h e = let is : prefixed op a ∷ before ≡ now = cc in omega (arith, sym (ap length is))
fold_len t (Item.Binary op) [] now h e = absurd (omega (arith, h))
fold_len t (Item.Binary op) (b ∷ []) now h e = absurd (omega (arith, h))
fold_len t (Item.Binary op) (b ∷ a ∷ before) now h e =
    let is = unless_ok (item_fault op (root b)) (joined t op a b ∷ before) now e in omega (arith, sym (ap length is))

pub room_start : (items : List (Item Part)) (len : ℕ) → Room items 0 len
room_start items len = record { values = []; runs = refl; enough = omega arith }

pub room_arity : (items : List (Item Part)) (k len : ℕ) (d : Item Part) (left : List (Expression Part)) → run items [] ≡ Some left → k < length items → Room items k len → arity (get_or items k d) ≤ len
room_arity items k len d left whole h r =
    let n = next items k d r.values left whole r.runs h in
    omega (arith, (put_len (get_or items k d) r.values n.0 n.1).0, r.enough)

pub room_next : (items : List (Item Part)) (k len new : ℕ) (d : Item Part) (left : List (Expression Part)) → run items [] ≡ Some left → k < length items → Room items k len
    → len + 1 ≤ new + arity (get_or items k d) → Room items (k + 1) new
room_next items k len new d left whole h r grown =
    let n = next items k d r.values left whole r.runs h in
    let p = put_len (get_or items k d) r.values n.0 n.1 in
    record { values = n.0; runs = n.2; enough = omega (arith, p.0, p.1, r.enough, grown) }

pub folded_start : (t : Table) (items : List (Item Part)) (before : List (Expression Part)) (out : List (Item Part)) → out ≡ spread before → Folded t items before 0 out
folded_start t items before out is = record { now = before; folds = refl; written = is; values = []; runs = refl; enough = omega arith }

pub folded_arity : (t : Table) (items : List (Item Part)) (before : List (Expression Part)) (k : ℕ) (out : List (Item Part)) (d : Item Part) (left : List (Expression Part)) → run items [] ≡ Some left → k < length items
    → (f : Folded t items before k out) → arity (get_or items k d) ≤ length f.now
folded_arity t items before k out d left whole h f =
    let n = next items k d f.values left whole f.runs h in
    omega (arith, (put_len (get_or items k d) f.values n.0 n.1).0, f.enough)

-- the items that are left to fold, one item further
fold_step : (t : Table) (items : List (Item Part)) (k : ℕ) (d : Item Part) (now : List (Expression Part)) (answer : Result (List (Expression Part)) ExprFault) → k < length items → fold_one t (get_or items k d) now ≡ answer
    → fold_all t (drop k items) now ≡ (answer >>= λ after. fold_all t (drop (k + 1) items) after)
fold_step t items k d now answer h is = at_drop_more (λ is. fold_all t is now) items k d h ∙ ap (λ r. r >>= λ after. fold_all t (drop (k + 1) items) after) is

pub folded_next : (t : Table) (items : List (Item Part)) (before : List (Expression Part)) (k : ℕ) (out new : List (Item Part)) (d : Item Part) (left after : List (Expression Part)) → run items [] ≡ Some left → k < length items
    → (f : Folded t items before k out) → fold_one t (get_or items k d) f.now ≡ Ok after → new ≡ spread after → Folded t items before (k + 1) new
folded_next t items before k out new d left after whole h f is written =
    let n = next items k d f.values left whole f.runs h in
    let p = put_len (get_or items k d) f.values n.0 n.1 in
    let q = fold_len t (get_or items k d) f.now after (omega (arith, p.0, f.enough)) is in
    record { now = after; folds = sym (fold_step t items k d f.now (Ok after) h is) ∙ f.folds; written = written; values = n.0; runs = n.2; enough = omega (arith, p.1, q, f.enough) }

pub folded_fault : (t : Table) (items : List (Item Part)) (before : List (Expression Part)) (k : ℕ) (out : List (Item Part)) (d : Item Part) (why : ExprFault) → k < length items
    → (f : Folded t items before k out) → fold_one t (get_or items k d) f.now ≡ Err why → fold_all t items before ≡ Err why
folded_fault t items before k out d why h f is = sym f.folds ∙ fold_step t items k d f.now (Err why) h is

pub folded_refused : (t : Table) (items : List (Item Part)) (before : List (Expression Part)) (k : ℕ) (out new : List (Item Part)) (d : Item Part) (why : ExprFault) → k < length items
    → (f : Folded t items before k out) → Folds (fold_one t (get_or items k d) f.now) {A = Unit {0}} (Err why) new → Folds (fold_all t items before) {A = Unit {0}} (Err why) new
folded_refused t items before k out new d why h f is = folded_fault t items before k out d why h f is

pub folded_end : (t : Table) (items : List (Item Part)) (before : List (Expression Part)) (k : ℕ) (out : List (Item Part)) → length items ≤ k
    → (f : Folded t items before k out) → (now : List (Expression Part)) × (fold_all t items before ≡ Ok now) × (out ≡ spread now)
folded_end t items before k out h f = (f.now, sym f.folds ∙ at_drop_all (λ is. fold_all t is f.now) items k h, f.written)

-- The first `read` items of a source are settled, and stand for `size` terms and operators.
pub record Settles (t : Table) (items : List (Item Operand)) (read size : ℕ) (out : List (Item Part)) : Type 0 where
  pub now : List (Expression Part)
  pub settles : settling t (drop read items) size now ≡ settling t items 0 []
  pub written : out ≡ spread now
  pub values : List (Expression Operand)
  pub runs : run (drop read items) values ≡ run items []
  pub enough : length values ≤ length now
  pub small : size ≤ 64
  pub most : length out ≤ size

pub settles_start : (t : Table) (items : List (Item Operand)) → Settles t items 0 0 []
settles_start t items = record { now = []; settles = refl; written = refl; values = []; runs = refl; enough = omega arith; small = omega arith; most = omega arith }

long : (now : List (Expression Part)) → length now ≤ length (spread now)
long [] = omega arith
long (e ∷ now) = omega (arith, long now, positive e, length-append (spread now) (postfix e))

pub settles_arity : (t : Table) (items : List (Item Operand)) (k size : ℕ) (out : List (Item Part)) (d : Item Operand) (left : List (Expression Operand)) → run items [] ≡ Some left → k < length items
    → (s : Settles t items k size out) → (arity (get_or items k d) ≤ length s.now) × (arity (get_or items k d) ≤ length out)
settles_arity t items k size out d left whole h s =
    let n = next items k d s.values left whole s.runs h in
    let p = put_len (get_or items k d) s.values n.0 n.1 in
    (omega (arith, p.0, s.enough), omega (arith, p.0, s.enough, long s.now, ap length s.written))

-- the items that are left to settle, one item further
settling_step : (t : Table) (items : List (Item Operand)) (k size : ℕ) (d : Item Operand) (now : List (Expression Part)) → k < length items
    → settling t (drop k items) size now ≡ unless (too_large (size + item_size t (get_or items k d)))
    (fold_all t (items_for t (get_or items k d)) now >>= λ after. settling t (drop (k + 1) items) (size + item_size t (get_or items k d)) after)
settling_step t items k size d now h = at_drop_more (λ is. settling t is size now) items k d h

pub not_large : (n : ℕ) → n ≤ 64 → too_large n ≡ None
not_large n h = ap (λ b. if b then Some ExprFault.TooLarge else None) (le-ltb 64 n h)

large : (n : ℕ) → 64 < n → too_large n ≡ Some ExprFault.TooLarge
large n h = ap (λ b. if b then Some ExprFault.TooLarge else None) (lt-ltb 64 n h)

then_ok : (r : Result (List (Expression Part)) ExprFault) → (r >>= λ now. Ok now) ≡ r
then_ok (Ok x) = refl
then_ok (Err why) = refl

-- An item leaves as many expressions when it is folded as when it is not.
for_len : (t : Table) (x : Item Operand) (before now : List (Expression Part)) → arity x ≤ length before → fold_all t (items_for t x) before ≡ Ok now → length now + arity x ≡ length before + 1
for_len t (Item.Leaf operand) before now h e =
    let is = unless_ok (divisions_fault t (stands_for t operand)) (reduced t (stands_for t operand) ∷ before) now (sym (fold-whole t (stands_for t operand) before) ∙ e) in
    omega (arith, sym (ap length is))
for_len t (Item.Unary op) before now h e = fold_len t (Item.Unary op) before now h (sym (then_ok (fold_one t (Item.Unary op) before)) ∙ e)
for_len t (Item.Binary op) before now h e = fold_len t (Item.Binary op) before now h (sym (then_ok (fold_one t (Item.Binary op) before)) ∙ e)

pub settles_next : (t : Table) (items : List (Item Operand)) (k size : ℕ) (out new : List (Item Part)) (d : Item Operand) (left : List (Expression Operand)) (after : List (Expression Part)) → run items [] ≡ Some left → k < length items
    → (s : Settles t items k size out) → size + item_size t (get_or items k d) ≤ 64 → fold_all t (items_for t (get_or items k d)) s.now ≡ Ok after → new ≡ spread after
    → length new ≤ length out + item_size t (get_or items k d) → Settles t items (k + 1) (size + item_size t (get_or items k d)) new
settles_next t items k size out new d left after whole h s few is written grown =
    let x = get_or items k d in
    let n = next items k d s.values left whole s.runs h in
    let p = put_len x s.values n.0 n.1 in
    let q = for_len t x s.now after (omega (arith, p.0, s.enough)) is in
    let step = settling_step t items k size d s.now h
    ∙ ap (λ f. unless f (fold_all t (items_for t x) s.now >>= λ after. settling t (drop (k + 1) items) (size + item_size t x) after)) (not_large (size + item_size t x) few)
    ∙ ap (λ r. r >>= λ after. settling t (drop (k + 1) items) (size + item_size t x) after) is in
    record { now = after; settles = sym step ∙ s.settles; written = written; values = n.0; runs = n.2; enough = omega (arith, p.1, q, s.enough); small = few; most = omega (arith, s.most, grown) }

-- An error on the way is the error of the whole.
same_fault : (t : Table) (e : Expression Operand) (why : ExprFault) → settling t (postfix e) 0 [] ≡ Err why → fault t e ≡ Some why
same_fault t e why is =
    elim (fault t e) as (λ f. fault t e ≡ f → unless f (Ok (reduced t (replaced t e) ∷ [])) ≡ Err why → f ≡ Some why) [
      | None ↦ λ _ bad. cc
      | Some other ↦ λ _ same. let eq : other ≡ why = cc in ap Some eq
    ] refl (sym (settling-whole t e) ∙ is)

pub settles_large : (t : Table) (items : List (Item Operand)) (k size : ℕ) (out : List (Item Part)) (d : Item Operand) (e : Expression Operand) → postfix e ≡ items → k < length items
    → (s : Settles t items k size out) → 64 < size + item_size t (get_or items k d) → fault t e ≡ Some ExprFault.TooLarge
settles_large t items k size out d e spelled h s many =
    let x = get_or items k d in
    let step = settling_step t items k size d s.now h
    ∙ ap (λ f. unless f (fold_all t (items_for t x) s.now >>= λ after. settling t (drop (k + 1) items) (size + item_size t x) after)) (large (size + item_size t x) many) in
    same_fault t e ExprFault.TooLarge (ap (λ is. settling t is 0 []) spelled ∙ sym s.settles ∙ step)

pub settles_fault : (t : Table) (items : List (Item Operand)) (k size : ℕ) (out : List (Item Part)) (d : Item Operand) (e : Expression Operand) (why : ExprFault) → postfix e ≡ items → k < length items
    → (s : Settles t items k size out) → size + item_size t (get_or items k d) ≤ 64 → fold_all t (items_for t (get_or items k d)) s.now ≡ Err why → fault t e ≡ Some why
settles_fault t items k size out d e why spelled h s few is =
    let x = get_or items k d in
    let step = settling_step t items k size d s.now h
    ∙ ap (λ f. unless f (fold_all t (items_for t x) s.now >>= λ after. settling t (drop (k + 1) items) (size + item_size t x) after)) (not_large (size + item_size t x) few)
    ∙ ap (λ r. r >>= λ after. settling t (drop (k + 1) items) (size + item_size t x) after) is in
    same_fault t e why (ap (λ is. settling t is 0 []) spelled ∙ sym s.settles ∙ step)

pub settles_refused : (t : Table) (items : List (Item Operand)) (k size : ℕ) (out new : List (Item Part)) (d : Item Operand) (e : Expression Operand) (why : ExprFault) → postfix e ≡ items → k < length items
    → (s : Settles t items k size out) → size + item_size t (get_or items k d) ≤ 64 → Folds (fold_all t (items_for t (get_or items k d)) s.now) {A = Unit {0}} (Err why) new → IsReduced t e (Err why)
settles_refused t items k size out new d e why spelled h s few is = settles_fault t items k size out d e why spelled h s few is

pub settles_end : (t : Table) (items : List (Item Operand)) (k size : ℕ) (out : List (Item Part)) (e : Expression Operand) → postfix e ≡ items → length items ≤ k
    → Settles t items k size out → (fault t e ≡ None) × (out ≡ postfix (reduced t (replaced t e)))
settles_end t items k size out e spelled h s =
    let whole : unless (fault t e) (Ok (reduced t (replaced t e) ∷ [])) ≡ Ok s.now =
    sym (settling-whole t e) ∙ ap (λ is. settling t is 0 []) spelled ∙ sym s.settles ∙ at_drop_all (λ is. settling t is size s.now) items k h in
    elim (fault t e) as (λ f. unless f (Ok (reduced t (replaced t e) ∷ [])) ≡ Ok s.now → (f ≡ None) × (out ≡ postfix (reduced t (replaced t e)))) [
      | Some why ↦ λ bad. cc
      | None ↦ λ is. let same : reduced t (replaced t e) ∷ [] ≡ s.now = cc in (refl, s.written ∙ ap spread (sym same))
    ] whole

tree_short : (items : List (Item Atom)) (n : ℕ) → 1 ≤ n → length items ≤ n → length (postfix (tree items)) ≤ n
tree_short items n some h =
    elim (run items []) as (λ r. run items [] ≡ r → length (postfix (only (Atom.Number 0) r)) ≤ n) [
      | None ↦ λ _. some
      | Some [] ↦ λ _. some
      | Some (e ∷ []) ↦ λ is. omega (arith, ap length (run-one items e is), h)
      | Some (e ∷ f ∷ more) ↦ λ _. some
    ] refl

standing_short : (s : Settled) (n : ℕ) → 1 ≤ n → item_count s ≤ n → length (postfix (standing s)) ≤ n
standing_short (Settled.Known items) n some few =
    omega (arith, tree_short items n some few, ap length (known-postfix (tree items)), length-map (postfix (tree items)) known_item)
standing_short (Settled.Unknown what) n some few = some

meant_short : (m : Option Meaning) → ((what : Meaning) → m ≡ Some what → IsCounted what) → length (postfix (meant m)) ≤ size_meant m
meant_short None counted = omega arith
meant_short (Some (Meaning.Label s)) counted = omega arith
meant_short (Some (Meaning.External r)) counted = omega arith
meant_short (Some (Meaning.Constant n)) counted = omega arith
meant_short (Some Meaning.UnknownConstant) counted = omega arith
meant_short (Some Meaning.Faulty) counted = omega arith
meant_short (Some (Meaning.Equ equated)) counted =
    let c = counted (Meaning.Equ equated) refl in
    standing_short equated.settled equated.size c.0 c.1

pub replaced_short : (t : Table) → AreCounted t → (e : Expression Operand) → length (postfix (replaced t e)) ≤ expression_size t e
replaced_short t counted (Leaf (Number n)) = omega arith
replaced_short t counted (Leaf (Name name)) = meant_short (found t name) (counted name)
replaced_short t counted (Leaf Here) = omega arith
replaced_short t counted (Prefix op a) = omega (arith, replaced_short t counted a, length-append (postfix (replaced t a)) (Item.Unary op ∷ []))
replaced_short t counted (Infix op a b) = omega (arith, replaced_short t counted a, replaced_short t counted b, length-append (postfix (replaced t a) ++ postfix (replaced t b)) (Item.Binary op ∷ []), length-append (postfix (replaced t a)) (postfix (replaced t b)))

leaf_known : (e : Expression Atom) (n : ℕ) → Leaf (Part.Number n) ≡ known e → postfix e ≡ Item.Leaf (Atom.Number n) ∷ []
leaf_known (Leaf (Atom.Number m)) n is = let same : n ≡ m = cc in ap (λ k. Item.Leaf (Atom.Number k) ∷ []) (sym same)
leaf_known (Leaf (Atom.Ref r)) n is = cc
leaf_known (Prefix op a) n is = cc
leaf_known (Infix op a b) n is = cc

one_item : (t : Table) (e : Expression Operand) (out : List (Item Atom)) (object : Expression Atom) (n : ℕ) → reduced t (replaced t e) ≡ known object → postfix object ≡ out → worth t (replaced t e) ≡ Worth.Number n
    → out ≡ Item.Leaf (Atom.Number n) ∷ []
one_item t e out object n is spelled f = sym spelled ∙ leaf_known object n (sym (reduced_number t (replaced t e) n f) ∙ is)

constant_number : (t : Table) (e : Expression Operand) (out : List (Item Atom)) (object : Expression Atom) → ((n : ℕ) → worth t (replaced t e) ≡ Worth.Number n → out ≡ Item.Leaf (Atom.Number n) ∷ [])
    → reduced t (replaced t e) ≡ known object → (worth t (replaced t e) ≡ Worth.Varies → ⊥) → (n : ℕ) × (out ≡ Item.Leaf (Atom.Number n) ∷ [])
constant_number t e out object one is fixed =
    elim (worth t (replaced t e)) as (λ w. worth t (replaced t e) ≡ w → (n : ℕ) × (out ≡ Item.Leaf (Atom.Number n) ∷ [])) [
      | Worth.Number n ↦ λ was. (n, one n was)
      | Worth.Unknown ↦ λ was. let u = reduced_unknown t (replaced t e) was in absurd (leaf_unknown object u.0 (sym is ∙ u.1))
      | Worth.Varies ↦ λ was. absurd (fixed was)
    ] refl

pub settled_worth : (t : Table) → AreCounted t → (e : Expression Operand) (out : List (Item Atom)) → fault t e ≡ None → map known_item out ≡ postfix (reduced t (replaced t e)) → IsWorth t e out
settled_worth t counted e out none is =
    let object = object_tree out (reduced t (replaced t e)) is in
    let same = same t (replaced t e) object.0 object.1 in
    let whole : length out ≤ expression_size t e = omega (arith, length-map out known_item, ap length is, reduced_shorter t (replaced t e), replaced_short t counted e) in
    let few : expression_size t e ≤ 64 = omega (arith, small t 0 e none) in
    record {
      expr = record {
        tree = object.0;
        spelled = object.2;
        few = omega arith;
        guarded = guarded_postfix (reduced t (replaced t e)) out is (guarded_reduced t (replaced t e) (sound t 0 e none));
      };
      short = whole;
      small = few;
      whole = same.whole;
      known = same.known;
      value = λ places step. ap (value places) (tree-postfix out object.0 object.2) ∙ same.value places step;
      constant = λ all. constant_number t e out object.0 (λ n f. one_item t e out object.0 n object.1 object.2 f) object.1 (steady t e all);
      fixed = λ n. (
        one_item t e out object.0 n object.1 object.2,
        λ one. sym (worth-reduced t (replaced t e)) ∙ ap (λ x. worth_of (root x)) (object.1 ∙ ap known (one_expression object.0 (Leaf (Atom.Number n)) (object.2 ∙ one))),
      );
    }

pub source_whole : (items : List (Item Operand)) → AreExpressionItems items → postfix (source_tree items) ≡ items
source_whole items s = ap (λ r. postfix (only Here r)) (run-whole items s.expression s.spelled) ∙ s.spelled

pub run_source : (items read : List (Item Operand)) → AreExpressionItems items → read ≡ items → (e : Expression Operand) × (run read [] ≡ Some (e ∷ []))
run_source items read s same = (s.expression, run-whole read s.expression (s.spelled ∙ sym same))

-- the item that was read, as an item of a source
pub read_at : (xs : List (Item Term)) (k : ℕ) (x : Item Term) → x ≡ get_or xs k x → get_or (map source_item xs) k (source_item x) ≡ source_item x
read_at xs k x is = get_or-map source_item xs k x ∙ ap source_item (sym is)
