-- The value of an expression whose names are all constants.
use Rattle.std.proofs.Common.{◌≡◌, ◌⊎◌, inl, inr, ◌∙◌, ◌&&◌, cond, sym, ap, refl, ℕ, Bool, true, false, is_some, List, [], ◌∷◌, ◌++◌, Option, Some, None, Result, Ok, Err, map, Bor, option_copied}
use Rattle.std.specs.List.{AllPass, list_all}
use Rattle.std.specs.Prelude.{IsTrue, ◌↔◌}
use Rattle.std.proofs.lemmas.List.Sums.{AllPass-from_list_all, list_all-from_AllPass}
use Rattle.std.specs.Map.{lookup}
use Rattle.std.specs.Str.{bytes_eq}
use Rattle.std.proofs.lemmas.List.{map-append}
use Rattle.std.proofs.lemmas.Bool.{false≢true}
use Rattle.asm_line.specs.Tokens.{Lexeme}
use Rattle.asm_parse.specs.Source.{Operand, Number, Name, Here}
use Rattle.asm_parse.specs.Parsed.{parsed}
use Rattle.asm_parse.specs.Expression.{postfix}
use Rattle.asm_parse.specs.declared.fault.ExprFault.{ExprFault}
use Rattle.asm_parse.specs.declared.item.Item.{Item}
use Rattle.asm_expr.specs.Below.{Atom, source_tree}
use Rattle.asm_expr.specs.declared.answer.Settled.{Settled}
use Rattle.asm_expr.specs.declared.meaning.Meaning.{Meaning}
use Rattle.asm_expr.specs.Names.{Table, found}
use Rattle.asm_expr.specs.Origins.{is_number_item, is_number_name}
use Rattle.asm_expr.specs.Settling.{is_constant_item, is_constant_name, is_known, settled}
use Rattle.asm_expr.proofs.Anywhere.{number_settled}
use Rattle.asm_macro.specs.declared.fault.MacroFault.{MacroFault}
use Rattle.asm_macro.specs.Faults.{fault_of_expr}
use Rattle.asm_macro.specs.Values.{settled_number, value_of_tokens, worth_of_items}
use Rattle.asm_macro.specs.Private.Constants.{constants_in, is_plain_item, number_in, table_of}
use Rattle.asm_macro.specs.Private.Heads.{constants_with, with_worth}

abbrev meant : List (List ℕ × ℕ) → List (List ℕ × Meaning)
meant cs = map (λ c. (c.0, Meaning.Constant c.1)) cs

same_name : (cs : List (List ℕ × ℕ)) (p : List ℕ → Bool) → (is_constant_name (lookup p (meant cs)) && is_some (lookup p (meant cs))) ≡ is_number_name (lookup p (meant cs))
same_name [] p = refl
same_name (c ∷ cs) p =
    elim (p c.0) as (λ b. (is_constant_name (cond b (Some (Meaning.Constant c.1)) (lookup p (meant cs))) && is_some (cond b (Some (Meaning.Constant c.1)) (lookup p (meant cs)))) ≡ is_number_name (cond b (Some (Meaning.Constant c.1)) (lookup p (meant cs)))) [
      | true ↦ refl
      | false ↦ same_name cs p
    ]

same_item : (cs : List (List ℕ × ℕ)) (x : Item Operand) → is_plain_item (table_of cs) x ≡ is_number_item (table_of cs) x
same_item cs (Item.Leaf (Number n)) = refl
same_item cs (Item.Leaf (Name name)) = same_name cs (bytes_eq name)
same_item cs (Item.Leaf Here) = refl
same_item cs (Item.Unary op) = refl
same_item cs (Item.Binary op) = refl

same_items : (cs : List (List ℕ × ℕ)) (xs : List (Item Operand)) → list_all (is_plain_item (table_of cs)) xs ≡ list_all (is_number_item (table_of cs)) xs
same_items cs [] = refl
same_items cs (x ∷ xs) = ap (λ b. b && list_all (is_plain_item (table_of cs)) xs) (same_item cs x) ∙ ap (λ b. is_number_item (table_of cs) x && b) (same_items cs xs)

-- the order of tests does not matter
and_false : (b : Bool) → (b && false) ≡ false
and_false true = refl
and_false false = refl

and_turned : (a b c d : Bool) → ((a && c) && (b && d)) ≡ ((a && b) && (c && d))
and_turned true true c d = refl
and_turned true false true d = refl
and_turned true false false d = refl
and_turned false b c d = refl

both_all : (p q : Item Operand → Bool) (xs : List (Item Operand)) → (list_all p xs && list_all q xs) ≡ list_all (λ x. p x && q x) xs
both_all p q [] = refl
both_all p q (x ∷ xs) = and_turned (p x) (q x) (list_all p xs) (list_all q xs) ∙ ap (λ b. (p x && q x) && b) (both_all p q xs)

plain_all : (t : Table) (items : List (Item Operand)) → list_all (is_plain_item t) items ≡ (list_all (is_constant_item t) items && list_all (is_known t) items)
plain_all t items = sym (both_all (is_constant_item t) (is_known t) items)

pub no_constant : (t : Table) (items : List (Item Operand)) → list_all (is_constant_item t) items ≡ false → list_all (is_plain_item t) items ≡ false
no_constant t items e = plain_all t items ∙ ap (λ b. b && list_all (is_known t) items) e

pub all_plain : (t : Table) (items : List (Item Operand)) → list_all (is_constant_item t) items ≡ true → list_all (is_known t) items ≡ true → list_all (is_plain_item t) items ≡ true
all_plain t items e k = plain_all t items ∙ ap (λ b. b && list_all (is_known t) items) e ∙ k

pub all_known : (t : Table) (items : List (Item Operand)) (b : Bool) → (IsTrue b ↔ AllPass (is_known t) items) → list_all (is_known t) items ≡ b
all_known t items true tells = list_all-from_AllPass (is_known t) items (tells.0 refl)
all_known t items false tells =
    elim (list_all (is_known t) items) as (λ b. list_all (is_known t) items ≡ b → b ≡ false) [
      | true ↦ λ e. absurd (false≢true (tells.1 (AllPass-from_list_all (is_known t) items e)))
      | false ↦ λ e. refl
    ] refl

pub not_known : (t : Table) (items : List (Item Operand)) → list_all (is_known t) items ≡ false → list_all (is_plain_item t) items ≡ false
not_known t items e = plain_all t items ∙ ap (λ b. list_all (is_constant_item t) items && b) e ∙ and_false (list_all (is_constant_item t) items)

-- the items of the expression are parsed
pub items_read : (w : Result (List (Item Operand)) ExprFault) (items : List (Item Operand)) → (◌≡◌ {A = Result (List (Item Operand)) ExprFault} (Ok items) w) ⊎ (◌≡◌ {A = Result (List (Item Operand)) ExprFault} (Ok items) (Err ExprFault.NoMemory)) → w ≡ Ok items
items_read w items (inl e) = sym e
items_read w items (inr e) = absurd (cc)

pub no_number : (cs : List (List ℕ × ℕ)) (tokens : List Lexeme) (items : List (Item Operand)) → parsed tokens ≡ Ok items → list_all (is_plain_item (table_of cs)) items ≡ false
    → value_of_tokens (table_of cs) tokens ≡ Err MacroFault.ConditionNamesLabel
no_number cs tokens items p e = let n : list_all (is_number_item (table_of cs)) items ≡ false = sym (same_items cs items) ∙ e in ap (worth_of_items (table_of cs)) p ∙ rw n refl

pub numbers : (cs : List (List ℕ × ℕ)) (tokens : List Lexeme) (items : List (Item Operand)) → parsed tokens ≡ Ok items → list_all (is_plain_item (table_of cs)) items ≡ true
    → value_of_tokens (table_of cs) tokens ≡ settled_number (settled (table_of cs) (source_tree items))
numbers cs tokens items p e = let n : list_all (is_number_item (table_of cs)) items ≡ true = sym (same_items cs items) ∙ e in ap (worth_of_items (table_of cs)) p ∙ rw n refl

-- an error of the value
pub settled_err : (cs : List (List ℕ × ℕ)) (tokens : List Lexeme) (items : List (Item Operand)) (why : ExprFault) → parsed tokens ≡ Ok items → list_all (is_plain_item (table_of cs)) items ≡ true
    → (◌≡◌ {A = Result Settled ExprFault} (Err why) (settled (table_of cs) (source_tree items))) ⊎ (◌≡◌ {A = Result Settled ExprFault} (Err why) (Err ExprFault.NoMemory))
    → (◌≡◌ {A = Result ℕ MacroFault} (Err (fault_of_expr why)) (value_of_tokens (table_of cs) tokens)) ⊎ (◌≡◌ {A = Result ℕ MacroFault} (Err (fault_of_expr why)) (Err MacroFault.NoMemory))
settled_err cs tokens items why p e (inl s) = inl (ap settled_number s ∙ sym (numbers cs tokens items p e))
settled_err cs tokens items why p e (inr s) = let none : why ≡ ExprFault.NoMemory = cc in inr (rw none refl)

-- the number that is the value
pub settled_ok : (cs : List (List ℕ × ℕ)) (tokens : List Lexeme) (items : List (Item Operand)) (s : Settled) (r : Result ℕ MacroFault) → parsed tokens ≡ Ok items → list_all (is_plain_item (table_of cs)) items ≡ true → postfix (source_tree items) ≡ items
    → (◌≡◌ {A = Result Settled ExprFault} (Ok s) (settled (table_of cs) (source_tree items))) ⊎ (◌≡◌ {A = Result Settled ExprFault} (Ok s) (Err ExprFault.NoMemory))
    → ((n : ℕ) → s ≡ Settled.Known (Item.Leaf (Atom.Number n) ∷ []) → r ≡ Ok n) → r ≡ value_of_tokens (table_of cs) tokens
settled_ok cs tokens items s r p e same (inl is) f =
    let all = ap (list_all (is_number_item (table_of cs))) same ∙ sym (same_items cs items) ∙ e in
    let number = number_settled (table_of cs) (source_tree items) all s (sym is) in
    f number.0 number.2 ∙ sym (numbers cs tokens items p e ∙ ap settled_number (sym is ∙ ap Ok number.2))
settled_ok cs tokens items s r p e same (inr is) f = absurd (cc)

-- a name in the list is a constant
some_name : (cs : List (List ℕ × ℕ)) (p : List ℕ → Bool) → is_some (lookup p (meant cs)) ≡ is_some (lookup p cs)
some_name [] p = refl
some_name (c ∷ cs) p =
    elim (p c.0) as (λ b. is_some (cond b (Some (Meaning.Constant c.1)) (lookup p (meant cs))) ≡ is_some (cond b (Some c.1) (lookup p cs))) [
      | true ↦ refl
      | false ↦ some_name cs p
    ]

pub is_there : (cs : List (List ℕ × ℕ)) (name : List ℕ) (w : Result ℕ MacroFault) → is_some (found (table_of cs) name) ≡ true → cs ≡ constants_with cs name w
is_there cs name w e = let n : is_some (lookup (bytes_eq name) cs) ≡ true = sym (some_name cs (bytes_eq name)) ∙ e in rw n refl

pub is_new : (cs : List (List ℕ × ℕ)) (name : List ℕ) (w : Result ℕ MacroFault) → is_some (found (table_of cs) name) ≡ false → constants_with cs name w ≡ with_worth name w cs
is_new cs name w e = let n : is_some (lookup (bytes_eq name) cs) ≡ false = sym (some_name cs (bytes_eq name)) ∙ e in rw n refl

pub one_more : (entries new : List (List ℕ × Meaning)) (name : List ℕ) (n : ℕ) → new ≡ entries ++ (name, Meaning.Constant n) ∷ [] → constants_in new ≡ constants_in entries ++ (name, n) ∷ []
one_more entries new name n e = ap constants_in e ∙ map-append (λ e. (e.0, number_in e.1)) entries ((name, Meaning.Constant n) ∷ [])

pub copied_some : {X : Type 0} (o : Option (Bor X)) → is_some (option_copied o) ≡ is_some o
copied_some None = refl
copied_some (Some x) = refl
