-- Stacks that are kept in vectors. In a vector the innermost element is the last one, in the definitions the first.
use Rattle.std.proofs.Common.{◌≡◌, ◌<◌, ◌-◌, ◌∙◌, sym, ap, refl, List, [], ◌∷◌, ◌++◌, Option, Some, Bor, length, map, reverse, get_or, arith, take, drop_of_length-le, ◌+◌, ◌≤◌, option_copied, Result, Ok, Err, OnOk}
use Rattle.std.specs.List.{slice_get}
use Rattle.std.specs.Option.{option_map}
use Rattle.std.proofs.lemmas.List.{drop_more, get_or-reverse, length-map, length-reverse, reverse-append, take-append-drop}
use Rattle.std.proofs.lemmas.Option.{slice_get-get_or}
use Rattle.asm_line.specs.Replacing.Replaced.{ReplacementTable}
use Rattle.asm_text.proofs.Macros.{copied}
use Rattle.asm_text.specs.Prepared.{said}
use Rattle.asm_macro.specs.declared.expansion.Expansion.{Expansion}
use Rattle.asm_macro.specs.Private.Moves.{tables_in}
use Rattle.asm_macro.specs.Private.Frames.{below, innermost}

first_table : {X : Type 0} (f : X → ReplacementTable) (xs : List X) → innermost (map f xs) ≡ option_map f (slice_get xs 0)
first_table f [] = refl
first_table f (x ∷ xs) = refl

first_last : {X : Type 0} (xs : List X) → slice_get (reverse xs) 0 ≡ slice_get xs (length xs - 1)
first_last [] = refl
first_last (x ∷ xs) =
    let n = length-reverse (x ∷ xs) in
    let some : 0 < length (x ∷ xs) = omega arith in
    let less : length (x ∷ xs) - 1 < length (x ∷ xs) = omega arith in
    let also : 0 < length (reverse (x ∷ xs)) = omega (arith, n) in
    let same : length (x ∷ xs) - 1 - 0 ≡ length (x ∷ xs) - 1 = omega arith in
    slice_get-get_or (reverse (x ∷ xs)) 0 x also ∙ ap Some (get_or-reverse (x ∷ xs) 0 x some ∙ ap (λ j. get_or (x ∷ xs) j x) same) ∙ sym (slice_get-get_or (x ∷ xs) (length (x ∷ xs) - 1) x less)

pub last_table : {X : Type 0} (f : X → ReplacementTable) (xs : List X) (o : Option (Bor X)) → option_copied o ≡ slice_get xs (length xs - 1) → option_map (λ n. f n.now) o ≡ innermost (map f (reverse xs))
last_table f xs o e = copied f o ∙ ap (option_map f) (e ∙ sym (first_last xs)) ∙ sym (first_table f (reverse xs))

pub pushed : {X : Type 0} (xs : List X) (x : X) → reverse (xs ++ x ∷ []) ≡ x ∷ reverse xs
pushed xs x = reverse-append xs (x ∷ [])

-- what is left of a stack without its innermost element
pub popped_tables : {X : Type 0} (f : X → ReplacementTable) (xs ys : List X) → ys ≡ take (length xs - 1) xs → map f (reverse ys) ≡ below (map f (reverse xs))
popped_tables f [] ys e = ap (λ zs. map f (reverse zs)) e
popped_tables f (x ∷ xs) ys e =
    let n = length (x ∷ xs) - 1 in
    let less : n < length (x ∷ xs) = omega arith in
    let all : length (x ∷ xs) ≤ n + 1 = omega arith in
    let last = drop_more (x ∷ xs) n x less ∙ ap (λ zs. get_or (x ∷ xs) n x ∷ zs) (drop_of_length-le (x ∷ xs) all) in
    let whole = sym (take-append-drop n (x ∷ xs)) ∙ ap (λ zs. take n (x ∷ xs) ++ zs) last in
    let back = ap reverse whole ∙ pushed (take n (x ∷ xs)) (get_or (x ∷ xs) n x) in
    ap (λ zs. map f (reverse zs)) e ∙ sym (ap (λ zs. below (map f zs)) back)

-- there is a table of names for each open call
pub depth_is : (x : Expansion) → length (tables_in x) ≡ length x.calls.items
depth_is x = length-map (reverse x.calls.items) (λ call. said call) ∙ length-reverse x.calls.items

pub given_ok : {T E P : Type 0} (r : Result T E) → P → OnOk r P
given_ok (Ok x) p = p
given_ok (Err e) p = tt

pub so_ok : {T E P Q : Type 0} (r : Result T E) → (P → Q) → OnOk r P → OnOk r Q
so_ok (Ok x) f p = f p
so_ok (Err e) f p = tt

pub all_ok : {T E P Q R S : Type 0} (r : Result T E) → (P → Q → R → S) → OnOk r P → OnOk r Q → OnOk r R → OnOk r S
all_ok (Ok x) f p q s = f p q s
all_ok (Err e) f p q s = tt
