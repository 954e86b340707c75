-- The ends for a line, found from those for the lines after it.
use Rattle.std.proofs.Common.{◌≡◌, ◌<◌, ◌≤◌, ◌+◌, ◌-◌, ◌∙◌, sym, ap, refl, ℕ, zero, suc, List, [], ◌∷◌, Option, Some, None, drop, length, get_or, arith, if◌then◌else◌, nat_lt, drop_of_length-le, length-drop, set, subst}
use Rattle.std.specs.Option.{option_map}
use Rattle.std.proofs.lemmas.Bool.{le-ltb, lt-ltb}
use Rattle.std.proofs.lemmas.List.{drop_more, get_or-set_same, get_or-set_other, get_or_past}
use Rattle.asm_text.specs.declared.matching.Role.{Role}
use Rattle.asm_text.specs.declared.ends.Ends.{Ends}
use Rattle.asm_text.specs.Nesting.Blocks.{Lengths, body_length, branch_lengths, divided, longer}
use Rattle.asm_text.specs.Private.Nesting.{AreEnds, behind, ends_at, ends_of, if_length, no_ends, reached, turn}
use Rattle.asm_text.proofs.Nesting.Nested.{body_behind, branches_behind, body_over, further, if_longer, lengthened, over_body, over_if}
use Rattle.asm_text.proofs.Nesting.Cut.{within}

ends_eq : (a b c d e f : ℕ) → a ≡ d → b ≡ e → c ≡ f → ◌≡◌ {A = Ends} (record { body = a; next = b; last = c }) (record { body = d; next = e; last = f })
ends_eq a b c d e f p q r =
    ap (λ x. record { body = x; next = b; last = c }) p ∙ ap (λ x. record { body = d; next = x; last = c }) q ∙ ap (λ x. record { body = d; next = e; last = x }) r

reached_suc : (len at : ℕ) (o : Option ℕ) → reached len at (option_map suc o) ≡ reached len (at + 1) o
reached_suc len at None = refl
reached_suc len at (Some n) = omega arith

reached_further : (len at n : ℕ) (o : Option ℕ) → reached len at (further n o) ≡ reached len (at + n) o
reached_further len at n None = refl
reached_further len at n (Some m) = omega arith

first_longer : (l : Option Lengths) → option_map (λ l. l.0) (option_map longer l) ≡ option_map suc (option_map (λ l. l.0) l)
first_longer None = refl
first_longer (Some l) = refl

first_lengthened : (n : ℕ) (l : Option Lengths) → option_map (λ l. l.0) (lengthened n l) ≡ further n (option_map (λ l. l.0) l)
first_lengthened n None = refl
first_lengthened n (Some l) = refl

if_lengthened : (n : ℕ) (l : Option Lengths) → option_map if_length (lengthened n l) ≡ further n (option_map if_length l)
if_lengthened n None = refl
if_lengthened n (Some l) = let e : if_length (n + l.0, l.1) ≡ n + if_length l = omega arith in ap Some e

ends_suc : (len at : ℕ) (b : Option ℕ) (l : Option Lengths) → ends_at len at (option_map suc b) (option_map longer l) ≡ ends_at len (at + 1) b l
ends_suc len at b l =
    ends_eq _ _ _ _ _ _ (reached_suc len at b) (ap (reached len at) (first_longer l) ∙ reached_suc len at (option_map (λ l. l.0) l))
    (ap (reached len at) (if_longer l) ∙ reached_suc len at (option_map if_length l))

ends_further : (len at n : ℕ) (b : Option ℕ) (l : Option Lengths) → ends_at len at (further n b) (lengthened n l) ≡ ends_at len (at + n) b l
ends_further len at n b l =
    ends_eq _ _ _ _ _ _ (reached_further len at n b) (ap (reached len at) (first_lengthened n l) ∙ reached_further len at n (option_map (λ l. l.0) l))
    (ap (reached len at) (if_lengthened n l) ∙ reached_further len at n (option_map if_length l))

no_role : (n : ℕ) → drop {A = Role} n [] ≡ []
no_role zero = refl
no_role (suc n) = refl

pub role_drop : (a n : ℕ) (rs : List Role) → drop n (drop a rs) ≡ drop (a + n) rs
role_drop zero n rs = let e : n ≡ 0 + n = omega arith in ap (λ j. drop j rs) e
role_drop (suc a) n [] = no_role n ∙ sym (no_role (suc a + n))
role_drop (suc a) n (r ∷ rs) = let e : suc (a + n) ≡ suc a + n = omega arith in role_drop a n rs ∙ ap (λ j. drop j (r ∷ rs)) e

-- the ends for the line after one that is not before line `at`
known : (rs : List Role) (es : List Ends) (at line : ℕ) → length es ≡ length rs → AreEnds rs es (at + 1) → at ≤ line → behind es line ≡ ends_of (length rs) (line + 1) (drop (line + 1) rs)
known rs es at line same are h =
    let e : (at + 1) + (line - at) ≡ line + 1 = omega (arith, h) in
    ap (λ n. get_or es (line + 1) (no_ends n)) same ∙ ap (λ k. get_or es k (no_ends (length rs))) (sym e) ∙ are (line - at) ∙ ap (λ k. ends_of (length rs) k (drop k rs)) e

-- the ends for the line after the end of a block that begins after line `at`, if it has an end
beyond : (rs : List Role) (es : List Ends) (at : ℕ) (o : Option ℕ) → length es ≡ length rs → AreEnds rs es (at + 1) → at < length rs
    → behind es (reached (length rs) (at + 1) o)
    ≡ ends_at (length rs) (at + 1) (body_behind o (drop (at + 1) rs)) (branches_behind 0 o (drop (at + 1) rs))
beyond rs es at None same are h =
    let past : length rs ≤ length rs + 1 = omega arith in
    known rs es at (length rs) same are (omega (arith, h)) ∙ ap (ends_of (length rs) (length rs + 1)) (drop_of_length-le rs past)
beyond rs es at (Some n) same are h =
    let e : (at + 1) + n + 1 ≡ (at + 1) + suc n = omega arith in
    known rs es at ((at + 1) + n) same are (omega arith)
    ∙ ap (λ k. ends_of (length rs) k (drop k rs)) e
    ∙ ap (ends_of (length rs) ((at + 1) + suc n)) (sym (role_drop (at + 1) (suc n) rs))
    ∙ sym (ends_further (length rs) (at + 1) (suc n) (body_length 0 (drop (suc n) (drop (at + 1) rs))) (branch_lengths 0 0 (drop (suc n) (drop (at + 1) rs))))

-- An ELSE ends a branch only if an ENDIF closes the IF.
else_is : (len at : ℕ) (here : Ends) (rs : List Role) (l : Option Lengths) → branch_lengths 0 0 rs ≡ l → here ≡ ends_at len (at + 1) (body_length 0 rs) l → length rs + (at + 1) ≡ len
    → (if nat_lt here.last len then record here { next = at } else here) ≡ ends_at len at (option_map suc (body_length 0 rs)) (option_map divided l)
else_is len at here rs None is e n =
    ap (λ (h : Ends). if nat_lt h.last len then record h { next = at } else h) e
    ∙ ap (λ b. if b then record (ends_at len (at + 1) (body_length 0 rs) None) { next = at } else ends_at len (at + 1) (body_length 0 rs) None) (le-ltb len len (omega arith))
    ∙ ends_eq _ _ _ _ _ _ (sym (reached_suc len at (body_length 0 rs))) refl refl
else_is len at here rs (Some l) is e n =
    let less : at + 1 + if_length l < len = omega (arith, n, within rs l is) in
    let next : at ≡ at + 0 = omega arith in
    let last : at + 1 + if_length l ≡ at + if_length (divided l) = omega arith in
    ap (λ (h : Ends). if nat_lt h.last len then record h { next = at } else h) e
    ∙ ap (λ b. if b then record (ends_at len (at + 1) (body_length 0 rs) (Some l)) { next = at } else ends_at len (at + 1) (body_length 0 rs) (Some l)) (lt-ltb (at + 1 + if_length l) len less)
    ∙ ends_eq _ _ _ _ _ _ (sym (reached_suc len at (body_length 0 rs))) next last

turned : (rs : List Role) (es : List Ends) (at : ℕ) (role : Role) → length es ≡ length rs → AreEnds rs es (at + 1) → at < length rs
    → turn role at es ≡ ends_of (length rs) at (role ∷ drop (at + 1) rs)
turned rs es at Role.OpensBody same are h =
    let rest = drop (at + 1) rs in
    ap (λ (e : Ends). behind es e.body) (known rs es at at same are (omega arith)) ∙ beyond rs es at (body_length 0 rest) same are h
    ∙ ap (λ b. ends_at (length rs) (at + 1) b (branches_behind 0 (body_length 0 rest) rest)) (sym (body_over 0 rest))
    ∙ ap (ends_at (length rs) (at + 1) (body_length 1 rest)) (sym (over_body 0 0 rest))
    ∙ sym (ends_suc (length rs) at (body_length 1 rest) (branch_lengths 1 0 rest))
turned rs es at Role.EndBody same are h =
    let rest = drop (at + 1) rs in
    let zero_more : at ≡ at + 0 = omega arith in
    ap (λ (e : Ends). record e { body = at }) (known rs es at at same are (omega arith) ∙ sym (ends_suc (length rs) at (body_length 0 rest) (branch_lengths 0 0 rest)))
    ∙ ends_eq _ _ _ _ _ _ zero_more refl refl
turned rs es at Role.OpensIf same are h =
    let rest = drop (at + 1) rs in
    let here = known rs es at at same are (omega arith) in
    let o = option_map if_length (branch_lengths 0 0 rest) in
    ap (λ (e : Ends). record (behind es e.last) { body = e.body }) here
    ∙ ap (λ (e : Ends). record e { body = reached (length rs) (at + 1) (body_length 0 rest) }) (beyond rs es at o same are h)
    ∙ ap (ends_at (length rs) (at + 1) (body_length 0 rest)) (sym (over_if 0 0 rest))
    ∙ sym (ends_suc (length rs) at (body_length 0 rest) (branch_lengths 0 1 rest))
turned rs es at Role.Else same are h =
    let rest = drop (at + 1) rs in
    let len : length rest + (at + 1) ≡ length rs = omega (arith, h, length-drop (at + 1) rs) in
    ap (λ n. if nat_lt (behind es at).last n then record (behind es at) { next = at } else behind es at) same
    ∙ else_is (length rs) at (behind es at) rest (branch_lengths 0 0 rest) refl (known rs es at at same are (omega arith)) len
turned rs es at Role.EndIf same are h =
    let rest = drop (at + 1) rs in
    let zero_more : at ≡ at + 0 = omega arith in
    let also : at ≡ at + (0 + 0) = omega arith in
    ap (λ (e : Ends). record e { next = at; last = at }) (known rs es at at same are (omega arith))
    ∙ ends_eq _ _ _ _ _ _ (sym (reached_suc (length rs) at (body_length 0 rest))) zero_more also
turned rs es at Role.Other same are h =
    let rest = drop (at + 1) rs in
    known rs es at at same are (omega arith) ∙ sym (ends_suc (length rs) at (body_length 0 rest) (branch_lengths 0 0 rest))

-- No block ends after the last line.
pub none_linked : (rs : List Role) (es : List Ends) (at : ℕ) → length es ≡ length rs → at ≡ length rs → AreEnds rs es at
none_linked rs es at same end = λ k.
    let past : length rs ≤ at + k = omega (arith, end) in
    get_or_past es (at + k) (no_ends (length rs)) (omega (arith, same, past)) ∙ ap (ends_of (length rs) (at + k)) (sym (drop_of_length-le rs past))

-- the ends for one line more are known
pub more_linked : (rs : List Role) (es : List Ends) (at : ℕ) (role : Role) (here : Ends) → length es ≡ length rs → AreEnds rs es (at + 1) → at < length rs → role ≡ get_or rs at role → here ≡ turn role at es
    → AreEnds rs (set es at here) at
more_linked rs es at role here same are h is turn zero =
    let less : at < length es = omega (arith, same, h) in
    let none : at ≡ at + 0 = omega arith in
    subst (λ k. get_or (set es at here) k (no_ends (length rs)) ≡ ends_of (length rs) k (drop k rs)) none
    (get_or-set_same es at here (no_ends (length rs)) less ∙ turn ∙ turned rs es at role same are h
    ∙ ap (ends_of (length rs) at) (ap (λ r. r ∷ drop (at + 1) rs) is ∙ sym (drop_more rs at role h)))
more_linked rs es at role here same are h is turn (suc k) =
    let e : (at + 1) + k ≡ at + suc k = omega arith in
    get_or-set_other es at (at + suc k) here (no_ends (length rs)) (λ same. omega (arith, same))
    ∙ subst (λ j. get_or es j (no_ends (length rs)) ≡ ends_of (length rs) j (drop j rs)) e (are k)

-- the ends for each line, once all are known
pub found_at : (rs now : List Role) (es : List Ends) (k : ℕ) → rs ≡ now → AreEnds rs es 0 → get_or es k (no_ends (length rs)) ≡ ends_of (length now) k (drop k now)
found_at rs now es k is are =
    let none : 0 + k ≡ k = omega arith in
    subst (λ j. get_or es j (no_ends (length rs)) ≡ ends_of (length rs) j (drop j rs)) none (are k) ∙ ap (λ rs. ends_of (length rs) k (drop k rs)) is
