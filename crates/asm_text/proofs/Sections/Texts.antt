-- The lines of a span, and its parts.
use Rattle.std.proofs.Common.{◌≡◌, ◌<◌, ◌≤◌, ◌+◌, ◌-◌, ◌∙◌, sym, ap, refl, ℕ, zero, suc, List, [], ◌∷◌, Option, Some, length, take, drop, get_or, arith, length-take, length-drop, ◌++◌, append_assoc, append-nil, get_or-take, drop_of_length-le}
use Rattle.std.specs.Option.{unwrap_or}
use Rattle.std.proofs.lemmas.List.{drop_more, drop-take, get_or-drop, length-map}
use Rattle.common.specs.declared.limits.TheConstants.{LONGEST_TEXT}
use Rattle.asm_text.specs.declared.matching.Role.{Role}
use Rattle.asm_line.specs.Replacing.Replaced.{ReplacementTable}
use Rattle.asm_text.specs.declared.span.Span.{Span}
use Rattle.asm_text.specs.Lines.{Numbered, form_of}
use Rattle.asm_text.specs.Roles.{role_of_head, roles}
use Rattle.asm_text.specs.Sections.Blocks.{section, block_body}
use Rattle.asm_text.specs.Nesting.Blocks.{body_length}
use Rattle.asm_text.specs.Spans.{lines_from, shown, text_of}
use Rattle.asm_text.specs.Sections.Sections.{numbered_line, section_of, body_seen, front_of, behind_of}

abbrev pub line_at : List (List ℕ) → Option ℕ → Option ReplacementTable → ℕ → Numbered
line_at texts number names at = record { number = unwrap_or number (at + 1); text = shown names (get_or texts at []) }

length-lines_from : (number : Option ℕ) (at : ℕ) (names : Option ReplacementTable) (texts : List (List ℕ)) → length (lines_from number at names texts) ≡ length texts
length-lines_from number at names [] = refl
length-lines_from number at names (t ∷ ts) = ap suc (length-lines_from number (at + 1) names ts)

take-lines_from : (number : Option ℕ) (at : ℕ) (names : Option ReplacementTable) (n : ℕ) (texts : List (List ℕ)) → take n (lines_from number at names texts) ≡ lines_from number at names (take n texts)
take-lines_from number at names zero [] = refl
take-lines_from number at names zero (t ∷ ts) = refl
take-lines_from number at names (suc n) [] = refl
take-lines_from number at names (suc n) (t ∷ ts) = ap (λ ls. record { number = unwrap_or number (at + 1); text = shown names t } ∷ ls) (take-lines_from number (at + 1) names n ts)

drop-lines_from : (number : Option ℕ) (at : ℕ) (names : Option ReplacementTable) (n : ℕ) (texts : List (List ℕ)) → drop n (lines_from number at names texts) ≡ lines_from number (at + n) names (drop n texts)
drop-lines_from number at names zero [] = refl
drop-lines_from number at names zero (t ∷ ts) = let none : at ≡ at + 0 = omega arith in ap (λ a. lines_from number a names (t ∷ ts)) none
drop-lines_from number at names (suc n) [] = refl
drop-lines_from number at names (suc n) (t ∷ ts) =
    let more : at + 1 + n ≡ at + suc n = omega arith in
    drop-lines_from number (at + 1) names n ts ∙ ap (λ a. lines_from number a names (drop n ts)) more

get_or-lines_from : (number : Option ℕ) (at : ℕ) (names : Option ReplacementTable) (n : ℕ) (texts : List (List ℕ)) (d : Numbered) → n < length texts
    → get_or (lines_from number at names texts) n d ≡ record { number = unwrap_or number (at + n + 1); text = shown names (get_or texts n []) }
get_or-lines_from number at names n [] d h = absurd (omega (arith, h))
get_or-lines_from number at names zero (t ∷ ts) d h = let none : at + 1 ≡ at + 0 + 1 = omega arith in ap (λ a. record { number = unwrap_or number a; text = shown names t }) none
get_or-lines_from number at names (suc n) (t ∷ ts) d h =
    let more : at + 1 + n + 1 ≡ at + suc n + 1 = omega arith in
    let less : n < length ts = omega (arith, h) in
    get_or-lines_from number (at + 1) names n ts d less ∙ ap (λ a. record { number = unwrap_or number a; text = shown names (get_or ts n []) }) more

pub take-none : (texts : List (List ℕ)) → take 0 texts ≡ []
take-none [] = refl
take-none (t ∷ ts) = refl

take-nil : (n : ℕ) → take {A = List ℕ} n [] ≡ []
take-nil zero = refl
take-nil (suc n) = refl

pub take-less : (n m : ℕ) (texts : List (List ℕ)) → take n (take (n + m) texts) ≡ take n texts
take-less zero m texts = take-none (take (0 + m) texts) ∙ sym (take-none texts)
take-less (suc n) m [] = ap (take (suc n)) (take-nil (suc n + m))
take-less (suc n) m (t ∷ ts) = let e : suc n + m ≡ suc (n + m) = omega arith in ap (λ j. take (suc n) (take j (t ∷ ts))) e ∙ ap (λ xs. t ∷ xs) (take-less n m ts)

drop-nil : (n : ℕ) → drop {A = List ℕ} n [] ≡ []
drop-nil zero = refl
drop-nil (suc n) = refl

pub drop-drop : (a n : ℕ) (texts : List (List ℕ)) → drop n (drop a texts) ≡ drop (a + n) texts
drop-drop zero n texts = let e : n ≡ 0 + n = omega arith in ap (λ j. drop j texts) e
drop-drop (suc a) n [] = drop-nil n ∙ sym (drop-nil (suc a + n))
drop-drop (suc a) n (t ∷ ts) = let e : suc (a + n) ≡ suc a + n = omega arith in drop-drop a n ts ∙ ap (λ j. drop j (t ∷ ts)) e

pub length-text_of : (texts : List (List ℕ)) (names : Option ReplacementTable) (s : Span) → length (text_of texts names s) ≡ length (take (s.end - s.at) (drop s.at texts))
length-text_of texts names s = length-lines_from s.number s.at names (take (s.end - s.at) (drop s.at texts))

pub within : (texts : List (List ℕ)) (names : Option ReplacementTable) (s : Span) (n : ℕ) → n < length (text_of texts names s) → (s.at + n < s.end) × (s.at + n < length texts)
within texts names s n h =
    let l = length-text_of texts names s in
    let t = length-take (s.end - s.at) (drop s.at texts) in
    let d = length-drop s.at texts in
    (omega (arith, h, l, t, d), omega (arith, h, l, t, d))

pub text_step : (texts : List (List ℕ)) (names : Option ReplacementTable) (s : Span) → s.at < s.end → s.at < length texts
    → text_of texts names s ≡ line_at texts s.number names s.at ∷ text_of texts names (record s { at = s.at + 1 })
text_step texts names s h k =
    let more : s.end - s.at ≡ suc (s.end - (s.at + 1)) = omega arith in
    ap (λ n. lines_from s.number s.at names (take n (drop s.at texts))) more
    ∙ ap (λ ts. lines_from s.number s.at names (take (suc (s.end - (s.at + 1))) ts)) (drop_more texts s.at [] k)

pub text_over : (texts : List (List ℕ)) (names : Option ReplacementTable) (s : Span) → s.end ≤ s.at → text_of texts names s ≡ []
text_over texts names s h =
    let none : s.end - s.at ≡ 0 = omega arith in
    ap (λ n. lines_from s.number s.at names (take n (drop s.at texts))) none ∙ ap (λ ts. lines_from s.number s.at names ts) (take-none (drop s.at texts))

pub text_past : (texts : List (List ℕ)) (names : Option ReplacementTable) (s : Span) → length texts ≤ s.at → text_of texts names s ≡ []
text_past texts names s h =
    ap (λ ts. lines_from s.number s.at names (take (s.end - s.at) ts)) (drop_of_length-le texts h) ∙ ap (λ ts. lines_from s.number s.at names ts) (take-nil (s.end - s.at))

-- the first n lines of a span
pub text_front : (texts : List (List ℕ)) (names : Option ReplacementTable) (s : Span) (n : ℕ) → s.at + n ≤ s.end
    → take n (text_of texts names s) ≡ text_of texts names (record s { end = s.at + n })
text_front texts names s n h =
    let k : n + (s.end - (s.at + n)) ≡ s.end - s.at = omega arith in
    let m : n ≡ (s.at + n) - s.at = omega arith in
    take-lines_from s.number s.at names n (take (s.end - s.at) (drop s.at texts))
    ∙ ap (λ ts. lines_from s.number s.at names ts) (ap (λ j. take n (take j (drop s.at texts))) (sym k) ∙ take-less n (s.end - (s.at + n)) (drop s.at texts))
    ∙ ap (λ j. lines_from s.number s.at names (take j (drop s.at texts))) m

-- the lines after the first n
pub text_rest : (texts : List (List ℕ)) (names : Option ReplacementTable) (s : Span) (n : ℕ) → s.at + n ≤ s.end
    → drop n (text_of texts names s) ≡ text_of texts names (record s { at = s.at + n })
text_rest texts names s n h =
    let k : n + (s.end - (s.at + n)) ≡ s.end - s.at = omega arith in
    drop-lines_from s.number s.at names n (take (s.end - s.at) (drop s.at texts))
    ∙ ap (λ ts. lines_from s.number (s.at + n) names ts)
    (ap (λ j. drop n (take j (drop s.at texts))) (sym k) ∙ drop-take n (s.end - (s.at + n)) (drop s.at texts) ∙ ap (take (s.end - (s.at + n))) (drop-drop s.at n texts))

-- line n of a span
pub text_line : (texts : List (List ℕ)) (names : Option ReplacementTable) (s : Span) (n : ℕ) (d : Numbered) → n < length (text_of texts names s)
    → get_or (text_of texts names s) n d ≡ line_at texts s.number names (s.at + n)
text_line texts names s n d h =
    let l = length-text_of texts names s in
    let w = within texts names s n h in
    let more : suc (s.end - (s.at + n + 1)) + n ≡ s.end - s.at = omega (arith, w.0) in
    get_or-lines_from s.number s.at names n (take (s.end - s.at) (drop s.at texts)) d (omega (arith, h, l))
    ∙ ap (λ t. record { number = unwrap_or s.number (s.at + n + 1); text = shown names t }) (get_or-take (s.end - s.at) (drop s.at texts) n [] (omega (arith, w.0)) ∙ get_or-drop s.at texts n [])

-- the role of one line more is known
pub roles_step : (texts : List (List ℕ)) (names : Option ReplacementTable) (s : Span) (found now : List Role) (role : Role) → s.at < s.end → s.at < length texts
    → role ≡ role_of_head (form_of (shown names (get_or texts s.at []))).head → now ≡ found ++ role ∷ []
    → found ++ roles (text_of texts names s) ≡ now ++ roles (text_of texts names (record s { at = s.at + 1 }))
roles_step texts names s found now role h k is e =
    ap (λ ls. found ++ roles ls) (text_step texts names s h k)
    ∙ ap (λ r. found ++ r ∷ roles (text_of texts names (record s { at = s.at + 1 }))) (sym is)
    ∙ sym (append_assoc found (role ∷ []) (roles (text_of texts names (record s { at = s.at + 1 }))))
    ∙ ap (λ xs. xs ++ roles (text_of texts names (record s { at = s.at + 1 }))) (sym e)

pub roles_over : (texts : List (List ℕ)) (names : Option ReplacementTable) (s : Span) (found : List Role) → text_of texts names s ≡ [] → found ++ roles (text_of texts names s) ≡ found
roles_over texts names s found e = ap (λ ls. found ++ roles ls) e ∙ append-nil found

pub section_is : (texts : List (List ℕ)) (names : Option ReplacementTable) (s : Span) (n : ℕ) → n < length (text_of texts names s)
    → section_of texts names (front_of s n) ≡ section n (text_of texts names s)
section_is texts names s n h =
    let w = within texts names s n h in
    let less : s.at + n ≤ s.end = omega (arith, w.0) in
    let front = text_front texts names s n less in
    let end = text_line texts names s n (record { number = 0; text = [] }) h in
    ap (λ ls. record { lines = ls; end = numbered_line texts names (front_of s n).end }) (sym front) ∙ ap (λ l. record { lines = take n (text_of texts names s); end = l }) (sym end)

pub behind_is : (texts : List (List ℕ)) (names : Option ReplacementTable) (s : Span) (n : ℕ) → n < length (text_of texts names s)
    → text_of texts names (behind_of s n) ≡ drop (n + 1) (text_of texts names s)
behind_is texts names s n h =
    let w = within texts names s n h in
    let same : s.at + (n + 1) ≡ s.at + n + 1 = omega arith in
    let less : s.at + (n + 1) ≤ s.end = omega (arith, w.0) in
    sym (text_rest texts names s (n + 1) less ∙ ap (λ a. text_of texts names (record s { at = a })) same)

pub body_is : (texts : List (List ℕ)) (names : Option ReplacementTable) (s : Span) (n : ℕ) → n < length (text_of texts names s) → body_length 0 (roles (text_of texts names s)) ≡ Some n
    → Some (body_seen texts names (record { stretch = front_of s n; after = behind_of s n })) ≡ block_body (text_of texts names s)
body_is texts names s n h is =
    rw is (ap (λ x. Some (record { section = x; after = text_of texts names (behind_of s n) })) (section_is texts names s n h)
    ∙ ap (λ x. Some (record { section = section n (text_of texts names s); after = x })) (behind_is texts names s n h))

-- An index of a role is an index of a line.
pub inside : (texts : List (List ℕ)) (names : Option ReplacementTable) (s : Span) (n : ℕ) → n < length (roles (text_of texts names s)) → n < length (text_of texts names s)
inside texts names s n h = omega (arith, h, length-map (text_of texts names s) (λ l. role_of_head (form_of l.text).head))

pub room : (texts : List (List ℕ)) (names : Option ReplacementTable) (s : Span) (n : ℕ) → n < length (text_of texts names s) → length texts ≤ LONGEST_TEXT → s.at + n < LONGEST_TEXT
room texts names s n h few = omega (arith, few, (within texts names s n h).1)

pub front_line : (texts : List (List ℕ)) (names : Option ReplacementTable) (s : Span) (number : ℕ) (text : List ℕ) → s.at < s.end → s.at < length texts
    → number ≡ unwrap_or s.number (s.at + 1) → text ≡ shown names (get_or texts s.at [])
    → text_of texts names s ≡ record { number = number; text = text } ∷ text_of texts names (record s { at = s.at + 1 })
front_line texts names s number text h k n t =
    text_step texts names s h k ∙ ap (λ x. record { number = x; text = shown names (get_or texts s.at []) } ∷ text_of texts names (record s { at = s.at + 1 })) (sym n)
    ∙ ap (λ x. record { number = number; text = x } ∷ text_of texts names (record s { at = s.at + 1 })) (sym t)
