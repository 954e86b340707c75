-- Books of some lines, and the spans within these lines.
use Rattle.std.proofs.Common.{◌≡◌, ◌<◌, ◌≤◌, ◌+◌, ◌-◌, ◌∙◌, sym, ap, refl, ℕ, zero, suc, List, [], ◌∷◌, Option, map, take, drop, length, arith, length-take, length-drop, ◌^◌, None, get_or}
use Rattle.std.proofs.lemmas.List.{drop-map, length-map, take-map}
use Rattle.common.specs.declared.limits.TheConstants.{LONGEST_TEXT}
use Rattle.asm_text.specs.declared.matching.Role.{Role}
use Rattle.asm_text.specs.Nesting.Blocks.{between}
use Rattle.asm_line.specs.Replacing.Replaced.{ReplacementTable}
use Rattle.asm_text.specs.declared.book.Book.{Book}
use Rattle.asm_text.specs.declared.span.Span.{Span}
use Rattle.asm_text.specs.Lines.{form_of}
use Rattle.asm_text.specs.Roles.{role_of_head, roles}
use Rattle.asm_text.specs.Sections.Books.{IsBook, IsOf, roles_between}
use Rattle.asm_text.specs.Stands.{Stand, role_in}
use Rattle.asm_text.specs.Spans.{lines_from, text_of}
use Rattle.asm_text.proofs.Sections.Texts.{drop-drop, length-text_of, take-less, take-none}

roles_from : (number : Option ℕ) (at : ℕ) (names : Option ReplacementTable) (texts : List (List ℕ)) → roles (lines_from number at names texts) ≡ map (role_in names) texts
roles_from number at names [] = refl
roles_from number at names (t ∷ ts) = ap (λ rs. role_in names t ∷ rs) (roles_from number (at + 1) names ts)

roles_are : (texts : List (List ℕ)) (names : Option ReplacementTable) (s : Span) → roles (text_of texts names s) ≡ roles_between texts names s.at s.end
roles_are texts names s = roles_from s.number s.at names (take (s.end - s.at) (drop s.at texts))

no_lines : (texts : List (List ℕ)) (names : Option ReplacementTable) (at : ℕ) → [] ≡ roles_between texts names at 0
no_lines texts names at = let none : 0 ≡ 0 - at = omega arith in ap (map (role_in names)) (sym (take-none (drop at texts)) ∙ ap (λ n. take n (drop at texts)) none)

-- a book of no lines is right
pub empty : (texts : List (List ℕ)) (names : Option ReplacementTable) (b : Book) → b.links ≡ [] → b.to ≡ 0 → IsBook texts names b
empty texts names b e none = ((0, e ∙ no_lines texts names b.at), λ k after before within. absurd (omega (arith, before, none)))

-- a book of the lines of a span
pub whole : (texts : List (List ℕ)) (names : Option ReplacementTable) (s : Span) (b : Book) → b.at ≡ s.at → b.links ≡ roles (text_of texts names s) → IsOf texts names b
whole texts names s b at e = (s.end, e ∙ roles_are texts names s ∙ ap (λ n. roles_between texts names n s.end) (sym at))

cut : (a n m : ℕ) (lines : List (List ℕ)) → m ≤ n - a → take m (drop a (take n lines)) ≡ take m (drop a lines)
cut zero n m lines h = let e : m + (n - m) ≡ n = omega (arith, h) in ap (λ k. take m (take k lines)) (sym e) ∙ take-less m (n - m) lines
cut (suc a) zero m lines h =
    let none : m ≡ 0 = omega (arith, h) in
    ap (λ k. take k (drop (suc a) (take 0 lines))) none ∙ take-none (drop (suc a) (take 0 lines)) ∙ sym (take-none (drop (suc a) lines)) ∙ ap (λ k. take k (drop (suc a) lines)) (sym none)
cut (suc a) (suc n) m [] h = refl
cut (suc a) (suc n) m (t ∷ ts) h = cut a n m ts (omega (arith, h))

-- the roles of a span that is within the lines of a book
pub has : (texts : List (List ℕ)) (names : Option ReplacementTable) (s : Span) (b : Book) → IsOf texts names b → b.at ≤ s.at → s.end - b.at ≤ length b.links
    → between (s.at - b.at) (s.end - b.at) b.links ≡ roles (text_of texts names s)
has texts names s b is from to =
    let lines = drop b.at texts in
    let len = ap length is.1 ∙ length-map (take (is.0 - b.at) lines) (role_in names) in
    let most = length-take (is.0 - b.at) lines in
    let fits : s.end - s.at ≤ (is.0 - b.at) - (s.at - b.at) = omega (arith, from, to, len, most) in
    let same : (s.end - b.at) - (s.at - b.at) ≡ s.end - s.at = omega (arith, from) in
    let at : b.at + (s.at - b.at) ≡ s.at = omega (arith, from) in
    ap (λ n. take n (drop (s.at - b.at) b.links)) same ∙ ap (λ rs. take (s.end - s.at) (drop (s.at - b.at) rs)) is.1
    ∙ ap (take (s.end - s.at)) (drop-map (role_in names) (s.at - b.at) (take (is.0 - b.at) lines))
    ∙ take-map (role_in names) (s.end - s.at) (drop (s.at - b.at) (take (is.0 - b.at) lines))
    ∙ ap (map (role_in names)) (cut (s.at - b.at) (is.0 - b.at) (s.end - s.at) lines fits ∙ ap (take (s.end - s.at)) (drop-drop b.at (s.at - b.at) texts ∙ ap (λ k. drop k texts) at))
    ∙ sym (roles_are texts names s)

-- the roles of a span that has a book of its own
pub has_all : (texts : List (List ℕ)) (names : Option ReplacementTable) (s : Span) (b : Book) → b.at ≡ s.at → b.links ≡ roles (text_of texts names s)
    → between (s.at - b.at) (s.end - b.at) b.links ≡ roles (text_of texts names s)
has_all texts names s b at is =
    let none : s.at - b.at ≡ 0 = omega (arith, at) in
    let end : (s.end - b.at) - (s.at - b.at) ≡ s.end - s.at = omega (arith, at) in
    let lines = drop s.at texts in
    ap (λ n. take n (drop (s.at - b.at) b.links)) end ∙ ap (λ n. take (s.end - s.at) (drop n b.links)) none
    ∙ ap (take (s.end - s.at)) (is ∙ roles_are texts names s) ∙ take-map (role_in names) (s.end - s.at) (take (s.end - s.at) lines)
    ∙ ap (map (role_in names)) (cut 0 (s.end - s.at) (s.end - s.at) lines (omega arith)) ∙ sym (roles_are texts names s)

pub few : (texts : List (List ℕ)) (names : Option ReplacementTable) (s : Span) (rs : List Role) → rs ≡ roles (text_of texts names s) → length texts ≤ LONGEST_TEXT → length rs < 2 ^ 32
few texts names s rs is h =
    let len = ap length is ∙ length-map (text_of texts names s) (λ l. role_of_head (form_of l.text).head) ∙ length-text_of texts names s in
    omega (arith, h, len, length-take (s.end - s.at) (drop s.at texts), length-drop s.at texts)

-- A span whose lines have the roles that they have as written.

same_within : (f g : List ℕ → Role) (a n : ℕ) (texts : List (List ℕ)) → ((k : ℕ) → a ≤ k → k < a + n → k < length texts → f (get_or texts k []) ≡ g (get_or texts k [])) → map f (take n (drop a texts)) ≡ map g (take n (drop a texts))
same_within f g zero zero texts h = ap (map f) (take-none (drop 0 texts)) ∙ ap (map g) (sym (take-none (drop 0 texts)))
same_within f g zero (suc n) [] h = refl
same_within f g zero (suc n) (t ∷ ts) h =
    let first = h 0 (omega arith) (omega arith) (omega arith) in
    let others = same_within f g 0 n ts (λ k after before within. h (suc k) (omega arith) (omega (arith, before)) (omega (arith, within))) in
    ap (λ x. x ∷ map f (take n (drop 0 ts))) first ∙ ap (λ xs. g t ∷ xs) others
same_within f g (suc a) zero [] h = refl
same_within f g (suc a) (suc n) [] h = refl
same_within f g (suc a) n (t ∷ ts) h = same_within f g a n ts (λ k after before within. h (suc k) (omega (arith, after)) (omega (arith, before)) (omega (arith, within)))

pub as_it_stands : (texts : List (List ℕ)) (names : Option ReplacementTable) (s : Span) → Stand texts names s.at s.end → roles (text_of texts None s) ≡ roles (text_of texts names s)
as_it_stands texts names s stand =
    roles_are texts None s ∙ sym (same_within (role_in names) (role_in None) s.at (s.end - s.at) texts (λ k after before within. stand k after (omega (arith, after, before)) within)) ∙ sym (roles_are texts names s)
