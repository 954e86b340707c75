-- The source line of each statement, one source after the other.
use Rattle.std.proofs.Common.{◌≡◌, ◌+◌, ◌<◌, ◌≤◌, ℕ, suc, List, [], ◌∷◌, ◌++◌, length, map, take, get_or, refl, sym, ap, ◌∙◌, arith, length-append}
use Rattle.std.specs.List.{enumerate_from, flat_map}
use Rattle.std.proofs.lemmas.Grind.{flat_map-append}
use Rattle.std.proofs.lemmas.List.{append-nil, length-map, length-take-le, map-append, take_more}
use Rattle.std.proofs.lemmas.List.Concat.{flat_map-cons}
use Rattle.asm_module.specs.declared.assembling.Lines as listing
use Rattle.zlink.specs.Program.Laws.{statement_count}
use Rattle.zlink.proofs.Programs.Laid_end_to_end.{count-cons}
use Rattle.zlink.specs.declared.origins.Origin as origin
use Rattle.zlink.specs.Built.{Origin, lines_of_statements, origin_of, origins_by}
use Rattle.zlink.specs.Sources.{Assembly, modules_of}
use Rattle.zlink.specs.Private.Assembling.{lines_in}

enumerated-append : {A : Type 0} (n : ℕ) (xs ys : List A) → enumerate_from n (xs ++ ys) ≡ enumerate_from n xs ++ enumerate_from (n + length xs) ys
enumerated-append n [] ys = ap (λ m. enumerate_from m ys) (omega arith)
enumerated-append n (x ∷ xs) ys = ap (λ rest. (n, x) ∷ rest) (enumerated-append (n + 1) xs ys ∙ ap (λ m. enumerate_from (n + 1) xs ++ enumerate_from m ys) (omega arith))

-- the origin of a statement: its address, source and line
abbrev put_at : (ℕ → ℕ) → ℕ × (ℕ × ℕ) → Origin
put_at places l = record { place = places l.0; source = l.1.0; line = l.1.1 }

abbrev of_lines : ℕ × listing.Lines → List (ℕ × ℕ)
of_lines l = map (λ line. (l.0, line)) l.1.each.items

abbrev of_assembly : ℕ × Assembly → List (ℕ × ℕ)
of_assembly a = map (λ line. (a.0, line)) a.1.assembled.each

from_start : {A : Type 0} (xs ys : List A) → enumerate_from 0 (xs ++ ys) ≡ enumerate_from 0 xs ++ enumerate_from (length xs) ys
from_start xs ys = let start : 0 + length xs ≡ length xs = omega arith in
    enumerated-append 0 xs ys ∙ ap (λ n. enumerate_from 0 xs ++ enumerate_from n ys) start

length-enumerated : {A : Type 0} (n : ℕ) (xs : List A) → length (enumerate_from n xs) ≡ length xs
length-enumerated n [] = refl
length-enumerated n (x ∷ xs) = ap suc (length-enumerated (n + 1) xs)

pub length-origins : (places : ℕ → ℕ) (lines : List (ℕ × ℕ)) → length (origins_by places lines) ≡ length lines
length-origins places lines = length-map (enumerate_from 0 lines) (put_at places) ∙ length-enumerated 0 lines

-- with one more line, the list has one more origin
pub origins-more : (places : ℕ → ℕ) (lines : List (ℕ × ℕ)) (source line : ℕ)
    → origins_by places (lines ++ (source, line) ∷ []) ≡ origins_by places lines ++ record { place = places (length lines); source = source; line = line } ∷ []
origins-more places lines source line =
    ap (map (put_at places)) (from_start lines ((source, line) ∷ [])) ∙ map-append (put_at places) (enumerate_from 0 lines) ((length lines, (source, line)) ∷ [])

pub pushed : (places : ℕ → ℕ) (old new : List origin.Origin) (o : origin.Origin) (before : List (ℕ × ℕ)) (source line : ℕ) → map origin_of old ≡ origins_by places before → new ≡ old ++ o ∷ [] → o.place ≡ places (length old) → o.source ≡ source → o.line ≡ line
    → map origin_of new ≡ origins_by places (before ++ (source, line) ∷ [])
pushed places old new o before source line so_far more place of_source of_line =
    let count : length old ≡ length before = sym (length-map old origin_of) ∙ ap length so_far ∙ length-origins places before in
    let same : origin_of o ≡ record { place = places (length before); source = source; line = line } = ap3 (λ p s l. record { place = p; source = s; line = l }) (place ∙ ap places count) of_source of_line in
    ap (map origin_of) more ∙ map-append origin_of old (o ∷ []) ∙ ap (λ xs. xs ++ origin_of o ∷ []) so_far ∙ ap (λ x. origins_by places before ++ x ∷ []) same ∙ sym (origins-more places before source line)
  where
    ap3 : {A B C D : Type 0} (f : A → B → C → D) {a a' : A} {b b' : B} {x x' : C} → a ≡ a' → b ≡ b' → x ≡ x' → f a b x ≡ f a' b' x'
    ap3 f e g h = cc

-- the lines of one more source
pub lines_more : (lines : List listing.Lines) (k : ℕ) (own : listing.Lines) → k < length lines → own ≡ get_or lines k own → lines_in (take (k + 1) lines) ≡ lines_in (take k lines) ++ map (λ line. (k, line)) own.each.items
lines_more lines k own lt is =
    let longer : take (k + 1) lines ≡ take k lines ++ own ∷ [] = take_more lines k own lt ∙ ap (λ x. take k lines ++ x ∷ []) (sym is) in
    let count : length (take k lines) ≡ k = length-take-le k lines (omega arith) in
    ap (λ ls. flat_map of_lines (enumerate_from 0 ls)) longer
    ∙ ap (flat_map of_lines) (from_start (take k lines) (own ∷ []))
    ∙ flat_map-append of_lines (enumerate_from 0 (take k lines)) ((length (take k lines), own) ∷ [])
    ∙ ap (λ rest. lines_in (take k lines) ++ rest) (append-nil (of_lines (length (take k lines), own)))
    ∙ ap (λ n. lines_in (take k lines) ++ of_lines (n, own)) count

-- There are as many lines as statements.
count_from : (n : ℕ) (sources : List Assembly) → ((k : ℕ) (d : Assembly) → k < length sources → length (get_or sources k d).assembled.each ≡ length (get_or sources k d).assembled.holds.statements)
    → length (flat_map of_assembly (enumerate_from n sources)) ≡ statement_count (modules_of sources)
count_from n [] each = refl
count_from n (a ∷ sources) each =
    let first : length (of_assembly (n, a)) ≡ length a.assembled.holds.statements = length-map a.assembled.each (λ line. (n, line)) ∙ each 0 a (omega arith) in
    let rest = flat_map of_assembly (enumerate_from (n + 1) sources) in
    ap length (flat_map-cons of_assembly (n, a) (enumerate_from (n + 1) sources))
    ∙ omega (arith, length-append (of_assembly (n, a)) rest, first, count_from (n + 1) sources (λ k d lt. each (suc k) d (omega arith)), count-cons a.assembled.holds (modules_of sources))

pub count_lines : (sources : List Assembly) → ((k : ℕ) (d : Assembly) → k < length sources → length (get_or sources k d).assembled.each ≡ length (get_or sources k d).assembled.holds.statements)
    → length (lines_of_statements sources) ≡ statement_count (modules_of sources)
count_lines sources each = count_from 0 sources each

-- If two lists of addresses agree for all statements, the origins are the same.
same_from : (f g : ℕ → ℕ) (n : ℕ) (lines : List (ℕ × ℕ)) → ((k : ℕ) → n ≤ k → k < n + length lines → f k ≡ g k)
    → map (put_at f) (enumerate_from n lines) ≡ map (put_at g) (enumerate_from n lines)
same_from f g n [] same = refl
same_from f g n (l ∷ lines) same =
    ap (λ p. record { place = p; source = l.0; line = l.1 } ∷ map (put_at f) (enumerate_from (n + 1) lines)) (same n (omega arith) (omega arith))
    ∙ ap (λ rest. put_at g (n, l) ∷ rest) (same_from f g (n + 1) lines (λ k le lt. same k (omega arith) (omega arith)))

pub origins_same : (f g : ℕ → ℕ) (lines : List (ℕ × ℕ)) → ((k : ℕ) → k < length lines → f k ≡ g k) → origins_by f lines ≡ origins_by g lines
origins_same f g lines same = same_from f g 0 lines (λ k le lt. same k (omega arith))
