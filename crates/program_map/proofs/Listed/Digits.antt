-- What is written for a row and for a line.
use Rattle.std.proofs.Common.{◌≡◌, ◌∙◌, ◌+◌, ◌-◌, ◌<◌, ◌≤◌, ℕ, zero, suc, List, [], ◌∷◌, ◌++◌, length, get_or, map, min, take, drop, refl, ap, arith, append_assoc}
use Rattle.std.specs.List.{flat_map}
use Rattle.std.proofs.lemmas.List.{length-map, map-append, take-map}
use Rattle.common.specs.declared.limits.TheConstants.{FIRST_PLACE}
use Rattle.hex.specs.Hex.{encode_upper, encode_with}
use Rattle.program_map.specs.declared.listings.cells.Cell.{Cell}
use Rattle.program_map.specs.Listings.Printed.{address_text, blanks, left_in, listed_line, margin, listing_row, rows}
use Rattle.program_map.specs.Private.Runs.{byte_of}

-- an address, and the bytes after it
pub address_before : (high low : ℕ) (bytes : List ℕ) → encode_upper (high ∷ low ∷ bytes) ≡ encode_upper (high ∷ low ∷ []) ++ encode_upper bytes
unfolding encode_with
address_before high low bytes = refl

pub address_front : (address : ℕ) (text : List ℕ) → take 4 (address_text address ++ text) ≡ address_text address
unfolding encode_with
address_front address text = refl

pub address_behind : (address : ℕ) (text : List ℕ) → drop 4 (address_text address ++ text) ≡ text
unfolding encode_with
address_behind address text = refl

pub address_long : (address : ℕ) (text : List ℕ) → 4 ≤ length (address_text address ++ text)
unfolding encode_with
address_long address text = omega arith

-- a row of at most four bytes, after the two bytes of its address
pub row_taken : (high low : ℕ) (row : List ℕ) → length row ≤ 4
    → take (2 + length row) (high ∷ low ∷ get_or row 0 0 ∷ get_or row 1 0 ∷ get_or row 2 0 ∷ get_or row 3 0 ∷ []) ≡ high ∷ low ∷ row
row_taken high low [] h = refl
row_taken high low (a ∷ []) h = refl
row_taken high low (a ∷ b ∷ []) h = refl
row_taken high low (a ∷ b ∷ c ∷ []) h = refl
row_taken high low (a ∷ b ∷ c ∷ d ∷ []) h = refl
row_taken high low (a ∷ b ∷ c ∷ d ∷ e ∷ row) h = absurd (omega arith)

values_are : (cells : List Cell) → map (λ b. b.value) (map byte_of cells) ≡ map (λ c. c.value) cells
values_are [] = refl
values_are (c ∷ cells) = ap (λ vs. c.value ∷ vs) (values_are cells)

pub margin_is : (first : Cell) (more : List Cell) → margin (map byte_of (first ∷ more))
    ≡ address_text (FIRST_PLACE + first.number) ++ blanks 2 ++ left_in 8 (encode_upper (map (λ c. c.value) (first ∷ more))) ++ blanks 2
margin_is first more = rw (values_are more) refl

-- the first chunk of four, or the last one, is the first row
pub rows_first : {X : Type 0} (all row rest : List X) → all ≡ row ++ rest → length row ≡ min 4 (length all) → 0 < length all → row ∷ rows rest ≡ rows all
rows_first all [] rest parts size some = absurd (omega arith)
rows_first all (a ∷ []) [] parts size some = rw parts refl
rows_first all (a ∷ b ∷ []) [] parts size some = rw parts refl
rows_first all (a ∷ b ∷ c ∷ []) [] parts size some = rw parts refl
rows_first all (a ∷ []) (x ∷ rest) parts size some = absurd (omega (arith, ap length parts))
rows_first all (a ∷ b ∷ []) (x ∷ rest) parts size some = absurd (omega (arith, ap length parts))
rows_first all (a ∷ b ∷ c ∷ []) (x ∷ rest) parts size some = absurd (omega (arith, ap length parts))
rows_first all (a ∷ b ∷ c ∷ d ∷ []) rest parts size some = rw parts refl
rows_first all (a ∷ b ∷ c ∷ d ∷ e ∷ row) rest parts size some = absurd (omega arith)

pub margin_put : (first : Cell) (more own : List Cell) (out one two three four five address bytes : List ℕ) (k : ℕ) → own ≡ first ∷ more
    → address ≡ address_text (FIRST_PLACE + first.number) → bytes ≡ encode_upper (map (λ c. c.value) own)
    → one ≡ out ++ address → two ≡ one ++ blanks 2 → three ≡ two ++ bytes → k ≡ 8 - length bytes → four ≡ three ++ blanks k → five ≡ four ++ blanks 2
    → five ≡ out ++ margin (map byte_of own)
margin_put first more own out one two three four five address bytes k parts a b e1 e2 e3 ek e4 e5 =
    rw (e5, e4, ek, e3, e2, e1, a, b, parts, margin_is first more) (simp append_assoc)

drop-map : {X Y : Type 0} (f : X → Y) (n : ℕ) (xs : List X) → drop n (map f xs) ≡ map f (drop n xs)
drop-map f zero xs = refl
drop-map f (suc n) [] = refl
drop-map f (suc n) (x ∷ xs) = drop-map f n xs

-- the first row of a line
pub line_put : (text : List ℕ) (cells first more : List Cell) (out one : List ℕ) → first ≡ take 4 cells → more ≡ drop 4 cells
    → one ≡ out ++ listing_row text (map byte_of first) → one ++ flat_map (listing_row []) (rows (map byte_of more)) ≡ out ++ listed_line text (map byte_of cells)
line_put text cells first more out one f m e =
    rw (e, f, m, take-map byte_of 4 cells, drop-map byte_of 4 cells) (append_assoc out (listing_row text (map byte_of (take 4 cells))) (flat_map (listing_row []) (rows (map byte_of (drop 4 cells)))))

-- a further row of a line
pub row_put : (cells own rest : List Cell) (out now : List ℕ) → cells ≡ own ++ rest → length own ≡ min 4 (length cells) → 0 < length cells
    → now ≡ out ++ listing_row [] (map byte_of own) → now ++ flat_map (listing_row []) (rows (map byte_of rest)) ≡ out ++ flat_map (listing_row []) (rows (map byte_of cells))
row_put cells own rest out now parts size some e =
    let first : map byte_of own ∷ rows (map byte_of rest) ≡ rows (map byte_of cells) =
    rows_first (map byte_of cells) (map byte_of own) (map byte_of rest) (ap (map byte_of) parts ∙ map-append byte_of own rest)
    (rw (length-map own byte_of, length-map cells byte_of) size) (rw (length-map cells byte_of) some) in
    rw e (append_assoc out (listing_row [] (map byte_of own)) (flat_map (listing_row []) (rows (map byte_of rest))) ∙ ap (λ rs. out ++ flat_map (listing_row []) rs) first)
