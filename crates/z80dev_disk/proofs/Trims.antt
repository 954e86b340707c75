-- A part of a name without the blanks at its end.
use Rattle.std.proofs.Common.{◌≡◌, ℕ, ◌+◌, ◌-◌, ◌==◌, ◌<◌, true, false, List, [], ◌∷◌, ◌++◌, cond, length, take, reverse, get_or, sym, ap, ◌∙◌, arith}
use Rattle.std.specs.List.{prefix_len}
use Rattle.std.proofs.lemmas.List.{length-append, reverse-append, take-append-le, take_all, take_more}
use Rattle.z80dev_disk.specs.Names.{trimmed}

-- the number of blanks at the end of a part to which one byte is added
behind : (xs : List ℕ) (b : ℕ) → prefix_len (λ c. c == 0x20) (reverse (xs ++ b ∷ [])) ≡ cond (b == 0x20) (1 + prefix_len (λ c. c == 0x20) (reverse xs)) 0
behind xs b = ap (prefix_len (λ c. c == 0x20)) (reverse-append xs (b ∷ []))

-- A blank at the end is left out.
blank_goes : (xs : List ℕ) (b : ℕ) → (b == 0x20) ≡ true → trimmed (xs ++ b ∷ []) ≡ trimmed xs
blank_goes xs b is =
    let n = prefix_len (λ c. c == 0x20) (reverse xs) in
    let counted : prefix_len (λ c. c == 0x20) (reverse (xs ++ b ∷ [])) ≡ 1 + n = behind xs b ∙ ap (λ t. cond t (1 + n) 0) is in
    let longer : length (xs ++ b ∷ []) ≡ length xs + 1 = length-append xs (b ∷ []) in
    let left : length (xs ++ b ∷ []) - prefix_len (λ c. c == 0x20) (reverse (xs ++ b ∷ [])) ≡ length xs - n = omega (arith, counted, longer) in
    ap (λ k. take k (xs ++ b ∷ [])) left ∙ take-append-le (length xs - n) xs (b ∷ []) (omega arith)

-- Any other byte at the end stays, and all before it.
other_ends : (xs : List ℕ) (b : ℕ) → (b == 0x20) ≡ false → trimmed (xs ++ b ∷ []) ≡ xs ++ b ∷ []
other_ends xs b is =
    let n = prefix_len (λ c. c == 0x20) (reverse xs) in
    let counted : prefix_len (λ c. c == 0x20) (reverse (xs ++ b ∷ [])) ≡ 0 = behind xs b ∙ ap (λ t. cond t (1 + n) 0) is in
    take_all (length (xs ++ b ∷ []) - prefix_len (λ c. c == 0x20) (reverse (xs ++ b ∷ []))) (xs ++ b ∷ []) (omega (arith, counted))

-- a step of the loop: the byte before `end` is a blank
pub shorter : (part : List ℕ) (k : ℕ) (b : ℕ) → k < length part → get_or part k b ≡ b → (b == 0x20) ≡ true → trimmed part ≡ trimmed (take (k + 1) part) → trimmed part ≡ trimmed (take k part)
shorter part k b below at is so_far = so_far ∙ ap trimmed (take_more part k b below ∙ ap (λ c. take k part ++ c ∷ []) at) ∙ blank_goes (take k part) b is

-- the end of the loop: the byte before `end` is not a blank
pub ended : (part : List ℕ) (k : ℕ) (b : ℕ) → k < length part → get_or part k b ≡ b → (b == 0x20) ≡ false → trimmed part ≡ trimmed (take (k + 1) part) → trimmed part ≡ take (k + 1) part
ended part k b below at is so_far =
    let front = take_more part k b below ∙ ap (λ c. take k part ++ c ∷ []) at in
    so_far ∙ ap trimmed front ∙ other_ends (take k part) b is ∙ sym front
