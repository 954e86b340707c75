-- A text is the record of one session.
use Rattle.std.proofs.Common.{◌≡◌, ◌<◌, ◌^◌, ◌++◌, ◌∷◌, [], ℕ, All, List, Ok, ap, arith, codes, decimal, length, refl, sym, ◌∙◌}
use Rattle.std.proofs.lemmas.Fmt.{decimal_injective}
use Rattle.std.proofs.lemmas.List.Elements.{All-head, All-tail}
use Rattle.hex.specs.Hex.{decode_of, encode_upper, upper_digits}
use Rattle.hex.proofs.HexLemmas.{decode_of-encode_upper, length-encode_with}
use Rattle.cpm_run.specs.declared.arriving.Arrival.{Arrival}
use Rattle.machine_history.specs.Recorded.{HasWidths, arrival_line, closing_line, record_text}
use Rattle.machine_history.proofs.Cutting.{arrival_parts, byte_alone, closing_parts, decimal_lacks, end_lacks, hex_lacks, one_cut}
use Rattle.machine_history.proofs.Leftovers.{begins_byte, begins_end}

-- two lines that begin one text have the same number, and the same after it
numbers_same : (m n : ℕ) (v w : List ℕ) → m < 2 ^ 64 → n < 2 ^ 64 → decimal m ++ 32 ∷ v ≡ decimal n ++ 32 ∷ w → (m ≡ n) × (v ≡ w)
numbers_same m n v w p q e =
    let cut = one_cut 32 (decimal m) (decimal n) v w (decimal_lacks m 32 (omega arith) p) (decimal_lacks n 32 (omega arith) q) e in
    (decimal_injective m n p q cut.0, cut.1)

bytes_same : (x y : ℕ) → x < 256 → y < 256 → encode_upper (x ∷ []) ≡ encode_upper (y ∷ []) → x ≡ y
bytes_same x y p q e =
    let both : ◌≡◌ {A = _} (Ok (x ∷ [])) (Ok (y ∷ [])) = sym (decode_of-encode_upper (x ∷ []) (byte_alone x p)) ∙ ap decode_of e ∙ decode_of-encode_upper (y ∷ []) (byte_alone y q) in
    cc

-- the word END is the digits of no byte
end_is_no_byte : (y : ℕ) → codes "END" ≡ encode_upper (y ∷ []) → ⊥
end_is_no_byte y e =
    let two = length-encode_with upper_digits (y ∷ []) in
    let three = ap length e in
    omega (arith, two, three)

-- one text does not begin with both
clash : {A : Type 0} (n : ℕ) (b : Arrival) (v w : List ℕ) → n < 2 ^ 64 → HasWidths b → closing_line n ++ v ≡ arrival_line b ++ w → A
clash n b v w lt fits e =
    let parts = numbers_same n b.turn (codes "END" ++ 10 ∷ v) (encode_upper (b.byte ∷ []) ++ 10 ∷ w) lt fits.0 (sym (closing_parts n v) ∙ e ∙ arrival_parts b w) in
    let words = one_cut 10 (codes "END") (encode_upper (b.byte ∷ [])) v w end_lacks (hex_lacks b.byte 10 refl fits.1) parts.1 in
    absurd (end_is_no_byte b.byte words.0)

first_same : (a b : Arrival) (v w : List ℕ) → HasWidths a → HasWidths b → arrival_line a ++ v ≡ arrival_line b ++ w → (a ≡ b) × (v ≡ w)
first_same a b v w fits there e =
    let parts = numbers_same a.turn b.turn (encode_upper (a.byte ∷ []) ++ 10 ∷ v) (encode_upper (b.byte ∷ []) ++ 10 ∷ w) fits.0 there.0 (sym (arrival_parts a v) ∙ e ∙ arrival_parts b w) in
    let words = one_cut 10 (encode_upper (a.byte ∷ [])) (encode_upper (b.byte ∷ [])) v w (hex_lacks a.byte 10 refl fits.1) (hex_lacks b.byte 10 refl there.1) parts.1 in
    let byte = bytes_same a.byte b.byte fits.1 there.1 words.0 in
    (ap (λ (n : ℕ). record { turn = n; byte = a.byte }) parts.0 ∙ ap (λ (x : ℕ). record { turn = b.turn; byte = x }) byte, words.1)

pub one_record : (a b : List Arrival) (m n : ℕ) → All HasWidths a → All HasWidths b → m < 2 ^ 64 → n < 2 ^ 64 → record_text a m ≡ record_text b n → (a ≡ b) × (m ≡ n)
one_record [] [] m n p q lt less e =
    let parts = numbers_same m n (codes "END" ++ 10 ∷ []) (codes "END" ++ 10 ∷ []) lt less (sym (closing_parts m []) ∙ sym (begins_end m) ∙ e ∙ begins_end n ∙ closing_parts n []) in
    (refl, parts.0)
one_record [] (b ∷ ys) m n p q lt less e = clash m b [] (record_text ys n) lt (All-head HasWidths b ys q) (sym (begins_end m) ∙ e ∙ begins_byte b ys n)
one_record (a ∷ xs) [] m n p q lt less e = clash n a [] (record_text xs m) less (All-head HasWidths a xs p) (sym (begins_end n) ∙ sym e ∙ begins_byte a xs m)
one_record (a ∷ xs) (b ∷ ys) m n p q lt less e =
    let first = first_same a b (record_text xs m) (record_text ys n) (All-head HasWidths a xs p) (All-head HasWidths b ys q) (sym (begins_byte a xs m) ∙ e ∙ begins_byte b ys n) in
    let rest = one_record xs ys m n (All-tail HasWidths a xs p) (All-tail HasWidths b ys q) lt less first.1 in
    (ap (λ (x : Arrival). x ∷ xs) first.0 ∙ ap (λ (zs : List Arrival). b ∷ zs) rest.0, rest.1)
