-- The longest front of a line that can be cut into tokens.
use Rattle.std.proofs.Common.{◌≡◌, ◌∙◌, ◌<◌, ◌-◌, ◌+◌, ◌++◌, ap, arith, sym, ℕ, zero, suc, false, cond, List, [], Option, append_assoc, drop, length, slice_index_or, take}
use Rattle.std.specs.Prelude.{is_none}
use Rattle.std.specs.List.{filter_map}
use Rattle.std.specs.Option.{option_to_list}
use Rattle.std.proofs.lemmas.List.{drop_more}
use Rattle.asm_macro.specs.Texts.{numbered}
use Rattle.asm_text.specs.Lines.{Numbered}
use Rattle.source_errors.proofs.Loops.{if_one}
use Rattle.source_errors.specs.Found.{front, scan_fault}

pub front_less : (n : ℕ) (line : List ℕ) → 0 < n → is_none (scan_fault (take n line)) ≡ false → front (n - 1) line ≡ front n line
front_less zero line some is = absurd (omega (arith, some))
front_less (suc k) line some is = ap (λ m. front m line) (omega arith) ∙ sym (ap (λ b. cond b (take (suc k) line) (front k line)) is)

-- One line more: its error is no longer to come, but there.
pub numbered_more : {Z : Type 0} (f : Numbered → Option Z) (xs : List (List ℕ)) (i : ℕ) (found new whole : List Z) → i < length xs
    → new ≡ found ++ option_to_list (f (record { number = i + 1; text = slice_index_or xs i [] })) → found ++ filter_map f (numbered (i + 1) (drop i xs)) ≡ whole
    → new ++ filter_map f (numbered ((i + 1) + 1) (drop (i + 1) xs)) ≡ whole
numbered_more f xs i found new whole lt now was =
    ap (λ ys. ys ++ filter_map f (numbered ((i + 1) + 1) (drop (i + 1) xs))) now
    ∙ append_assoc found (option_to_list (f (record { number = i + 1; text = slice_index_or xs i [] }))) (filter_map f (numbered ((i + 1) + 1) (drop (i + 1) xs)))
    ∙ ap (λ ys. found ++ ys) (sym (if_one (f (record { number = i + 1; text = slice_index_or xs i [] })) (filter_map f (numbered ((i + 1) + 1) (drop (i + 1) xs)))))
    ∙ ap (λ ys. found ++ filter_map f (numbered (i + 1) ys)) (sym (drop_more xs i [] lt))
    ∙ was
