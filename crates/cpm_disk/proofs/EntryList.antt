-- Entries that are read one after the other.
use Rattle.std.proofs.Common.{◌≡◌, ◌+◌, ◌*◌, ℕ, List, [], ◌∷◌, ◌++◌, drop, length, length-append, take, sym, ap, ◌∙◌, inl, inr, arith}
use Rattle.std.proofs.lemmas.Bool.{cases_eq}
use Rattle.std.proofs.lemmas.List.{get_or_append_left, get_or_at}
use Rattle.cpm_image.specs.declared.directory.entry.Entry.{Entry}
use Rattle.cpm_image.specs.Directory.Entries.{at, blank, entry_of}
use Rattle.cpm_disk.specs.Private.Reading.{Extended}

pub one_more_piece : (old now new : List Entry) (bytes : List ℕ) (count : ℕ) (e : Entry) → Extended old now bytes count → new ≡ now ++ e ∷ [] → e ≡ entry_of (take 32 (drop (32 * count) bytes)) → Extended old new bytes (count + 1)
one_more_piece old now new bytes count e so_far is piece = record {
  size = (let long = length-append now (e ∷ []) in let before = so_far.size in ap length is ∙ omega arith);
  kept = λ k below. (let size = so_far.size in ap (λ es. at es k) is ∙ get_or_append_left now (e ∷ []) blank k (omega arith) ∙ so_far.kept k below);
  added = λ i below. elim (cases_eq i count) as (λ _. at new (length old + i) ≡ entry_of (take 32 (drop (32 * i) bytes))) [
    | inl last ↦ (let place : length now ≡ length old + i = so_far.size ∙ ap (λ n. length old + n) (sym last) in
        ap (λ es. at es (length old + i)) is ∙ get_or_at now e [] blank (length old + i) place ∙ piece ∙ ap (λ n. entry_of (take 32 (drop (32 * n) bytes))) (sym last))
    | inr before ↦ (let size = so_far.size in ap (λ es. at es (length old + i)) is ∙ get_or_append_left now (e ∷ []) blank (length old + i) (omega arith) ∙ so_far.added i (omega arith))
  ];
}
