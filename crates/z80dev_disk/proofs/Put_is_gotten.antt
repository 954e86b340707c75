-- A file that was put on a disk comes back with `get`.
use Rattle.std.proofs.Common.{◌≡◌, ◌≢◌, ◌<◌, ◌≤◌, ◌+◌, ◌-◌, ◌*◌, ◌/◌, ◌%◌, ◌⊎◌, ℕ, zero, suc, ◌==◌, true, false, List, [], ◌∷◌, ◌++◌, Some, None, drop, length, replicate, take, unwrap_or, refl, sym, ap, ap₂, ◌∙◌, inl, inr, arith, if◌then◌else◌, lt-ltb}
use Rattle.std.specs.List.{flat_map, list_any, range_with_len}
use Rattle.std.proofs.Math.Seq.{take-add}
use Rattle.std.proofs.lemmas.Bool.{cases_eq}
use Rattle.std.proofs.lemmas.List.{append_assoc, append-nil, length-drop, length-take-le, take-append-drop, take_all}
use Rattle.cpm_image.specs.declared.kind.DiskKind.{DiskKind}
use Rattle.cpm_image.specs.Directory.Searches.{size}
use Rattle.cpm_disk.specs.Image.{Image, directory}
use Rattle.z80dev_disk.specs.Disks.{one_file}
use Rattle.z80dev_disk.specs.Get.{copied_record, copied_below, got}
use Rattle.z80dev_disk.specs.Put.{HasFile, padded_record, record_to_put, records_to_put}
use Rattle.z80dev_disk.specs.Text.{cpm_text, host_text}
use Rattle.z80dev_disk.proofs.Lists.{one_more}
use Rattle.z80dev_disk.proofs.Texts.{text_comes_back}

none_taken : (xs : List ℕ) → take 0 xs ≡ []
none_taken [] = refl
none_taken (x ∷ xs) = refl

-- the first m records of a file, all full, are its first 128 * m bytes
full_records : (file : List ℕ) (m : ℕ) → 128 * m ≤ length file → flat_map (record_to_put file) (range_with_len 0 m) ≡ take (128 * m) file
full_records file zero within = let none : 0 ≡ 128 * zero = omega arith in sym (none_taken file) ∙ ap (λ n. take n file) none
full_records file (suc m) within =
    let next : suc m ≡ m + 1 = omega arith in
    let low : 128 * m ≤ length file = omega (arith, within) in
    let piece = take 128 (drop (128 * m) file) in
    let long : length piece ≡ 128 = length-take-le 128 (drop (128 * m) file) (omega (arith, within, length-drop (128 * m) file)) in
    let whole : record_to_put file m ≡ piece = ap (λ n. piece ++ replicate (128 - n) 0x1A) long ∙ append-nil piece in
    let all : 128 * m + 128 ≡ 128 * suc m = omega arith in
    ap (λ n. flat_map (record_to_put file) (range_with_len 0 n)) next ∙ one_more (record_to_put file) m ∙ ap₂ (λ xs ys. xs ++ ys) (full_records file m low) whole
    ∙ sym (take-add (128 * m) 128 file) ∙ ap (λ n. take n file) all

-- all records of a file are its bytes, padded with 1AH
all_records : (file : List ℕ) → flat_map (record_to_put file) (range_with_len 0 (records_to_put file)) ≡ file ++ replicate (128 * records_to_put file - length file) 0x1A
all_records file = go (cases_eq (length file % 128) 0)
  where
    go : (length file % 128 ≡ 0) ⊎ (length file % 128 ≡ 0 → ⊥) → flat_map (record_to_put file) (range_with_len 0 (records_to_put file)) ≡ file ++ replicate (128 * records_to_put file - length file) 0x1A
    go (inl even) =
        let exact : 128 * records_to_put file ≡ length file = omega (arith, even) in
        let none : 128 * records_to_put file - length file ≡ 0 = omega (arith, exact) in
        full_records file (records_to_put file) (omega (arith, exact)) ∙ take_all (128 * records_to_put file) file (omega (arith, exact))
        ∙ sym (append-nil file) ∙ ap (λ n. file ++ replicate n 0x1A) (sym none)
    go (inr odd) =
        let q = length file / 128 in
        let some : length file % 128 ≢ 0 = odd in
        let count : records_to_put file ≡ q + 1 = omega (arith, some) in
        let low : 128 * q ≤ length file = omega arith in
        let rest = drop (128 * q) file in
        let short : length rest ≤ 128 = omega (arith, length-drop (128 * q) file) in
        let left : 128 - length rest ≡ 128 * records_to_put file - length file = omega (arith, count, length-drop (128 * q) file) in
        let last : record_to_put file q ≡ rest ++ replicate (128 * records_to_put file - length file) 0x1A = ap padded_record (take_all 128 rest short) ∙ ap (λ n. rest ++ replicate n 0x1A) left in
        ap (λ n. flat_map (record_to_put file) (range_with_len 0 n)) count ∙ one_more (record_to_put file) q ∙ ap₂ (λ xs ys. xs ++ ys) (full_records file q low) last
        ∙ sym (append_assoc (take (128 * q) file) rest (replicate (128 * records_to_put file - length file) 0x1A))
        ∙ ap (λ xs. xs ++ replicate (128 * records_to_put file - length file) 0x1A) (take-append-drop (128 * q) file)

-- if two functions agree on each number below n, they give the same bytes for all of them
same_below : (f g : ℕ → List ℕ) (n : ℕ) → ((k : ℕ) → k < n → f k ≡ g k) → flat_map f (range_with_len 0 n) ≡ flat_map g (range_with_len 0 n)
same_below f g zero same = refl
same_below f g (suc n) same =
    let next : suc n ≡ n + 1 = omega arith in
    ap (λ m. flat_map f (range_with_len 0 m)) next ∙ one_more f n ∙ ap₂ (λ xs ys. xs ++ ys) (same_below f g n (λ k below. same k (omega (arith, below)))) (same n (omega arith))
    ∙ sym (one_more g n) ∙ ap (λ m. flat_map g (range_with_len 0 m)) (sym next)

-- the records of the stored file below its size
pub copied_whole : (kind : DiskKind) (old new : Image) (user : ℕ) (name file : List ℕ) → HasFile kind old new user name file
    → copied_below kind new user name (records_to_put file) ≡ file ++ replicate (128 * records_to_put file - length file) 0x1A
copied_whole kind old new user name file has =
    let each : (k : ℕ) → k < records_to_put file → copied_record kind new user name k ≡ record_to_put file k =
    λ k below. ap (λ o. unwrap_or o (replicate 128 0)) (has.records k ∙ ap (λ b. if b then Some (record_to_put file k) else None) (lt-ltb k (records_to_put file) below)) in
    same_below (copied_record kind new user name) (record_to_put file) (records_to_put file) each ∙ all_records file

pub put_is_gotten : (kind : DiskKind) (old new : Image) (user : ℕ) (name file : List ℕ) → HasFile kind old new user name file
    → got kind new user name false (size user name (directory kind new)) ≡ one_file (file ++ replicate (128 * records_to_put file - length file) 0x1A)
put_is_gotten kind old new user name file has = ap (got kind new user name false) has.size_is ∙ ap one_file (copied_whole kind old new user name file has)

-- a text that was put on a disk as a text comes back as a text
pub text_is_gotten : (kind : DiskKind) (old new : Image) (user : ℕ) (name text : List ℕ) → list_any (λ b. b == 0x1A) text ≡ false → HasFile kind old new user name (cpm_text text)
    → got kind new user name true (size user name (directory kind new)) ≡ one_file text
text_is_gotten kind old new user name text none has =
    ap (got kind new user name true) has.size_is
    ∙ ap (λ bytes. one_file (host_text bytes)) (copied_whole kind old new user name (cpm_text text) has)
    ∙ ap one_file (text_comes_back text (128 * records_to_put (cpm_text text) - length (cpm_text text)) none)
