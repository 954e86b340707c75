-- The newest file of a path, sought from the last file on.
use Rattle.std.proofs.Common.{◌≡◌, ◌≢◌, ℕ, ◌+◌, ◌-◌, ◌<◌, true, false, List, ◌∷◌, ◌++◌, All, drop, take, length, map, get_or, sym, ap, ◌∙◌, arith}
use Rattle.std.specs.Str.{bytes_eq}
use Rattle.std.proofs.lemmas.Bool.{false≢true}
use Rattle.std.proofs.lemmas.List.{drop_more, get_or-map, length-map, take-append-drop}
use Rattle.std.proofs.lemmas.List.Elements.{All-cons}
use Rattle.std.proofs.lemmas.Slice.Eq.{bytes_eq-Decides}
use Rattle.host.specs.Files.{IsAt}
use Rattle.host.specs.Memory.{written_file}
use Rattle.host.specs.declared.memory.Written.{Written}

-- the files from the last of n on are that one, and those after it
pub from : (files : List Written) (n : ℕ) (d : Written) → n - 1 < length files → 0 < n
    → drop (n - 1) (map written_file files) ≡ written_file (get_or files (n - 1) d) ∷ drop n (map written_file files)
from files n d lt some =
    let next : n - 1 + 1 ≡ n = omega arith in
    drop_more (map written_file files) (n - 1) (written_file d) (rw (length-map files written_file) lt)
    ∙ ap (λ file. file ∷ drop (n - 1 + 1) (map written_file files)) (get_or-map written_file files (n - 1) d (written_file d) lt)
    ∙ ap (λ k. written_file (get_or files (n - 1) d) ∷ drop k (map written_file files)) next

-- A file with the path is there if none after it has it.
pub is_at : (files : List Written) (path : List ℕ) (n : ℕ) (d : Written) → n - 1 < length files → 0 < n
    → All (λ file. file.0 ≢ path) (drop n (map written_file files)) → bytes_eq (get_or files (n - 1) d).path.items path ≡ true
    → IsAt (map written_file files) path (get_or files (n - 1) d).bytes.items
is_at files path n d lt some none test =
    let same = (bytes_eq-Decides (get_or files (n - 1) d).path.items path).0 test in
    let all = map written_file files in (
      take (n - 1) all,
      drop n all,
      sym (take-append-drop (n - 1) all) ∙ ap (λ rest. take (n - 1) all ++ rest) (from files n d lt some ∙ ap (λ p. (p, (get_or files (n - 1) d).bytes.items) ∷ drop n all) same),
      none,
    )

-- A file that has another path is passed.
pub passed : (files : List Written) (path : List ℕ) (n : ℕ) (d : Written) → n - 1 < length files → 0 < n
    → All (λ file. file.0 ≢ path) (drop n (map written_file files)) → bytes_eq (get_or files (n - 1) d).path.items path ≡ false
    → All (λ file. file.0 ≢ path) (drop (n - 1) (map written_file files))
passed files path n d lt some none test =
    let it = get_or files (n - 1) d in
    let other : it.path.items ≢ path = λ same. false≢true (sym test ∙ (bytes_eq-Decides it.path.items path).1 same) in
    rw (from files n d lt some) (All-cons (λ file. file.0 ≢ path) _ _ other none)
