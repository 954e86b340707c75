-- Files that are written one by one.
use Rattle.std.proofs.Common.{◌≡◌, ◌+◌, ◌<◌, ℕ, List, [], ◌∷◌, ◌++◌, Option, None, Some, length, map, get_or, take, sym, ap, subst, ◌∙◌, arith, inl, inr, string_bytes}
use Rattle.std.proofs.lemmas.List.{append_assoc, append-nil, get_or-map, length-map, map-append, take_more}
use Rattle.std.specs.Prelude.{◌⊎◌}
use Rattle.host.specs.declared.answer.Kind.{Kind}
use Rattle.host.specs.declared.ending.Output.{Output}
use Rattle.host.specs.Answers.{file_of}
use Rattle.host.specs.Private.Steps.{AreOutputs, with_path}
use Rattle.host.specs.Files.{Adds, File, Folder, Grows}
use Rattle.host.specs.Finishing.{named, path_of}

-- nothing is written
pub grows_none : (old : Option (List File)) → Grows old old []
grows_none None = tt
grows_none (Some files) = sym (append-nil files)

-- some files, and then others
pub grows_trans : (old mid new : Option (List File)) (xs ys : List File) → Grows old mid xs → Grows mid new ys → Grows old new (xs ++ ys)
grows_trans None mid new xs ys first rest = tt
grows_trans (Some a) None new xs ys first rest = absurd first
grows_trans (Some a) (Some b) None xs ys first rest = absurd rest
grows_trans (Some a) (Some b) (Some c) xs ys first rest = rest ∙ ap (λ z. z ++ ys) first ∙ append_assoc a xs ys

-- some files are added, and then others
pub adds_trans : (old mid new : Folder) (xs ys : List File) → Adds old mid xs → Adds mid new ys → Adds old new (xs ++ ys)
adds_trans old mid new xs ys (grown, stored, replaced, (asks, locked, claimed), spent, part, placed) (more, stored_then, replaced_then, (asks_then, locked_then, claimed_then), spent_then, part_then, placed_then) = (
  grows_trans old.files mid.files new.files xs ys grown more,
  grows_trans old.stored mid.stored new.stored xs ys stored stored_then,
  replaced_then ∙ replaced,
  (asks_then ∙ asks, locked_then ∙ locked, claimed_then ∙ claimed),
  spent_then ∙ spent,
  part_then ∙ part,
  placed_then ∙ placed,
)

-- no file more
pub none_more : (old mid new : Folder) (xs : List File) → Adds old mid xs → Adds mid new [] → Adds old new xs
none_more old mid new xs so_far none = subst (Adds old new) (append-nil xs) (adds_trans old mid new xs [] so_far none)

-- one file more
pub one_more : (base : List ℕ) (files : List (Kind × List ℕ)) (k : ℕ) (d : Kind × List ℕ) (old mid new : Folder) → k < length files → Adds old mid (map (named base) (take k files))
    → Adds mid new (named base (get_or files k d) ∷ []) → Adds old new (map (named base) (take (k + 1) files))
one_more base files k d old mid new lt so_far this =
    subst (Adds old new) (sym (ap (map (named base)) (take_more files k d lt) ∙ map-append (named base) (take k files) (get_or files k d ∷ [])))
    (adds_trans old mid new (map (named base) (take k files)) (named base (get_or files k d) ∷ []) so_far this)

-- a file that is written or not
pub one_or_none : (base : List ℕ) (files : List (Kind × List ℕ)) (k : ℕ) (d : Kind × List ℕ) (old mid new : Folder) → k < length files → Adds old mid (map (named base) (take k files))
    → Adds mid new [] ⊎ Adds mid new (named base (get_or files k d) ∷ []) → Adds old new (map (named base) (take k files)) ⊎ Adds old new (map (named base) (take (k + 1) files))
one_or_none base files k d old mid new lt so_far (inl none) = inl (none_more old mid new (map (named base) (take k files)) so_far none)
one_or_none base files k d old mid new lt so_far (inr this) = inr (one_more base files k d old mid new lt so_far this)

-- the file that was written is that of its number
pub this_file : (base : List ℕ) (files : List (Kind × List ℕ)) (k : ℕ) (d item : Kind × List ℕ) (path bytes : List ℕ) → item ≡ get_or files k d → path ≡ path_of base item.0 → bytes ≡ item.1
    → (path, bytes) ≡ named base (get_or files k d)
this_file base files k d item path bytes at named_so filled = ap (λ p. (p, bytes)) named_so ∙ ap (λ b. (path_of base item.0, b)) filled ∙ ap (named base) at

-- If two lists have the same elements under two functions, so have their elements of one number.
pub same_at : {A B C : Type 0} (f : A → C) (g : B → C) (xs : List A) (ys : List B) (k : ℕ) (x : A) (y : B) → map f xs ≡ map g ys → k < length xs
    → (k < length ys) × (f (get_or xs k x) ≡ g (get_or ys k y))
same_at f g xs ys k x y same lt =
    let there : k < length ys = omega (arith, lt, length-map xs f, length-map ys g, ap length same) in
    (there, sym (get_or-map f xs k x (f x) lt) ∙ ap (λ zs. get_or zs k (f x)) same ∙ get_or-map g ys k y (f x) there)

-- a file that is written is that of its number, under its path
pub this_output : (base : List ℕ) (all : List (Kind × List ℕ)) (outputs : List Output) (k : ℕ) (output : Output) (path bytes : List ℕ) → AreOutputs base all outputs → k < length outputs
    → output ≡ get_or outputs k output → path ≡ string_bytes output.path → bytes ≡ output.file.now.bytes.items
    → (k < length all) × (file_of output.file.now ≡ get_or all k (file_of output.file.now)) × ((path, bytes) ≡ named base (get_or all k (file_of output.file.now)))
this_output base all outputs k output path bytes are lt this is_path is_bytes =
    let item = file_of output.file.now in
    let found = same_at (λ (o : Output). (string_bytes o.path, file_of o.file.now)) (with_path base) outputs all k output item are lt in
    let same : (string_bytes output.path, item) ≡ with_path base (get_or all k item) = ap (λ (o : Output). (string_bytes o.path, file_of o.file.now)) this ∙ found.1 in
    let at : item ≡ get_or all k item = ap (λ p. p.1) same in
    (found.0, at, this_file base all k item item path bytes at (is_path ∙ ap (λ p. p.0) same ∙ ap (λ (f : Kind × List ℕ). path_of base f.0) (sym at)) is_bytes)

-- one file more with its path
pub one_output : (base : List ℕ) (all : List (Kind × List ℕ)) (k : ℕ) (item : Kind × List ℕ) (outputs : List Output) (output : Output) → k < length all → AreOutputs base (take k all) outputs
    → string_bytes output.path ≡ path_of base item.0 → file_of output.file.now ≡ item → item ≡ get_or all k item → AreOutputs base (take (k + 1) all) (outputs ++ output ∷ [])
one_output base all k item outputs output lt so_far is_path is_item at =
    let known : Output → List ℕ × (Kind × List ℕ) = λ o. (string_bytes o.path, file_of o.file.now) in
    let one : known output ≡ with_path base (get_or all k item) = ap (λ p. (p, file_of output.file.now)) is_path ∙ ap (λ (f : Kind × List ℕ). (path_of base item.0, f)) is_item ∙ ap (with_path base) at in
    map-append known outputs (output ∷ []) ∙ ap (λ xs. xs ++ known output ∷ []) so_far ∙ ap (λ x. map (with_path base) (take k all) ++ x ∷ []) one
    ∙ sym (ap (map (with_path base)) (take_more all k item lt) ∙ map-append (with_path base) (take k all) (get_or all k item ∷ []))
