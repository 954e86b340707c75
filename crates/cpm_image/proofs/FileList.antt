-- The listing of the files of a directory.
use Rattle.std.proofs.Common.{◌≡◌, ◌<◌, ℕ, zero, suc, List, [], ◌∷◌, Bool, true, false, cond, length, get_or, map, refl, arith, ◌∙◌, ap}
use Rattle.std.specs.List.{All, Contains, filter}
use Rattle.std.proofs.lemmas.List.{get_or-map, length-map}
use Rattle.std.proofs.lemmas.List.Elements.{All-map, All-cons, All-tail, All-contains, All-contains_itself, All-nil, Contains-get_or}
use Rattle.std.proofs.lemmas.List.Folds.{list_any_at}
use Rattle.cpm_image.specs.declared.directory.file.File.{File}
use Rattle.cpm_image.specs.Directory.Types.{Entry, Listed}
use Rattle.cpm_image.specs.Directory.Entries.{at, is_extent, is_of}
use Rattle.cpm_image.specs.Directory.Letters.{letters}
use Rattle.std.proofs.lemmas.Bool.{eq-eqb, ltb-true}
use Rattle.std.proofs.lemmas.Slice.Eq.{bytes_eq-Decides}
use Rattle.cpm_image.specs.declared.directory.entry.TheConstants.{USERS}
use Rattle.cpm_image.proofs.Names.{true_both}
use Rattle.cpm_image.specs.Private.Files.{AreInOrder, file_of, files_of}
use Rattle.cpm_image.specs.Directory.Searches.{IsListing, is_file, listed_of}

-- a file of users 0 to 31
record IsFileOf (entries : List Entry) (f : File) : Type 0 where
  user : f.user < USERS
  is : is_file f.user f.name entries ≡ true

kept_by : (e : Entry) (es : List Entry) (x : File) (b : Bool) → Contains (files_of es) x → Contains (map file_of (cond b (e ∷ filter is_extent es) (filter is_extent es))) x
kept_by e es x true h = (suc h.0, omega (arith, h.1), h.2)
kept_by e es x false h = h

first_by : (e : Entry) (es : List Entry) (b : Bool) → b ≡ true → Contains (map file_of (cond b (e ∷ filter is_extent es) (filter is_extent es))) (file_of e)
first_by e es true h = (0, omega arith, refl)
first_by e es false h = absurd (let clash : false ≡ true = h in cc)

-- the file of each extent is one of the files
pub file_at : (es : List Entry) (k : ℕ) → is_extent (at es k) ≡ true → Contains (files_of es) (file_of (at es k))
file_at [] k h = absurd (let e : false ≡ true = h in cc)
file_at (e ∷ es) zero h = first_by e es (is_extent e) h
file_at (e ∷ es) (suc k) h = kept_by e es (file_of (at es k)) (is_extent e) (file_at es k h)

are_files_by : (entries : List Entry) (e : Entry) (es : List Entry) (b : Bool) → is_extent e ≡ b → is_file e.user (letters e.name) entries ≡ true → All (IsFileOf entries) (files_of es) →
    All (IsFileOf entries) (map file_of (cond b (e ∷ filter is_extent es) (filter is_extent es)))
are_files_by entries e es true extent is rest = All-cons (IsFileOf entries) (file_of e) (files_of es) (record { user = ltb-true _ _ extent; is = is }) rest
are_files_by entries e es false extent is rest = rest

-- the file of an entry is a file of each directory that has the entry
is_its_file : (entries : List Entry) (e : Entry) → Contains entries e → is_file e.user (letters e.name) entries ≡ true
is_its_file entries e (k, below, same) = list_any_at (is_of e.user (letters e.name)) entries k e below (true_both _ _ (eq-eqb _ _ (ap (λ (x : Entry). x.user) same)) ((bytes_eq-Decides _ (letters e.name)).1 (ap (λ (x : Entry). letters x.name) same)))

are_files : (entries es : List Entry) → All (Contains entries) es → All (IsFileOf entries) (files_of es)
are_files entries [] all = All-nil (IsFileOf entries)
are_files entries (e ∷ es) all = are_files_by entries e es (is_extent e) refl (is_its_file entries e (all 0 e (omega arith))) (are_files entries es (All-tail (Contains entries) e es all))

-- what a listing says about a file
abbrev said : List Entry → File → Listed
said entries f = listed_of f.user f.name entries

pub listing : (entries : List Entry) (sorted : List File) → AreInOrder (files_of entries) sorted → IsListing entries (map (said entries) sorted)
listing entries sorted are = record {
  each = All-map (λ l. (l.user < USERS) × (is_file l.user l.name entries ≡ true) × (l ≡ listed_of l.user l.name entries)) (said entries) sorted (λ k d h.
      let f = get_or sorted k d in
      let is = All-contains (IsFileOf entries) (files_of entries) f (are_files entries entries (All-contains_itself entries)) (are.each f (Contains-get_or sorted k d h)) in
      (is.user, is.is, refl));
  every = λ k extent.
      let place = are.every (file_of (at entries k)) (file_at entries k extent) in
      let f = file_of (at entries k) in
      (place.0, said entries f, rw length-map place.1, get_or-map (said entries) sorted place.0 f (said entries f) place.1 ∙ ap (said entries) place.2, (refl, refl));
  ordered = λ i j d lt h.
      let itself : File = record { user = d.user; name = d.name } in
      let below : j < length sorted = rw length-map at h in
      rw (get_or-map (said entries) sorted i itself d (omega arith), get_or-map (said entries) sorted j itself d below) (are.ordered i j itself lt below);
}
