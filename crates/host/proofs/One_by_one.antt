-- Files that are read one after the other.
use Rattle.std.proofs.Common.{◌≡◌, ℕ, ◌<◌, List, [], Some, Result, Ok, Err, Vec, length, get_or, map, take, sym, subst, ◌∙◌, inl, ap}
use Rattle.std.specs.Global.{Global}
use Rattle.std.specs.List.{AllZip}
use Rattle.std.specs.Result.{IsErrAnd}
use Rattle.std.proofs.lemmas.List.{get_or-map}
use Rattle.std.proofs.lemmas.Option.{slice_get-get_or}
use Rattle.host.specs.Files.{Folder}
use Rattle.host.specs.declared.end.End.{End}
use Rattle.host.specs.Reading.{IsNotRead, IsRead, ReadsAll}

-- those before one of the files are read, and it is not
pub one_unread : (old mid new : Folder) (paths texts : List (List ℕ)) (k : ℕ) (path : List ℕ) (e : End) (result : Result (Vec (Vec ℕ Global) Global) End) → mid ≡ old → k < length paths
    → path ≡ get_or paths k [] → AllZip (IsRead old) (take k paths) texts → IsNotRead mid new path e → IsErrAnd result (λ f. f ≡ e) → ReadsAll old new paths result
one_unread old mid new paths texts k path e (Ok _) same lt at so_far this is = absurd is
one_unread old mid new paths texts k path e (Err f) same lt at so_far this is =
    inl (k, path, texts, slice_get-get_or paths k [] lt ∙ ap Some (sym at), so_far, subst (IsNotRead old new path) (sym is) (subst (λ x. IsNotRead x new path e) same this))

-- the bytes of a text, by its number
pub text_at : (texts : List (Vec ℕ Global)) (text : Vec ℕ Global) (n k : ℕ) (d : Vec ℕ Global) → text ≡ get_or texts n d → n ≡ k → k < length texts → text.items ≡ get_or (map (λ t. t.items) texts) k []
text_at texts text n k d at same lt = ap (λ t. t.items) at ∙ ap (λ m. (get_or texts m d).items) same ∙ sym (get_or-map (λ t. t.items) texts k d [] lt)
