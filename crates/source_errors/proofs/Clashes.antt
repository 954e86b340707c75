-- When a line defines a name that is there already.
use Rattle.std.proofs.Common.{◌≡◌, ◌∙◌, ◌||◌, ap, sym, refl, subst, ℕ, Bool, true, false, cond, List, [], ◌∷◌, ◌++◌, Option, Some, None, map}
use Rattle.std.specs.Prelude.{is_some}
use Rattle.std.specs.List.{list_any}
use Rattle.std.specs.Map.{lookup}
use Rattle.std.specs.Option.{option_or}
use Rattle.std.specs.Str.{bytes_eq}
use Rattle.std.proofs.lemmas.Slice.Eq.{bytes_eq-Decides}
use Rattle.asm_spell.specs.Line as line
use Rattle.asm_names.specs.declared.kind.Kind.{Kind}
use Rattle.asm_names.specs.Names.{Names, clashes, declared, has_clash, kind_of_name, label_definition, with_name}
use Rattle.source_errors.specs.Private.State.{body_clashes, external_clashes, is_other, label_known}

-- Looking up a name after one more entry.
lookup_more : {V : Type 0} (p : List ℕ → Bool) (xs : List (List ℕ × V)) (k : List ℕ) (v : V) → lookup p (xs ++ (k, v) ∷ []) ≡ option_or (lookup p xs) (cond (p k) (Some v) None)
lookup_more p [] k v = refl
lookup_more p ((n, w) ∷ xs) k v =
    elim (p n) as (λ b. cond b (Some w) (lookup p (xs ++ (k, v) ∷ [])) ≡ option_or (cond b (Some w) (lookup p xs)) (cond (p k) (Some v) None)) [
      | true ↦ refl
      | false ↦ lookup_more p xs k v
    ]

external_clash : (k : Option Kind) → clashes Kind.External k ≡ is_other k
external_clash None = refl
external_clash (Some Kind.External) = refl
external_clash (Some (Kind.Label at)) = refl
external_clash (Some (Kind.Equ at)) = refl

-- An external more makes no name one that is no external.
other_or : (k : Option Kind) (b : Bool) → is_other (option_or k (cond b (Some Kind.External) None)) ≡ is_other k
other_or None true = refl
other_or None false = refl
other_or (Some k) b = refl

other_after : (t : Names) (n m : List ℕ) → is_other (kind_of_name (with_name t (n, Kind.External)) m) ≡ is_other (kind_of_name t m)
other_after t n m =
    elim (is_some (kind_of_name t n)) as (λ b. is_other (kind_of_name (cond b t (t ++ (n, Kind.External) ∷ [])) m) ≡ is_other (kind_of_name t m)) [
      | true ↦ refl
      | false ↦ ap is_other (lookup_more (bytes_eq m) t n Kind.External) ∙ other_or (kind_of_name t m) (bytes_eq m n)
    ]

abbrev externals : List (List ℕ) → Names
externals ns = map (λ n. (n, Kind.External)) ns

-- A list of externals clashes if one of them does.
list_clashes : (F : List ℕ → Bool) (u : Names) → ((m : List ℕ) → is_other (kind_of_name u m) ≡ F m) → (ns : List (List ℕ)) → has_clash u (externals ns) ≡ list_any F ns
list_clashes F u same [] = refl
list_clashes F u same (n ∷ ns) =
    ap (λ b. b || has_clash (with_name u (n, Kind.External)) (externals ns)) (external_clash (kind_of_name u n) ∙ same n)
    ∙ ap (λ b. F n || b) (list_clashes F (with_name u (n, Kind.External)) (λ m. other_after u n m ∙ same m) ns)

or_false : (b : Bool) → b ≡ (b || false)
or_false true = refl
or_false false = refl

other_or_label : (k : Option Kind) → is_other (option_or k None) ≡ (is_other k || false)
other_or_label None = refl
other_or_label (Some k) = or_false (is_other (Some k))

-- After a label that is new, a name is something else if it was before, or is this label.
label_after : (t : Names) (x m : List ℕ) (at : ℕ) → kind_of_name t x ≡ None → is_other (kind_of_name (t ++ (x, Kind.Label at) ∷ []) m) ≡ (is_other (kind_of_name t m) || bytes_eq m x)
label_after t x m at none =
    ap is_other (lookup_more (bytes_eq m) t x (Kind.Label at))
    ∙ (elim (bytes_eq m x) as (λ b. bytes_eq m x ≡ b → is_other (option_or (kind_of_name t m) (cond b (Some (Kind.Label at)) None)) ≡ (is_other (kind_of_name t m) || b)) [
      | true ↦ λ same. subst (λ k. is_other (option_or k (Some (Kind.Label at))) ≡ (is_other k || true)) (sym (ap (kind_of_name t) ((bytes_eq-Decides m x).0 same) ∙ none)) refl
      | false ↦ λ other. other_or_label (kind_of_name t m)
    ] refl)

not_some : (k : Option Kind) → is_some k ≡ false → k ≡ None
not_some None is = refl
not_some (Some k) is = absurd cc

known_label : (k : Option Kind) (at : ℕ) → is_some k ≡ true → clashes (Kind.Label at) k ≡ true
known_label None at is = absurd cc
known_label (Some k) at is = refl

with_label : (t : Names) (x : List ℕ) (at : ℕ) (ns : List (List ℕ)) → kind_of_name t x ≡ None → has_clash t ((x, Kind.Label at) ∷ externals ns) ≡ list_any (external_clashes t (Some x)) ns
with_label t x at ns none =
    ap (λ k. clashes (Kind.Label at) k || has_clash (cond (is_some k) t (t ++ (x, Kind.Label at) ∷ [])) (externals ns)) none
    ∙ list_clashes (external_clashes t (Some x)) (t ++ (x, Kind.Label at) ∷ []) (λ m. label_after t x m at none) ns

label_alone : (t : Names) (x : List ℕ) (at : ℕ) → kind_of_name t x ≡ None → has_clash t ((x, Kind.Label at) ∷ []) ≡ false
label_alone t x at none = ap (λ k. clashes (Kind.Label at) k || false) none

-- No external: only the label may clash, and it does not.
plain_body : (t : Names) (at : ℕ) (label : Option (List ℕ)) → label_known t label ≡ false → has_clash t (label_definition at label ++ []) ≡ false
plain_body t at None new = refl
plain_body t at (Some x) new = label_alone t x at (not_some (kind_of_name t x) new)

pub statement_clashes : (t : Names) (at : ℕ) (label : Option (List ℕ)) (body : Option line.Body) → label_known t label ≡ false → body_clashes t label body ≡ has_clash t (label_definition at label ++ declared body)
statement_clashes t at None (Some (line.External ns)) new = sym (list_clashes (external_clashes t None) t (λ m. or_false (is_other (kind_of_name t m))) ns)
statement_clashes t at (Some x) (Some (line.External ns)) new = sym (with_label t x at ns (not_some (kind_of_name t x) new))
statement_clashes t at label None new = sym (plain_body t at label new)
statement_clashes t at label (Some (line.Code i n)) new = sym (plain_body t at label new)
statement_clashes t at label (Some (line.Jump c n)) new = sym (plain_body t at label new)
statement_clashes t at label (Some (line.Short b n)) new = sym (plain_body t at label new)
statement_clashes t at label (Some (line.Bytes v)) new = sym (plain_body t at label new)
statement_clashes t at label (Some (line.Words f)) new = sym (plain_body t at label new)
statement_clashes t at label (Some (line.Space s f)) new = sym (plain_body t at label new)
statement_clashes t at label (Some (line.Public l)) new = sym (plain_body t at label new)
statement_clashes t at label (Some (line.Origin e)) new = sym (plain_body t at label new)
statement_clashes t at label (Some (line.End e)) new = sym (plain_body t at label new)
statement_clashes t at label (Some line.Z80) new = sym (plain_body t at label new)

-- A label that is there already clashes, whatever follows.
pub label_clashes : (t : Names) (at : ℕ) (label : Option (List ℕ)) (more : Names) → label_known t label ≡ true → true ≡ has_clash t (label_definition at label ++ more)
label_clashes t at None more is = absurd cc
label_clashes t at (Some x) more is = sym (ap (λ b. b || has_clash (with_name t (x, Kind.Label at)) more) (known_label (kind_of_name t x) at is))

pub any_of_map : {A B : Type 0} (f : B → Bool) (g : A → B) (xs : List A) → list_any (λ x. f (g x)) xs ≡ list_any f (map g xs)
any_of_map f g [] = refl
any_of_map f g (x ∷ xs) = ap (λ b. f (g x) || b) (any_of_map f g xs)
