-- The names of a macro, their places, and what a call replaces them by.
use Rattle.std.proofs.Common.{◌≡◌, ◌<◌, ◌+◌, ◌∙◌, cond, sym, ap, refl, ℕ, zero, suc, Bool, true, false, is_some, List, [], ◌∷◌, ◌++◌, Option, Some, None, Vec, Bor, drop, length, get_or, arith, append_assoc, option_copied}
use Rattle.std.specs.Global.{Global}
use Rattle.std.specs.Map.{lookup}
use Rattle.std.specs.Option.{option_map}
use Rattle.std.specs.Str.{bytes_eq}
use Rattle.std.proofs.lemmas.List.{drop_more, drop-map, length-map}
use Rattle.std.proofs.lemmas.Slice.Eq.{bytes_eq-Decides}
use Rattle.asm_line.specs.declared.replacing.names.NameKind.{NameKind}
use Rattle.asm_line.specs.declared.replacing.names.Place.{Place}
use Rattle.asm_line.specs.Replacing.Replaced.{SaySame, ReplacementTable, arguments_of, local_name, local_names}
use Rattle.asm_line.specs.Replacing.Views.{names_seen, replacement_at, texts}
use Rattle.asm_line.specs.Private.Places.{placed}

pub lookup-seen : {X : Type 0} (f : X → List ℕ) (entries : List (Vec ℕ Global × X)) (name : List ℕ) → lookup (bytes_eq name) (names_seen f entries) ≡ option_map f (lookup (λ k. bytes_eq name k.items) entries)
lookup-seen f [] name = refl
lookup-seen f (e ∷ es) name =
    elim (bytes_eq name e.0.items) as (λ b. cond b (Some (f e.1)) (lookup (bytes_eq name) (names_seen f es)) ≡ option_map f (cond b (Some e.1) (lookup (λ k. bytes_eq name k.items) es))) [
      | true ↦ refl
      | false ↦ lookup-seen f es name
    ]

pub same_some : {X Y : Type 0} (f : X → Y) (o : Option (Bor X)) → is_some o ≡ is_some (option_map f (option_copied o))
same_some f None = refl
same_some f (Some x) = refl

pub none_copied : {X : Type 0} (o : Option (Bor X)) → is_some o ≡ false → option_copied o ≡ None
none_copied None e = refl
none_copied (Some x) e = absurd (cc)

-- the first of two values that is there
abbrev or : Option (List ℕ) → Option (List ℕ) → Option (List ℕ)
or (Some v) o = Some v
or None o = o

lookup-append : (p : List ℕ → Bool) (t u : ReplacementTable) → lookup p (t ++ u) ≡ or (lookup p t) (lookup p u)
lookup-append p [] u = refl
lookup-append p (e ∷ es) u =
    elim (p e.0) as (λ b. cond b (Some e.1) (lookup p (es ++ u)) ≡ or (cond b (Some e.1) (lookup p es)) (lookup p u)) [
      | true ↦ refl
      | false ↦ lookup-append p es u
    ]

pub say_before : (t u v : ReplacementTable) → SaySame t u → SaySame (t ++ v) (u ++ v)
say_before t u v same = λ name. lookup-append (bytes_eq name) t v ∙ ap (λ o. or o (lookup (bytes_eq name) v)) (same name) ∙ sym (lookup-append (bytes_eq name) u v)

none_there : (o : Option (List ℕ)) (b : Bool) (text : List ℕ) → (o ≡ None → b ≡ true → ⊥) → o ≡ or o (cond b (Some text) None)
none_there (Some v) b text n = refl
none_there None true text n = absurd (n refl refl)
none_there None false text n = refl

still : (t : ReplacementTable) (name key : List ℕ) → is_some (lookup (bytes_eq name) t) ≡ true → lookup (bytes_eq key) t ≡ None → key ≡ name → ⊥
still t name key e n same = let no : false ≡ true = ap is_some (sym n) ∙ ap (λ k. is_some (lookup (bytes_eq k) t)) same ∙ e in cc

-- a name that is in the table already
pub added_none : (t : ReplacementTable) (name text : List ℕ) → is_some (lookup (bytes_eq name) t) ≡ true → SaySame t (t ++ (name, text) ∷ [])
added_none t name text e = λ key. none_there (lookup (bytes_eq key) t) (bytes_eq key name) text (λ n b. still t name key e n ((bytes_eq-Decides key name).0 b)) ∙ sym (lookup-append (bytes_eq key) t ((name, text) ∷ []))

-- one more name gets its place
pub place_step : (f : Place → List ℕ) (t now whole : ReplacementTable) (kind : NameKind) (names : List (Vec ℕ Global)) (at : ℕ) (name : List ℕ) → at < length names → name ≡ get_or (texts names) at []
    → SaySame (t ++ placed f kind at (texts (drop at names))) whole → SaySame now (t ++ (name, f (record { kind = kind; at = at })) ∷ [])
    → SaySame (now ++ placed f kind (at + 1) (texts (drop (at + 1) names))) whole
place_step f t now whole kind names at name h is told same =
    let rest = placed f kind (at + 1) (texts (drop (at + 1) names)) in
    let one : List ℕ × List ℕ = (name, f (record { kind = kind; at = at })) in
    let less : at < length (texts names) = omega (arith, h, length-map names (λ (text : Vec ℕ Global). text.items)) in
    let more : texts (drop at names) ≡ name ∷ texts (drop (at + 1) names) =
    sym (drop-map (λ text. text.items) at names) ∙ drop_more (texts names) at [] less ∙ ap (λ n. n ∷ drop (at + 1) (texts names)) (sym is) ∙ ap (λ ns. name ∷ ns) (drop-map (λ text. text.items) (at + 1) names) in
    λ key. say_before now (t ++ one ∷ []) rest same key ∙ ap (lookup (bytes_eq key)) (append_assoc t (one ∷ []) rest ∙ ap (λ xs. t ++ xs) (sym (ap (placed f kind at) more))) ∙ told key

-- The places of names as arguments and LOCAL names.

placed_locals : (some : List (List ℕ)) (counter at : ℕ) (locals : List (List ℕ)) → placed (replacement_at some counter) NameKind.Local at locals ≡ local_names (counter + at) locals
placed_locals some counter at [] = refl
placed_locals some counter at (l ∷ ls) =
    ap (λ rest. (l, local_name (counter + at)) ∷ rest) (placed_locals some counter (at + 1) ls ∙ ap (λ n. local_names n ls) (let e : counter + (at + 1) ≡ counter + at + 1 = omega arith in e))

no_text : (n : ℕ) → drop {A = List ℕ} n [] ≡ []
no_text zero = refl
no_text (suc n) = refl

-- the next argument, if there is one
next_argument : (parameter : List ℕ) (parameters some : List (List ℕ)) (at : ℕ) → arguments_of (parameter ∷ parameters) (drop at some) ≡ (parameter, get_or some at []) ∷ arguments_of parameters (drop (at + 1) some)
next_argument p ps [] zero = refl
next_argument p ps [] (suc at) = ap (λ rest. (p, []) ∷ arguments_of ps rest) (sym (no_text (suc at + 1)))
next_argument p ps (a ∷ more) zero = refl
next_argument p ps (a ∷ more) (suc at) = next_argument p ps more at ∙ ap (λ n. (p, get_or more at []) ∷ arguments_of ps (drop n (a ∷ more))) (let e : suc (at + 1) ≡ suc at + 1 = omega arith in e)

placed_parameters : (some : List (List ℕ)) (counter at : ℕ) (parameters : List (List ℕ)) → placed (replacement_at some counter) NameKind.Parameter at parameters ≡ arguments_of parameters (drop at some)
placed_parameters some counter at [] = refl
placed_parameters some counter at (p ∷ ps) = ap (λ rest. (p, get_or some at []) ∷ rest) (placed_parameters some counter (at + 1) ps) ∙ sym (next_argument p ps some at)

-- all names of a macro, parameters first
pub said_in_call : (some : List (List ℕ)) (counter : ℕ) (parameters locals : List (List ℕ)) (first all : ReplacementTable)
    → SaySame first ([] ++ placed (replacement_at some counter) NameKind.Parameter 0 parameters) → SaySame all (first ++ placed (replacement_at some counter) NameKind.Local 0 locals)
    → SaySame all (arguments_of parameters some ++ local_names counter locals)
said_in_call some counter parameters locals first all one two =
    let f = replacement_at some counter in
    let zero_on : counter + 0 ≡ counter = omega arith in
    λ name. two name ∙ say_before first (placed f NameKind.Parameter 0 parameters) (placed f NameKind.Local 0 locals) one name
    ∙ ap (λ t. lookup (bytes_eq name) (t ++ placed f NameKind.Local 0 locals)) (placed_parameters some counter 0 parameters)
    ∙ ap (λ t. lookup (bytes_eq name) (arguments_of parameters some ++ t)) (placed_locals some counter 0 locals ∙ ap (λ n. local_names n locals) zero_on)
