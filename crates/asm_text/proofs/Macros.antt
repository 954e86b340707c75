-- Looking up a macro by its name.
use Rattle.std.proofs.Common.{◌≡◌, ◌∙◌, All, IfSome, cond, subst, sym, refl, ℕ, true, false, List, [], ◌∷◌, Option, Some, None, Vec, Bor, map, option_copied}
use Rattle.std.proofs.lemmas.List.Elements.{All-head, All-tail}
use Rattle.std.specs.Global.{Global}
use Rattle.std.specs.Map.{lookup}
use Rattle.std.specs.Option.{option_map}
use Rattle.std.specs.Str.{bytes_eq}
use Rattle.asm_text.specs.declared.call.Macro.{Macro}
use Rattle.asm_text.specs.Prepared.{macro_seen, macros_seen}

pub lookup-seen : {V W : Type 0} (f : V → W) (entries : List (Vec ℕ Global × V)) (name : List ℕ)
    → lookup (bytes_eq name) (map (λ e. (e.0.items, f e.1)) entries) ≡ option_map f (lookup (λ k. bytes_eq name k.items) entries)
lookup-seen f [] name = refl
lookup-seen {V} {W} f (e ∷ es) name =
    elim (bytes_eq name e.0.items) as (λ b. cond b (Some (f e.1)) (lookup (bytes_eq name) (map (λ (e : Vec ℕ Global × V). (e.0.items, f e.1)) es)) ≡ option_map f (cond b (Some e.1) (lookup (λ k. bytes_eq name k.items) es))) [
      | true ↦ refl
      | false ↦ lookup-seen f es name
    ]

pub lookup-macros : (all : List (List ℕ)) (entries : List (Vec ℕ Global × Macro)) (name : List ℕ)
    → lookup (bytes_eq name) (macros_seen all entries) ≡ option_map (macro_seen all) (lookup (λ k. bytes_eq name k.items) entries)
lookup-macros all entries name = lookup-seen (macro_seen all) entries name

none_mapped : {X Y : Type 0} (f : X → Y) (o : Option X) → option_map f o ≡ None → o ≡ None
none_mapped f None e = refl
none_mapped f (Some x) e = absurd (cc)

pub absent : (all : List (List ℕ)) (entries : List (Vec ℕ Global × Macro)) (name : List ℕ) → lookup (bytes_eq name) (macros_seen all entries) ≡ None → lookup (λ k. bytes_eq name k.items) entries ≡ None
absent all entries name e = none_mapped (macro_seen all) (lookup (λ k. bytes_eq name k.items) entries) (sym (lookup-macros all entries name) ∙ e)

pub copied : {X Y : Type 0} (f : X → Y) (o : Option (Bor X)) → option_map (λ n. f n.now) o ≡ option_map f (option_copied o)
copied f None = refl
copied f (Some x) = refl

found_entry : {V : Type 0} (P : V → Type 0) (entries : List (Vec ℕ Global × V)) (name : List ℕ) → All (λ e. P e.1) entries → IfSome (lookup (λ k. bytes_eq name k.items) entries) P
found_entry P [] name all = tt
found_entry {V} P (e ∷ es) name all =
    elim (bytes_eq name e.0.items) as (λ b. IfSome (cond b (Some e.1) (lookup (λ k. bytes_eq name k.items) es)) P) [
      | true ↦ All-head (λ (e : Vec ℕ Global × V). P e.1) e es all
      | false ↦ found_entry P es name (All-tail (λ (e : Vec ℕ Global × V). P e.1) e es all)
    ]

lent : {V : Type 0} (P : V → Type 0) (o : Option (Bor V)) → IfSome (option_copied o) P → IfSome o (λ v. P v.now)
lent P None all = tt
lent P (Some v) all = all

-- What holds of each value of a table holds of the value that a name finds.
pub of_entry : {V : Type 0} (P : V → Type 0) (entries : List (Vec ℕ Global × V)) (name : List ℕ) (o : Option (Bor V)) → option_copied o ≡ lookup (λ k. bytes_eq name k.items) entries → All (λ e. P e.1) entries → IfSome o (λ v. P v.now)
of_entry P entries name o e all = lent P o (subst (λ x. IfSome x P) (sym e) (found_entry P entries name all))
