-- The entries of a map of names, and what each name stands for.
use Rattle.std.proofs.Common.{◌≡◌, ◌≤◌, ℕ, Bool, true, false, List, [], ◌∷◌, ◌++◌, All, Option, cond, Some, None, length, map, take, refl, sym, ap, subst, ◌∙◌, arith}
use Rattle.std.proofs.lemmas.List.{map-append, take-append-le, length-append}
use Rattle.std.proofs.lemmas.List.Elements.{All-append}
use Rattle.std.proofs.Math.Seq.{take-length}
use Rattle.std.specs.List.{IsAmong}
use Rattle.std.specs.Map.{lookup}
use Rattle.std.specs.Option.{option_map}
use Rattle.std.specs.Str.{bytes_eq}
use Rattle.std.specs.declared.vec.Vec.{Vec}
use Rattle.asm_parse.specs.declared.item.Item.{Item}
use Rattle.asm_expr.specs.Types.{Atom, Meaning, Settled, Statement}
use Rattle.asm_parse.specs.declared.values.expr.TheConstants.{MOST_ITEMS}
use Rattle.asm_expr.specs.declared.names.Entry.{Entry}
use Rattle.asm_expr.specs.Names.{AreCounted, IsCounted, Table, empty, with_meaning}
use Rattle.asm_expr.specs.Private.Entries.{AreKnown, IsLeftBy, Knows, meant, named, named_as, table_of}
use Rattle.asm_expr.specs.Private.Left.{IsLeft, IsLeftName}
use Rattle.asm_expr.specs.declared.meaning.Equated.{Equated}
use Rattle.asm_expr.proofs.Again.{left_same}

-- a name is found by its bytes
lookup-as : {A V W : Type 0} (f : V → W) (entries : List (Vec ℕ A × V)) (name : List ℕ) → lookup (bytes_eq name) (named_as f entries) ≡ option_map f (lookup (λ k. bytes_eq name k.items) entries)
lookup-as f [] name = refl
lookup-as f (e ∷ es) name =
    elim (bytes_eq name e.0.items) as (λ b. cond b (Some (f e.1)) (lookup (bytes_eq name) (named_as f es)) ≡ option_map f (cond b (Some e.1) (lookup (λ k. bytes_eq name k.items) es))) [
      | true ↦ refl
      | false ↦ lookup-as f es name
    ]

as_it_is : {V : Type 0} (o : Option V) → option_map (λ v. v) o ≡ o
as_it_is None = refl
as_it_is (Some v) = refl

pub lookup-named : {A V : Type 0} (entries : List (Vec ℕ A × V)) (name : List ℕ) → lookup (bytes_eq name) (named entries) ≡ lookup (λ k. bytes_eq name k.items) entries
lookup-named entries name = lookup-as (λ v. v) entries name ∙ as_it_is (lookup (λ k. bytes_eq name k.items) entries)

pub lookup-meant : {A : Type 0} (entries : List (Vec ℕ A × Entry)) (name : List ℕ)
    → lookup (bytes_eq name) (meant entries) ≡ option_map (λ e. e.meaning) (lookup (λ k. bytes_eq name k.items) entries)
lookup-meant entries name = lookup-as (λ e. e.meaning) entries name

-- one more entry at the end
append-as : {A V W : Type 0} (f : V → W) (entries : List (Vec ℕ A × V)) (e : Vec ℕ A × V) → named_as f (entries ++ e ∷ []) ≡ named_as f entries ++ (e.0.items, f e.1) ∷ []
append-as f [] e = refl
append-as f (x ∷ xs) e = ap (λ rest. (x.0.items, f x.1) ∷ rest) (append-as f xs e)

pub named-append : {A V : Type 0} (entries : List (Vec ℕ A × V)) (e : Vec ℕ A × V) → named (entries ++ e ∷ []) ≡ named entries ++ (e.0.items, e.1) ∷ []
named-append entries e = append-as (λ v. v) entries e

pub table_after : {A : Type 0} (entries new : List (Vec ℕ A × Entry)) (name : Vec ℕ A) (entry : Entry) (here : ℕ) (statements : List Statement) → new ≡ entries ++ (name, entry) ∷ []
    → table_of new here statements ≡ with_meaning name.items entry.meaning (table_of entries here statements)
table_after entries new name entry here statements is =
    ap (λ es. table_of es here statements) is ∙ ap (λ es. record { entries = es; here = here; statements = statements }) (append-as (λ e. e.meaning) entries (name, entry))

-- What is found with one more entry was found before, or is that entry's.
found_after : (p : List ℕ → Bool) (entries : List (List ℕ × Meaning)) (name : List ℕ) (what found : Meaning) → ((other : Meaning) → lookup p entries ≡ Some other → IsCounted other) → IsCounted what
    → lookup p (entries ++ (name, what) ∷ []) ≡ Some found → IsCounted found
found_after p [] name what found old new is =
    elim (p name) as (λ b. cond b (Some what) None ≡ Some found → IsCounted found) [
      | true ↦ λ one. let same : what ≡ found = cc in subst IsCounted same new
      | false ↦ λ bad. cc
    ] is
found_after p (e ∷ es) name what found old new is =
    elim (p e.0) as (λ b. ((other : Meaning) → cond b (Some e.1) (lookup p es) ≡ Some other → IsCounted other) → cond b (Some e.1) (lookup p (es ++ (name, what) ∷ [])) ≡ Some found → IsCounted found) [
      | true ↦ λ all one. all found one
      | false ↦ λ all more. found_after p es name what found all new more
    ] old is

pub counted_after : (t : Table) (name : List ℕ) (what : Meaning) → AreCounted t → IsCounted what → AreCounted (with_meaning name what t)
counted_after t name what old new = λ other found is. found_after (bytes_eq other) t.entries name what found (old other) new is

-- What is known of each entry is known of each with one more,
pub known_after : {A : Type 0} (statements : List Statement) (entries new : List (Vec ℕ A × Entry)) (name : Vec ℕ A) (entry : Entry) → new ≡ entries ++ (name, entry) ∷ []
    → AreKnown statements entries → Knows statements entry.meaning entry.left_at → AreKnown statements new
known_after statements entries new name entry is all one =
    let whole : map (λ e. e.1) new ≡ map (λ e. e.1) entries ++ entry ∷ [] = ap (map (λ e. e.1)) is ∙ map-append (λ e. e.1) entries ((name, entry) ∷ []) in
    let last : All (λ e. Knows statements e.meaning e.left_at) (entry ∷ []) = λ k d lt. let zero : k ≡ 0 = omega (arith, lt) in rw zero one in
    subst (All (λ e. Knows statements e.meaning e.left_at)) (sym whole) (All-append (λ e. Knows statements e.meaning e.left_at) (map (λ e. e.1) entries) (entry ∷ []) all last)

-- and of one of them.
pub known_among : {A : Type 0} (statements : List Statement) (entries : List (Vec ℕ A × Entry)) (entry : Entry) → AreKnown statements entries → IsAmong (map (λ e. e.1) entries) entry
    → Knows statements entry.meaning entry.left_at
known_among statements entries entry all among = subst (λ e. Knows statements e.meaning e.left_at) (sym among.1.1) (all among.0 entry among.1.0)

-- What is known with some statements is known with one more.
knows_more : (statements : List Statement) (s : Statement) (what : Meaning) (n : Option ℕ) → Knows statements what n → Knows (statements ++ s ∷ []) what n
knows_more statements s (Meaning.Equ equated) (Some n) k =
    (omega (arith, k.0, length-append statements (s ∷ [])), subst (λ front. IsLeftBy front equated.settled) (sym (take-append-le n statements (s ∷ []) k.0)) k.1)
knows_more statements s (Meaning.Label l) (Some n) k = k
knows_more statements s (Meaning.External r) (Some n) k = k
knows_more statements s (Meaning.Constant m) (Some n) k = k
knows_more statements s Meaning.UnknownConstant (Some n) k = k
knows_more statements s Meaning.Faulty (Some n) k = k
knows_more statements s what None k = k

pub known_more : {A : Type 0} (statements : List Statement) (s : Statement) (entries : List (Vec ℕ A × Entry)) → AreKnown statements entries → AreKnown (statements ++ s ∷ []) entries
known_more statements s entries all = λ k d lt. knows_more statements s _ _ (all k d lt)

-- If no meaning is found, there is no entry.
pub none_meant : (o : Option Entry) → option_map (λ e. e.meaning) o ≡ None → o ≡ None
none_meant None is = refl
none_meant (Some e) is = cc

-- Settling leaves a name as it is if its entry says so.
pub left_name : {A : Type 0} (entries : List (Vec ℕ A × Entry)) (here : ℕ) (statements : List Statement) (name : List ℕ) (entry : Entry) (items : List (Item Atom)) (size : ℕ)
    → lookup (λ k. bytes_eq name k.items) entries ≡ Some entry → entry.meaning ≡ Meaning.Equ (record { settled = Settled.Known items; size = size }) → size ≤ MOST_ITEMS
    → entry.left_at ≡ Some (length statements) → Knows statements entry.meaning entry.left_at → IsLeftName (table_of entries here statements) name items
left_name entries here statements name entry items size is meaning few at knows =
    let t = table_of entries here statements in
    let both = subst (λ n. Knows statements (Meaning.Equ (record { settled = Settled.Known items; size = size })) n) at (subst (λ m. Knows statements m entry.left_at) meaning knows) in
    record {
      size = size;
      few = few;
      found = lookup-meant entries name ∙ ap (option_map (λ e. e.meaning)) is ∙ ap Some meaning;
      left = left_same t (record empty { statements = take (length statements) statements }) items (sym (take-length statements)) both.1;
    }

-- What is known of a meaning when the table has all its statements.
pub knows_now : (t : Table) (what : Meaning) (equated : Equated) (items : List (Item Atom)) (n : ℕ) → what ≡ Meaning.Equ equated → equated.settled ≡ Settled.Known items
    → n ≡ length t.statements → IsLeft t items → Knows t.statements what (Some n)
knows_now t what equated items n is settled len left =
    let all : take n t.statements ≡ t.statements = ap (λ k. take k t.statements) len ∙ take-length t.statements in
    let by : IsLeftBy (take n t.statements) equated.settled = subst (IsLeftBy (take n t.statements)) (sym settled) (left_same (record empty { statements = take n t.statements }) t items all left) in
    subst (λ m. Knows t.statements m (Some n)) (sym is) (omega (arith, len), by)
