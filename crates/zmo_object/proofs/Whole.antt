-- Whole object files: reading gives a module whose file has exactly these bytes, and reading the file of a module gives this module.
use Rattle.std.proofs.Common.{◌≡◌, ◌<◌, ◌+◌, ℕ, Bool, true, false, List, [], ◌∷◌, ◌++◌, Option, Some, None, Result, Ok, Err, All, length, take, drop, refl, sym, ap, subst, ◌∙◌, append_assoc, arith, inl, inr}
use Rattle.std.specs.List.{flat_map}
use Rattle.std.specs.Option.{IfSome}
use Rattle.std.specs.Result.{IfOk}
use Rattle.std.specs.Str.{bytes_eq}
use Rattle.std.proofs.lemmas.Bool.{cases_Bool}
use Rattle.std.proofs.lemmas.List.{append-nil, drop_at, take-append-drop, take_at}
use Rattle.std.proofs.lemmas.List.Elements.{All-cons, All-drop, All-head, All-nil, All-tail}
use Rattle.std.proofs.lemmas.Slice.Eq.{bytes_eq-Decides}
use Rattle.zmo_object.specs.declared.module.Module as whole
use Rattle.zmo_object.specs.Modules.{Module, module_of}
use Rattle.zmo_object.specs.Rules.{IsLabel, IsModule, IsModuleStatement}
use Rattle.zmo_object.specs.Fields.Texts.{with_length, word_bytes}
use Rattle.zmo_object.specs.Fields.Field.{Field, IsBytes}
use Rattle.zmo_object.proofs.Fields.Taken.{Chain, Reads, joins, many_again, many_takes, then_is, then_takes}
use Rattle.zmo_object.specs.declared.fault.ObjectFault.{ObjectFault}
use Rattle.zmo_object.specs.Codes.{grow_of, magic}
use Rattle.zmo_object.specs.Texts.{counts_text, entry_text, flags, label_text, statement_text, module_text}
use Rattle.zmo_object.specs.Reading.{AnswersAsRead, Counts, Header, Lists, all_of, answered_module, unless_bytes_left, header_at, lists_at, module_at, read_behind, read_of, statement_at, statements_at}
use Rattle.zmo_object.proofs.Headed.{HeaderGood, header_again, header_spelled, header_takes}
use Rattle.zmo_object.proofs.Listed.{ListsGood, lists_again, lists_take, lists_text}
use Rattle.zmo_object.proofs.Stated.{statement_again, statement_takes}

each_told : {A : Type 0} (P : A → Type 0) (s : ℕ) (xs : List A) → Chain (λ (_ : ℕ). P) (λ n _. n) s xs → All P xs
each_told P s [] good = All-nil P
each_told P s (x ∷ xs) good = All-cons P x xs good.0 (each_told P s xs good.1)

each_chained : {A : Type 0} (P : A → Type 0) (s : ℕ) (xs : List A) → All P xs → Chain (λ (_ : ℕ). P) (λ n _. n) s xs
each_chained P s [] all = tt
each_chained P s (x ∷ xs) all = (All-head P x xs all, each_chained P s xs (All-tail P x xs all))

-- The header and the lists that a module has.

counts_in : Module → Counts
counts_in m = record { statements = length m.statements; labels = length m.labels; publics = length m.publics; externals = length m.externals }

header_in : Module → Header
header_in m = record { name = m.name; begins = m.begins; counts = counts_in m; entry = m.entry }

lists_in : Module → Lists
lists_in m = record { labels = m.labels; publics = m.publics; externals = m.externals }

-- the object file of a module without its first four bytes
behind_magic : Module → List ℕ
behind_magic m = (header_spelled (header_in m) ++ flat_map statement_text m.statements) ++ lists_text (lists_in m)

regrouped : (m n f e s l p x : List ℕ) → (((((((m ++ n) ++ f) ++ e) ++ s) ++ l) ++ p) ++ x) ≡ m ++ ((((n ++ f) ++ e) ++ s) ++ ((l ++ p) ++ x))
regrouped m n f e s l p x = simp append_assoc

text_is : (m : Module) → module_text m ≡ magic m.grow ++ behind_magic m
unfolding behind_magic header_in counts_in lists_in
text_is m =
    regrouped (magic m.grow) (with_length m.name) (flags m ∷ counts_text m) (entry_text m.entry) (flat_map statement_text m.statements) (flat_map label_text m.labels) (flat_map word_bytes m.publics)
    (flat_map with_length m.externals)

-- Reading what follows the first four bytes.

counts_are : (c : Counts) (s l p x : ℕ) → s ≡ c.statements → l ≡ c.labels → p ≡ c.publics → x ≡ c.externals → ◌≡◌ {A = Counts} (record { statements = s; labels = l; publics = p; externals = x }) c
counts_are c s l p x e1 e2 e3 e4 = rw (e1, e2, e3, e4) refl

record IsRead (grow : Bool) (bytes : List ℕ) (x : Module × List ℕ) : Type 0 where
  spelled : bytes ≡ behind_magic x.0 ++ x.1
  rules : IsModule x.0
  kind : x.0.grow ≡ grow

module_takes : (grow : Bool) (bytes : List ℕ) → IsBytes bytes → Reads (IsRead grow bytes) (module_at grow bytes)
unfolding behind_magic header_in counts_in lists_in
module_takes grow bytes fits =
    then_takes (header_at bytes) _ (header_takes bytes fits) (λ header first.
    let refs = (header.0.counts.statements + 1) + header.0.counts.externals in
    then_takes (statements_at grow header.0.counts header.1) _
    (many_takes (λ (none : ℕ). statement_at grow refs) (λ none _. none) statement_text (λ (none : ℕ). IsModuleStatement grow refs) (λ none. statement_takes grow refs) 0 header.0.counts.statements header.1 first.rest) (λ statements second.
    then_takes (lists_at header.0.counts statements.1) _ (lists_take header.0.counts statements.1 second.rest) (λ lists third.
    let m : Module = record {
      name = header.0.name;
      begins = header.0.begins;
      entry = header.0.entry;
      grow = grow;
      statements = statements.0;
      labels = lists.0.labels;
      publics = lists.0.publics;
      externals = lists.0.externals;
    } in
    let counts : counts_in m ≡ header.0.counts =
    counts_are header.0.counts (length statements.0) (length lists.0.labels) (length lists.0.publics) (length lists.0.externals) second.good.0 third.good.label_count third.good.public_count
    third.good.external_count in
    let whole : bytes ≡ ((header_spelled header.0 ++ flat_map statement_text statements.0) ++ lists_text lists.0) ++ lists.1 =
    joins (header_spelled header.0 ++ flat_map statement_text statements.0) (lists_text lists.0) statements.1 lists.1 bytes
    (joins (header_spelled header.0) (flat_map statement_text statements.0) header.1 statements.1 bytes first.spelled second.spelled) third.spelled in
    let few = first.good.counts.statements in
    let names = first.good.counts.names in
    let same_refs : refs ≡ (length statements.0 + 1) + length lists.0.externals = omega (arith, second.good.0, third.good.external_count) in
    (record {
      value = record {
        spelled = whole
            ∙ ap (λ c. ((header_spelled (record { name = header.0.name; begins = header.0.begins; counts = c; entry = header.0.entry }) ++ flat_map statement_text statements.0) ++ lists_text lists.0) ++ lists.1) (sym counts);
        rules = record {
          name = first.good.name;
          few_statements = omega (arith, second.good.0);
          few_names = omega (arith, third.good.label_count, third.good.external_count);
          entry = subst (λ n. IfSome header.0.entry (λ e. e < n)) (sym third.good.label_count) first.good.entry;
          statements = subst (λ r. All (IsModuleStatement grow r) statements.0) same_refs (each_told (IsModuleStatement grow refs) 0 statements.0 second.good.1);
          labels = subst (λ n. All (IsLabel n) lists.0.labels) (sym second.good.0) third.good.labels;
          public_labels = subst (λ n. All (λ p. p < n) lists.0.publics) (sym third.good.label_count) third.good.public_labels;
          publics_ascend = third.good.publics_ascend;
          externals = third.good.externals;
          distinct = third.good.distinct;
        };
        kind = refl;
      };
    }))))

module_laid : (m : Module) (bytes b1 b2 rest : List ℕ) → IsModule m → bytes ≡ header_spelled (header_in m) ++ b1 → b1 ≡ flat_map statement_text m.statements ++ b2 → b2 ≡ lists_text (lists_in m) ++ rest
    → module_at m.grow bytes ≡ Ok (m, rest)
unfolding behind_magic header_in counts_in lists_in
module_laid m bytes b1 b2 rest rules e1 e2 e3 =
    let refs = (length m.statements + 1) + length m.externals in
    let head : HeaderGood (header_in m) = record { name = rules.name; counts = record { statements = rules.few_statements; names = rules.few_names }; entry = rules.entry } in
    let lists : ListsGood (counts_in m) (lists_in m) = record {
      label_count = refl;
      public_count = refl;
      external_count = refl;
      labels = rules.labels;
      public_labels = rules.public_labels;
      publics_ascend = rules.publics_ascend;
      externals = rules.externals;
      distinct = rules.distinct;
    } in
    then_is (header_in m, b1) (header_at bytes) _ (ap header_at e1 ∙ header_again (header_in m) b1 head)
    (then_is (m.statements, b2) (statements_at m.grow (counts_in m) b1) _
    (ap (statements_at m.grow (counts_in m)) e2
    ∙ many_again (λ (none : ℕ). statement_at m.grow refs) (λ none _. none) statement_text (λ (none : ℕ). IsModuleStatement m.grow refs) (λ none s more good. statement_again m.grow refs s more good) 0 m.statements b2
    (each_chained (IsModuleStatement m.grow refs) 0 m.statements rules.statements))
    (then_is (lists_in m, rest) (lists_at (counts_in m) b2) _ (ap (lists_at (counts_in m)) e3 ∙ lists_again (counts_in m) (lists_in m) rest lists) refl))

module_again : (m : Module) → IsModule m → module_at m.grow (behind_magic m) ≡ Ok (m, [])
unfolding behind_magic
module_again m rules =
    let ss = flat_map statement_text m.statements in
    let ls = lists_text (lists_in m) in
    module_laid m (behind_magic m) (ss ++ ls) ls [] rules (append_assoc (header_spelled (header_in m)) ss ls) refl (sym (append-nil ls))

-- The first four bytes.

magic_told : (front : List ℕ) → IfSome (grow_of front) (λ grow. front ≡ magic grow)
magic_told front =
    elim (cases_Bool (bytes_eq front (magic false))) as (λ _. IfSome (grow_of front) (λ grow. front ≡ magic grow)) [
      | inl one ↦ rw one ((bytes_eq-Decides front (magic false)).0 one)
      | inr not_one ↦ elim (cases_Bool (bytes_eq front (magic true))) as (λ _. IfSome (grow_of front) (λ grow. front ≡ magic grow)) [
        | inl two ↦ rw (not_one, two) ((bytes_eq-Decides front (magic true)).0 two)
        | inr not_two ↦ rw (not_one, not_two) tt
      ]
    ]

behind_is : (grow : Bool) (behind : List ℕ) (m : Module) → take 4 (magic grow ++ behind) ≡ magic grow → drop 4 (magic grow ++ behind) ≡ behind → grow_of (magic grow) ≡ Some grow
    → module_at grow behind ≡ Ok (m, []) → read_of (magic grow ++ behind) ≡ Ok m
behind_is grow behind m front tail kind e =
    let all = magic grow ++ behind in
    ap (λ f. read_behind (grow_of f) all) front ∙ ap (λ g. read_behind g all) kind ∙ ap (λ t. all_of (length all) (module_at grow t)) tail ∙ ap (all_of (length all)) e

laid : (grow : Bool) (behind : List ℕ) (m : Module) → module_at grow behind ≡ Ok (m, []) → read_of (magic grow ++ behind) ≡ Ok m
laid true behind m e = behind_is true behind m (take_at (magic true) behind 4 refl) (drop_at (magic true) behind 4 refl) refl e
laid false behind m e = behind_is false behind m (take_at (magic false) behind 4 refl) (drop_at (magic false) behind 4 refl) refl e

pub read_again : (m : Module) → IsModule m → read_of (module_text m) ≡ Ok m
read_again m rules = ap read_of (text_is m) ∙ laid m.grow (behind_magic m) m (module_again m rules)

IsObject : List ℕ → Module → Type 0
IsObject bytes m = IsModule m × (bytes ≡ module_text m)

all_told : (grow : Bool) (bytes : List ℕ) → take 4 bytes ≡ magic grow → (r : Field Module) → Reads (IsRead grow (drop 4 bytes)) r → IfOk (all_of (length bytes) r) (IsObject bytes)
unfolding IsObject
all_told grow bytes front (Err f) read = tt
all_told grow bytes front (Ok x) read = by x.0 x.1 read.value.spelled read.value.rules read.value.kind
  where
    by : (m : Module) (rest : List ℕ) → drop 4 bytes ≡ behind_magic m ++ rest → IsModule m → m.grow ≡ grow → IfOk (unless_bytes_left m rest) (λ all. IsModule all × (bytes ≡ module_text all))
    by m (b ∷ rest) spelled rules kind = tt
    by m [] spelled rules kind =
        (rules, sym (take-append-drop 4 bytes) ∙ ap (λ f. f ++ drop 4 bytes) front ∙ ap (λ t. magic grow ++ t) (spelled ∙ append-nil (behind_magic m)) ∙ ap (λ g. magic g ++ behind_magic m) (sym kind) ∙ sym (text_is m))

read_behind_told : (bytes : List ℕ) → IsBytes bytes → (found : Option Bool) → IfSome found (λ grow. take 4 bytes ≡ magic grow) → IfOk (read_behind found bytes) (IsObject bytes)
read_behind_told bytes fits None front = tt
read_behind_told bytes fits (Some grow) front = all_told grow bytes front (module_at grow (drop 4 bytes)) (module_takes grow (drop 4 bytes) (All-drop (λ b. b < 256) 4 bytes fits))

pub read_told : (bytes : List ℕ) → IsBytes bytes → IfOk (read_of bytes) (λ m. IsModule m × (bytes ≡ module_text m))
unfolding IsObject
read_told bytes fits = read_behind_told bytes fits (grow_of (take 4 bytes)) (magic_told (take 4 bytes))

-- a module that `read` answers keeps the rules, and the bytes are its object file
pub found : (bytes : List ℕ) (r : Result whole.Module ObjectFault) → IsBytes bytes → AnswersAsRead (answered_module r) (read_of bytes) → IfOk r (λ m. IsModule (module_of m) × (bytes ≡ module_text (module_of m)))
found bytes (Err f) fits is = tt
found bytes (Ok m) fits is = subst (λ read. IfOk read (λ all. IsModule all × (bytes ≡ module_text all))) is (read_told bytes fits)
