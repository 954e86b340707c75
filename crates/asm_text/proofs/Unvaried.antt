-- Lines that have the role that they have as written, whatever replaces their names.
use Rattle.std.proofs.Common.{◌≡◌, ◌⊎◌, inl, inr, ◌<◌, ◌≤◌, ◌+◌, ◌∙◌, ◌||◌, ◌&&◌, sym, ap, refl, subst, ℕ, suc, Bool, true, false, is_some, if◌then◌else◌, List, [], ◌∷◌, ◌++◌, Option, Some, None, Result, Ok, Err, IfOk, Vec, All, cond, codes, arith, take, length}
use Rattle.std.specs.Global.{Global}
use Rattle.std.specs.List.{Contains, list_any}
use Rattle.std.specs.Map.{lookup}
use Rattle.std.specs.Str.{bytes_eq}
use Rattle.std.proofs.lemmas.Bool.{cases_Bool, cases_eq, false≢true}
use Rattle.std.proofs.lemmas.List.Elements.{All-cons, All-nil, Contains-append_left, Contains-push}
use Rattle.asm_line.specs.declared.fault.ScanFault.{ScanFault}
use Rattle.asm_line.specs.Lines.{Cut, Scans}
use Rattle.asm_line.specs.Scanned.{scanned}
use Rattle.asm_line.specs.Tokens.{Lexeme}
use Rattle.asm_line.proofs.Cuts.{scans}
use Rattle.common.specs.Words.{upper}
use Rattle.asm_line.specs.Forms.{Form, form, headed, labelled, worded}
use Rattle.asm_line.specs.Single.{is_colon, is_name, is_word}
use Rattle.asm_text.specs.declared.matching.Role.{Role}
use Rattle.asm_line.specs.Replacing.Fronts.{AreLeft, Begins, IsLeft, goes_on}
use Rattle.asm_line.specs.declared.replacing.names.Names.{Names}
use Rattle.asm_line.specs.declared.replacing.names.Place.{Place}
use Rattle.asm_line.specs.declared.replacing.whole_names.Replacements.{Replacements}
use Rattle.asm_line.specs.Replacing.Replaced.{ReplacementTable, replaced_tokens}
use Rattle.asm_line.specs.Replacing.Views.{in_call, names_seen, replacement_table, replacement_at, texts as texts_of}
use Rattle.asm_text.specs.Roles.{role_of_head}
use Rattle.asm_text.specs.declared.call.Call.{Call}
use Rattle.asm_text.specs.declared.open.Opened.{Opened}
use Rattle.asm_text.specs.declared.signs.Sign.{Sign}
use Rattle.asm_text.specs.declared.varying.Varying.{Varying}
use Rattle.asm_text.specs.Kept.{HasOnly, IsCall, IsVarying, Suffice, VariesIn, places_where}
use Rattle.asm_text.specs.Stands.{Stands, role_in}
use Rattle.asm_text.specs.Prepared.{said}
use Rattle.asm_text.specs.Calls.{replaced_by}
use Rattle.asm_text.specs.Lines.{form_by, form_of, heard, tokens_in}
use Rattle.asm_text.specs.Plain.{ArePlain}
use Rattle.asm_text.specs.Private.Varying.{asked, asked_labelled, asked_of, is_held, may_vary, with_next}

-- What two laws of `asm_line` say: a line none of whose names is replaced stays as it is, and the first tokens stay if no name
-- in them is.
abbrev pub Leaves : Type 0
Leaves = (table : ReplacementTable) (line : List ℕ) (tokens : List Lexeme) → Cut line tokens → All (λ token. is_name token ≡ true → lookup (bytes_eq (upper token.text)) table ≡ None) tokens → replaced_tokens table line tokens ≡ line

abbrev pub Keeps : Type 0
Keeps = (table : ReplacementTable) (line : List ℕ) (front more : List Lexeme) → Cut line (front ++ more) → AreLeft table front more → Begins front (scanned (replaced_tokens table line (front ++ more)))

-- The first tokens of a line decide its head.

same_choice : (b : Bool) (f g h k : Form) → f.head ≡ h.head → g.head ≡ k.head → (if b then f else g).head ≡ (if b then h else k).head
same_choice true f g h k one other = one
same_choice false f g h k one other = other

same_other : (b : Bool) (f g h k : Form) → b ≡ false → g.head ≡ k.head → (if b then f else g).head ≡ (if b then h else k).head
same_other true f g h k never other = absurd (false≢true (sym never))
same_other false f g h k never other = other

pub same_worded : (label : Option (List ℕ)) (a : Lexeme) (x y : List Lexeme) → (worded label a x).head ≡ (worded label a y).head
same_worded label a x y = same_choice (is_name a) _ _ _ _ refl refl

same_headed : (label : Option (List ℕ)) (a b : Lexeme) (x y : List Lexeme) → (headed label (a ∷ b ∷ x)).head ≡ (headed label (a ∷ b ∷ y)).head
same_headed label a b x y = same_choice (is_name a && is_word (codes "MACRO") b) _ _ _ _ refl (same_worded label a (b ∷ x) (b ∷ y))

same_labelled : (name : List ℕ) (c d : Lexeme) (x y : List Lexeme) → (labelled name (c ∷ d ∷ x)).head ≡ (labelled name (c ∷ d ∷ y)).head
same_labelled name c d x y = same_choice (is_word (codes "EQU") c) _ _ _ _ refl (same_headed (Some name) c d x y)

no_label : (a b : Lexeme) → is_colon b ≡ false → (is_name a && is_colon b) ≡ false
no_label a b other = both (is_name a) (is_colon b) other where
  both : (p q : Bool) → q ≡ false → (p && q) ≡ false
  both true q e = e
  both false q e = refl

abbrev SaysHead : List Lexeme → Type 0
SaysHead front = (x y : List Lexeme) → (form (front ++ x)).head ≡ (form (front ++ y)).head

two_say : (a b : Lexeme) → is_colon b ≡ false → SaysHead (a ∷ b ∷ [])
two_say a b other x y = same_choice (is_name a && is_word (codes "EQU") b) _ _ _ _ refl (same_other (is_name a && is_colon b) (labelled a.text x) _ (labelled a.text y) _ (no_label a b other) (same_headed None a b x y))

four_say : (a b c d : Lexeme) → SaysHead (a ∷ b ∷ c ∷ d ∷ [])
four_say a b c d x y =
    same_choice (is_name a && is_word (codes "EQU") b) _ _ _ _ refl
    (same_choice (is_name a && is_colon b) (labelled a.text (c ∷ d ∷ x)) _ (labelled a.text (c ∷ d ∷ y)) _ (same_labelled a.text c d x y) (same_headed None a b (c ∷ d ∷ x) (c ∷ d ∷ y)))

-- Tokens that are no names of a table.

not_held : (t table : ReplacementTable) → HasOnly t table → (token : Lexeme) → is_held table token ≡ false → IsLeft t token
not_held t table only token none named = only (upper token.text) (no_entry (lookup (bytes_eq (upper token.text)) table) (sym (ap (λ b. b && is_some (lookup (bytes_eq (upper token.text)) table)) named) ∙ none)) where
  no_entry : (o : Option (List ℕ)) → is_some o ≡ false → o ≡ None
  no_entry None e = refl
  no_entry (Some text) e = absurd (false≢true (sym e))

none_first : (p : Lexeme → Bool) (x : Lexeme) (xs : List Lexeme) → list_any p (x ∷ xs) ≡ false → (p x ≡ false) × (list_any p xs ≡ false)
none_first p x xs e = both (p x) (list_any p xs) e where
  both : (a b : Bool) → (a || b) ≡ false → (a ≡ false) × (b ≡ false)
  both true b e = absurd (false≢true (sym e))
  both false b e = (refl, e)

all_left : (t table : ReplacementTable) → HasOnly t table → (tokens : List Lexeme) → list_any (is_held table) tokens ≡ false → All (IsLeft t) tokens
all_left t table only [] e = All-nil (IsLeft t)
all_left t table only (token ∷ tokens) e =
    let first = none_first (is_held table) token tokens e in
    All-cons (IsLeft t) token tokens (not_held t table only token first.0) (all_left t table only tokens first.1)

-- The last token that matters, and the one after it if replacing that may make the last one longer.

pub last_left : (t table : ReplacementTable) → HasOnly t table → (token : Lexeme) (more : List Lexeme) (g : Bool) → goes_on token.kind ≡ g → list_any (is_held table) (take (with_next g 1) (token ∷ more)) ≡ false → AreLeft t (token ∷ []) more
last_left t table only token [] true is e = (not_held t table only token (none_first (is_held table) token [] e).0, λ g. tt)
last_left t table only token (m ∷ more) true is e =
    let one = none_first (is_held table) token (m ∷ take 0 more) e in
    (not_held t table only token one.0, λ g. not_held t table only m (none_first (is_held table) m (take 0 more) one.1).0)
last_left t table only token [] false is e = (not_held t table only token (none_first (is_held table) token [] e).0, λ g. absurd (false≢true (sym is ∙ g)))
last_left t table only token (m ∷ more) false is e =
    (not_held t table only token (none_first (is_held table) token [] e).0, λ g. absurd (false≢true (sym is ∙ g)))

one_more : (g : Bool) (n : ℕ) → with_next g (suc n) ≡ suc (with_next g n)
one_more true n = let e : suc n + 1 ≡ suc (n + 1) = omega arith in e
one_more false n = refl

two_left : (t table : ReplacementTable) → HasOnly t table → (a b : Lexeme) (more : List Lexeme) → list_any (is_held table) (take (with_next (goes_on b.kind) 2) (a ∷ b ∷ more)) ≡ false → AreLeft t (a ∷ b ∷ []) more
two_left t table only a b more e =
    let g = goes_on b.kind in
    let one = none_first (is_held table) a (take (with_next g 1) (b ∷ more)) (sym (ap (λ n. list_any (is_held table) (take n (a ∷ b ∷ more))) (one_more g 1)) ∙ e) in
    (not_held t table only a one.0, last_left t table only b more g refl one.1)

four_left : (t table : ReplacementTable) → HasOnly t table → (a b c d : Lexeme) (more : List Lexeme) → list_any (is_held table) (take (with_next (goes_on d.kind) 4) (a ∷ b ∷ c ∷ d ∷ more)) ≡ false → AreLeft t (a ∷ b ∷ c ∷ d ∷ []) more
four_left t table only a b c d more e =
    let g = goes_on d.kind in
    let p = is_held table in
    let one = none_first p a (take (with_next g 3) (b ∷ c ∷ d ∷ more)) (sym (ap (λ n. list_any p (take n (a ∷ b ∷ c ∷ d ∷ more))) (one_more g 3)) ∙ e) in
    let two = none_first p b (take (with_next g 2) (c ∷ d ∷ more)) (sym (ap (λ n. list_any p (take n (b ∷ c ∷ d ∷ more))) (one_more g 2)) ∙ one.1) in
    let three = none_first p c (take (with_next g 1) (d ∷ more)) (sym (ap (λ n. list_any p (take n (c ∷ d ∷ more))) (one_more g 1)) ∙ two.1) in
    (not_held t table only a one.0, (not_held t table only b two.0, (not_held t table only c three.0, last_left t table only d more g refl three.1)))

-- The role of a line whose first tokens are not replaced.

module _ (leaves : Leaves) (keeps : Keeps) (t table : ReplacementTable) (only : HasOnly t table) (line : List ℕ) where
  abbrev Unchanged : List Lexeme → Type 0
  Unchanged tokens = role_of_head (form_of (replaced_tokens t line tokens)).head ≡ role_of_head (form tokens).head

  whole_stays : (tokens : List Lexeme) → heard line ≡ Some tokens → Cut line tokens → list_any (is_held table) tokens ≡ false → Unchanged tokens
  whole_stays tokens is cut e =
      ap (λ l. role_of_head (form_of l).head) (leaves t line tokens cut (all_left t table only tokens e)) ∙ ap (λ h. role_of_head (form_by h).head) is

  read_stays : (front more : List Lexeme) (r : Result (List Lexeme) ScanFault) → SaysHead front → Begins front r → role_of_head (form (front ++ more)).head ≡ Role.Other → role_of_head (form_by (tokens_in r)).head ≡ Role.Other
  read_stays front more (Ok tokens) says begins other = ap (λ ts. role_of_head (form ts).head) begins.1 ∙ ap role_of_head (says begins.0 more) ∙ other
  read_stays front more (Err fault) says begins other = refl

  front_stays : (front more : List Lexeme) → Cut line (front ++ more) → SaysHead front → AreLeft t front more → role_of_head (form (front ++ more)).head ≡ Role.Other → Unchanged (front ++ more)
  front_stays front more cut says left other = read_stays front more (scanned (replaced_tokens t line (front ++ more))) says (keeps t line front more cut left) other ∙ sym other

  labelled_stays : (a b : Lexeme) (rest : List Lexeme) → heard line ≡ Some (a ∷ b ∷ rest) → Cut line (a ∷ b ∷ rest) → role_of_head (form (a ∷ b ∷ rest)).head ≡ Role.Other
      → list_any (is_held table) (take (asked_labelled rest) (a ∷ b ∷ rest)) ≡ false → Unchanged (a ∷ b ∷ rest)
  labelled_stays a b [] is cut other e = whole_stays (a ∷ b ∷ []) is cut e
  labelled_stays a b (c ∷ []) is cut other e = whole_stays (a ∷ b ∷ c ∷ []) is cut e
  labelled_stays a b (c ∷ d ∷ more) is cut other e = front_stays (a ∷ b ∷ c ∷ d ∷ []) more cut (four_say a b c d) (four_left t table only a b c d more e) other

  other_stays : (tokens : List Lexeme) → heard line ≡ Some tokens → Cut line tokens → role_of_head (form tokens).head ≡ Role.Other → list_any (is_held table) (take (asked tokens) tokens) ≡ false → Unchanged tokens
  other_stays [] is cut other e = whole_stays [] is cut e
  other_stays (a ∷ []) is cut other e = whole_stays (a ∷ []) is cut e
  other_stays (a ∷ b ∷ rest) is cut other e =
      let asks : Bool → ℕ = λ colon. if colon then asked_labelled rest else with_next (goes_on b.kind) 2 in
      elim (cases_Bool (is_colon b)) [
        | inl colon ↦ labelled_stays a b rest is cut other (sym (ap (λ x. list_any (is_held table) (take (asks x) (a ∷ b ∷ rest))) colon) ∙ e)
        | inr none ↦ front_stays (a ∷ b ∷ []) rest cut (two_say a b none) (two_left t table only a b rest (sym (ap (λ x. list_any (is_held table) (take (asks x) (a ∷ b ∷ rest))) none) ∙ e)) other
      ]

  any_stays : (tokens : List Lexeme) (role : Role) → role_of_head (form tokens).head ≡ role → heard line ≡ Some tokens → Cut line tokens → list_any (is_held table) (asked_of role tokens) ≡ false → Unchanged tokens
  any_stays tokens Role.Other same is cut e = other_stays tokens is cut same e
  any_stays tokens Role.OpensBody same is cut e = whole_stays tokens is cut e
  any_stays tokens Role.OpensIf same is cut e = whole_stays tokens is cut e
  any_stays tokens Role.Else same is cut e = whole_stays tokens is cut e
  any_stays tokens Role.EndIf same is cut e = whole_stays tokens is cut e
  any_stays tokens Role.EndBody same is cut e = whole_stays tokens is cut e

  stays_by : (r : Result (List Lexeme) ScanFault) → scanned line ≡ r → may_vary table (tokens_in r) ≡ false → role_of_head (form_of (replaced_by t line (tokens_in r))).head ≡ role_of_head (form_by (tokens_in r)).head
  stays_by (Ok tokens) is e = any_stays tokens (role_of_head (form tokens).head) refl (ap tokens_in is) (subst (Scans line) is (scans line)).1 e
  stays_by (Err fault) is e = ap (λ h. role_of_head (form_by h).head) (ap tokens_in is)

  pub stays : may_vary table (heard line) ≡ false → role_in (Some t) line ≡ role_in None line
  stays e = stays_by (scanned line) refl e

-- One line more is known to vary or not.

abbrev Told : List (List ℕ) → ReplacementTable → List ℕ → ℕ → ℕ → Type 0
Told texts t places from at = (k : ℕ) → from ≤ k → k < at → k < length texts → Contains places k ⊎ Stands texts (Some t) k

pub unnamed : (texts : List (List ℕ)) (t : ReplacementTable) (places now : List ℕ) (from at : ℕ) → Told texts t places from at → now ≡ places → Stands texts (Some t) at → Told texts t now from (at + 1)
unnamed texts t places now from at told e stands = λ k after before within.
    elim (cases_eq k at) [
      | inl same ↦ inr (subst (Stands texts (Some t)) (sym same) stands)
      | inr other ↦ let less : k < at = omega (arith, before, other) in subst (λ ps. Contains ps k ⊎ Stands texts (Some t) k) (sym e) (told k after less within)
    ]

with_place : (texts : List (List ℕ)) (t : ReplacementTable) (places : List ℕ) (at k : ℕ) → Contains places k ⊎ Stands texts (Some t) k → Contains (places ++ at ∷ []) k ⊎ Stands texts (Some t) k
with_place texts t places at k (inl there) = inl (Contains-append_left places (at ∷ []) k there)
with_place texts t places at k (inr stands) = inr stands

pub named : (texts : List (List ℕ)) (t : ReplacementTable) (places now : List ℕ) (from at : ℕ) → Told texts t places from at → now ≡ places ++ at ∷ [] → Told texts t now from (at + 1)
named texts t places now from at told e = λ k after before within.
    subst (λ ps. Contains ps k ⊎ Stands texts (Some t) k) (sym e)
    (elim (cases_eq k at) [
      | inl same ↦ inl (subst (Contains (places ++ at ∷ [])) (sym same) (Contains-push places at))
      | inr other ↦ let less : k < at = omega (arith, before, other) in with_place texts t places at k (told k after less within)
    ])

-- What is found for the range of an opened body holds of that body.
pub in_opened : {E : Type 0} (texts : List (List ℕ)) (names : Names) (o : Opened) (r : Result Varying E) → IfOk r (IsVarying texts (in_call names [] 0)) → IfOk r (λ v. (v.at ≡ o.rest.at) × (v.end ≡ o.rest.end))
    → IfOk r (VariesIn texts names (Some o))
in_opened texts names o (Ok v) varying range = (range.0, range.1, varying)
in_opened texts names o (Err e) varying range = tt

-- Which names are replaced does not depend on the arguments and LOCAL names.

has_only : (f g : Place → List ℕ) (entries : List (Vec ℕ Global × Place)) → HasOnly (names_seen f entries) (names_seen g entries)
has_only f g [] name none = refl
has_only f g (e ∷ es) name none = by_first (bytes_eq name e.0.items) (f e.1) (g e.1) (lookup (bytes_eq name) (names_seen f es)) (lookup (bytes_eq name) (names_seen g es)) none (has_only f g es name) where
  some_none : (x : List ℕ) → ◌≡◌ {A = Option (List ℕ)} (Some x) None → ⊥
  some_none x e = cc

  by_first : (b : Bool) (x y : List ℕ) (o p : Option (List ℕ)) → cond b (Some y) p ≡ None → (p ≡ None → o ≡ None) → cond b (Some x) o ≡ None
  by_first true x y o p none next = absurd (some_none y none)
  by_first false x y o p none next = next none

said_of : (r : Replacements) → replacement_table r ≡ in_call r.names.value (texts_of r.arguments.items) r.counter
unfolding replacement_table
said_of r = refl

-- what a call replaces its names by
pub said_in : (c : Call) (names : Names) → c.names.names.value ≡ names → said c ≡ in_call names (texts_of c.names.arguments.items) c.names.counter
said_in c names is = said_of c.names ∙ ap (λ n. in_call n (texts_of c.names.arguments.items) c.names.counter) is

-- A call is right if its replacements are plain to the signs for which it says so.
pub call_of : (texts : List (List ℕ)) (c : Call) (names : Names) (v : Varying) (some : List (List ℕ)) (counter : ℕ) → said c ≡ in_call names some counter
    → (c.plain.word ≡ true → ArePlain Sign.Word (in_call names some counter)) → (c.plain.second ≡ true → ArePlain Sign.Second (in_call names some counter))
    → IsVarying texts (in_call names [] 0) v → c.varying.value ≡ v → IsCall texts c
call_of texts c names v some counter same word second varying is =
    let asks : Varying → List ℕ = places_where c.plain.word c.plain.second in
    let told = varying (in_call names some counter) (has_only (replacement_at some counter) (replacement_at [] 0) names.places.entries) c.plain.word c.plain.second word second in
    subst (λ w. Suffice texts w.at w.end (asks w) (said c)) (sym is) (subst (Suffice texts v.at v.end (asks v)) (sym same) told)
