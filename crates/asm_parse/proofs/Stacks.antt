-- The stacks of waiting operators.
use Rattle.std.proofs.Common.{◌≡◌, ◌≤◌, ◌<◌, ℕ, zero, suc, ◌-◌, List, [], ◌∷◌, ◌++◌, Some, None, length, take, if◌then◌else◌, refl, sym, ap, subst, ◌∙◌, arith, append_assoc, append-nil}
use Rattle.std.proofs.lemmas.Bool.{lt-leb}
use Rattle.std.specs.Prelude.{slice_get}
use Rattle.asm_parse.specs.declared.item.Item.{Item}
use Rattle.asm_parse.specs.declared.sign.Prefix.{Prefix}
use Rattle.asm_parse.specs.declared.reader.Operator.{Operator}
use Rattle.asm_parse.specs.declared.reader.Pending.{Pending}
use Rattle.asm_parse.specs.Expression.{postfix}
use Rattle.asm_parse.specs.Source.{Operand}
use Rattle.asm_parse.specs.Grammar.{Phrase, Prefixed, Joined, prefix_level, infix_level, expression}
use Rattle.asm_parse.specs.Private.Parsing.{Frame, Inside, Under, RightOf, reduce}
use Rattle.asm_parse.proofs.Completeness.{taking, joining}
use Rattle.asm_parse.specs.Private.Stacks.{level_of, pendings, written, closed_item, closed_by, IsReduced}

-- What is left to do while the stacks hold some frames.
pub record Reducing (level : ℕ) (whole : List Frame × Phrase) (pending : List Pending) (items : List (Item Operand)) : Type 0 where
  pub frames : List Frame
  pub operand : Phrase
  pub waiting : pending ≡ pendings frames
  pub writing : items ≡ written frames ++ postfix (expression operand)
  pub same : reduce level frames operand ≡ whole

pub reducing_start : (level : ℕ) (frames : List Frame) (a : Phrase) (pending : List Pending) (items : List (Item Operand)) → pending ≡ pendings frames → items ≡ written frames ++ postfix (expression a)
    → Reducing level (reduce level frames a) pending items
reducing_start level frames a pending items w i = record { frames = frames; operand = a; waiting = w; writing = i; same = refl }

pub last_same : (xs ys : List Pending) (x y : Pending) → xs ++ x ∷ [] ≡ ys ++ y ∷ [] → (xs ≡ ys) × (x ≡ y)
last_same [] [] x y e = (refl, cc)
last_same [] (b ∷ []) x y e = cc
last_same [] (b ∷ c ∷ ys) x y e = cc
last_same (a ∷ []) [] x y e = cc
last_same (a ∷ c ∷ xs) [] x y e = cc
last_same (a ∷ xs) (b ∷ ys) x y e =
    let head : a ≡ b = cc in
    let tail : xs ++ x ∷ [] ≡ ys ++ y ∷ [] = cc in
    let rest = last_same xs ys x y tail in
    (ap (λ z. z ∷ xs) head ∙ ap (λ zs. b ∷ zs) rest.0, rest.1)

written_under : (p : Prefix) (a : Phrase) → postfix (expression a) ++ closed_by p ≡ postfix (expression (Prefixed p a))
written_under Prefix.Plus a = append-nil (postfix (expression a))
written_under (Prefix.Operator op) a = refl

pub not_empty : (xs : List Pending) (x : Pending) → xs ++ x ∷ [] ≡ [] → ⊥
not_empty [] x e = cc
not_empty (y ∷ xs) x e = cc

-- The innermost operator takes its operand.
taken : (level : ℕ) (whole : List Frame × Phrase) (rest : List Pending) (last : Pending) (items new : List (Item Operand)) → level ≤ 7 → level_of last.operator ≤ level → new ≡ items ++ closed_item last.operator
    → (frames : List Frame) (a : Phrase) → rest ++ last ∷ [] ≡ pendings frames → items ≡ written frames ++ postfix (expression a) → reduce level frames a ≡ whole → Reducing level whole rest new
taken level whole rest last items new seven tight made [] a w i s = absurd (not_empty rest last w)
taken level whole rest last items new seven tight made (Inside ∷ frames) a w i s =
    let e = last_same rest (pendings frames) last _ w in
    absurd (omega (arith, seven, tight, ap (λ (l : Pending). level_of l.operator) e.1))
taken level whole rest last items new seven tight made (Under p ∷ frames) a w i s =
    let e = last_same rest (pendings frames) last _ w in
    let operator : last.operator ≡ Operator.Under p = ap (λ (l : Pending). l.operator) e.1 in
    let level_is : prefix_level p ≤ level = omega (arith, tight, ap level_of operator) in
    record {
      frames = frames;
      operand = Prefixed p a;
      waiting = e.0;
      writing = made ∙ ap (λ o. items ++ closed_item o) operator ∙ ap (λ xs. xs ++ closed_by p) i ∙ append_assoc (written frames) (postfix (expression a)) (closed_by p) ∙ ap (λ xs. written frames ++ xs) (written_under p a);
      same = sym (taking p level frames a level_is) ∙ s;
    }
taken level whole rest last items new seven tight made (RightOf o b ∷ frames) a w i s =
    let e = last_same rest (pendings frames) last _ w in
    let operator : last.operator ≡ Operator.RightOf o = ap (λ (l : Pending). l.operator) e.1 in
    let level_is : infix_level o ≤ level = omega (arith, tight, ap level_of operator) in
    let split : ((written frames ++ postfix (expression b)) ++ postfix (expression a)) ++ Item.Binary o ∷ [] ≡ written frames ++ ((postfix (expression b) ++ postfix (expression a)) ++ Item.Binary o ∷ []) = simp append_assoc in
    record {
      frames = frames;
      operand = Joined o b a;
      waiting = e.0;
      writing = made ∙ ap (λ x. items ++ closed_item x) operator ∙ ap (λ xs. xs ++ Item.Binary o ∷ []) i ∙ split;
      same = sym (joining o level frames b a level_is) ∙ s;
    }

pub reducing_next : (level : ℕ) (whole : List Frame × Phrase) (pending rest : List Pending) (last : Pending) (items new : List (Item Operand)) → level ≤ 7 → Reducing level whole pending items
    → pending ≡ rest ++ last ∷ [] → level_of last.operator ≤ level → new ≡ items ++ closed_item last.operator → Reducing level whole rest new
reducing_next level whole pending rest last items new seven r is tight made =
    taken level whole rest last items new seven tight made r.frames r.operand (sym is ∙ r.waiting) r.writing r.same

-- An operator that binds less tightly stays, and so do those around it.
stays : (level : ℕ) (rest : List Pending) (last : Pending) (frames : List Frame) (a : Phrase) → rest ++ last ∷ [] ≡ pendings frames → level < level_of last.operator → reduce level frames a ≡ (frames, a)
stays level rest last [] a w loose = refl
stays level rest last (Inside ∷ frames) a w loose = refl
stays level rest last (Under p ∷ frames) a w loose =
    let e = last_same rest (pendings frames) last _ w in
    let level_is : level < prefix_level p = omega (arith, loose, ap (λ (l : Pending). level_of l.operator) e.1) in
    ap (λ b. if b then reduce level frames (Prefixed p a) else (Under p ∷ frames, a)) (lt-leb (prefix_level p) level level_is)
stays level rest last (RightOf o b ∷ frames) a w loose =
    let e = last_same rest (pendings frames) last _ w in
    let level_is : level < infix_level o = omega (arith, loose, ap (λ (l : Pending). level_of l.operator) e.1) in
    ap (λ c. if c then reduce level frames (Joined o b a) else (RightOf o b ∷ frames, a)) (lt-leb (infix_level o) level level_is)

pub reducing_stays : (level : ℕ) (whole : List Frame × Phrase) (pending rest : List Pending) (last : Pending) (items : List (Item Operand)) → Reducing level whole pending items
    → pending ≡ rest ++ last ∷ [] → level < level_of last.operator → IsReduced whole pending items
reducing_stays level whole pending rest last items r is loose =
    subst (λ at. IsReduced at pending items) (sym (stays level rest last r.frames r.operand (sym is ∙ r.waiting) loose) ∙ r.same) (r.waiting, r.writing)

ends : (level : ℕ) (frames : List Frame) (a : Phrase) → [] ≡ pendings frames → reduce level frames a ≡ (frames, a)
ends level [] a w = refl
ends level (f ∷ frames) a w = absurd (not_empty (pendings frames) _ (sym w))

pub reducing_ends : (level : ℕ) (whole : List Frame × Phrase) (pending : List Pending) (items : List (Item Operand)) → Reducing level whole pending items → pending ≡ [] → IsReduced whole pending items
reducing_ends level whole pending items r is =
    subst (λ at. IsReduced at pending items) (sym (ends level r.frames r.operand (sym is ∙ r.waiting)) ∙ r.same) (r.waiting, r.writing)

last_at : (xs : List Pending) (n : ℕ) (last : Pending) → length xs ≡ suc n → slice_get xs n ≡ Some last → xs ≡ take n xs ++ last ∷ []
last_at [] n last len e = absurd (omega (arith, len))
last_at (x ∷ []) zero last len e = let same : x ≡ last = cc in ap (λ z. z ∷ []) same
last_at (x ∷ y ∷ ys) zero last len e = absurd (omega (arith, len))
last_at (x ∷ xs) (suc n) last len e = ap (λ zs. x ∷ zs) (last_at xs n last (omega (arith, len)) e)

pub split_last : (xs : List Pending) (last : Pending) → slice_get xs (length xs - 1) ≡ Some last → xs ≡ take (length xs - 1) xs ++ last ∷ []
split_last [] last e = cc
split_last (x ∷ xs) last e = last_at (x ∷ xs) (length (x ∷ xs) - 1) last (omega arith) e

last_there : (x : Pending) (xs : List Pending) → slice_get (x ∷ xs) (length xs) ≡ None → ⊥
last_there x [] e = cc
last_there x (y ∷ ys) e = last_there y ys e

pub no_last : (xs : List Pending) → slice_get xs (length xs - 1) ≡ None → xs ≡ []
no_last [] e = refl
no_last (x ∷ xs) e = let n : length xs ≡ length (x ∷ xs) - 1 = omega arith in absurd (last_there x xs (ap (slice_get (x ∷ xs)) n ∙ e))
