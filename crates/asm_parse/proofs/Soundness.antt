-- A phrase that the code reads is that of the symbols that it has read.
use Rattle.std.proofs.Common.{◌≡◌, ◌≤◌, ℕ, Bool, true, false, List, [], ◌∷◌, ◌++◌, Option, Some, None, if◌then◌else◌, nat_le, refl, sym, ap, subst, ◌∙◌, arith, append_assoc, append-nil}
use Rattle.std.proofs.lemmas.Bool.{leb-true, leb-false}
use Rattle.asm_parse.specs.declared.operator.Unary.{Unary}
use Rattle.asm_parse.specs.declared.operator.Binary.{Binary}
use Rattle.asm_parse.specs.declared.sign.Sign.{Sign}
use Rattle.asm_parse.specs.declared.sign.Prefix.{Prefix}
use Rattle.asm_parse.specs.Expression.{and_then}
use Rattle.asm_parse.specs.Words.{prefix_of, infix_of}
use Rattle.asm_parse.specs.Grammar.{GrammarSymbol, Term, Marked, Foreign, Phrase, Single, Enclosed, Prefixed, Joined, prefix_level, infix_level, looseness, IsGrouped, prefix_sign, infix_sign, spelling, SpellsPhrase}
use Rattle.asm_parse.specs.Private.Parsing.{Frame, Inside, Under, RightOf, State, room, reduce, under_prefix, right_of, enclosed, sign_before, sign_behind, step_by, step, ended, finish_by, reading, start}
use Rattle.asm_parse.proofs.Completeness.{infix_two, infix_seven}

-- the symbols that frames have read
abbrev pub read_by : List Frame → List GrammarSymbol
read_by [] = []
read_by (Inside ∷ frames) = read_by frames ++ Marked Sign.Open ∷ []
read_by (Under p ∷ frames) = read_by frames ++ Marked (prefix_sign p) ∷ []
read_by (RightOf o a ∷ frames) = (read_by frames ++ spelling a) ++ Marked (infix_sign o) ∷ []

-- Each frame fits in the room that the frames around it leave.
abbrev pub Nested : List Frame → Type 0
Nested [] = Unit {0}
Nested (Inside ∷ frames) = Nested frames
Nested (Under p ∷ frames) = (prefix_level p ≤ room frames) × Nested frames
Nested (RightOf o a ∷ frames) = (looseness a ≤ infix_level o) × IsGrouped a × (infix_level o ≤ room frames) × Nested frames

-- The symbols are those of some frames and then of a complete phrase, which is tight enough for the level.
pub record Behind (symbols : List GrammarSymbol) (frames : List Frame) (a : Phrase) (level : ℕ) : Type 0 where
  pub read : symbols ≡ read_by frames ++ spelling a
  pub nested : Nested frames
  pub grouped : IsGrouped a
  pub fits : looseness a ≤ room frames
  pub tight : looseness a ≤ level

abbrev pub ReadUpTo : List GrammarSymbol → List Frame → Option Phrase → Type 0
ReadUpTo symbols frames None = (symbols ≡ read_by frames) × Nested frames
ReadUpTo symbols frames (Some a) = Behind symbols frames a 0

choose : {A : Type 0} (P : A → Type 0) (b : Bool) (x y : A) → (b ≡ true → P x) → (b ≡ false → P y) → P (if b then x else y)
choose P true x y holds fails = holds refl
choose P false x y holds fails = fails refl

-- When operators take their operands, the symbols stay the same; afterwards the level fits in the room that is left.
pub record Reduced (symbols : List GrammarSymbol) (level : ℕ) (at : List Frame × Phrase) : Type 0 where
  pub behind : Behind symbols at.0 at.1 level
  pub left : level ≤ room at.0

pub reduced : (symbols : List GrammarSymbol) (level : ℕ) → level ≤ 7 → (frames : List Frame) (a : Phrase) → Behind symbols frames a level → Reduced symbols level (reduce level frames a)
reduced symbols level h [] a b = record { behind = b; left = h }
reduced symbols level h (Inside ∷ frames) a b = record { behind = b; left = h }
reduced symbols level h (Under p ∷ frames) a b =
    choose (Reduced symbols level) (nat_le (prefix_level p) level) (reduce level frames (Prefixed p a)) (Under p ∷ frames, a)
    (λ holds. reduced symbols level h frames (Prefixed p a) (record {
      read = b.read ∙ append_assoc (read_by frames) (Marked (prefix_sign p) ∷ []) (spelling a);
      nested = b.nested.1;
      grouped = (b.fits, b.grouped);
      fits = b.nested.0;
      tight = leb-true (prefix_level p) level holds;
    }))
    (λ fails. record { behind = b; left = omega (arith, leb-false (prefix_level p) level fails) })
reduced symbols level h (RightOf o a ∷ frames) c b =
    choose (Reduced symbols level) (nat_le (infix_level o) level) (reduce level frames (Joined o a c)) (RightOf o a ∷ frames, c)
    (λ holds. reduced symbols level h frames (Joined o a c) (record {
      read = b.read ∙ append_assoc (read_by frames ++ spelling a) (Marked (infix_sign o) ∷ []) (spelling c) ∙ append_assoc (read_by frames) (spelling a) (Marked (infix_sign o) ∷ spelling c);
      nested = b.nested.3;
      grouped = (b.nested.0, omega (arith, b.fits, infix_two o), b.nested.1, b.grouped);
      fits = b.nested.2;
      tight = leb-true (infix_level o) level holds;
    }))
    (λ fails. record { behind = b; left = omega (arith, leb-false (infix_level o) level fails) })

-- a phrase that is tight enough for level 0 is so for each level
loosen : (symbols : List GrammarSymbol) (level : ℕ) (frames : List Frame) (a : Phrase) → Behind symbols frames a 0 → Behind symbols frames a level
loosen symbols level frames a b = record { read = b.read; nested = b.nested; grouped = b.grouped; fits = b.fits; tight = omega (arith, b.tight) }

prefix_back : (s : Sign) (p : Prefix) → prefix_of s ≡ Some p → prefix_sign p ≡ s
prefix_back Sign.Plus p e = let is : Prefix.Plus ≡ p = cc in ap prefix_sign (sym is)
prefix_back Sign.Minus p e = let is : Prefix.Operator Unary.Negate ≡ p = cc in ap prefix_sign (sym is)
prefix_back Sign.High p e = let is : Prefix.Operator Unary.High ≡ p = cc in ap prefix_sign (sym is)
prefix_back Sign.Low p e = let is : Prefix.Operator Unary.Low ≡ p = cc in ap prefix_sign (sym is)
prefix_back Sign.Not p e = let is : Prefix.Operator Unary.Not ≡ p = cc in ap prefix_sign (sym is)
prefix_back s p e = cc

infix_back : (s : Sign) (o : Binary) → infix_of s ≡ Some o → infix_sign o ≡ s
infix_back Sign.Plus o e = let is : Binary.Add ≡ o = cc in ap infix_sign (sym is)
infix_back Sign.Minus o e = let is : Binary.Subtract ≡ o = cc in ap infix_sign (sym is)
infix_back Sign.Star o e = let is : Binary.Multiply ≡ o = cc in ap infix_sign (sym is)
infix_back Sign.Slash o e = let is : Binary.Divide ≡ o = cc in ap infix_sign (sym is)
infix_back Sign.Mod o e = let is : Binary.Modulo ≡ o = cc in ap infix_sign (sym is)
infix_back Sign.Shl o e = let is : Binary.ShiftLeft ≡ o = cc in ap infix_sign (sym is)
infix_back Sign.Shr o e = let is : Binary.ShiftRight ≡ o = cc in ap infix_sign (sym is)
infix_back Sign.And o e = let is : Binary.And ≡ o = cc in ap infix_sign (sym is)
infix_back Sign.Or o e = let is : Binary.Or ≡ o = cc in ap infix_sign (sym is)
infix_back Sign.Xor o e = let is : Binary.Xor ≡ o = cc in ap infix_sign (sym is)
infix_back Sign.Eq o e = let is : Binary.Equal ≡ o = cc in ap infix_sign (sym is)
infix_back Sign.Ne o e = let is : Binary.NotEqual ≡ o = cc in ap infix_sign (sym is)
infix_back Sign.Lt o e = let is : Binary.Less ≡ o = cc in ap infix_sign (sym is)
infix_back Sign.Le o e = let is : Binary.LessOrEqual ≡ o = cc in ap infix_sign (sym is)
infix_back Sign.Gt o e = let is : Binary.Greater ≡ o = cc in ap infix_sign (sym is)
infix_back Sign.Ge o e = let is : Binary.GreaterOrEqual ≡ o = cc in ap infix_sign (sym is)
infix_back s o e = cc

under_sound : (symbols : List GrammarSymbol) (s : Sign) (frames : List Frame) (next : State) → (symbols ≡ read_by frames) × Nested frames → (o : Option Prefix) → prefix_of s ≡ o → under_prefix o frames ≡ Some next
    → ReadUpTo (symbols ++ Marked s ∷ []) next.frames next.operand
under_sound symbols s frames next h None is e = cc
under_sound symbols s frames next h (Some p) is e =
    choose (λ r. r ≡ Some next → ReadUpTo (symbols ++ Marked s ∷ []) next.frames next.operand) (nat_le (prefix_level p) (room frames)) (Some (record { frames = Under p ∷ frames; operand = None })) None
    (λ holds same.
    let there : record { frames = Under p ∷ frames; operand = None } ≡ next = cc in
    let read : symbols ++ Marked s ∷ [] ≡ read_by frames ++ Marked (prefix_sign p) ∷ [] = ap (λ xs. xs ++ Marked s ∷ []) h.0 ∙ ap (λ x. read_by frames ++ Marked x ∷ []) (sym (prefix_back s p is)) in
    let now : ReadUpTo (symbols ++ Marked s ∷ []) (Under p ∷ frames) None = (read, (leb-true (prefix_level p) (room frames) holds, h.1)) in
    subst (λ (st : State). ReadUpTo (symbols ++ Marked s ∷ []) st.frames st.operand) there now)
    (λ fails same. cc)
    e

right_sound : (symbols : List GrammarSymbol) (s : Sign) (frames : List Frame) (a : Phrase) (next : State) → Behind symbols frames a 0 → (i : Option Binary) → infix_of s ≡ i → right_of i frames a ≡ Some next
    → ReadUpTo (symbols ++ Marked s ∷ []) next.frames next.operand
right_sound symbols s frames a next h None is e = cc
right_sound symbols s frames a next h (Some o) is e =
    let done = reduce (infix_level o) frames a in
    let r = reduced symbols (infix_level o) (infix_seven o) frames a (loosen symbols (infix_level o) frames a h) in
    let there : record { frames = RightOf o done.1 ∷ done.0; operand = None } ≡ next = cc in
    let read : symbols ++ Marked s ∷ [] ≡ (read_by done.0 ++ spelling done.1) ++ Marked (infix_sign o) ∷ [] =
    ap (λ xs. xs ++ Marked s ∷ []) r.behind.read ∙ ap (λ x. (read_by done.0 ++ spelling done.1) ++ Marked x ∷ []) (sym (infix_back s o is)) in
    let now : ReadUpTo (symbols ++ Marked s ∷ []) (RightOf o done.1 ∷ done.0) None = (read, (r.behind.tight, r.behind.grouped, r.left, r.behind.nested)) in
    subst (λ (st : State). ReadUpTo (symbols ++ Marked s ∷ []) st.frames st.operand) there now

enclosed_sound : (symbols : List GrammarSymbol) (at : List Frame × Phrase) (next : State) → Behind symbols at.0 at.1 7 → enclosed at ≡ Some next → ReadUpTo (symbols ++ Marked Sign.Close ∷ []) next.frames next.operand
enclosed_sound symbols ([], a) next b e = cc
enclosed_sound symbols (Under p ∷ frames, a) next b e = cc
enclosed_sound symbols (RightOf o c ∷ frames, a) next b e = cc
enclosed_sound symbols (Inside ∷ frames, a) next b e =
    let there : record { frames = frames; operand = Some (Enclosed a) } ≡ next = cc in
    let read : symbols ++ Marked Sign.Close ∷ [] ≡ read_by frames ++ (Marked Sign.Open ∷ spelling a ++ Marked Sign.Close ∷ []) =
    ap (λ xs. xs ++ Marked Sign.Close ∷ []) (b.read ∙ append_assoc (read_by frames) (Marked Sign.Open ∷ []) (spelling a)) ∙ append_assoc (read_by frames) (Marked Sign.Open ∷ spelling a) (Marked Sign.Close ∷ []) in
    let now : ReadUpTo (symbols ++ Marked Sign.Close ∷ []) frames (Some (Enclosed a)) = record { read = read; nested = b.nested; grouped = b.grouped; fits = omega arith; tight = omega arith } in
    subst (λ (st : State). ReadUpTo (symbols ++ Marked Sign.Close ∷ []) st.frames st.operand) there now

before_sound : (symbols : List GrammarSymbol) (s : Sign) (frames : List Frame) (next : State) → (symbols ≡ read_by frames) × Nested frames → sign_before s frames ≡ Some next → ReadUpTo (symbols ++ Marked s ∷ []) next.frames next.operand
before_sound symbols Sign.Open frames next h e =
    let there : record { frames = Inside ∷ frames; operand = None } ≡ next = cc in
    let now : ReadUpTo (symbols ++ Marked Sign.Open ∷ []) (Inside ∷ frames) None = (ap (λ xs. xs ++ Marked Sign.Open ∷ []) h.0, h.1) in
    subst (λ (st : State). ReadUpTo (symbols ++ Marked Sign.Open ∷ []) st.frames st.operand) there now
before_sound symbols s frames next h e = under_sound symbols s frames next h (prefix_of s) refl e

behind_sound : (symbols : List GrammarSymbol) (s : Sign) (frames : List Frame) (a : Phrase) (next : State) → Behind symbols frames a 0 → sign_behind s frames a ≡ Some next → ReadUpTo (symbols ++ Marked s ∷ []) next.frames next.operand
behind_sound symbols Sign.Close frames a next h e =
    enclosed_sound symbols (reduce 7 frames a) next (reduced symbols 7 (omega arith) frames a (loosen symbols 7 frames a h)).behind e
behind_sound symbols s frames a next h e = right_sound symbols s frames a next h (infix_of s) refl e

step_sound : (symbols : List GrammarSymbol) (x : GrammarSymbol) (frames : List Frame) (operand : Option Phrase) (next : State) → ReadUpTo symbols frames operand → step_by x frames operand ≡ Some next
    → ReadUpTo (symbols ++ x ∷ []) next.frames next.operand
step_sound symbols (Term t) frames None next h e =
    let there : record { frames = frames; operand = Some (Single t) } ≡ next = cc in
    let now : ReadUpTo (symbols ++ Term t ∷ []) frames (Some (Single t)) =
    record { read = ap (λ xs. xs ++ Term t ∷ []) h.0; nested = h.1; grouped = tt; fits = omega arith; tight = omega arith } in
    subst (λ (st : State). ReadUpTo (symbols ++ Term t ∷ []) st.frames st.operand) there now
step_sound symbols (Marked s) frames None next h e = before_sound symbols s frames next h e
step_sound symbols (Marked s) frames (Some a) next h e = behind_sound symbols s frames a next h e
step_sound symbols (Term t) frames (Some a) next h e = cc
step_sound symbols Foreign frames None next h e = cc
step_sound symbols Foreign frames (Some a) next h e = cc

ended_sound : (symbols : List GrammarSymbol) (at : List Frame × Phrase) (phrase : Phrase) → Behind symbols at.0 at.1 7 → ended at ≡ Some phrase → SpellsPhrase symbols phrase
ended_sound symbols ([], a) phrase b e = let there : a ≡ phrase = cc in subst (SpellsPhrase symbols) there (record { grouped = b.grouped; spelled = b.read })
ended_sound symbols (Inside ∷ frames, a) phrase b e = cc
ended_sound symbols (Under p ∷ frames, a) phrase b e = cc
ended_sound symbols (RightOf o c ∷ frames, a) phrase b e = cc

finish_sound : (symbols : List GrammarSymbol) (frames : List Frame) (operand : Option Phrase) (phrase : Phrase) → ReadUpTo symbols frames operand → finish_by frames operand ≡ Some phrase → SpellsPhrase symbols phrase
finish_sound symbols frames None phrase h e = cc
finish_sound symbols frames (Some a) phrase h e = ended_sound symbols (reduce 7 frames a) phrase (reduced symbols 7 (omega arith) frames a (loosen symbols 7 frames a h)).behind e

reading_sound : (before symbols : List GrammarSymbol) (state : State) (phrase : Phrase) → ReadUpTo before state.frames state.operand → reading symbols state ≡ Some phrase → SpellsPhrase (before ++ symbols) phrase
reading_sound before [] state phrase h e = subst (λ xs. SpellsPhrase xs phrase) (sym (append-nil before)) (finish_sound before state.frames state.operand phrase h e)
reading_sound before (x ∷ symbols) state phrase h e =
    elim (step x state) as (λ r. step x state ≡ r → and_then r (λ next. reading symbols next) ≡ Some phrase → SpellsPhrase (before ++ x ∷ symbols) phrase) [
      | None ↦ λ _ bad. cc
      | Some next ↦ λ is more.
          subst (λ xs. SpellsPhrase xs phrase) (append_assoc before (x ∷ []) symbols)
          (reading_sound (before ++ x ∷ []) symbols next phrase (step_sound before x state.frames state.operand next h is) more)
    ] refl e

-- If symbols are read as a phrase, they are the symbols of that phrase.
pub sound : (symbols : List GrammarSymbol) (phrase : Phrase) → reading symbols start ≡ Some phrase → SpellsPhrase symbols phrase
sound symbols phrase e = reading_sound [] symbols start phrase (refl, tt) e
