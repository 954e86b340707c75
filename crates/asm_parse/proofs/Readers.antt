-- The state of the code that reads symbols, after one step.
use Rattle.std.proofs.Common.{◌≡◌, ◌≤◌, ◌<◌, ℕ, ◌+◌, ◌-◌, max, Bool, true, false, List, [], ◌∷◌, ◌++◌, Option, Some, None, Ok, Err, length, map, drop, get_or, if◌then◌else◌, is_some, refl, sym, ap, subst, ◌∙◌, arith, append-nil, length-append}
use Rattle.std.specs.Prelude.{slice_get, ◌==◌}
use Rattle.std.proofs.lemmas.Bool.{le-leb, lt-leb, true≢false, eqb-true, eq-eqb}
use Rattle.std.proofs.lemmas.List.{at_drop_more, at_drop_all, get_or-map, length-map}
use Rattle.asm_parse.specs.declared.reader.Reader.{Reader}
use Rattle.asm_line.specs.declared.token.Token.{Token}
use Rattle.asm_line.specs.Tokens.{lexeme, lexemes}
use Rattle.asm_parse.specs.Expression.{and_then, postfix}
use Rattle.asm_parse.specs.Source.{AreExpressionItems, source_item, Operand}
use Rattle.asm_parse.specs.declared.fault.ExprFault.{ExprFault}
use Rattle.asm_parse.specs.declared.item.Item.{Item}
use Rattle.asm_parse.specs.declared.sign.Prefix.{Prefix}
use Rattle.asm_parse.specs.declared.sign.Sign.{Sign}
use Rattle.asm_parse.specs.declared.operator.Binary.{Binary}
use Rattle.asm_parse.specs.declared.reader.Operator.{Operator}
use Rattle.asm_parse.specs.declared.reader.Pending.{Pending}
use Rattle.asm_parse.specs.Grammar.{Phrase, Prefixed, Joined, prefix_level, infix_level, depth, expression, GrammarSymbol, SpellsPhrase, IsParsed, symbol}
use Rattle.asm_parse.specs.Private.Parsing.{Frame, Inside, Under, RightOf, State, reduce, room, enclosed, sign_before, sign_behind, under_prefix, right_of, ended, finish, finish_by, reading, step, start}
use Rattle.asm_parse.specs.Words.{prefix_of, infix_of}
use Rattle.asm_parse.specs.Private.Stacks.{open_in, open_of, opened, pendings, written, items_of, depth_around, depth_of, Holds, Answers, IsReduced}
use Rattle.asm_parse.specs.Private.Readers.{frame_of, opens, room_in, room_of, Reads, ReadIn}
use Rattle.asm_parse.proofs.Depths.{depth_more, depth_reduced, max_zero}
use Rattle.asm_parse.proofs.Completeness.{taking, joining, prefix_seven, infix_seven, complete}
use Rattle.asm_parse.proofs.Soundness.{sound}
use Rattle.asm_parse.proofs.Stacks.{not_empty, last_same}

get-last : (xs : List Pending) (x : Pending) → slice_get (xs ++ x ∷ []) (length xs) ≡ Some x
get-last [] x = refl
get-last (y ∷ xs) x = get-last xs x

pub last_of : (xs : List Pending) (x : Pending) → slice_get (xs ++ x ∷ []) (length (xs ++ x ∷ []) - 1) ≡ Some x
last_of xs x =
    let n : length (xs ++ x ∷ []) - 1 ≡ length xs = omega (arith, length-append xs (x ∷ [])) in
    ap (slice_get (xs ++ x ∷ [])) n ∙ get-last xs x

pub open_in-pendings : (frames : List Frame) → open_in (pendings frames) ≡ opened frames
open_in-pendings [] = refl
open_in-pendings (f ∷ frames) = ap open_of (last_of (pendings frames) _)

pub room_in-pendings : (frames : List Frame) → room_in (pendings frames) ≡ room frames
room_in-pendings [] = refl
room_in-pendings (Inside ∷ frames) = ap room_of (last_of (pendings frames) _)
room_in-pendings (Under p ∷ frames) = ap room_of (last_of (pendings frames) _)
room_in-pendings (RightOf o a ∷ frames) = ap room_of (last_of (pendings frames) _)

pub opened_few : (frames : List Frame) → opened frames ≤ length (pendings frames)
opened_few [] = omega arith
opened_few (Inside ∷ frames) = omega (arith, opened_few frames, length-append (pendings frames) (record { operator = Operator.Inside; count = opened frames + 1 } ∷ []))
opened_few (Under p ∷ frames) = omega (arith, opened_few frames, length-append (pendings frames) (record { operator = Operator.Under p; count = opened frames + 1 } ∷ []))
opened_few (RightOf o a ∷ frames) = omega (arith, opened_few frames, length-append (pendings frames) (record { operator = Operator.RightOf o; count = opened frames } ∷ []))

-- after one more prefix operator or parenthesis
pub begun : (operator : Operator) (frames : List Frame) (pending new : List Pending) (items : List (Item Operand)) (deepest count : ℕ) (complete : Bool) → opens operator ≡ true
    → Holds (record { frames = frames; operand = None }) pending items deepest complete → count ≡ opened frames + 1 → new ≡ pending ++ (record { operator = operator; count = count }) ∷ []
    → Holds (record { frames = frame_of operator ∷ frames; operand = None }) new items (max deepest count) complete
begun (Operator.RightOf o) frames pending new items deepest count complete bad h c n = cc
begun Operator.Inside frames pending new items deepest count complete _ h c n = record {
  waiting = n ∙ ap (λ xs. xs ++ (record { operator = Operator.Inside; count = count }) ∷ []) h.waiting ∙ ap (λ k. pendings frames ++ (record { operator = Operator.Inside; count = k }) ∷ []) c;
  writing = h.writing;
  deep = ap (λ d. max d count) h.deep ∙ ap (max (depth_around frames 0)) c ∙ sym (depth_more frames 0);
  whole = h.whole;
}
begun (Operator.Under p) frames pending new items deepest count complete _ h c n = record {
  waiting = n ∙ ap (λ xs. xs ++ (record { operator = Operator.Under p; count = count }) ∷ []) h.waiting ∙ ap (λ k. pendings frames ++ (record { operator = Operator.Under p; count = k }) ∷ []) c;
  writing = h.writing;
  deep = ap (λ d. max d count) h.deep ∙ ap (max (depth_around frames 0)) c ∙ sym (depth_more frames 0);
  whole = h.whole;
}

-- A step that is refused answers Syntax.
pub refused : (next : Option State) (pending : List Pending) (items : List (Item Operand)) (deepest : ℕ) (complete : Bool) → next ≡ None → Answers next {A = Unit {0}} (Err ExprFault.Syntax) pending items deepest complete
refused next pending items deepest complete is = subst (λ n. Answers n {A = Unit {0}} (Err ExprFault.Syntax) pending items deepest complete) (sym is) tt

before_other : (s : Sign) (frames : List Frame) → (s ≡ Sign.Open → ⊥) → sign_before s frames ≡ under_prefix (prefix_of s) frames
before_other Sign.Open frames other = absurd (other refl)
before_other s frames other = refl

behind_other : (s : Sign) (frames : List Frame) (a : Phrase) → (s ≡ Sign.Close → ⊥) → sign_behind s frames a ≡ right_of (infix_of s) frames a
behind_other Sign.Close frames a other = absurd (other refl)
behind_other s frames a other = refl

pub no_room : (s : Sign) (frames : List Frame) (p : Prefix) → (s ≡ Sign.Open → ⊥) → Some p ≡ prefix_of s → room frames < prefix_level p → sign_before s frames ≡ None
no_room s frames p other is loose =
    before_other s frames other ∙ ap (λ o. under_prefix o frames) (sym is)
    ∙ ap (λ b. if b then Some (record { frames = Under p ∷ frames; operand = None }) else None) (lt-leb (prefix_level p) (room frames) loose)

pub in_room : (s : Sign) (frames : List Frame) (p : Prefix) → (s ≡ Sign.Open → ⊥) → Some p ≡ prefix_of s → prefix_level p ≤ room frames → sign_before s frames ≡ Some (record { frames = Under p ∷ frames; operand = None })
in_room s frames p other is tight =
    before_other s frames other ∙ ap (λ o. under_prefix o frames) (sym is)
    ∙ ap (λ b. if b then Some (record { frames = Under p ∷ frames; operand = None }) else None) (le-leb (prefix_level p) (room frames) tight)

-- The innermost frame is a parenthesis, or there is none.
Top : List Frame → Type 0
Top [] = Unit {0}
Top (Inside ∷ frames) = Unit {0}
Top _ = ⊥

reduce_top : (frames : List Frame) (a : Phrase) → Top (reduce 7 frames a).0
unfolding Top
reduce_top [] a = tt
reduce_top (Inside ∷ frames) a = tt
reduce_top (Under p ∷ frames) a = subst (λ (at : List Frame × Phrase). Top at.0) (sym (taking p 7 frames a (prefix_seven p))) (reduce_top frames (Prefixed p a))
reduce_top (RightOf o a ∷ frames) b = subst (λ (at : List Frame × Phrase). Top at.0) (sym (joining o 7 frames a b (infix_seven o))) (reduce_top frames (Joined o a b))

closes : (at : List Frame × Phrase) (pending new : List Pending) (popped : Pending) (items : List (Item Operand)) (deepest : ℕ) (complete : Bool) → Top at.0 → IsReduced at pending items
    → deepest ≡ depth_around at.0 (depth at.1) → complete ≡ true → pending ≡ new ++ popped ∷ [] → Answers (enclosed at) {A = Unit {0}} (Ok tt) new items deepest complete
unfolding Top
closes ([], a) pending new popped items deepest complete top r deep whole split = absurd (not_empty new popped (sym split ∙ r.0))
closes (Inside ∷ frames, a) pending new popped items deepest complete top r deep whole split =
    record { waiting = (last_same new (pendings frames) popped _ (sym split ∙ r.0)).0; writing = r.1; deep = deep; whole = whole }
closes (Under p ∷ frames, a) pending new popped items deepest complete top r deep whole split = absurd top
closes (RightOf o b ∷ frames, a) pending new popped items deepest complete top r deep whole split = absurd top

pub close_done : (frames : List Frame) (a : Phrase) (old pending new : List Pending) (popped : Pending) (before items : List (Item Operand)) (deepest : ℕ) (complete : Bool)
    → Holds (record { frames = frames; operand = Some a }) old before deepest complete → IsReduced (reduce 7 frames a) pending items → pending ≡ new ++ popped ∷ []
    → Answers (enclosed (reduce 7 frames a)) {A = Unit {0}} (Ok tt) new items deepest complete
close_done frames a old pending new popped before items deepest complete h r split =
    closes (reduce 7 frames a) pending new popped items deepest complete (reduce_top frames a) r (h.deep ∙ sym (depth_reduced 7 frames a)) h.whole split

close_none : (at : List Frame × Phrase) (pending : List Pending) (items : List (Item Operand)) → IsReduced at pending items → pending ≡ [] → enclosed at ≡ None
close_none ([], a) pending items r none = refl
close_none (Inside ∷ frames, a) pending items r none = absurd (not_empty (pendings frames) _ (sym r.0 ∙ none))
close_none (Under p ∷ frames, a) pending items r none = refl
close_none (RightOf o b ∷ frames, a) pending items r none = refl

pub not_closed : (frames : List Frame) (a : Phrase) (pending : List Pending) (items : List (Item Operand)) → IsReduced (reduce 7 frames a) pending items → pending ≡ [] → enclosed (reduce 7 frames a) ≡ None
not_closed frames a pending items r none = close_none (reduce 7 frames a) pending items r none

pub right_done : (s : Sign) (op : Binary) (frames : List Frame) (a : Phrase) (old pending new : List Pending) (before items : List (Item Operand)) (deepest count : ℕ) (complete : Bool)
    → (s ≡ Sign.Close → ⊥) → Some op ≡ infix_of s → Holds (record { frames = frames; operand = Some a }) old before deepest complete
    → IsReduced (reduce (infix_level op) frames a) pending items → count ≡ open_in pending → new ≡ pending ++ (record { operator = Operator.RightOf op; count = count }) ∷ []
    → Answers (sign_behind s frames a) {A = Unit {0}} (Ok tt) new items deepest false
right_done s op frames a old pending new before items deepest count complete other is h r c n =
    let at = reduce (infix_level op) frames a in
    let next : sign_behind s frames a ≡ Some (record { frames = RightOf op at.1 ∷ at.0; operand = None }) = behind_other s frames a other ∙ ap (λ o. right_of o frames a) (sym is) in
    let counted : count ≡ opened at.0 = c ∙ ap open_in r.0 ∙ open_in-pendings at.0 in
    subst (λ x. Answers x {A = Unit {0}} (Ok tt) new items deepest false) (sym next) (record {
      waiting = n ∙ ap (λ xs. xs ++ (record { operator = Operator.RightOf op; count = count }) ∷ []) r.0 ∙ ap (λ k. pendings at.0 ++ (record { operator = Operator.RightOf op; count = k }) ∷ []) counted;
      writing = r.1 ∙ sym (append-nil (written at.0 ++ postfix (expression at.1)));
      deep = h.deep ∙ sym (depth_reduced (infix_level op) frames a) ∙ ap (depth_around at.0) (sym (max_zero (depth at.1)));
      whole = refl;
    })

-- What the code answers at the end of the symbols.
ended_done : (symbols : List GrammarSymbol) (at : List Frame × Phrase) (pending : List Pending) (items : List (Item Operand)) (deepest : ℕ) → deepest ≡ depth_around at.0 (depth at.1) → IsReduced at pending items → pending ≡ []
    → ended at ≡ reading symbols start → (phrase : Phrase) × SpellsPhrase symbols phrase × (deepest ≡ depth phrase) × (items ≡ postfix (expression phrase))
ended_done symbols ([], a) pending items deepest deep r none is = (a, sound symbols a (sym is), deep, r.1)
ended_done symbols (Inside ∷ frames, a) pending items deepest deep r none is = absurd (not_empty (pendings frames) _ (sym r.0 ∙ none))
ended_done symbols (Under p ∷ frames, a) pending items deepest deep r none is = absurd (not_empty (pendings frames) _ (sym r.0 ∙ none))
ended_done symbols (RightOf o b ∷ frames, a) pending items deepest deep r none is = absurd (not_empty (pendings frames) _ (sym r.0 ∙ none))

pub finished : (symbols : List GrammarSymbol) (state : State) (old pending : List Pending) (before items : List (Item Operand)) (deepest : ℕ) → Holds state old before deepest true
    → ((frames : List Frame) (a : Phrase) → old ≡ pendings frames → before ≡ written frames ++ postfix (expression a) → IsReduced (reduce 7 frames a) pending items) → pending ≡ []
    → finish state ≡ reading symbols start → (phrase : Phrase) × SpellsPhrase symbols phrase × (deepest ≡ depth phrase) × (items ≡ postfix (expression phrase))
finished symbols state old pending before items deepest h reduces none is =
    elim state.operand as (λ o. state.operand ≡ o → (phrase : Phrase) × SpellsPhrase symbols phrase × (deepest ≡ depth phrase) × (items ≡ postfix (expression phrase))) [
      | None ↦ λ bad. absurd (true≢false (h.whole ∙ ap is_some bad))
      | Some a ↦ λ there.
          ended_done symbols (reduce 7 state.frames a) pending items deepest (h.deep ∙ ap (λ o. depth_around state.frames (depth_of o)) there ∙ sym (depth_reduced 7 state.frames a))
          (reduces state.frames a h.waiting (h.writing ∙ ap (λ o. written state.frames ++ items_of o) there)) none (sym (ap (finish_by state.frames) there) ∙ is)
    ] refl

pub unread : (symbols : List GrammarSymbol) → reading symbols start ≡ None → (phrase : Phrase) → SpellsPhrase symbols phrase → ⊥
unread symbols none phrase s = let bad : None ≡ Some phrase = sym none ∙ complete symbols phrase s in cc

pub unfinished : (symbols : List GrammarSymbol) (state : State) (old : List Pending) (items : List (Item Operand)) (deepest : ℕ) → Holds state old items deepest false → finish state ≡ reading symbols start → reading symbols start ≡ None
unfinished symbols state old items deepest h is =
    elim state.operand as (λ o. state.operand ≡ o → finish_by state.frames o ≡ reading symbols start → reading symbols start ≡ None) [
      | None ↦ λ _ e. sym e
      | Some a ↦ λ bad _. absurd (true≢false (sym (h.whole ∙ ap is_some bad)))
    ] refl is

left_over : (at : List Frame × Phrase) (pending : List Pending) (items : List (Item Operand)) → IsReduced at pending items → (pending ≡ [] → ⊥) → ended at ≡ None
left_over ([], a) pending items r some = absurd (some r.0)
left_over (f ∷ frames, a) pending items r some = refl

pub open_end : (symbols : List GrammarSymbol) (state : State) (old pending : List Pending) (before items : List (Item Operand)) (deepest : ℕ) → Holds state old before deepest true
    → ((frames : List Frame) (a : Phrase) → old ≡ pendings frames → before ≡ written frames ++ postfix (expression a) → IsReduced (reduce 7 frames a) pending items) → (pending ≡ [] → ⊥)
    → finish state ≡ reading symbols start → reading symbols start ≡ None
open_end symbols state old pending before items deepest h reduces some is =
    elim state.operand as (λ o. state.operand ≡ o → finish_by state.frames o ≡ reading symbols start → reading symbols start ≡ None) [
      | None ↦ λ _ e. sym e
      | Some a ↦ λ there e. sym e ∙ left_over (reduce 7 state.frames a) pending items (reduces state.frames a h.waiting (h.writing ∙ ap (λ o. written state.frames ++ items_of o) there)) some
    ] refl is

pub none_waiting : (xs : List Pending) (n : ℕ) → n ≡ length xs → (n == 0) ≡ true → xs ≡ []
none_waiting [] n len e = refl
none_waiting (x ∷ xs) n len e = absurd (omega (arith, len, eqb-true n 0 e))

pub some_waiting : (xs : List Pending) (n : ℕ) → n ≡ length xs → (n == 0) ≡ false → xs ≡ [] → ⊥
some_waiting xs n len e is = let zero_is : n ≡ 0 = len ∙ ap length is in true≢false (sym (eq-eqb n 0 zero_is) ∙ e)

-- A reader reads one more symbol, or stops.
pub read_start : (symbols : List GrammarSymbol) (r : Reader) → r.pending.items ≡ [] → r.items.items ≡ [] → r.deepest ≡ 0 → r.complete ≡ false → ReadIn symbols 0 r
read_start symbols r p i d w = record { state = start; holds = record { waiting = p; writing = ap (map source_item) i; deep = d; whole = w }; left = refl }

left_step : (symbols : List GrammarSymbol) (k : ℕ) (d : GrammarSymbol) (state : State) (next : Option State) → k < length symbols → step (get_or symbols k d) state ≡ next → reading (drop k symbols) state ≡ and_then next (λ s. reading (drop (k + 1) symbols) s)
left_step symbols k d state next h is = at_drop_more (λ xs. reading xs state) symbols k d h ∙ ap (λ n. and_then n (λ s. reading (drop (k + 1) symbols) s)) is

read_by : (symbols : List GrammarSymbol) (k : ℕ) (d : GrammarSymbol) (new : Reader) (state : State) (next : Option State) → k < length symbols → reading (drop k symbols) state ≡ reading symbols start → step (get_or symbols k d) state ≡ next
    → Reads next {A = Unit {0}} (Ok tt) new → ReadIn symbols (k + 1) new
read_by symbols k d new state None h left is reads = absurd reads
read_by symbols k d new state (Some s) h left is reads = record { state = s; holds = reads; left = sym (left_step symbols k d state (Some s) h is) ∙ left }

pub read_next : (symbols : List GrammarSymbol) (k : ℕ) (d : GrammarSymbol) (old new : Reader) → k < length symbols → (r : ReadIn symbols k old) → Reads (step (get_or symbols k d) r.state) {A = Unit {0}} (Ok tt) new → ReadIn symbols (k + 1) new
read_next symbols k d old new h r reads = read_by symbols k d new r.state (step (get_or symbols k d) r.state) h r.left refl reads

stopped_by : (symbols : List GrammarSymbol) (k : ℕ) (d : GrammarSymbol) (new : Reader) (state : State) (next : Option State) (why : ExprFault) → k < length symbols → reading (drop k symbols) state ≡ reading symbols start
    → step (get_or symbols k d) state ≡ next → Reads next {A = Unit {0}} (Err why) new → IsParsed symbols (Err why)
stopped_by symbols k d new state None ExprFault.Syntax h left is reads = unread symbols (sym left ∙ left_step symbols k d state None h is)
stopped_by symbols k d new state (Some s) ExprFault.Syntax h left is reads = absurd reads
stopped_by symbols k d new state next ExprFault.NoMemory h left is reads = tt
stopped_by symbols k d new state None ExprFault.DivideByZero h left is reads = absurd reads
stopped_by symbols k d new state None ExprFault.LabelDivisor h left is reads = absurd reads
stopped_by symbols k d new state None ExprFault.TooDeep h left is reads = absurd reads
stopped_by symbols k d new state None ExprFault.TooLarge h left is reads = absurd reads
stopped_by symbols k d new state (Some s) ExprFault.DivideByZero h left is reads = absurd reads
stopped_by symbols k d new state (Some s) ExprFault.LabelDivisor h left is reads = absurd reads
stopped_by symbols k d new state (Some s) ExprFault.TooDeep h left is reads = absurd reads
stopped_by symbols k d new state (Some s) ExprFault.TooLarge h left is reads = absurd reads

pub read_stops : (symbols : List GrammarSymbol) (k : ℕ) (d : GrammarSymbol) (old new : Reader) (why : ExprFault) → k < length symbols → (r : ReadIn symbols k old) → Reads (step (get_or symbols k d) r.state) {A = Unit {0}} (Err why) new → IsParsed symbols (Err why)
read_stops symbols k d old new why h r reads = stopped_by symbols k d new r.state (step (get_or symbols k d) r.state) why h r.left refl reads

pub read_end : (symbols : List GrammarSymbol) (k : ℕ) (r : Reader) → length symbols ≤ k → (s : ReadIn symbols k r) → finish s.state ≡ reading symbols start
read_end symbols k r h s = sym (at_drop_all (λ xs. reading xs s.state) symbols k h) ∙ s.left

whole_items : (at : List Frame × Phrase) (pending : List Pending) (items : List (Item Operand)) → IsReduced at pending items → pending ≡ [] → AreExpressionItems items
whole_items ([], a) pending items r none = record { expression = expression a; spelled = sym r.1 }
whole_items (Inside ∷ frames, a) pending items r none = absurd (not_empty (pendings frames) _ (sym r.0 ∙ none))
whole_items (Under p ∷ frames, a) pending items r none = absurd (not_empty (pendings frames) _ (sym r.0 ∙ none))
whole_items (RightOf o b ∷ frames, a) pending items r none = absurd (not_empty (pendings frames) _ (sym r.0 ∙ none))

pub whole_source : (state : State) (old pending : List Pending) (before items : List (Item Operand)) (deepest : ℕ) → Holds state old before deepest true
    → ((frames : List Frame) (a : Phrase) → old ≡ pendings frames → before ≡ written frames ++ postfix (expression a) → IsReduced (reduce 7 frames a) pending items) → pending ≡ [] → AreExpressionItems items
whole_source state old pending before items deepest h reduces none =
    elim state.operand as (λ o. state.operand ≡ o → AreExpressionItems items) [
      | None ↦ λ bad. absurd (true≢false (h.whole ∙ ap is_some bad))
      | Some a ↦ λ there. whole_items (reduce 7 state.frames a) pending items (reduces state.frames a h.waiting (h.writing ∙ ap (λ o. written state.frames ++ items_of o) there)) none
    ] refl

pub symbol_at : (tokens : List Token) (k : ℕ) (d : Token) (part : GrammarSymbol) → k < length tokens → part ≡ symbol (lexeme (get_or tokens k d)) → get_or (map symbol (lexemes tokens)) k part ≡ part
symbol_at tokens k d part h same =
    get_or-map symbol (lexemes tokens) k (lexeme d) part (omega (arith, h, length-map tokens lexeme)) ∙ ap symbol (get_or-map lexeme tokens k d (lexeme d) h) ∙ sym same
