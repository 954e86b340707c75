-- Conversations, one after the other.
use Rattle.std.proofs.Common.{◌≡◌, ◌++◌, ◌∷◌, ◌∙◌, List, [], ℕ, Bool, Option, None, Some, false, true, inl, inr, ap, refl, sym, subst, append-nil, append_assoc}
use Rattle.std.proofs.KnownBytes.{Appends-nil, Appends-trans, Consumes-trans}
use Rattle.std.proofs.lemmas.Bool.{true≢false}
use Rattle.std.proofs.lemmas.Grind.{flat_map-append}
use Rattle.std.proofs.lemmas.List.Elements.{All-append, All-nil, All-push}
use Rattle.std.specs.Io.KnownBytes.{Appends, Consumes, IsAtEnd, Keeps}
use Rattle.host.specs.Streams.Stream.{Stream}
use Rattle.debugger.specs.Conversation.{BeginsLines, HasNoEnd, SessionState, Talks, TalksOn, TalksSoFar, TalksThrough, with_ends}
use Rattle.debugger.specs.Conversation.Talks.{none, more}
use Rattle.state_text.specs.Labelled.{Known}
use Rattle.debugger.specs.Private.Lines.{IsNextLine, TakesAllLines, TakesLines}
use Rattle.debugger.specs.Session.{IsSameRun, Obeys}
use Rattle.machine_history.specs.Walk.{IsTrue_of_run, LeadsBy, Point, Shown, first_point, never}
use Rattle.machine_history.specs.Walk.LeadsBy.{none as stays}

pub silent : (known : Known) (listing : List ℕ) (t : SessionState) (s : Stream) → TalksOn known listing [] t t s s
silent known listing t s = ([], none t, Appends-nil s.bytes, λ held. (held, refl))

-- one line
pub one_line : (known : Known) (listing line : List ℕ) (old new : SessionState) (a b : Stream) (text : List ℕ) → old.is_over ≡ false
    → Obeys known listing line old.shown old.stops old.is_over new.shown new.stops new.is_over text → Appends a.bytes b.bytes text → b.held ≡ false
    → TalksOn known listing (line ∷ []) old new a b
one_line known listing line old new a b text going obeys prints handed =
    (text, more old old new [] line [] text (none old) going obeys, prints, λ held. absurd (true≢false (sym held ∙ handed)))

joined : (known : Known) (listing : List ℕ) (old : SessionState) {mid new : SessionState} (firsts : List (List ℕ)) {lines : List (List ℕ)} (first : List ℕ) {said : List ℕ}
    → Talks known listing old firsts first mid → Talks known listing mid lines said new → Talks known listing old (firsts ++ lines) (first ++ said) new
joined known listing old firsts first before (none t) =
    subst (λ (ls : List (List ℕ)). Talks known listing old ls (first ++ []) t) (sym (append-nil firsts)) (subst (λ (s : List ℕ). Talks known listing old firsts s t) (sym (append-nil first)) before)
joined known listing old firsts first before (more from mid new lines line said text talk going obeys) =
    subst (λ (ls : List (List ℕ)). Talks known listing old ls (first ++ (said ++ text)) new) (append_assoc firsts lines (line ∷ []))
    (subst (λ (s : List ℕ). Talks known listing old ((firsts ++ lines) ++ line ∷ []) s new) (append_assoc first said text)
    (more old mid new (firsts ++ lines) line (first ++ said) text (joined known listing old firsts first before talk) going obeys))

-- more lines
pub talk_on : (known : Known) (listing : List ℕ) (firsts lines : List (List ℕ)) (old mid new : SessionState) (a b c : Stream)
    → TalksOn known listing firsts old mid a b → TalksOn known listing lines mid new b c → TalksOn known listing (firsts ++ lines) old new a c
talk_on known listing firsts lines old mid new a b c before after = (
  before.0 ++ after.0,
  joined known listing old firsts before.0 before.1 after.1,
  Appends-trans a.bytes b.bytes c.bytes before.0 after.0 before.2 after.2,
  λ held. let late = after.3 held in let early = before.3 late.0 in (early.0, ap (λ (ls : List (List ℕ)). ls ++ lines) early.1 ∙ late.1),
)

-- whatever lines are obeyed, the same run is shown
pub same_run : (known : Known) (listing : List ℕ) (old : SessionState) {lines : List (List ℕ)} {said : List ℕ} {new : SessionState} → IsTrue_of_run old.shown
    → Talks known listing old lines said new → IsSameRun old.shown new.shown
same_run known listing old is (none t) = (refl, is)
same_run known listing old is (more from mid new lines line said text talk going obeys) = (obeys.0.0 ∙ (same_run known listing old is talk).0, obeys.0.1)

-- what is shown first is true of its run
pub first_is_true : (shown : Shown) → shown.turn ≡ 0 → shown.point ≡ first_point shown.start → IsTrue_of_run shown
first_is_true shown at_0 is_first =
    subst (λ (n : ℕ). LeadsBy never n (first_point shown.start) shown.point) (sym at_0)
    (subst (λ (p : Point). LeadsBy never 0 (first_point shown.start) p) (sym is_first) (stays (first_point shown.start)))

-- ---- the lines of bytes

-- more bytes after the beginning of a line
pub begin_on : (front back next tail : List ℕ) (firsts lines : List (List ℕ)) → BeginsLines front firsts next → BeginsLines (next ++ back) lines tail → BeginsLines (front ++ back) (firsts ++ lines) tail
begin_on front back next tail firsts lines before after =
    let first = ap (λ (bytes : List ℕ). bytes ++ back) before.1 ∙ append_assoc (with_ends firsts) next back in
    let rest = ap (λ (bytes : List ℕ). with_ends firsts ++ bytes) after.1 ∙ sym (append_assoc (with_ends firsts) (with_ends lines) tail) in
    let both = ap (λ (bytes : List ℕ). bytes ++ tail) (sym (flat_map-append (λ (line : List ℕ). line ++ 10 ∷ []) firsts lines)) in
    (All-append HasNoEnd firsts lines before.0 after.0, first ∙ rest ∙ both)

-- no byte is taken yet
pub untaken : (known : Known) (listing line : List ℕ) (t : SessionState) (s : Stream) → HasNoEnd line → TakesAllLines known listing line [] line t t s s
untaken known listing line t s one = ([], (All-nil HasNoEnd, append-nil line), one, silent known listing t s)

-- a byte that does not end the line
pub one_more : (known : Known) (listing line : List ℕ) (byte : ℕ) (t : SessionState) (s : Stream) → HasNoEnd line → ¬ (byte ≡ 10) → TakesAllLines known listing line (byte ∷ []) (line ++ byte ∷ []) t t s s
one_more known listing line byte t s one other = ([], (All-nil HasNoEnd, refl), All-push (λ b. ¬ (b ≡ 10)) line byte one other, silent known listing t s)

-- the byte that ends the line
pub line_end : (known : Known) (listing line : List ℕ) (old new : SessionState) (a b : Stream) → HasNoEnd line → TalksOn known listing (line ∷ []) old new a b → TakesAllLines known listing line (10 ∷ []) [] old new a b
line_end known listing line old new a b one talks =
    (line ∷ [], (All-push HasNoEnd [] line (All-nil HasNoEnd) one, sym (append-nil (line ++ 10 ∷ [])) ∙ ap (λ (bytes : List ℕ). bytes ++ []) (sym (append-nil (line ++ 10 ∷ [])))), All-nil (λ b. ¬ (b ≡ 10)), talks)

pub take_on : (known : Known) (listing line front back mid_line next : List ℕ) (old mid new : SessionState) (a b c : Stream)
    → TakesAllLines known listing line front mid_line old mid a b → TakesAllLines known listing mid_line back next mid new b c → TakesAllLines known listing line (front ++ back) next old new a c
take_on known listing line front back mid_line next old mid new a b c before after =
    let begins = begin_on (line ++ front) back mid_line next before.0 after.0 before.1 after.1 in
    (before.0 ++ after.0, (begins.0, sym (append_assoc line front back) ∙ begins.1), after.2, talk_on known listing before.0 after.0 old mid new a b c before.3 after.3)

-- all bytes are taken
pub all_taken : (known : Known) (listing line bytes next : List ℕ) (old new : SessionState) (a b : Stream) → TakesAllLines known listing line bytes next old new a b → TakesLines known listing line bytes next old new a b
all_taken known listing line bytes next old new a b takes = (takes.0, next, takes.1, inl (refl, takes.2), takes.3)

-- the session was quit before the rest
pub quit_before : (known : Known) (listing line front back mid_line next : List ℕ) (old new : SessionState) (a b : Stream) → new.is_over ≡ true
    → TakesAllLines known listing line front mid_line old new a b → TakesLines known listing line (front ++ back) next old new a b
quit_before known listing line front back mid_line next old new a b over takes =
    (takes.0, mid_line ++ back, (takes.1.0, sym (append_assoc line front back) ∙ (ap (λ (bytes : List ℕ). bytes ++ back) takes.1.1 ∙ append_assoc (with_ends takes.0) mid_line back)), inr over, takes.3)

next_of : (tail next : List ℕ) (is_over : Bool) → is_over ≡ false → IsNextLine tail next is_over → (tail ≡ next) × HasNoEnd next
next_of tail next is_over going (inl is) = is
next_of tail next is_over going (inr quit) = absurd (true≢false (sym quit ∙ going))

-- the session goes on, so all bytes are taken
pub going_on : (known : Known) (listing line bytes next : List ℕ) (old new : SessionState) (a b : Stream) → new.is_over ≡ false
    → TakesLines known listing line bytes next old new a b → TakesAllLines known listing line bytes next old new a b
going_on known listing line bytes next old new a b going takes =
    let is = next_of takes.1 next new.is_over going takes.3 in
    (takes.0, (takes.2.0, takes.2.1 ∙ ap (λ (tail : List ℕ). with_ends takes.0 ++ tail) is.0), is.1, takes.4)

-- lines after lines, if the session goes on
pub lines_on : (known : Known) (listing line front back mid_line next : List ℕ) (old mid new : SessionState) (a b c : Stream) → mid.is_over ≡ false
    → TakesLines known listing line front mid_line old mid a b → TakesLines known listing mid_line back next mid new b c → TakesLines known listing line (front ++ back) next old new a c
lines_on known listing line front back mid_line next old mid new a b c going before after =
    let all = going_on known listing line front mid_line old mid a b going before in
    let begins = begin_on (line ++ front) back mid_line after.1 all.0 after.0 all.1 after.2 in
    (all.0 ++ after.0, after.1, (begins.0, sym (append_assoc line front back) ∙ begins.1), after.3, talk_on known listing all.0 after.0 old mid new a b c all.3 after.4)

-- ---- the lines of an input

pub so_far : (known : Known) (listing bytes next : List ℕ) (from left : Option (List ℕ)) (old new : SessionState) (a b : Stream) → new.is_over ≡ false → Consumes from left bytes
    → TakesLines known listing [] bytes next old new a b → TalksSoFar known listing from left old new a b
so_far known listing bytes next from left old new a b going reads takes =
    let all = going_on known listing [] bytes next old new a b going takes in
    (bytes, all.0, next, reads, all.1, going, all.2, all.3)

pub quit_read : (known : Known) (listing bytes next : List ℕ) (from left : Option (List ℕ)) (old new : SessionState) (a b : Stream) → new.is_over ≡ true
    → Consumes from left bytes → TakesLines known listing [] bytes next old new a b → TalksThrough known listing from left old new a b
quit_read known listing bytes next from left old new a b over reads takes = (takes.0, (bytes, reads, inl (takes.1, takes.2, over)), takes.4)

pub last_read : (known : Known) (listing bytes line : List ℕ) (from mid_left left : Option (List ℕ)) (old mid new : SessionState) (a b c : Stream) → mid.is_over ≡ false
    → Consumes from mid_left bytes → TakesLines known listing [] bytes line old mid a b → Consumes mid_left left [] → IsAtEnd left → TalksOn known listing (line ∷ []) mid new b c
    → TalksThrough known listing from left old new a c
last_read known listing bytes line from mid_left left old mid new a b c going reads takes nothing ends talks =
    let all = going_on known listing [] bytes line old mid a b going takes in
    let whole = subst (Consumes from left) (append-nil bytes) (Consumes-trans from mid_left left bytes [] reads nothing) in
    (all.0 ++ line ∷ [], (bytes, whole, inr (all.0, line, all.1, all.2, refl, ends)), talk_on known listing all.0 (line ∷ []) old mid new a b c all.3 talks)

-- nothing is taken of an input that stays as it was
pub nothing_read : (from left : Option (List ℕ)) → Keeps from left → Consumes from left []
nothing_read None left keeps = tt
nothing_read (Some bytes) None keeps = absurd keeps
nothing_read (Some bytes) (Some rest) keeps = sym keeps
