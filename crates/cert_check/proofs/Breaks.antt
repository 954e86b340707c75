-- The line at which a file first breaks a grammar, and that there is only one such line.
use Rattle.std.proofs.Common.{◌≡◌, ◌≢◌, ℕ, ◌+◌, ◌<◌, ◌≤◌, List, [], ◌∷◌, ◌++◌, true, false, ◌==◌, refl, sym, subst, ◌∙◌, ap, length, arith, ◌⊎◌, inl, inr, Result, Ok, Err, length-append, append_assoc}
use Rattle.std.specs.List.{AllByRecursion}
use Rattle.std.proofs.lemmas.Bool.{cases_lt}
use Rattle.std.proofs.lemmas.Grind.{flat_map-append}
use Rattle.cert_check.specs.Lines.{line_feed, lines_text, AreFramed, BreaksAt}
use Rattle.cert_check.specs.FileTypes.{TextFault}
use Rattle.cert_check.specs.declared.text_fault.TextFault.TheVariants.{BadLine, NoMemory}
use Rattle.cert_check.specs.Texts.{OrNoMemory}
use Rattle.cert_check.specs.Private.Reading.{IsPlain}

abbrev pub ArePlain : List (List ℕ) → Type 0
ArePlain lines = AllByRecursion IsPlain lines

false_no_true : false ≡ true → ⊥
false_no_true e = cc

-- a file has one first line
pub one_line : (l m a b : List ℕ) → IsPlain l → IsPlain m → l ++ line_feed ∷ a ≡ m ++ line_feed ∷ b → (l ≡ m) × (a ≡ b)
one_line [] [] a b p q e = (refl, cc)
one_line [] (y ∷ m) a b p q e = let h : line_feed ≡ y = cc in absurd (false_no_true (sym (subst (λ z. (z == line_feed) ≡ false) (sym h) q.0)))
one_line (x ∷ l) [] a b p q e = let h : x ≡ line_feed = cc in absurd (false_no_true (sym (subst (λ z. (z == line_feed) ≡ false) h p.0)))
one_line (x ∷ l) (y ∷ m) a b p q e =
    let heads : x ≡ y = cc in
    let tails : l ++ line_feed ∷ a ≡ m ++ line_feed ∷ b = cc in
    let rest = one_line l m a b p.1 q.1 tails in
    let lines : ◌≡◌ {A = List ℕ} (x ∷ l) (y ∷ m) = cc in
    (lines, rest.1)

pub no_line : (rest line after : List ℕ) → IsPlain rest → rest ≡ line ++ line_feed ∷ after → ⊥
no_line [] [] after p e = cc
no_line [] (y ∷ line) after p e = cc
no_line (x ∷ rest) [] after p e = let h : x ≡ line_feed = cc in false_no_true (sym (subst (λ z. (z == line_feed) ≡ false) h p.0))
no_line (x ∷ rest) (y ∷ line) after p e = let tails : rest ≡ line ++ line_feed ∷ after = cc in no_line rest line after p.1 tails

-- a file without its first line
pub behind : (l : List ℕ) (ls : List (List ℕ)) (s : List ℕ) → lines_text (l ∷ ls) ++ s ≡ l ++ line_feed ∷ (lines_text ls ++ s)
behind l ls s = simp append_assoc

-- if a file begins with these whole lines and also with those, the longer list of lines continues the shorter one
pub peel : (ks ls : List (List ℕ)) (r s : List ℕ) → ArePlain ks → ArePlain ls → length ks ≤ length ls → lines_text ks ++ r ≡ lines_text ls ++ s → (more : List (List ℕ)) × (ls ≡ ks ++ more) × (r ≡ lines_text more ++ s)
peel [] ls r s p q le e = (ls, refl, e)
peel (k ∷ ks) [] r s p q le e = absurd (omega arith)
peel (k ∷ ks) (l ∷ ls) r s p q le e =
    let both = one_line k l (lines_text ks ++ r) (lines_text ls ++ s) p.0 q.0 (sym (behind k ks r) ∙ e ∙ behind l ls s) in
    let short : length ks ≤ length ls = omega arith in
    let rest = peel ks ls r s p.1 q.1 short both.1 in
    let lines : ◌≡◌ {A = List (List ℕ)} (l ∷ ls) (k ∷ (ks ++ rest.0)) = cc (both.0, rest.1) in
    (rest.0, lines, rest.2)

pub append-nil : {X : Type 0} → (xs : List X) → xs ++ [] ≡ xs
append-nil [] = refl
append-nil (x ∷ xs) = ap (λ ys. x ∷ ys) (append-nil xs)

no_more : (xs : List ℕ) (b : ℕ) (ys : List ℕ) → [] ≡ xs ++ b ∷ ys → ⊥
no_more [] b ys e = cc
no_more (x ∷ xs) b ys e = cc

none_behind : (more : List (List ℕ)) (r : List ℕ) → 0 < length more → [] ≡ lines_text more ++ r → ⊥
none_behind [] r some e = absurd (omega arith)
none_behind (l ∷ more) r some e = no_more l line_feed (lines_text more ++ r) (e ∙ behind l more r)

-- if a file of whole lines begins with these, the rest is whole lines too
pub whole : (ks ls : List (List ℕ)) (r : List ℕ) → ArePlain ks → ArePlain ls → lines_text ks ++ r ≡ lines_text ls → (more : List (List ℕ)) × (ls ≡ ks ++ more) × (r ≡ lines_text more)
whole ks ls r p q e =
    let same : lines_text ks ++ r ≡ lines_text ls ++ [] = e ∙ sym (append-nil (lines_text ls)) in
    elim (cases_lt (length ls) (length ks)) as (λ _. (more : List (List ℕ)) × (ls ≡ ks ++ more) × (r ≡ lines_text more)) [
      | inl lt ↦ (
          let le : length ls ≤ length ks = omega arith in
          let back = peel ls ks [] r q p le (sym same) in
          let sum : length ks ≡ length ls + length back.0 = ap length back.1 ∙ length-append ls back.0 in
          absurd (none_behind back.0 r (omega arith) back.2))
      | inr le ↦ (let on = peel ks ls r [] p q le same in (on.0, on.1, on.2 ∙ append-nil (lines_text on.0)))
    ]

pub same_lines : (ks ls : List (List ℕ)) → ArePlain ks → ArePlain ls → lines_text ks ≡ lines_text ls → ks ≡ ls
same_lines ks ls p q e =
    let on = whole ks ls [] p q (append-nil (lines_text ks) ∙ e) in
    no_more_lines on.0 on.1 on.2
  where
    no_more_lines : (more : List (List ℕ)) → ls ≡ ks ++ more → [] ≡ lines_text more → ks ≡ ls
    no_more_lines [] e r = sym (e ∙ append-nil ks)
    no_more_lines (l ∷ more) e r = absurd (none_behind (l ∷ more) [] (omega arith) (r ∙ sym (append-nil (lines_text (l ∷ more)))))

-- if the rest of a file begins with a line, that line can be moved to the lines before the rest
pub push_line : (text : List ℕ) (lines : List (List ℕ)) (rest line after : List ℕ) → text ≡ lines_text lines ++ rest → rest ≡ line ++ line_feed ∷ after → text ≡ lines_text (lines ++ line ∷ []) ++ after
push_line text lines rest line after e r = e ∙ ap (λ x. lines_text lines ++ x) r ∙ sym (simp (flat_map-append, append_assoc))

plain-append : (ks ls : List (List ℕ)) → ArePlain (ks ++ ls) → ArePlain ks
plain-append [] ls p = tt
plain-append (k ∷ ks) ls p = (p.0, plain-append ks ls p.1)

-- what has to be known of such a grammar: no line contains a line feed, and no line is both a middle and a last line
pub record IsGrammar (header : List ℕ) (Middle Last : List ℕ → Type 0) (May : ℕ → Type 0) : Type 0 where
  pub header_plain : IsPlain header
  pub middle_plain : (line : List ℕ) → Middle line → IsPlain line
  pub last_plain : (line : List ℕ) → Last line → IsPlain line
  pub apart : (line : List ℕ) → Middle line → Last line → ⊥
  pub fewer : (few many : ℕ) → few ≤ many → May many → May few
  pub no_lines : May 0
  pub some_last : List ℕ
  pub is_last : Last some_last

module _ {header : List ℕ} {Middle Last : List ℕ → Type 0} {May : ℕ → Type 0} (grammar : IsGrammar header Middle Last May) where
  plain_middle : (ms : List (List ℕ)) (last : List ℕ) → AllByRecursion Middle ms → Last last → ArePlain (ms ++ last ∷ [])
  plain_middle [] last each ends = (grammar.last_plain last ends, tt)
  plain_middle (m ∷ ms) last each ends = (grammar.middle_plain m each.0, plain_middle ms last each.1 ends)

  pub framed_plain : (lines : List (List ℕ)) → AreFramed header Middle Last May lines → ArePlain lines
  framed_plain lines f = subst ArePlain (sym f.lines_are) (grammar.header_plain, plain_middle f.middle f.last f.each f.ends)

  -- after some middle lines comes another middle line or the last one
  goes_on : (ms ns : List (List ℕ)) (line last : List ℕ) (more : List (List ℕ)) → AllByRecursion Middle ms → AllByRecursion Middle ns → Last last → ms ++ line ∷ more ≡ ns ++ last ∷ [] → (Middle line × (length ms < length ns)) ⊎ (Last line × (more ≡ []) × (length ms ≡ length ns))
  goes_on [] [] line last more p q ends e = let h : last ≡ line = cc in inr (subst Last h ends, cc, refl)
  goes_on [] (n ∷ ns) line last more p q ends e = let h : n ≡ line = cc in inl (subst Middle h q.0, omega arith)
  goes_on (m ∷ ms) [] line last more p q ends e = let h : last ≡ m = cc in absurd (grammar.apart m p.0 (subst Last h ends))
  goes_on (m ∷ ms) (n ∷ ns) line last more p q ends e =
      let tails : ms ++ line ∷ more ≡ ns ++ last ∷ [] = cc in
      elim (goes_on ms ns line last more p.1 q.1 ends tails) [
        | inl mid ↦ inl (mid.0, omega arith)
        | inr end ↦ inr (end.0, end.1, omega arith)
      ]

  -- if a file of the grammar begins with these lines, which line may come next
  next : (ms : List (List ℕ)) (line : List ℕ) (more : List (List ℕ)) → AllByRecursion Middle ms → AreFramed header Middle Last May (header ∷ ms ++ line ∷ more) → (Middle line × May (length ms + 1)) ⊎ (Last line × (more ≡ []))
  next ms line more p f =
      let tails : ms ++ line ∷ more ≡ f.middle ++ f.last ∷ [] = cc (f.lines_are) in
      elim (goes_on ms f.middle line f.last more p f.each f.ends tails) [
        | inl mid ↦ inl (mid.0, grammar.fewer (length ms + 1) (length f.middle) (omega (arith, mid.1)) f.count)
        | inr end ↦ inr (end.0, end.1)
      ]

  framed : (ms : List (List ℕ)) (last : List ℕ) → AllByRecursion Middle ms → May (length ms) → Last last → AreFramed header Middle Last May (header ∷ ms ++ last ∷ [])
  framed ms last each count ends = record { middle = ms; last = last; each = each; count = count; ends = ends; lines_are = refl }

  no_last : (ms ns : List (List ℕ)) (last : List ℕ) → AllByRecursion Middle ms → Last last → ms ≡ ns ++ last ∷ [] → ⊥
  no_last [] [] last p ends e = cc
  no_last [] (n ∷ ns) last p ends e = cc
  no_last (m ∷ ms) [] last p ends e = let h : last ≡ m = cc in grammar.apart m p.0 (subst Last h ends)
  no_last (m ∷ ms) (n ∷ ns) last p ends e = let tails : ms ≡ ns ++ last ∷ [] = cc in no_last ms ns last p.1 ends tails

  -- The file breaks the grammar here: it begins with lines with which some file of the grammar begins, it is not
  -- complete with them, and no file of the grammar continues with the line that comes next.
  broken : (text : List ℕ) (n : ℕ) (before : List (List ℕ)) (rest : List ℕ) (completion : List (List ℕ)) → text ≡ lines_text before ++ rest → n ≡ length before + 1 → AreFramed header Middle Last May (before ++ completion) → (rest ≡ [] → ¬ AreFramed header Middle Last May before) → ((line after : List ℕ) (more : List (List ℕ)) → rest ≡ line ++ line_feed ∷ after → ¬ AreFramed header Middle Last May (before ++ line ∷ more)) → BreaksAt (AreFramed header Middle Last May) text n
  broken text n before rest completion text_is number begins partial stops = record {
    none = λ lines f e. (
        let on = whole before lines rest (plain-append before completion (framed_plain (before ++ completion) begins)) (framed_plain lines f) (sym text_is ∙ e) in
        after_whole lines on.0 on.1 on.2 f);
    before = before;
    rest = rest;
    text_is = text_is;
    number = number;
    completion = completion;
    begins = begins;
    stops = stops;
  } where
    after_whole : (lines more : List (List ℕ)) → lines ≡ before ++ more → rest ≡ lines_text more → ¬ AreFramed header Middle Last May lines
    after_whole lines [] e r f = partial r (subst (AreFramed header Middle Last May) (e ∙ append-nil before) f)
    after_whole lines (line ∷ more) e r f = stops line (lines_text more) more (r ∙ simp append_assoc) (subst (AreFramed header Middle Last May) e f)

  -- a line that may not follow the middle lines breaks the grammar there
  stopped : (text : List ℕ) (n : ℕ) (ms : List (List ℕ)) (rest : List ℕ) → text ≡ lines_text (header ∷ ms) ++ rest → n ≡ length ms + 2 → AllByRecursion Middle ms → May (length ms) → ((line after : List ℕ) → rest ≡ line ++ line_feed ∷ after → IsPlain line → (Middle line × May (length ms + 1)) ⊎ Last line → ⊥) → BreaksAt (AreFramed header Middle Last May) text n
  stopped text n ms rest text_is number each count stops =
      broken text n (header ∷ ms) rest (grammar.some_last ∷ []) text_is (omega arith) (framed ms grammar.some_last each count grammar.is_last)
      (λ _ f. (let tails : ms ≡ f.middle ++ f.last ∷ [] = cc (f.lines_are) in no_last ms f.middle f.last each f.ends tails))
      (λ line after more e f. elim (next ms line more each f) [
        | inl mid ↦ stops line after e (grammar.middle_plain line mid.0) (inl mid)
        | inr end ↦ stops line after e (grammar.last_plain line end.0) (inr end.0)
      ])

  -- no whole line follows
  pub missing : (text : List ℕ) (n : ℕ) (ms : List (List ℕ)) (rest : List ℕ) → text ≡ lines_text (header ∷ ms) ++ rest → n ≡ length ms + 2 → AllByRecursion Middle ms → May (length ms) → IsPlain rest → BreaksAt (AreFramed header Middle Last May) text n
  missing text n ms rest text_is number each count plain =
      stopped text n ms rest text_is number each count (λ line after e _ _. no_line rest line after plain e)

  -- a line follows that is neither a middle nor a last line, or a middle line too many
  pub misplaced : (text : List ℕ) (n : ℕ) (ms : List (List ℕ)) (rest line after : List ℕ) → text ≡ lines_text (header ∷ ms) ++ rest → n ≡ length ms + 2 → AllByRecursion Middle ms → May (length ms) → IsPlain line → rest ≡ line ++ line_feed ∷ after → (Middle line → May (length ms + 1) → ⊥) → (Last line → ⊥) → BreaksAt (AreFramed header Middle Last May) text n
  misplaced text n ms rest line after text_is number each count plain rest_is no_middle no_end =
      stopped text n ms rest text_is number each count (λ other behind_it e plain_other kind. (
      let same = (one_line line other after behind_it plain plain_other (sym rest_is ∙ e)).0 in
      elim kind [
        | inl mid ↦ no_middle (subst Middle (sym same) mid.0) mid.1
        | inr end ↦ no_end (subst Last (sym same) end)
      ]))

  -- something follows the last line
  pub trailing : (text : List ℕ) (n : ℕ) (ms : List (List ℕ)) (rest last after : List ℕ) → text ≡ lines_text (header ∷ ms) ++ rest → n ≡ length ms + 3 → AllByRecursion Middle ms → May (length ms) → rest ≡ last ++ line_feed ∷ after → Last last → 0 < length after → BreaksAt (AreFramed header Middle Last May) text n
  trailing text n ms rest last after text_is number each count rest_is ends some =
      let framed_whole = framed ms last each count ends in
      broken text n (header ∷ ms ++ last ∷ []) after [] (push_line text (header ∷ ms) rest last after text_is rest_is) (omega (arith, length-append ms (last ∷ []))) (subst (AreFramed header Middle Last May) (sym (append-nil (header ∷ ms ++ last ∷ []))) framed_whole)
      (λ e _. (let empty : length after ≡ 0 = ap length e in absurd (omega arith)))
      (λ line behind_it more e f. elim (next ms last (line ∷ more) each (subst (AreFramed header Middle Last May) (append_assoc (header ∷ ms) (last ∷ []) (line ∷ more)) f)) [
        | inl mid ↦ grammar.apart last mid.0 ends
        | inr end ↦ cc (end.1)
      ])

  -- the file does not begin with the header
  pub headless : (text : List ℕ) → ((rest : List ℕ) → text ≢ header ++ line_feed ∷ rest) → BreaksAt (AreFramed header Middle Last May) text 1
  headless text without =
      broken text 1 [] text (header ∷ grammar.some_last ∷ []) refl refl (framed [] grammar.some_last tt grammar.no_lines grammar.is_last)
      (λ _ f. (let h : ◌≡◌ {A = List (List ℕ)} [] (header ∷ f.middle ++ f.last ∷ []) = f.lines_are in cc))
      (λ line after more e f. (let h : line ≡ header = cc (f.lines_are) in without after (e ∙ ap (λ l. l ++ line_feed ∷ after) h)))

  goes_wrong : (text : List ℕ) (m n : ℕ) (a : BreaksAt (AreFramed header Middle Last May) text m) (b : BreaksAt (AreFramed header Middle Last May) text n) (more : List (List ℕ)) → length a.before < length b.before → b.before ≡ a.before ++ more → a.rest ≡ lines_text more ++ b.rest → ⊥
  goes_wrong text m n a b [] lt e r = let same : length b.before ≡ length a.before = ap length (e ∙ append-nil a.before) in absurd (omega arith)
  goes_wrong text m n a b (line ∷ more) lt e r =
      a.stops line (lines_text more ++ b.rest) (more ++ b.completion) (r ∙ behind line more b.rest) (subst (AreFramed header Middle Last May) (ap (λ ls. ls ++ b.completion) e ∙ append_assoc a.before (line ∷ more) b.completion) b.begins)

  none_earlier : (text : List ℕ) (m n : ℕ) (a : BreaksAt (AreFramed header Middle Last May) text m) (b : BreaksAt (AreFramed header Middle Last May) text n) → length a.before < length b.before → ⊥
  none_earlier text m n a b lt =
      let plain_a = plain-append a.before a.completion (framed_plain (a.before ++ a.completion) a.begins) in
      let plain_b = plain-append b.before b.completion (framed_plain (b.before ++ b.completion) b.begins) in
      let le : length a.before ≤ length b.before = omega arith in
      let on = peel a.before b.before a.rest b.rest plain_a plain_b le (sym a.text_is ∙ b.text_is) in
      goes_wrong text m n a b on.0 lt on.1 on.2

  -- a file breaks the grammar at one line only
  pub one_break : (text : List ℕ) (m n : ℕ) → BreaksAt (AreFramed header Middle Last May) text m → BreaksAt (AreFramed header Middle Last May) text n → m ≡ n
  one_break text m n a b =
      elim (cases_lt (length a.before) (length b.before)) [
        | inl lt ↦ absurd (none_earlier text m n a b lt)
        | inr ge ↦ elim (cases_lt (length b.before) (length a.before)) [
          | inl lt ↦ absurd (none_earlier text n m b a lt)
          | inr le ↦ omega arith
        ]
      ]

-- if a file has only one value, a reader answers that or that memory ran out
pub only : {A : Type 0} (Reads : Result A TextFault → Type 0) → ((a b : Result A TextFault) → Reads a → Reads b → a ≡ b) → (given : Result A TextFault) → OrNoMemory Reads given → (answer : Result A TextFault) → Reads answer → (given ≡ answer) ⊎ (given ≡ Err NoMemory)
only Reads one (Ok value) reads answer there = inl (one (Ok value) answer reads there)
only Reads one (Err (BadLine n)) reads answer there = inl (one (Err (BadLine n)) answer reads there)
only Reads one (Err NoMemory) reads answer there = inr refl
