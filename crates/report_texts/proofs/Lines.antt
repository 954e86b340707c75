-- The lines of a front, and those of a source after it.
use Rattle.std.proofs.Common.{◌≡◌, ◌+◌, ◌-◌, ◌<◌, ◌==◌, ◌&&◌, ℕ, zero, suc, true, false, not, codes, List, [], ◌∷◌, ◌++◌, Option, Some, None, length, length-append, map, take, drop, slice_get, slice_index, refl, sym, ap, ap₂, subst, ◌∙◌, arith, inl, inr, ⊎_elim}
use Rattle.std.specs.Prelude.{◌≢◌}
use Rattle.std.specs.Borrow.{Bor}
use Rattle.std.specs.List.{flat_map, list_all, prefix_len, sum_by}
use Rattle.std.proofs.lemmas.Bool.{and_parts, cases_Bool, cases_eq, cond-true, cond-false, eq-eqb, eqb-true, ne_eqb}
use Rattle.std.proofs.lemmas.List.{append-nil, append_assoc, get_or_append_left, length-map, map-append}
use Rattle.std.proofs.lemmas.List.Sums.{sum_by-cons}
use Rattle.bstr.specs.Text.{lines_of, without_terminator}
use Rattle.bstr.proofs.lemmas.LineLemmas.{EndsLine, lines-append, lines-nil, lines-one}
use Rattle.asm_macro.specs.Texts.{source_lines, source_part}
use Rattle.report_texts.specs.declared.front.SourceFile.{SourceFile}
use Rattle.report_texts.specs.declared.front.Front.{Front}
use Rattle.report_texts.specs.Front.{have_word_bytes, define_line, defined_name, defined_value, front_lines, front_text, is_word_byte, end_of_line, missing_end, name_length, with_end}
use Rattle.report_texts.specs.Lines.{line_count}

-- No byte is 1AH.
abbrev pub Free : List ℕ → Type 0
Free [] = Unit {0}
Free (b ∷ bs) = (b ≢ 0x1A) × Free bs

free-append : (a b : List ℕ) → Free a → Free b → Free (a ++ b)
free-append [] b fa fb = fb
free-append (x ∷ a) b fa fb = (fa.0, free-append a b fa.1 fb)

part_on : (b : ℕ) (t : List ℕ) → b ≢ 0x1A → source_part (b ∷ t) ≡ b ∷ source_part t
part_on b t other =
    let more : 1 + prefix_len (λ byte. not (byte == 0x1A)) t ≡ suc (prefix_len (λ byte. not (byte == 0x1A)) t) = omega arith in
    ap (λ n. take n (b ∷ t)) (cond-true _ _ _ (ap not (ne_eqb b 0x1A other)) ∙ more)

part_ends : (b : ℕ) (t : List ℕ) → b ≡ 0x1A → source_part (b ∷ t) ≡ []
part_ends b t is = ap (λ n. take n (b ∷ t)) (cond-false _ _ _ (ap not (eq-eqb b 0x1A is)))

part_free : (t : List ℕ) → Free (source_part t)
part_free [] = tt
part_free (b ∷ t) = ⊎_elim
    (λ is. subst Free (sym (part_ends b t is)) tt)
    (λ other. subst Free (sym (part_on b t other)) (other, part_free t))
    (cases_eq b 0x1A)

part_behind : (a b : List ℕ) → Free a → source_part (a ++ b) ≡ a ++ source_part b
part_behind [] b f = refl
part_behind (x ∷ a) b f = part_on x (a ++ b) f.0 ∙ ap (λ t. x ∷ t) (part_behind a b f.1)

part_whole : (a : List ℕ) → Free a → source_part a ≡ a
part_whole [] f = refl
part_whole (x ∷ a) f = part_on x a f.0 ∙ ap (λ t. x ∷ t) (part_whole a f.1)

-- The bytes end a line, or there are none.
abbrev pub Ends : List ℕ → Type 0
Ends [] = Unit {0}
Ends (b ∷ []) = b ≡ 10
Ends (b ∷ c ∷ rest) = Ends (c ∷ rest)

ends_line : (xs : List ℕ) → Ends xs → EndsLine xs
ends_line [] e = inl refl
ends_line (b ∷ []) e = inr e
ends_line (b ∷ c ∷ rest) e = inr (⊎_elim
    (λ none. absurd (omega arith))
    (λ yes. let place : length (b ∷ c ∷ rest) - 1 ≡ suc (length (c ∷ rest) - 1) = omega arith in ap (slice_index (b ∷ c ∷ rest)) place ∙ yes)
    (ends_line (c ∷ rest) e))

ends-append : (a b : List ℕ) → Ends a → Ends b → Ends (a ++ b)
ends-append [] b ea eb = eb
ends-append (x ∷ []) [] ea eb = ea
ends-append (x ∷ []) (y ∷ b) ea eb = eb
ends-append (x ∷ y ∷ a) b ea eb = ends-append (y ∷ a) b ea eb

joined : (xs ys : List ℕ) → Ends xs → lines_of (xs ++ ys) ≡ lines_of xs ++ lines_of ys
joined xs ys e = lines-append (length xs) xs ys (omega arith) (ends_line xs e)

-- a file with a line end

with_end_on : (b : ℕ) (t : List ℕ) → 0 < length t → with_end (b ∷ t) ≡ b ∷ with_end t
with_end_on b [] some = absurd (omega arith)
with_end_on b (c ∷ t) some =
    let place : length (b ∷ c ∷ t) - 1 ≡ suc (length (c ∷ t) - 1) = omega arith in
    ap (λ n. (b ∷ c ∷ t) ++ missing_end (slice_get (b ∷ c ∷ t) n)) place

with_end_ends : (t : List ℕ) → Ends (with_end t)
with_end_ends [] = tt
with_end_ends (b ∷ []) = ⊎_elim
    (λ is. subst (λ l. Ends (b ∷ l)) (sym (cond-true _ _ _ is)) (eqb-true b 10 is))
    (λ other. subst (λ l. Ends (b ∷ l)) (sym (cond-false _ _ _ other)) refl)
    (cases_Bool (b == 10))
with_end_ends (b ∷ c ∷ t) = subst Ends (sym (with_end_on b (c ∷ t) (omega arith))) (with_end_ends (c ∷ t))

-- No byte is a line feed.
abbrev pub Feedless : List ℕ → Type 0
Feedless [] = Unit {0}
Feedless (b ∷ bs) = (b ≢ 10) × Feedless bs

feedless_at : (ys : List ℕ) → Feedless ys → (k : ℕ) → k < length ys → slice_index ys k ≢ 10
feedless_at [] none k lt = absurd (omega arith)
feedless_at (y ∷ ys) none zero lt = none.0
feedless_at (y ∷ ys) none (suc k) lt = feedless_at ys none.1 k (omega arith)

one_line : (ys : List ℕ) → 0 < length ys → Feedless ys → lines_of ys ≡ ys ∷ []
one_line ys some none = lines-one ys some (λ k lt. feedless_at ys none k (omega arith))

one_ended : (ys : List ℕ) → Feedless ys → lines_of (ys ++ 10 ∷ []) ≡ (ys ++ 10 ∷ []) ∷ []
one_ended ys none =
    let long : length (ys ++ 10 ∷ []) ≡ length ys + 1 = length-append ys (10 ∷ []) in
    lines-one (ys ++ 10 ∷ []) (omega arith)
    (λ k lt. let below : k < length ys = omega arith in subst (λ b. b ≢ 10) (sym (get_or_append_left ys (10 ∷ []) 0 k below)) (feedless_at ys none k below))

-- A text is lines that end, and then one that does not.
pub record Split (t : List ℕ) : Type 0 where
  pub whole : List ℕ
  pub last : List ℕ
  pub is : t ≡ whole ++ last
  pub ends : Ends whole
  pub none : Feedless last

split_on : (b : ℕ) (xs ys : List ℕ) → Ends xs → Feedless ys → Split (b ∷ (xs ++ ys))
split_on b [] ys ends none = ⊎_elim
    (λ (is : b ≡ 10). record { whole = b ∷ []; last = ys; is = refl; ends = is; none = none })
    (λ (other : b ≢ 10). record { whole = []; last = b ∷ ys; is = refl; ends = tt; none = (other, none) })
    (cases_eq b 10)
split_on b (x ∷ xs) ys ends none = record { whole = b ∷ x ∷ xs; last = ys; is = refl; ends = ends; none = none }

split : (t : List ℕ) → Split t
split [] = record { whole = []; last = []; is = refl; ends = tt; none = tt }
split (b ∷ t) = let s = split t in subst (λ u. Split (b ∷ u)) (sym s.is) (split_on b s.whole s.last s.ends s.none)

end_added : (xs ys : List ℕ) → 0 < length ys → Feedless ys → with_end (xs ++ ys) ≡ xs ++ (ys ++ 10 ∷ [])
end_added [] [] some none = absurd (omega arith)
end_added [] (y ∷ []) some none = ap (λ l. y ∷ l) (cond-false _ _ _ (ne_eqb y 10 none.0))
end_added [] (y ∷ z ∷ ys) some none = with_end_on y (z ∷ ys) (omega arith) ∙ ap (λ t. y ∷ t) (end_added [] (z ∷ ys) (omega arith) none.1)
end_added (x ∷ xs) ys some none =
    let more : 0 < length (xs ++ ys) = omega (arith, length-append xs ys) in
    with_end_on x (xs ++ ys) more ∙ ap (λ t. x ∷ t) (end_added xs ys some none)

end_there : (xs : List ℕ) → Ends xs → with_end xs ≡ xs
end_there [] ends = refl
end_there (b ∷ []) ends = ap (λ l. b ∷ l) (cond-true _ _ _ (eq-eqb b 10 ends))
end_there (b ∷ c ∷ rest) ends = with_end_on b (c ∷ rest) (omega arith) ∙ ap (λ t. b ∷ t) (end_there (c ∷ rest) ends)

-- a line end adds no line
as_many_by : (xs ys : List ℕ) → Ends xs → Feedless ys → length (lines_of (with_end (xs ++ ys))) ≡ length (lines_of (xs ++ ys))
as_many_by xs [] ends none = ap (λ t. length (lines_of t)) (ap with_end (append-nil xs) ∙ end_there xs ends ∙ sym (append-nil xs))
as_many_by xs (y ∷ ys) ends none =
    let l = y ∷ ys in
    let with_it = joined xs (l ++ 10 ∷ []) ends ∙ ap (λ t. lines_of xs ++ t) (one_ended l none) in
    let without_it = joined xs l ends ∙ ap (λ t. lines_of xs ++ t) (one_line l (omega arith) none) in
    ap (λ t. length (lines_of t)) (end_added xs l (omega arith) none) ∙ ap length with_it ∙ length-append (lines_of xs) ((l ++ 10 ∷ []) ∷ [])
    ∙ sym (ap length without_it ∙ length-append (lines_of xs) (l ∷ []))

as_many : (t : List ℕ) → length (lines_of (with_end t)) ≡ length (lines_of t)
as_many t = let s = split t in subst (λ u. length (lines_of (with_end u)) ≡ length (lines_of u)) (sym s.is) (as_many_by s.whole s.last s.ends s.none)

feed_free : (last : Option ℕ) → Free (missing_end last)
feed_free None = tt
feed_free (Some b) = ⊎_elim
    (λ is. subst Free (sym (cond-true _ _ _ is)) tt)
    (λ other. subst Free (sym (cond-false _ _ _ other)) ((λ is. absurd (omega arith)), tt))
    (cases_Bool (b == 10))

-- plain words

other_than : (b n : ℕ) → not (b == n) ≡ true → b ≢ n
other_than b n differs is = let yes : not (b == n) ≡ false = ap not (eq-eqb b n is) in absurd (cc)

plain_free : (xs : List ℕ) → list_all is_word_byte xs ≡ true → Free xs
plain_free [] plain = tt
plain_free (b ∷ xs) plain =
    let parts = and_parts (is_word_byte b) (list_all is_word_byte xs) plain in
    let here = and_parts (not (b == 10)) (not (b == 0x1A)) parts.0 in
    (other_than b 0x1A here.1, plain_free xs parts.1)

plain_feedless : (xs : List ℕ) → list_all is_word_byte xs ≡ true → Feedless xs
plain_feedless [] plain = tt
plain_feedless (b ∷ xs) plain =
    let parts = and_parts (is_word_byte b) (list_all is_word_byte xs) plain in
    let here = and_parts (not (b == 10)) (not (b == 0x1A)) parts.0 in
    (other_than b 10 here.0, plain_feedless xs parts.1)

plain_append : (a b : List ℕ) → list_all is_word_byte a ≡ true → list_all is_word_byte b ≡ true → list_all is_word_byte (a ++ b) ≡ true
plain_append [] b pa pb = pb
plain_append (x ∷ a) b pa pb =
    let parts = and_parts (is_word_byte x) (list_all is_word_byte a) pa in
    ap₂ (λ one rest. one && rest) parts.0 (plain_append a b parts.1 pb)

plain_take : (n : ℕ) (xs : List ℕ) → list_all is_word_byte xs ≡ true → list_all is_word_byte (take n xs) ≡ true
plain_take zero xs plain = refl
plain_take (suc n) [] plain = refl
plain_take (suc n) (x ∷ xs) plain =
    let parts = and_parts (is_word_byte x) (list_all is_word_byte xs) plain in
    ap₂ (λ one rest. one && rest) parts.0 (plain_take n xs parts.1)

plain_drop : (n : ℕ) (xs : List ℕ) → list_all is_word_byte xs ≡ true → list_all is_word_byte (drop n xs) ≡ true
plain_drop zero xs plain = plain
plain_drop (suc n) [] plain = refl
plain_drop (suc n) (x ∷ xs) plain = plain_drop n xs (and_parts (is_word_byte x) (list_all is_word_byte xs) plain).1

plain_line : (word : List ℕ) → list_all is_word_byte word ≡ true → list_all is_word_byte (define_line word) ≡ true
plain_line word plain =
    plain_append (defined_name word ++ codes " EQU ") (defined_value word)
    (plain_append (defined_name word) (codes " EQU ") (plain_take (name_length word) word plain) refl) (plain_drop (name_length word + 1) word plain)

-- the lines of words

abbrev words_text : List (Bor (List ℕ)) → List ℕ
words_text words = flat_map (λ word. define_line word.now ++ end_of_line) words

feed_ends : (xs : List ℕ) → Ends (xs ++ 10 ∷ [])
feed_ends [] = refl
feed_ends (b ∷ []) = refl
feed_ends (b ∷ c ∷ rest) = feed_ends (c ∷ rest)

words_end : (words : List (Bor (List ℕ))) → Ends (words_text words)
words_end [] = tt
words_end (w ∷ ws) = ends-append (define_line w.now ++ end_of_line) (words_text ws) (feed_ends (define_line w.now)) (words_end ws)

words_free : (words : List (Bor (List ℕ))) → have_word_bytes words ≡ true → Free (words_text words)
words_free [] plain = tt
words_free (w ∷ ws) plain =
    let parts = and_parts (list_all is_word_byte w.now) (have_word_bytes ws) plain in
    let here = free-append (define_line w.now) end_of_line (plain_free (define_line w.now) (plain_line w.now parts.0)) ((λ is. absurd (omega arith)), tt) in
    free-append (define_line w.now ++ end_of_line) (words_text ws) here (words_free ws parts.1)

words_count : (words : List (Bor (List ℕ))) (rest : List ℕ) → have_word_bytes words ≡ true → length (lines_of (words_text words ++ rest)) ≡ length words + length (lines_of rest)
words_count [] rest plain = omega arith
words_count (w ∷ ws) rest plain =
    let parts = and_parts (list_all is_word_byte w.now) (have_word_bytes ws) plain in
    let line = define_line w.now ++ end_of_line in
    let one = one_ended (define_line w.now) (plain_feedless (define_line w.now) (plain_line w.now parts.0)) in
    let cut = ap lines_of (append_assoc line (words_text ws) rest) ∙ joined line (words_text ws ++ rest) (feed_ends (define_line w.now)) in
    let long = ap length cut ∙ length-append (lines_of line) (lines_of (words_text ws ++ rest)) in
    let first : length (lines_of line) ≡ 1 = ap length one in
    let others = words_count ws rest parts.1 in
    omega arith

-- the lines of shared files

abbrev files_text : List SourceFile → List ℕ
files_text files = flat_map (λ file. with_end (source_part file.text.now)) files

files_end : (files : List SourceFile) → Ends (files_text files)
files_end [] = tt
files_end (f ∷ fs) = ends-append (with_end (source_part f.text.now)) (files_text fs) (with_end_ends (source_part f.text.now)) (files_end fs)

files_free : (files : List SourceFile) → Free (files_text files)
files_free [] = tt
files_free (f ∷ fs) =
    let part = source_part f.text.now in
    let here = free-append part (missing_end (slice_get part (length part - 1))) (part_free f.text.now) (feed_free (slice_get part (length part - 1))) in
    free-append (with_end part) (files_text fs) here (files_free fs)

files_count : (files : List SourceFile) → length (lines_of (files_text files)) ≡ sum_by line_count files
files_count [] = ap length lines-nil
files_count (f ∷ fs) =
    let part = source_part f.text.now in
    let cut = joined (with_end part) (files_text fs) (with_end_ends part) in
    let long = ap length cut ∙ length-append (lines_of (with_end part)) (lines_of (files_text fs)) in
    let here : length (lines_of (with_end part)) ≡ line_count f = as_many part ∙ sym (length-map (lines_of part) without_terminator) in
    let others = files_count fs in
    let all = sum_by-cons line_count f fs in
    omega arith

-- a front and a source after it
module _ (front : Front) where
  front_free : have_word_bytes front.defines.now ≡ true → Free (front_text front)
  front_free plain = free-append (words_text front.defines.now) (files_text front.files.now) (words_free front.defines.now plain) (files_free front.files.now)

  pub behind : (text : List ℕ) → have_word_bytes front.defines.now ≡ true → source_lines (front_text front ++ text) ≡ source_lines (front_text front) ++ source_lines text
  behind text plain =
      let before = front_text front in
      let free = front_free plain in
      let ends : Ends before = ends-append (words_text front.defines.now) (files_text front.files.now) (words_end front.defines.now) (files_end front.files.now) in
      let cut = ap lines_of (part_behind before text free) ∙ joined before (source_part text) ends in
      ap (map without_terminator) cut ∙ map-append without_terminator (lines_of before) (lines_of (source_part text))
      ∙ ap (λ part. map without_terminator (lines_of part) ++ source_lines text) (sym (part_whole before free))

  pub count : have_word_bytes front.defines.now ≡ true → length (source_lines (front_text front)) ≡ front_lines front
  count plain =
      let before = front_text front in
      length-map (lines_of (source_part before)) without_terminator ∙ ap (λ part. length (lines_of part)) (part_whole before (front_free plain))
      ∙ words_count front.defines.now (files_text front.files.now) plain ∙ ap (λ n. length front.defines.now + n) (files_count front.files.now)
