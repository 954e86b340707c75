-- The lines of a source, found from the offset at which each ends.
use Rattle.std.proofs.Common.{◌≡◌, ◌≤◌, ◌<◌, ◌+◌, ◌-◌, ◌∙◌, ◌++◌, ◌∷◌, [], ap, sym, refl, ℕ, zero, suc, List, get_or, length, map, take, drop, arith}
use Rattle.std.specs.List.{concat}
use Rattle.std.proofs.lemmas.List.{append_assoc, drop-drop, length-append, length-drop}
use Rattle.std.proofs.Math.Seq.{drop-append_seam, take-append_seam}
use Rattle.bstr.specs.Text.{lines_of, part, without_terminator}
use Rattle.bstr.proofs.lemmas.RestLemmas.{concat-lines_of}
use Rattle.asm_text.specs.Private.Ends.{lines_by}

pub length-lines_by : (text : List ℕ) (from : ℕ) (ends : List ℕ) → length (lines_by text from ends) ≡ length ends
length-lines_by text from [] = refl
length-lines_by text from (end ∷ ends) = ap suc (length-lines_by text end ends)

pub line_by : (text : List ℕ) (from : ℕ) (ends : List ℕ) (k : ℕ) → k < length ends
    → get_or (lines_by text from ends) k [] ≡ without_terminator (part (get_or (from ∷ ends) k 0) (get_or ends k 0) text)
line_by text from [] k h = absurd (omega arith)
line_by text from (end ∷ ends) zero h = refl
line_by text from (end ∷ ends) (suc k) h = line_by text end ends k (omega arith)

-- `ends` are the ends of the first lines of the text, `end` is that of the last of these, and `left` are the lines after them.
pub record Found (text ends : List ℕ) (end : ℕ) (left : List (List ℕ)) : Type 0 where
  pub within : end ≤ length text
  pub rest : concat left ≡ drop end text
  pub more : (others : List ℕ) → lines_by text 0 (ends ++ others) ≡ lines_by text 0 ends ++ lines_by text end others
  pub all : lines_by text 0 ends ++ map without_terminator left ≡ map without_terminator (lines_of text)

pub none_found : (text : List ℕ) → Found text [] 0 (lines_of text)
none_found text = record { within = omega arith; rest = concat-lines_of text; more = λ others. refl; all = refl }

line_within : (text ends : List ℕ) (end : ℕ) (line : List ℕ) (left : List (List ℕ)) → Found text ends end (line ∷ left) → end + length line ≤ length text
line_within text ends end line left f = omega (arith, f.within, ap length f.rest, length-append line (concat left), length-drop end text)

line_is : (text ends : List ℕ) (end : ℕ) (line : List ℕ) (left : List (List ℕ)) → Found text ends end (line ∷ left) → part end (end + length line) text ≡ line
line_is text ends end line left f =
    let long : (end + length line) - end ≡ length line = omega arith in
    ap (λ n. take n (drop end text)) long ∙ ap (take (length line)) (sym f.rest) ∙ take-append_seam line (concat left)

pub one_found : (text ends : List ℕ) (end : ℕ) (line : List ℕ) (left : List (List ℕ)) → Found text ends end (line ∷ left) → Found text (ends ++ (end + length line) ∷ []) (end + length line) left
one_found text ends end line left f =
    let to = end + length line in
    let joined = λ (others : List ℕ). append_assoc ends (to ∷ []) others in
    let here = λ (others : List ℕ). ap (λ l. without_terminator l ∷ lines_by text to others) (line_is text ends end line left f) in
    let pushed = f.more (to ∷ []) ∙ ap (λ ls. lines_by text 0 ends ++ ls) (here []) in
    record {
      within = line_within text ends end line left f;
      rest = sym (drop-append_seam line (concat left)) ∙ ap (drop (length line)) f.rest ∙ drop-drop (length line) end text;
      more = λ others. ap (lines_by text 0) (joined others) ∙ f.more (to ∷ others) ∙ ap (λ ls. lines_by text 0 ends ++ ls) (here others)
          ∙ sym (append_assoc (lines_by text 0 ends) (without_terminator line ∷ []) (lines_by text to others)) ∙ ap (λ ls. ls ++ lines_by text to others) (sym pushed);
      all = ap (λ ls. ls ++ map without_terminator left) pushed ∙ append_assoc (lines_by text 0 ends) (without_terminator line ∷ []) (map without_terminator left) ∙ f.all;
    }
