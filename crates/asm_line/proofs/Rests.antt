-- The tokens after the head of a line are its last tokens.
use Rattle.std.proofs.Common.{◌≡◌, ap, refl, ℕ, Bool, true, false, List, [], ◌∷◌, ◌++◌, Option, Some, None, ◌&&◌, if◌then◌else◌, codes}
use Rattle.asm_line.specs.Tokens.{Lexeme}
use Rattle.asm_line.specs.Single.{is_name, is_colon, is_word}
use Rattle.asm_line.specs.Forms.{Form, Macro, Nothing, block_named, defined, form, head_of_block, worded, headed, labelled}

abbrev pub IsLast : List Lexeme → Form → Type 0
IsLast tokens f = (before : List Lexeme) × (tokens ≡ before ++ f.rest)

either : (tokens : List Lexeme) (b : Bool) (f g : Form) → IsLast tokens f → IsLast tokens g → IsLast tokens (if b then f else g)
either tokens true f g x y = x
either tokens false f g x y = y

word_last : (label : Option (List ℕ)) (word : Lexeme) (rest : List Lexeme) → IsLast (word ∷ rest) (worded label word rest)
word_last label word rest =
    either (word ∷ rest) (is_name word) (record { label = label; head = head_of_block word.text (block_named word.text); rest = rest })
    (record { label = label; head = Nothing; rest = word ∷ rest }) (word ∷ [], refl) ([], refl)

head_last : (label : Option (List ℕ)) (tokens : List Lexeme) → IsLast tokens (headed label tokens)
head_last label [] = ([], refl)
head_last label (word ∷ []) = word_last label word []
head_last label (name ∷ word ∷ rest) =
    either (name ∷ word ∷ rest) (is_name name && is_word (codes "MACRO") word) (record { label = label; head = Macro name.text; rest = rest })
    (worded label name (word ∷ rest)) (name ∷ word ∷ [], refl) (word_last label name (word ∷ rest))

label_last : (name : List ℕ) (tokens : List Lexeme) → IsLast tokens (labelled name tokens)
label_last name [] = ([], refl)
label_last name (word ∷ rest) =
    either (word ∷ rest) (is_word (codes "EQU") word) (defined name rest) (headed (Some name) (word ∷ rest)) (word ∷ [], refl) (head_last (Some name) (word ∷ rest))

-- the same with two tokens before them
behind_two : (name second : Lexeme) (rest : List Lexeme) (f : Form) → IsLast rest f → IsLast (name ∷ second ∷ rest) f
behind_two name second rest f last = (name ∷ second ∷ last.0, ap (λ r. name ∷ second ∷ r) last.1)

pub last : (tokens : List Lexeme) → IsLast tokens (form tokens)
last [] = ([], refl)
last (word ∷ []) = head_last None (word ∷ [])
last (name ∷ second ∷ rest) =
    either (name ∷ second ∷ rest) (is_name name && is_word (codes "EQU") second) (defined name.text rest)
    (if is_name name && is_colon second then labelled name.text rest else headed None (name ∷ second ∷ rest))
    (name ∷ second ∷ [], refl)
    (either (name ∷ second ∷ rest) (is_name name && is_colon second) (labelled name.text rest) (headed None (name ∷ second ∷ rest))
    (behind_two name second rest (labelled name.text rest) (label_last name.text rest))
    (head_last None (name ∷ second ∷ rest)))
