-- Loops that note names.
use Rattle.std.proofs.Common.{◌≡◌, ◌∙◌, ◌<◌, ◌+◌, ◌++◌, ◌∷◌, [], ℕ, List, Option, Some, None, refl, sym, ap, drop, get_or, length, map, append_assoc}
use Rattle.std.specs.List.{cons_option, filter_map, flat_map}
use Rattle.std.specs.Option.{option_to_list}
use Rattle.std.proofs.lemmas.List.{drop_more, map-append}
use Rattle.asm_line.specs.Tokens.{Lexeme}
use Rattle.asm_macro.specs.Texts.{numbered}
use Rattle.asm_text.specs.Lines.{Numbered}
use Rattle.source_warnings.specs.Mentions.{name_of_token}
use Rattle.source_warnings.specs.Noted.{Noted, first_noted, noted_on}
use Rattle.source_warnings.specs.Private.Known.{Agrees}
use Rattle.source_warnings.specs.Warnings.{SourceWarning, each_said}
use Rattle.source_warnings.proofs.Agreeing.{agrees-step, each-agrees}

-- one element more
pub note_more : {X : Type 0} (h : List X → Noted) (f : X → Noted) → ((x : X) (rest : List X) → h (x ∷ rest) ≡ f x ++ h rest)
    → (xs : List X) (i : ℕ) (x : X) (old new all : Noted) → i < length xs → Agrees new (old ++ f (get_or xs i x)) → Agrees (old ++ h (drop i xs)) all → Agrees (new ++ h (drop (i + 1) xs)) all
note_more h f adds xs i x old new all lt now was =
    let split : h (drop i xs) ≡ f (get_or xs i x) ++ h (drop (i + 1) xs) = ap h (drop_more xs i x lt) ∙ adds (get_or xs i x) (drop (i + 1) xs) in
    agrees-step old new (f (get_or xs i x)) (h (drop (i + 1) xs)) all now (λ name. ap (λ l. first_noted (old ++ l) name) (sym split) ∙ was name)

if_one : {Z : Type 0} (o : Option Z) (rest : List Z) → cons_option o rest ≡ option_to_list o ++ rest
if_one None rest = refl
if_one (Some z) rest = refl

pub token_adds : {T : Type 0} (view : T → Lexeme) (number : ℕ) (t : T) (rest : List T) → noted_on number (filter_map name_of_token (map view (t ∷ rest))) ≡ noted_on number (option_to_list (name_of_token (view t))) ++ noted_on number (filter_map name_of_token (map view rest))
token_adds view number t rest =
    ap (noted_on number) (if_one (name_of_token (view t)) (filter_map name_of_token (map view rest)))
    ∙ map-append (λ name. (name, number)) (option_to_list (name_of_token (view t))) (filter_map name_of_token (map view rest))

-- one line more
pub line_more : (f : Numbered → Noted) (lines : List (List ℕ)) (k : ℕ) (old new all : Noted) → k < length lines → Agrees new (old ++ f (record { number = k + 1; text = get_or lines k [] })) → Agrees (old ++ flat_map f (numbered (k + 1) (drop k lines))) all → Agrees (new ++ flat_map f (numbered (k + 1 + 1) (drop (k + 1) lines))) all
line_more f lines k old new all lt now was =
    let split : flat_map f (numbered (k + 1) (drop k lines)) ≡ f (record { number = k + 1; text = get_or lines k [] }) ++ flat_map f (numbered (k + 1 + 1) (drop (k + 1) lines)) = ap (λ l. flat_map f (numbered (k + 1) l)) (drop_more lines k [] lt) in
    agrees-step old new _ (flat_map f (numbered (k + 1 + 1) (drop (k + 1) lines))) all now (λ name. ap (λ l. first_noted (old ++ l) name) (sym split) ∙ was name)

-- one name more
pub name_more : (says : List ℕ → Option ℕ → List SourceWarning) (number : ℕ) (name : List ℕ) (rest : List (List ℕ)) (old new : Noted) (found more all : List SourceWarning) → Agrees new (old ++ (name, number) ∷ []) → more ≡ found ++ says name (first_noted old name) → found ++ each_said says number old (name ∷ rest) ≡ all → more ++ each_said says number new rest ≡ all
name_more says number name rest old new found more all agrees now was =
    ap (λ l. l ++ each_said says number new rest) now
    ∙ append_assoc found (says name (first_noted old name)) (each_said says number new rest)
    ∙ ap (λ l. found ++ (says name (first_noted old name) ++ l)) (each-agrees says number new (old ++ (name, number) ∷ []) agrees rest)
    ∙ was
