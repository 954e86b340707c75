-- Words that become text one by one.
use Rattle.std.proofs.Common.{◌≡◌, ◌∙◌, ℕ, ◌<◌, List, [], ◌∷◌, ◌++◌, Err, length, suc, drop, take, get_or, ap, inl, inr, sym, subst, arith}
use Rattle.std.specs.Prelude.{◌⊎◌, codes}
use Rattle.std.specs.List.{AllByRecursion}
use Rattle.std.specs.Str.{IsUtf8}
use Rattle.std.proofs.lemmas.Option.{slice_get-get_or}
use Rattle.z80dev_jobs.specs.Words.{AreTexts, IsNotText, ReadsWord, ReadsWords}
use Rattle.z80dev_jobs.specs.declared.words.WordsFault.{WordsFault}
use Rattle.z80dev_jobs.specs.declared.words.WordsFault.TheVariants as fault

-- the text of the word of this number
abbrev pub IsTextOf : ℕ → List ℕ → List ℕ → Type 0
IsTextOf n word text = ((text ≡ word) × IsUtf8 word) ⊎ ((n ≡ 0) × (IsUtf8 word → ⊥) × (text ≡ codes "z80dev"))

all_more : (xs : List (List ℕ)) (x : List ℕ) → AllByRecursion IsUtf8 xs → IsUtf8 x → AllByRecursion IsUtf8 (xs ++ x ∷ [])
all_more [] x all one = (one, tt)
all_more (y ∷ ys) x all one = (all.0, all_more ys x all.1 one)

zero_suc : (n : ℕ) → 0 ≡ suc n → ⊥
zero_suc n e = omega (arith, e)

-- one word more
pub more : (words texts : List (List ℕ)) (word text : List ℕ) → AreTexts words texts → IsTextOf (length words) word text → AreTexts (words ++ word ∷ []) (texts ++ text ∷ [])
more [] texts word text are (inl is) = (text, inl (is.1, is.0), tt, ap (λ t. t ++ text ∷ []) are)
more [] texts word text are (inr is) = (text, inr (is.1, is.2), tt, ap (λ t. t ++ text ∷ []) are)
more (w ∷ ws) texts word text are (inl is) = (are.0, are.1, all_more ws word are.2 is.1, ap (λ t. t ++ text ∷ []) are.3 ∙ ap (λ t. are.0 ∷ (ws ++ t ∷ [])) is.0)
more (w ∷ ws) texts word text are (inr is) = absurd (zero_suc (length ws) (sym is.0))

-- the words before one that is not UTF-8 are, but for the first
pub all_before : (words texts : List (List ℕ)) → AreTexts words texts → AllByRecursion IsUtf8 (drop 1 words)
all_before [] texts are = tt
all_before (w ∷ ws) texts are = are.2

-- why a word is not text
pub unread : (words texts : List (List ℕ)) (k : ℕ) → k < length words → AreTexts (take k words) texts → (e : WordsFault) → ReadsWord k (get_or words k []) (Err e) → ReadsWords words (Err e)
unread words texts k lt are (fault.NotText n) why =
    subst (IsNotText words) (sym why.0) (get_or words k [], why.1, slice_get-get_or words k [] lt, why.2, all_before (take k words) texts are)
unread words texts k lt are fault.NoMemory why = tt
