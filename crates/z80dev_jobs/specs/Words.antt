-- The words that the program was called with, as text.
use Rattle.std.specs.Prelude.{◌≡◌, ◌⊎◌, ◌<◌, ℕ, List, [], ◌∷◌, Some, Result, Ok, Err, String, Vec, codes, drop, map, slice_get, string_bytes, take}
use Rattle.std.specs.Global.{Global}
use Rattle.std.specs.List.{AllByRecursion}
use Rattle.std.specs.Str.{IsUtf8}
use Rattle.z80dev_jobs.specs.declared.words.WordsFault.{WordsFault}
use Rattle.z80dev_jobs.specs.declared.words.WordsFault.TheVariants as fault

-- the program's own name: the word as it is, or `z80dev` if it is not UTF-8
abbrev pub IsOwnName : List ℕ → List ℕ → Type 0
IsOwnName word text = (IsUtf8 word × (text ≡ word)) ⊎ ((IsUtf8 word → ⊥) × (text ≡ codes "z80dev"))

-- The words are UTF-8, but for the first, and these are their texts.
abbrev pub AreTexts : List (List ℕ) → List (List ℕ) → Type 0
AreTexts [] texts = texts ≡ []
AreTexts (word ∷ words) texts = (name : List ℕ) × IsOwnName word name × AllByRecursion IsUtf8 words × (texts ≡ name ∷ words)

-- the word of this number is the first that is not UTF-8, but for the word of the number 0
abbrev pub IsNotText : List (List ℕ) → ℕ → Type 0
IsNotText words n = (word : List ℕ) × (0 < n) × (slice_get words n ≡ Some word) × (IsUtf8 word → ⊥) × AllByRecursion IsUtf8 (drop 1 (take n words))

-- a word's own text
abbrev pub ReadsWord : ℕ → List ℕ → Result (String Global) WordsFault → Type 0
ReadsWord n word (Ok text) = ((string_bytes text ≡ word) × IsUtf8 word) ⊎ ((n ≡ 0) × (IsUtf8 word → ⊥) × (string_bytes text ≡ codes "z80dev"))
ReadsWord n word (Err (fault.NotText m)) = (m ≡ n) × (0 < n) × (IsUtf8 word → ⊥)
ReadsWord n word (Err fault.NoMemory) = Unit {0}

abbrev pub ReadsWords : List (List ℕ) → Result (Vec (String Global) Global) WordsFault → Type 0
ReadsWords words (Ok texts) = AreTexts words (map string_bytes texts.items)
ReadsWords words (Err (fault.NotText n)) = IsNotText words n
ReadsWords words (Err fault.NoMemory) = Unit {0}
