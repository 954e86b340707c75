-- What words that name files on a disk give.
use Rattle.std.specs.Prelude.{◌≡◌, ◌⊎◌, ℕ, List, Option, None, Some, Result, Ok, Err, Vec, codes, slice_get, take}
use Rattle.std.specs.Borrow.{Bor}
use Rattle.std.specs.Global.{Global}
use Rattle.std.specs.List.{AllZip}
use Rattle.z80dev_disk.specs.Refusals.{refusal_text}
use Rattle.z80dev_disk.specs.Words.{file_name_of, pattern_of}
use Rattle.z80dev_disk.specs.declared.refusal.Refusal.{Refusal}
use Rattle.host.specs.declared.end.End.{End}
use Rattle.host.specs.declared.end.End.TheVariants as end
use Rattle.z80dev.specs.Disks.{bad_name}
use Rattle.host.specs.Ending.{RefusesText}

abbrev pub IsRefusal : Refusal → End → Type 0
IsRefusal why e = RefusesText (refusal_text why) e

abbrev pub IsBadName : List ℕ → End → Type 0
IsBadName word e = RefusesText (bad_name word) e

-- the name, or the pattern, that a word gives
abbrev pub IsWord : (List ℕ → Option (List ℕ)) → List ℕ → Result (List ℕ) End → Type 0
IsWord name_in word (Ok name) = name_in word ≡ Some name
IsWord name_in word (Err e) = (name_in word ≡ None) × RefusesText (codes "BadName") e

abbrev pub IsName : List ℕ → Result (List ℕ) End → Type 0
IsName word result = IsWord file_name_of word result

abbrev pub IsPattern : List ℕ → Result (List ℕ) End → Type 0
IsPattern word result = IsWord pattern_of word result

abbrev pub IsPatternIfGiven : Option (Bor (List ℕ)) → Result (Option (List ℕ)) End → Type 0
IsPatternIfGiven None (Ok pattern) = pattern ≡ None
IsPatternIfGiven (Some word) (Ok pattern) = (name : List ℕ) × (pattern ≡ Some name) × (pattern_of word.now ≡ Some name)
IsPatternIfGiven (Some word) (Err e) = (pattern_of word.now ≡ None) × RefusesText (codes "BadName") e
IsPatternIfGiven None (Err e) = ⊥

-- each word gives one of the names
abbrev pub AreNamed : (List ℕ → Option (List ℕ)) → List (List ℕ) → List (List ℕ) → Type 0
AreNamed name_in words names = AllZip (λ word name. name_in word ≡ Some name) words names

-- each word gives a name; or the first that gives none is refused; or memory ran out
abbrev pub AreNames : (List ℕ → Option (List ℕ)) → List (List ℕ) → Result (Vec (List ℕ) Global) End → Type 0
AreNames name_in words (Ok names) = AreNamed name_in words names.items
AreNames name_in words (Err e) =
    ((n : ℕ) × (word : List ℕ) × (names : List (List ℕ)) × (slice_get words n ≡ Some word) × AreNamed name_in (take n words) names × (name_in word ≡ None) × IsBadName word e)
    ⊎ (e ≡ end.NoMemory)
