-- A look-up of a word finds exactly what has that word: each entry of the list of all is found by its own word.
use Rattle.std.proofs.Common.{◌≡◌, ◌<◌, inl, inr, ◌↔◌, ℕ, List, [], ◌∷◌, Option, Some, None, true, nat_le, refl, ap, ◌∙◌, cond, length, arith}
use Rattle.std.specs.List.{find}
use Rattle.std.specs.Str.{bytes_eq}
use Rattle.std.proofs.lemmas.Slice.Eq.{bytes_eq-Decides}
use Rattle.std.proofs.lemmas.Bool.{cases_Bool, leb-true}
use Rattle.std.proofs.lemmas.List.{length-map}
use Rattle.std.specs.Char.{to_ascii_uppercase}
use Rattle.z80_form.specs.Types.{Name, Mnemonic}
use Rattle.z80_form.specs.Words.{upper_letters, mnemonic_word, operand_word}
use Rattle.z80_form.specs.Named.{each_mnemonic, mnemonic_named, each_name, name_named}
use Rattle.z80_form.specs.Private.Lists.{mnemonic_read, name_read}
use Rattle.z80_form.proofs.Words.Finite.{names, mnemonics}

-- What a look-up in a list finds has the word that was looked up.
word_of_found : {A : Type 0} (spell : A → List ℕ) (all : List A) (name : List ℕ) (a : A)
    → find (λ x. bytes_eq name (spell x)) all ≡ Some a → name ≡ spell a
word_of_found spell [] name a found = absurd cc
word_of_found spell (x ∷ xs) name a found = elim (cases_Bool (bytes_eq name (spell x))) as (λ _. name ≡ spell a) [
  | inl same ↦
      let there : cond (bytes_eq name (spell x)) (Some x) (find (λ x. bytes_eq name (spell x)) xs) ≡ Some a = found in
      let one : Some x ≡ Some a = rw same at there in
      let value : x ≡ a = cc in
      (bytes_eq-Decides name (spell x)).0 same ∙ ap spell value
  | inr other ↦
      let there : cond (bytes_eq name (spell x)) (Some x) (find (λ x. bytes_eq name (spell x)) xs) ≡ Some a = found in
      let rest : find (λ x. bytes_eq name (spell x)) xs ≡ Some a = rw other at there in
      word_of_found spell xs name a rest
]

mnemonic_is : (name : List ℕ) (m : Mnemonic) → (mnemonic_read name ≡ Some m) ↔ (name ≡ mnemonic_word m)
mnemonic_is name m = (
  λ found. word_of_found mnemonic_word each_mnemonic name m found,
  λ spelled. ap mnemonic_read spelled ∙ mnemonics.agree _ (λ m. mnemonic_read (mnemonic_word m)) Some refl m,
)

name_is : (name : List ℕ) (n : Name) → (name_read name ≡ Some n) ↔ (name ≡ operand_word n)
name_is name n = (
  λ found. word_of_found operand_word each_name name n found,
  λ spelled. ap name_read spelled ∙ names.agree _ (λ n. name_read (operand_word n)) Some refl n,
)

-- a word names what it is read as in upper case
pub mnemonic_named_is : (text : List ℕ) → mnemonic_named text ≡ mnemonic_read (upper_letters text)
unfolding mnemonic_named
mnemonic_named_is text = refl

pub name_named_is : (text : List ℕ) → name_named text ≡ name_read (upper_letters text)
unfolding name_named
name_named_is text = refl

pub mnemonic_spelled : (text : List ℕ) (m : Mnemonic) → (mnemonic_named text ≡ Some m) ↔ (upper_letters text ≡ mnemonic_word m)
mnemonic_spelled text m = rw (mnemonic_named_is text) (mnemonic_is (upper_letters text) m)

pub name_spelled : (text : List ℕ) (n : Name) → (name_named text ≡ Some n) ↔ (upper_letters text ≡ operand_word n)
name_spelled text n = rw (name_named_is text) (name_is (upper_letters text) n)

-- A word that is longer than each of the words names nothing.
none_of : {A : Type 0} (o : Option A) → ((a : A) → o ≡ Some a → ⊥) → o ≡ None
none_of None never = refl
none_of (Some a) never = absurd (never a refl)

short_word : (m : Mnemonic) → nat_le (length (mnemonic_word m)) 4 ≡ true
short_word m = mnemonics.agree _ (λ m. nat_le (length (mnemonic_word m)) 4) (λ m. true) refl m

short_name : (n : Name) → nat_le (length (operand_word n)) 4 ≡ true
short_name n = names.agree _ (λ n. nat_le (length (operand_word n)) 4) (λ n. true) refl n

too_long : (text spelled : List ℕ) → 4 < length text → nat_le (length spelled) 4 ≡ true → upper_letters text ≡ spelled → ⊥
too_long text spelled long short e = omega (arith, leb-true _ _ short, ap length e, length-map text to_ascii_uppercase)

pub long_mnemonic : (text : List ℕ) → 4 < length text → mnemonic_named text ≡ None
long_mnemonic text long = none_of _ (λ m e. too_long text (mnemonic_word m) long (short_word m) ((mnemonic_spelled text m).0 e))

pub long_name : (text : List ℕ) → 4 < length text → name_named text ≡ None
long_name text long = none_of _ (λ n e. too_long text (operand_word n) long (short_name n) ((name_spelled text n).0 e))
