-- The high bits of the bytes of a name, which are attributes.
use Rattle.std.proofs.Common.{◌≡◌, ◌<◌, ◌+◌, ◌%◌, ℕ, zero, suc, Bool, true, false, List, [], ◌∷◌, length, get_or, nat_le, set, get_or-set_same, refl, ap, ◌∙◌, arith, le-leb}
use Rattle.std.proofs.lemmas.Bool.{lt-leb}
use Rattle.cpm_image.specs.declared.directory.attribute.Attribute.{Attribute}
use Rattle.cpm_image.specs.declared.directory.entry.Entry.{Entry}
use Rattle.cpm_image.specs.Directory.Entries.{attribute_byte, marked, with_high}
use Rattle.cpm_image.specs.Directory.Letters.{letters}

low_bits : (on : Bool) (x : ℕ) → with_high on x % 128 ≡ x % 128
low_bits true x = omega arith
low_bits false x = omega arith

-- names are compared without them
letters_set : (name : List ℕ) (i : ℕ) (on : Bool) → letters (set name i (with_high on (get_or name i 0))) ≡ letters name
letters_set [] i on = refl
letters_set (x ∷ name) zero on = ap (λ b. b ∷ letters name) (low_bits on x)
letters_set (x ∷ name) (suc i) on = ap (λ bs. (x % 128) ∷ bs) (letters_set name i on)

pub letters_marked : (attribute : Attribute) (on : Bool) (e : Entry) → letters (marked attribute on e).name ≡ letters e.name
letters_marked attribute on e = letters_set e.name (attribute_byte attribute) on

high_of : (on : Bool) (x : ℕ) → nat_le 128 (with_high on x) ≡ on
high_of true x = le-leb 128 (x % 128 + 128) (omega arith)
high_of false x = lt-leb 128 (x % 128) (omega arith)

pub high_set : (name : List ℕ) (i : ℕ) (on : Bool) → i < length name → nat_le 128 (get_or (set name i (with_high on (get_or name i 0))) i 0) ≡ on
high_set name i on below = ap (nat_le 128) (get_or-set_same name i (with_high on (get_or name i 0)) 0 below) ∙ high_of on (get_or name i 0)
