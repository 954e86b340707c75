-- Fields read one after the other, as a loop reads them.
use Rattle.std.proofs.Common.{◌≡◌, ℕ, suc, ◌-◌, ◌+◌, ◌≤◌, ◌<◌, List, [], ◌∷◌, ◌++◌, Result, Ok, Err, refl, sym, ap, ◌∙◌, append_assoc, arith}
use Rattle.std.proofs.lemmas.List.{append-nil}
use Rattle.common.specs.Results.{◌>>=◌}
use Rattle.zmo_object.specs.declared.field_fault.FieldFault.{FieldFault}
use Rattle.zmo_object.specs.declared.field_fault.FieldFault.TheVariants as fault
use Rattle.zmo_object.specs.Fields.Field.{FieldFails, Field, many}

pub as_fault : {Y : Type 0} (f : FieldFault) (read : Result Y FieldFault) → read ≡ Err f → FieldFails f read
as_fault fault.NoMemory read e = tt
as_fault fault.Truncated read e = e
as_fault (fault.BadField left) read e = e

-- puts the values read before in front of those still to be read
abbrev pub with_front : {A : Type 0} → List A → Field (List A) → Field (List A)
with_front front read = read >>= λ x. Ok (front ++ x.0, x.1)

module _ {A S : Type 0} (reads : S → List ℕ → Field A) (next : S → A → S) where
  -- Reading the rest from here, with the values read before in front, gives the same as reading all fields from the start.
  abbrev pub GoesOn : List A → S → ℕ → List ℕ → Field (List A) → Type 0
  GoesOn front s left bytes total = with_front front (many reads next s left bytes) ≡ total

  regroup : (front : List A) (x : A) (read : Field (List A)) → with_front front (read >>= λ more. Ok (x ∷ more.0, more.1)) ≡ with_front (front ++ x ∷ []) read
  regroup front x (Ok more) = ap (λ (all : List A). Ok (all, more.1)) (sym (append_assoc front (x ∷ []) more.0))
  regroup front x (Err f) = refl

  pub begins : (s : S) (left : ℕ) (bytes : List ℕ) → GoesOn [] s left bytes (many reads next s left bytes)
  begins s left bytes = same (many reads next s left bytes)
    where
      same : (read : Field (List A)) → with_front [] read ≡ read
      same (Ok x) = refl
      same (Err f) = refl

  pub goes_on : (front : List A) (s : S) (count i : ℕ) (bytes : List ℕ) (total : Field (List A)) (x : A) (after : List ℕ) → i < count → reads s bytes ≡ Ok (x, after)
      → GoesOn front s (count - i) bytes total → GoesOn (front ++ x ∷ []) (next s x) (count - (i + 1)) after total
  unfolding many
  goes_on front s count i bytes total x after lt e so_far =
      let k : count - i ≡ suc (count - (i + 1)) = omega arith in
      let one : with_front front (many reads next s (count - i) bytes) ≡ with_front (front ++ x ∷ []) (many reads next (next s x) (count - (i + 1)) after) = rw (k, e) (regroup front x (many reads next (next s x) (count - (i + 1)) after)) in
      sym one ∙ so_far

  pub fails : (front : List A) (s : S) (count i : ℕ) (bytes : List ℕ) (total : Field (List A)) (f : FieldFault) → i < count → reads s bytes ≡ Err f
      → GoesOn front s (count - i) bytes total → total ≡ Err f
  unfolding many
  fails front s count i bytes total f lt e so_far =
      let k : count - i ≡ suc (count - (i + 1)) = omega arith in
      let one : with_front front (many reads next s (count - i) bytes) ≡ Err f = rw (k, e) refl in
      sym so_far ∙ one

  pub ends : (front : List A) (s : S) (count i : ℕ) (bytes : List ℕ) (total : Field (List A)) (f : FieldFault) → i < count → FieldFails f (reads s bytes)
      → GoesOn front s (count - i) bytes total → FieldFails f total
  ends front s count i bytes total fault.NoMemory lt e so_far = tt
  ends front s count i bytes total fault.Truncated lt e so_far = fails front s count i bytes total fault.Truncated lt e so_far
  ends front s count i bytes total (fault.BadField left) lt e so_far = fails front s count i bytes total (fault.BadField left) lt e so_far

  pub is_done : (front : List A) (s : S) (count i : ℕ) (bytes : List ℕ) (total : Field (List A)) → count ≤ i → GoesOn front s (count - i) bytes total → total ≡ Ok (front, bytes)
  unfolding many
  is_done front s count i bytes total le so_far =
      let k : count - i ≡ 0 = omega arith in
      let one : with_front front (many reads next s (count - i) bytes) ≡ Ok (front, bytes) = rw k (ap (λ (all : List A). Ok (all, bytes)) (append-nil front)) in
      sym so_far ∙ one
