-- The parts of an answer.
use Rattle.std.proofs.Common.{◌≡◌, Bool, true, false, Option, Some, None, Result, Ok, Err, refl}
use Rattle.cpm_image.specs.declared.directory.fault.DiskFault.{DiskFault}
use Rattle.cpm_disk.specs.Steps.{◌>>=◌, some_or, unless}

pub bind_ok : {A B : Type 0} (r : Result A DiskFault) (f : A → Result B DiskFault) (y : B) → (r >>= f) ≡ Ok y → (x : A) × (r ≡ Ok x) × (f x ≡ Ok y)
bind_ok (Ok x) f y is = (x, refl, is)
bind_ok (Err e) f y is = absurd cc

pub unless_ok : {A : Type 0} (test : Bool) (e : DiskFault) (rest : Result A DiskFault) (y : A) → unless test e rest ≡ Ok y → (test ≡ false) × (rest ≡ Ok y)
unless_ok true e rest y is = absurd cc
unless_ok false e rest y is = (refl, is)

pub given_ok : {A : Type 0} (o : Option A) (e : DiskFault) (x : A) → some_or o e ≡ Ok x → o ≡ Some x
given_ok None e x is = absurd cc
given_ok (Some y) e x is = let same : y ≡ x = cc in rw same refl
