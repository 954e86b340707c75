-- Facts that depend on how a call ended.
use Rattle.std.proofs.Common.{◌⊎◌, Result, Ok, Err, OnOk, OnErr, inl, inr}

pub on_ok : {T E : Type 0} (P Q : Type 0) (r : Result T E) → (P → Q) → OnOk r P → OnOk r Q
on_ok P Q (Ok x) f p = f p
on_ok P Q (Err e) f p = tt

pub on_err : {T E : Type 0} (P Q : Type 0) (r : Result T E) → (P → Q) → OnErr r P → OnErr r Q
on_err P Q (Ok x) f p = tt
on_err P Q (Err e) f p = f p

pub second : (A B C : Type 0) → (B → C) → A ⊎ B → A ⊎ C
second A B C f (inl a) = inl a
second A B C f (inr b) = inr (f b)

-- in either case it was done, or not at all
pub settled : {T E : Type 0} (A B : Type 0) (r : Result T E) → OnOk r B → OnErr r (A ⊎ B) → A ⊎ B
settled A B (Ok x) made left = inr made
settled A B (Err e) made left = left
