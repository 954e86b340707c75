-- Events one after the other.
use Rattle.std.proofs.Common.{◌≡◌, ◌⊎◌, ℕ, List, [], ◌∷◌, ◌++◌, map, refl, ap, sym, ◌∙◌, inl, inr, arith, append_assoc}
use Rattle.std.proofs.KnownBytes.{Appends-nil, Appends-trans}
use Rattle.cpm_console.specs.Dialog.{Dialog, Event, Passes, Put, Took, put_by, taken_by}
use Rattle.host.specs.Streams.Stream.{counted}
use Rattle.cpm_console.specs.Screen.{Screen, Does, Stops, column_after}

taken-append : (x y : List Event) → taken_by (x ++ y) ≡ taken_by x ++ taken_by y
taken-append [] y = refl
taken-append (Took b ∷ x) y = ap (λ bs. b ∷ bs) (taken-append x y)
taken-append (Put b ∷ x) y = taken-append x y

put_by-append : (x y : List Event) → put_by (x ++ y) ≡ put_by x ++ put_by y
put_by-append [] y = refl
put_by-append (Took b ∷ x) y = put_by-append x y
put_by-append (Put b ∷ x) y = ap (λ bs. b ∷ bs) (put_by-append x y)

pub taken-puts : (bytes : List ℕ) → taken_by (map Put bytes) ≡ []
taken-puts [] = refl
taken-puts (b ∷ bytes) = taken-puts bytes

pub put_by-puts : (bytes : List ℕ) → put_by (map Put bytes) ≡ bytes
put_by-puts [] = refl
put_by-puts (b ∷ bytes) = ap (λ bs. b ∷ bs) (put_by-puts bytes)

pub column_after-append : (x : List ℕ) (column : ℕ) (y : List ℕ) → column_after column (x ++ y) ≡ column_after (column_after column x) y
column_after-append [] column y = refl
column_after-append (b ∷ x) column y = column_after-append x _ y

passes-nothing : (a : Dialog) → Passes a a []
passes-nothing a = record { input = refl; output = Appends-nil a.output }

pub passes-then : (a b c : Dialog) (x y : List Event) → Passes a b x → Passes b c y → Passes a c (x ++ y)
passes-then a b c x y first second = record {
  input = first.input ∙ ap (λ bs. taken_by x ++ bs) second.input ∙ sym (append_assoc (taken_by x) (taken_by y) c.input) ∙ ap (λ bs. bs ++ c.input) (sym (taken-append x y));
  output = rw (put_by-append x y) (Appends-trans a.output b.output c.output (put_by x) (put_by y) first.output second.output);
}

pub does-nothing : (a : Screen) → Does a a []
does-nothing a = record { passed = passes-nothing a.dialog; unfailed = refl; column = refl }

pub does-then : (a b c : Screen) (x y : List Event) → Does a b x → Does b c y → Does a c (x ++ y)
does-then a b c x y first second = record {
  passed = passes-then a.dialog b.dialog c.dialog x y first.passed second.passed;
  unfailed = second.unfailed ∙ first.unfailed;
  column = second.column ∙ ap (λ k. column_after k (put_by y)) first.column ∙ sym (column_after-append (put_by x) a.column (put_by y)) ∙ ap (column_after a.column) (sym (put_by-append x y));
}

pub stops-after : (a b c : Screen) (x y : List Event) → Does a b x → Stops b c y → Stops a c (x ++ y)
stops-after a b c x y first second = record {
  done = x ++ second.done;
  failed = second.failed;
  rest = second.rest;
  front = ap (λ es. x ++ es) second.front ∙ sym (append_assoc x second.done _);
  one = second.one;
  passed = rw (append_assoc x second.done (map Put second.failed)) (passes-then a.dialog b.dialog c.dialog x _ first.passed second.passed);
  column = second.column ∙ ap (λ k. column_after k (put_by second.done)) first.column ∙ sym (column_after-append (put_by x) a.column (put_by second.done)) ∙ ap (column_after a.column) (sym (put_by-append x second.done));
  fault = second.fault ∙ ap counted first.unfailed;
}

pub stops-before : (a b : Screen) (x y : List Event) → Stops a b x → Stops a b (x ++ y)
stops-before a b x y stopped = record {
  done = stopped.done;
  failed = stopped.failed;
  rest = stopped.rest ++ y;
  front = ap (λ es. es ++ y) stopped.front ∙ append_assoc stopped.done _ y ∙ ap (λ es. stopped.done ++ es) (append_assoc (map Put stopped.failed) stopped.rest y);
  one = stopped.one;
  passed = stopped.passed;
  column = stopped.column;
  fault = stopped.fault;
}

-- a byte whose put failed
pub failed_put : (a b : Screen) (byte : ℕ) → b.dialog.faults ≡ counted a.dialog.faults → b.column ≡ a.column
    → Passes a.dialog b.dialog [] ⊎ Passes a.dialog b.dialog (Put byte ∷ []) → Stops a b (Put byte ∷ [])
failed_put a b byte fault column (inl none) = record { done = []; failed = []; rest = Put byte ∷ []; front = refl; one = omega arith; passed = none; column = column; fault = fault }
failed_put a b byte fault column (inr one) = record { done = []; failed = byte ∷ []; rest = []; front = refl; one = omega arith; passed = one; column = column; fault = fault }
