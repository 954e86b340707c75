-- Files whose paths may be given, and ends that are passed on.
use Rattle.std.proofs.Common.{◌≡◌, ℕ, Bor, List, Option, Some, Result, Ok, Err, Vec, refl, subst, sym}
use Rattle.std.specs.Global.{Global}
use Rattle.std.specs.Result.{IsErrAnd}
use Rattle.host.specs.declared.end.End.{End}
use Rattle.z80dev_jobs.specs.Runs.Telling.{IsFileIfGiven}

-- a file that is wanted has these bytes
pub wanted : (Is : List ℕ → Type 0) (given : Option (Bor (List ℕ))) (path : Bor (List ℕ)) (text : Vec ℕ Global) → given ≡ Some path → Is text.items → IsFileIfGiven Is given (Some text)
wanted Is given path text is holds = subst (λ g. IsFileIfGiven Is g (Some text)) (sym is) (text, refl, holds)

-- an end that is passed on
pub passed_on : {X : Type 0} (Is : Result X End → Type 0) (e : End) (result : Result X End) → IsErrAnd result (λ f. f ≡ e) → Is (Err e) → Is result
passed_on Is e (Ok x) same is = absurd same
passed_on Is e (Err f) same is = subst (λ g. Is (Err g)) (sym same) is
