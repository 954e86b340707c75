-- Files whose paths may be given.
use Rattle.std.proofs.Common.{◌≡◌, ℕ, Bor, List, Option, Some, Vec, refl, subst, sym}
use Rattle.std.specs.Global.{Global}
use Rattle.host.specs.Files.{Folder}
use Rattle.host.specs.Reading.{IsRead, IsReadIfGiven}

pub read_given : (folder : Folder) (given : Option (Bor (List ℕ))) (path : Bor (List ℕ)) (text : Vec ℕ Global) → given ≡ Some path → IsRead folder path.now text.items → IsReadIfGiven folder given (Some text)
read_given folder given path text is read = subst (λ g. IsReadIfGiven folder g (Some text)) (sym is) (text, refl, read)
