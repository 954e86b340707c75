-- The object files of modules are read as these modules.
use Rattle.std.proofs.Common.{◌≡◌, suc, List, [], ◌∷◌, Result, Ok, All, map, refl, sym, ap, ◌∙◌, arith}
use Rattle.std.specs.List.{AllZip}
use Rattle.zmo_object.specs.Modules.{Module}
use Rattle.zmo_object.specs.Rules.{IsModule}
use Rattle.zmo_object.specs.declared.fault.ObjectFault.{ObjectFault}
use Rattle.zmo_object.specs.Reading.{read_of}
use Rattle.zmo_object.specs.Texts.{module_text}
use Rattle.z80dev_make.specs.Link.{IsObject}

pub read_again : ((m : Module) → IsModule m → read_of (module_text m) ≡ Ok m) → (modules read : List Module) → All IsModule modules → AllZip IsObject (map module_text modules) read → read ≡ modules
read_again law [] [] rules are = refl
read_again law [] (x ∷ xs) rules are = absurd are
read_again law (m ∷ ms) [] rules are = absurd are
read_again law (m ∷ ms) (x ∷ xs) rules are =
    let answers : ◌≡◌ {A = Result Module ObjectFault} (Ok x) (Ok m) = sym are.0 ∙ law m (rules 0 m (omega arith)) in
    let same : x ≡ m = cc in
    ap (λ y. y ∷ xs) same ∙ ap (λ ys. m ∷ ys) (read_again law ms xs (λ i d lt. rules (suc i) d (omega arith)) are.1)
