use Rattle.std.proofs.Common.{◌≡◌, ap, length, map, refl, List, [], ◌∷◌}
use Rattle.std.specs.List.{AllZip}
use native.Mathlib.Omega.{arith}
use Rattle.zmo_object.specs.Modules.{module_of}
use Rattle.source_warnings.specs.Jumps.Warnings.{all_warnings}
use Rattle.zlink.specs.Program.Faults.{first_fault}
use Rattle.z80dev_make.specs.Warned.{IsGivenAs, built_sources, found_unless, joined}
use Rattle.link_errors.specs.Counts.{warning_count}
use Rattle.link_errors.proofs.warned.warnings_of.Goals as goal

same_length : {A B : Type 0} (K : A → B → Type 0) (xs : List A) (ys : List B) → AllZip K xs ys → length ys ≡ length xs
same_length K [] [] zipped = refl
same_length K [] (y ∷ ys) zipped = absurd zipped
same_length K (x ∷ xs) [] zipped = absurd zipped
same_length K (x ∷ xs) (y ∷ ys) zipped = let e = same_length K xs ys zipped.1 in omega (arith, e)

pub returns : goal.returns
returns c =
    let built = c.args.built.now in
    let modules = map module_of built.modules.items in
    let wanted = found_unless (first_fault modules) (all_warnings (joined modules)) in
    let given = c.in_ok-warnings.warnings.items in
    let counted : length given ≡ warning_count built = same_length (IsGivenAs (built_sources c.args.sources.now.front c.args.sources.now.files.now built)) wanted given c.in_ok-warnings.ensures in
    omega (arith, c.in_ok-reports.ensures, ap length c.deref.ensures.value, counted)
