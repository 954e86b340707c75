-- The modules and the lines of a program, as its warnings show them.
use Rattle.std.proofs.Common.{◌≡◌, ◌⊎◌, inl, inr, ◌+◌, ℕ, List, [], ◌∷◌, Vec, length, map, refl, sym, ap, ◌∙◌}
use Rattle.std.specs.Global.{Global}
use Rattle.std.specs.List.{AllZip, zip}
use Rattle.zmo_object.specs.Modules.{module_of, statement_of}
use Rattle.zmo_object.specs.declared.module.Module as held
use Rattle.zlink.specs.Program.Parts.{Publics, parts_from}
use Rattle.zlink.specs.Program.Whole.{IsLinks, public_statement}
use Rattle.zlink.specs.declared.program.joining.Links.{Links}
use Rattle.asm_module.specs.Assembled.{Assembled}
use Rattle.asm_module.specs.declared.assembling.Lines as listing
use mathlib.Core.List.{map-map}
use Rattle.report_texts.specs.declared.front.SourceFile.{SourceFile}
use Rattle.report_texts.specs.declared.front.Front.{Front}
use Rattle.report_texts.specs.Front.{earlier, front_lines}
use Rattle.z80dev_make.specs.Warned.{built_source, source_shown}
use Rattle.z80dev_make.specs.Private.Shown.{member_with, shown_in}

-- The lines of modules by their own numbers are those of the assembled sources.
pub each_own : (n : ℕ) (lines : List listing.Lines) (all : List Assembled) → map (λ l. l.each.items) lines ≡ map (λ a. a.each) all
    → map (λ l. map (earlier n) l.each.items) lines ≡ map (λ a. map (earlier n) a.each) all
each_own n lines all same =
    sym (map-map (map (earlier n)) (λ l. l.each.items) lines) ∙ ap (map (map (earlier n))) same ∙ map-map (map (earlier n)) (λ a. a.each) all

-- the links of modules say what their externals stand for
pub members : (publics : Publics) (number base : ℕ) (modules : List held.Module) (links : List Links) → AllZip (IsLinks publics) (parts_from number base (map module_of modules)) links
    → map member_with (zip modules links) ≡ map (λ p. record { holds = p.holds; externals = map (public_statement publics) p.holds.externals }) (parts_from number base (map module_of modules))
members publics number base [] links all = refl
members publics number base (m ∷ modules) [] all = absurd all
members publics number base (m ∷ modules) (l ∷ links) all =
    ap (λ e. record { holds = module_of m; externals = e } ∷ map member_with (zip modules links)) all.0.externals
    ∙ ap (λ t. record { holds = module_of m; externals = map (public_statement publics) (map (λ name. name.items) m.externals.items) } ∷ t)
    (members publics (number + 1) (base + length (map statement_of m.statements.items)) modules links all.1)

-- the sources as warnings show them, from the modules and lines of the code
pub all_shown : (front : Front) (files : List SourceFile) (modules : List held.Module) (lines : List (Vec ℕ Global)) (all : List Assembled) → map module_of modules ≡ map (λ a. a.holds) all
    → map (λ l. l.items) lines ≡ map (λ a. map (earlier (front_lines front)) a.each) all → map shown_in (zip files (zip lines modules)) ≡ map (source_shown front) (zip files all)
all_shown front [] modules lines all ms ls = refl
all_shown front (f ∷ files) [] [] [] ms ls = refl
all_shown front (f ∷ files) [] [] (a ∷ all) ms ls = cc
all_shown front (f ∷ files) [] (l ∷ lines) [] ms ls = cc
all_shown front (f ∷ files) [] (l ∷ lines) (a ∷ all) ms ls = cc
all_shown front (f ∷ files) (m ∷ modules) [] [] ms ls = cc
all_shown front (f ∷ files) (m ∷ modules) [] (a ∷ all) ms ls = cc
all_shown front (f ∷ files) (m ∷ modules) (l ∷ lines) [] ms ls = cc
all_shown front (f ∷ files) (m ∷ modules) (l ∷ lines) (a ∷ all) ms ls =
    let m0 : module_of m ≡ a.holds = cc in
    let l0 : l.items ≡ map (earlier (front_lines front)) a.each = cc in
    let more : map module_of modules ≡ map (λ x. x.holds) all = cc in
    let rest : map (λ x. x.items) lines ≡ map (λ x. map (earlier (front_lines front)) x.each) all = cc in
    ap (λ h. record { path = f.path.now; lines = l.items; holds = h } ∷ map shown_in (zip files (zip lines modules))) m0
    ∙ ap (λ n. record { path = f.path.now; lines = n; holds = a.holds } ∷ map shown_in (zip files (zip lines modules))) l0
    ∙ ap (λ t. source_shown front (f, a) ∷ t) (all_shown front files modules lines all more rest)

zip_nothing : {A B : Type 0} (xs : List A) → zip {K = A} {X = B} xs [] ≡ []
zip_nothing [] = refl
zip_nothing (x ∷ xs) = refl

-- no lines or no modules are left
pub none_left : (files : List SourceFile) (lines : List (Vec ℕ Global)) (modules : List held.Module) → (lines ≡ []) ⊎ (modules ≡ []) → map shown_in (zip files (zip lines modules)) ≡ []
none_left files lines modules (inl none) = ap (λ ls. map shown_in (zip files (zip ls modules))) none ∙ ap (map shown_in) (zip_nothing files)
none_left files lines modules (inr none) = ap (λ ms. map shown_in (zip files (zip lines ms))) none ∙ ap (λ both. map shown_in (zip files both)) (zip_nothing lines) ∙ ap (map shown_in) (zip_nothing files)

-- the sources of a program that was built after a front, as warnings show them, from the own lines of its modules
pub all_built : (front : Front) (files : List SourceFile) (own : List (Vec ℕ Global)) (lines : List listing.Lines) (modules : List held.Module)
    → map (λ o. o.items) own ≡ map (λ l. map (earlier (front_lines front)) l.each.items) lines
    → map shown_in (zip files (zip own modules)) ≡ map (built_source front) (zip files (zip lines modules))
all_built front [] own lines modules same = refl
all_built front (f ∷ files) [] [] modules same = refl
all_built front (f ∷ files) [] (l ∷ lines) modules same = cc
all_built front (f ∷ files) (o ∷ own) [] modules same = cc
all_built front (f ∷ files) (o ∷ own) (l ∷ lines) [] same = refl
all_built front (f ∷ files) (o ∷ own) (l ∷ lines) (m ∷ modules) same =
    let one : o.items ≡ map (earlier (front_lines front)) l.each.items = cc in
    let rest : map (λ x. x.items) own ≡ map (λ x. map (earlier (front_lines front)) x.each.items) lines = cc in
    ap (λ n. record { path = f.path.now; lines = n; holds = module_of m } ∷ map shown_in (zip files (zip own modules))) one
    ∙ ap (λ t. built_source front (f, (l, m)) ∷ t) (all_built front files own lines modules rest)
