-- The warnings of a program that was built.
use Rattle.std.proofs.Common.{◌≡◌, ◌∙◌, ℕ, Bool, List, [], ◌∷◌, All, Ok, map, subst, sym}
use Rattle.std.specs.List.{AllZip}
use mathlib.Core.List.{map-map}
use Rattle.asm_module.specs.Assembled.{Assembled, Assembles}
use Rattle.zmo_object.specs.Modules.{module_of}
use Rattle.zmo_object.specs.Rules.{IsModule}
use Rattle.zlink.specs.Built.{IsBuilt}
use Rattle.zlink.specs.Sources.{AreAssembled, Assembly}
use Rattle.zlink.specs.declared.building.Built.{Built}
use Rattle.zlink.specs.declared.source.Source.{Source}
use Rattle.report_texts.specs.Behind.{IsBehind}
use Rattle.z80dev_make.specs.Warned.{IsAssembledBehind, IsWarnedProgram, build_warnings}
use Rattle.report_texts.specs.declared.front.SourceFile.{SourceFile}
use Rattle.report_texts.specs.declared.front.Front.{Front}

-- the modules of a program keep the rules of an object file
pub are_modules : (grow : Bool) (behind : List Source) (b : Built) → IsBuilt grow behind (Ok b) → All IsModule (map module_of b.modules.items)
are_modules grow behind b (assemblies, assembled, none, shapes, (order, is)) = subst (All IsModule) (sym is.modules) is.kept

-- a source that is assembled is a file after the text of the front
all_behind : (front : Front) (grow : Bool) (files : List SourceFile) (behind : List Source) (assemblies : List Assembly) → AllZip (IsBehind front) files behind → AreAssembled grow behind assemblies
    → AllZip (IsAssembledBehind front grow) files (map (λ a. a.assembled) assemblies)
all_behind front grow [] [] [] named assembled = tt
all_behind front grow [] [] (a ∷ assemblies) named assembled = absurd assembled
all_behind front grow [] (s ∷ behind) assemblies named assembled = absurd named
all_behind front grow (f ∷ files) [] assemblies named assembled = absurd named
all_behind front grow (f ∷ files) (s ∷ behind) [] named assembled = absurd assembled
all_behind front grow (f ∷ files) (s ∷ behind) (a ∷ assemblies) ((name, text), named) (is, assembled) =
    let by_name = subst (λ n. Assembles n s.text.now grow (Ok a.assembled)) name is.assembled in
    (subst (λ t. Assembles f.path.now t grow (Ok a.assembled)) text by_name, all_behind front grow files behind assemblies named assembled)

-- Lines that are right for all assembled sources are the warnings of the program.
pub warned_program : (front : Front) (grow : Bool) (files : List SourceFile) (behind : List Source) (b : Built) (lines : List ℕ) → AllZip (IsBehind front) files behind → IsBuilt grow behind (Ok b)
    → ((all : List Assembled) → map module_of b.modules.items ≡ map (λ a. a.holds) all → map (λ l. l.each.items) b.lines.items ≡ map (λ a. a.each) all → lines ≡ build_warnings front files all)
    → IsWarnedProgram front files grow lines
warned_program front grow files behind b lines named (assemblies, assembled, none, shapes, (order, is)) right =
    let all = map (λ a. a.assembled) assemblies in
    let holds = is.modules ∙ sym (map-map (λ a. a.holds) (λ x. x.assembled) assemblies) in
    let each = is.lines ∙ sym (map-map (λ a. a.each) (λ x. x.assembled) assemblies) in
    (all, all_behind front grow files behind assemblies named assembled, right all holds each)
