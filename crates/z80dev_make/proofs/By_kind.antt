-- The kinds of the files that commands answer.
use Rattle.std.proofs.Common.{◌≡◌, ◌∙◌, ◌++◌, inl, inr, ℕ, Bool, true, false, List, [], ◌∷◌, Option, None, Some, Result, Ok, Err, ap, length, map, refl, sym, take}
use Rattle.std.proofs.lemmas.List.{map-append}
use Rattle.std.proofs.Math.Seq.{take-length}
use Rattle.zlink.specs.Linked.{Symbol}
use Rattle.zmo_object.specs.Modules.{Module}
use Rattle.asm_module.specs.Assembled.{Assembled}
use Rattle.zlink.specs.Types.{AsmFault}
use Rattle.zlink.specs.declared.building.Built.{Built}
use Rattle.zlink.specs.declared.fault.BuildFault.{BuildFault}
use Rattle.zlink.specs.declared.fault.BuildFault.TheVariants as build
use Rattle.zlink.specs.declared.fault.LinkFault.{LinkFault}
use Rattle.zlink.specs.declared.fault.LinkFault.TheVariants as link
use Rattle.zlink.specs.declared.linking.Linked.{Linked}
use Rattle.zlink.specs.declared.source.Source.{Source}
use Rattle.host.specs.Answers.{Answer, MemoryAside, nothing}
use Rattle.host.specs.declared.answer.Kind.{Kind}
use Rattle.host.specs.declared.answer.Kind.TheVariants as kind
use Rattle.report_texts.specs.declared.front.SourceFile.{SourceFile}
use Rattle.report_texts.specs.declared.front.Front.{Front}
use Rattle.z80dev_make.specs.declared.jumps.Jumps.{Jumps}
use Rattle.program_map.specs.declared.symbol_files.form.SymbolForm.{SymbolForm}
use Rattle.z80dev_make.specs.Answers.{HasKinds, kinds_of, no_program}
use Rattle.z80dev_make.specs.Products.{listing_files, listing_kinds, map_files, map_kinds, program_kinds, symbol_files, symbol_kinds}
use Rattle.z80dev_make.specs.declared.products.Products.{Products}
use Rattle.z80dev_make.specs.Asm.{IsAsm, asm_answer}
use Rattle.z80dev_make.specs.Build.{IsAnswerOf, IsMade}
use Rattle.z80dev_make.specs.Link.{IsLink, link_answer}

none_written : (kinds : List Kind) (answer : Answer) (text : List ℕ) → answer ≡ nothing text → HasKinds kinds answer
none_written kinds answer text is = (0, ap kinds_of is)

without_program : (products : Products) (fault : LinkFault) (answer : Answer) → answer ≡ no_program fault → HasKinds (program_kinds products) answer
without_program products (link.NoFit why sizes cert) answer is = (2, ap kinds_of is)
without_program products link.TooManyStatements answer is = (0, ap kinds_of is)
without_program products (link.BeginsNotFirst m) answer is = (0, ap kinds_of is)
without_program products (link.DefinedTwice m l) answer is = (0, ap kinds_of is)
without_program products (link.Unresolved m x) answer is = (0, ap kinds_of is)
without_program products (link.EntryNotFirst m) answer is = (0, ap kinds_of is)
without_program products link.NoMemory answer is = (0, ap kinds_of is)

asm_kinds : (front : Front) (file : SourceFile) (result : Result Assembled AsmFault) (answer : Answer) → answer ≡ asm_answer front file result → HasKinds (kind.Object ∷ []) answer
asm_kinds front file (Ok a) answer is = (1, ap kinds_of is)
asm_kinds front file (Err fault) answer is = (0, ap kinds_of is)

pub of_asm : (front : Front) (file : SourceFile) (grow : Bool) (answer : Answer) → MemoryAside (IsAsm front file grow) answer → HasKinds (kind.Object ∷ []) answer
of_asm front file grow answer (inl none) = none_written _ answer _ none
of_asm front file grow answer (inr (None, why, made)) = asm_kinds front file made.0 answer made.3
of_asm front file grow answer (inr (Some said, why, made)) = none_written _ answer said made

listing_of : (list : Bool) (text : List ℕ) → map (λ f. f.0) (listing_files list text) ≡ listing_kinds list
listing_of true text = refl
listing_of false text = refl

symbols_of : (list : Bool) (form : Option SymbolForm) (plain : List ℕ) (labels : List Symbol) → map (λ f. f.0) (symbol_files list form plain labels) ≡ symbol_kinds list form
symbols_of true (Some SymbolForm.Sid) plain labels = refl
symbols_of false (Some SymbolForm.Sid) plain labels = refl
symbols_of true (Some SymbolForm.Ucsim) plain labels = refl
symbols_of false (Some SymbolForm.Ucsim) plain labels = refl
symbols_of true None plain labels = refl
symbols_of false None plain labels = refl

map_of : (wanted : Bool) (text : List ℕ) → map (λ f. f.0) (map_files wanted text) ≡ map_kinds wanted
map_of true text = refl
map_of false text = refl

-- the kinds of what is made besides the program
more_of : (list : Bool) (form : Option SymbolForm) (wanted : Bool) (text plain mapped : List ℕ) (labels : List Symbol)
    → map (λ f. f.0) (listing_files list text ++ symbol_files list form plain labels ++ map_files wanted mapped) ≡ listing_kinds list ++ symbol_kinds list form ++ map_kinds wanted
more_of list form wanted text plain mapped labels =
    map-append (λ f. f.0) (listing_files list text ++ symbol_files list form plain labels) (map_files wanted mapped)
    ∙ ap (λ ks. ks ++ map (λ f. f.0) (map_files wanted mapped)) (map-append (λ f. f.0) (listing_files list text) (symbol_files list form plain labels)
    ∙ ap (λ ks. ks ++ map (λ f. f.0) (symbol_files list form plain labels)) (listing_of list text) ∙ ap (λ ks. listing_kinds list ++ ks) (symbols_of list form plain labels))
    ∙ ap (λ ks. listing_kinds list ++ symbol_kinds list form ++ ks) (map_of wanted mapped)

all_of_them : (kinds : List Kind) → kinds ≡ take (length kinds) kinds
all_of_them kinds = sym (take-length kinds)

linked_kinds : (products : Products) (modules : List Module) (result : Result Linked LinkFault) (answer : Answer) → products.list ≡ false → answer ≡ link_answer products modules result → HasKinds (program_kinds products) answer
linked_kinds products modules (Ok l) answer unlisted is = (
  length (program_kinds products),
  ap kinds_of is
      ∙ ap (λ ks. kind.Sizes ∷ kind.Certificate ∷ kind.Com ∷ ks) (more_of false products.symbols products.«map» [] [] _ _)
      ∙ ap (λ list. kind.Sizes ∷ kind.Certificate ∷ kind.Com ∷ listing_kinds list ++ symbol_kinds list products.symbols ++ map_kinds products.«map») (sym unlisted) ∙ all_of_them (program_kinds products),
)
linked_kinds products modules (Err fault) answer unlisted is = without_program products fault answer is

pub of_link : (products : Products) (objects : List (List ℕ)) (answer : Answer) → products.list ≡ false → MemoryAside (IsLink products objects) answer → HasKinds (program_kinds products) answer
of_link products objects answer unlisted (inl none) = none_written _ answer _ none
of_link products objects answer unlisted (inr (inl made)) = linked_kinds products made.modules made.result answer unlisted made.answers
of_link products objects answer unlisted (inr (inr (fault, first, is))) = none_written _ answer _ is

built_kinds : (front : Front) (grow : Bool) (products : Products) (files : List SourceFile) (behind sources : List Source) (result : Result Built BuildFault) (answer : Answer)
    → IsAnswerOf front grow products files behind sources result answer → HasKinds (program_kinds products) answer
built_kinds front grow products files behind sources (Ok b) answer made = (
  length (program_kinds products),
  ap kinds_of made.4
      ∙ ap (λ ks. kind.Sizes ∷ kind.Certificate ∷ kind.Com ∷ ks) (more_of products.list products.symbols products.«map» _ _ _ _) ∙ all_of_them (program_kinds products),
)
built_kinds front grow products files behind sources (Err (build.Asm number fault)) answer is = (0, ap kinds_of is)
built_kinds front grow products files behind sources (Err (build.Link fault)) answer is = without_program products fault answer is

pub of_build : (front : Front) (files : List SourceFile) (grow : Bool) (products : Products) (answer : Answer) (jumps : Option Jumps) → IsMade front files grow products answer jumps → HasKinds (program_kinds products) answer
of_build front files grow products answer jumps (inl refused) = none_written _ answer _ refused.0
of_build front files grow products answer jumps (inr (None, why, made)) = built_kinds front grow products files made.behind made.sources made.result answer made.answers
of_build front files grow products answer jumps (inr (Some said, why, refused)) = none_written _ answer said refused.0
