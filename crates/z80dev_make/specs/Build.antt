-- What `build` answers for sources after a front.
use Rattle.std.specs.Prelude.{◌≡◌, ◌⊎◌, ℕ, Bool, List, [], ◌∷◌, ◌++◌, None, Some, Option, Result, Ok, Err, codes, decimal, map, slice_get}
use Rattle.std.specs.List.{AllZip, flat_map}
use Rattle.zlink.specs.declared.building.Built.{Built}
use Rattle.zlink.specs.declared.fault.BuildFault.{BuildFault}
use Rattle.zlink.specs.declared.fault.BuildFault.TheVariants as build
use Rattle.zlink.specs.declared.origins.Origin.{Origin}
use Rattle.zlink.specs.declared.source.Source.{Source}
use Rattle.zlink.specs.Built.{IsBuilt, IsExactBuild}
use Rattle.zlink.specs.Linked.{symbol_of}
use Rattle.program_map.specs.Listings.Listing.{listing}
use Rattle.program_map.specs.Listings.Symbols.{symbols}
use Rattle.report_texts.specs.Front.{path_at, source_fault_text}
use Rattle.report_texts.specs.Shared.{UnlessFaulty}
use Rattle.report_texts.specs.declared.front.Front.{Front}
use Rattle.host.specs.declared.answer.Kind.{Kind}
use Rattle.report_texts.specs.declared.front.SourceFile.{SourceFile}
use Rattle.host.specs.Answers.{Answer, nothing}
use Rattle.z80dev_make.specs.declared.jumps.Jumps.{Jumps}
use Rattle.z80dev_make.specs.Jumps.{jumps_of}
use Rattle.report_texts.specs.Behind.{HasOwnLines, IsBehind, IsSource}
use Rattle.z80dev_make.specs.Answers.{no_program, program_files}
use Rattle.z80dev_make.specs.Products.{IsMapText, listing_files, map_files, symbol_files}
use Rattle.z80dev_make.specs.declared.products.Products.{Products}

-- the line that says where a jump is that was written as JR and had to grow
abbrev pub grown_text : List ℕ → ℕ → List ℕ
grown_text path line = codes "grown " ++ path ++ codes "(" ++ decimal line ++ codes ")"

abbrev pub line_from : List SourceFile → Option Origin → List ℕ
line_from files None = []
line_from files (Some from) = grown_text (path_at files from.source) from.line ++ 10 ∷ []

-- these lines for all jumps that grew, in their order, given the origins of statements
abbrev pub grown_lines : List SourceFile → List Origin → List ℕ → List ℕ
grown_lines files origins grown = flat_map (λ k. line_from files (slice_get origins k)) grown

-- the files of a program with those that were asked for besides, given the text of its map
abbrev pub built_files : Products → List Source → Built → List ℕ → List (Kind × List ℕ)
built_files products sources b mapped = program_files b.sizes.items b.cert.items b.com.items ++ listing_files products.list (listing b sources)
    ++ symbol_files products.list products.symbols (symbols b) (map symbol_of b.symbols.items) ++ map_files products.«map» mapped

-- the files of a program, whose listing shows the sources without the front
abbrev pub built_answer : Products → List SourceFile → List Source → Built → List ℕ → Answer
built_answer products files sources own mapped = record { files = built_files products sources own mapped; printed = grown_lines files own.statements.items own.grown.items; said = None }

-- what is answered, given the result of building the sources after the front
abbrev pub IsAnswerOf : Front → Bool → Products → List SourceFile → List Source → List Source → Result Built BuildFault → Answer → Type 0
IsAnswerOf front grow products files behind sources (Ok b) answer =
    (own : Built) × HasOwnLines front b own × (mapped : List ℕ) × IsMapText products.«map» grow behind b mapped × (answer ≡ built_answer products files sources own mapped)
IsAnswerOf front grow products files behind sources (Err (build.Asm number fault)) answer = answer ≡ nothing (source_fault_text front (path_at files number) fault)
IsAnswerOf front grow products files behind sources (Err (build.Link fault)) answer = answer ≡ no_program fault

-- This is answered for building the sources after the text of the front, and these are the jumps of the program.
pub record IsBuild (front : Front) (files : List SourceFile) (grow : Bool) (products : Products) (answer : Answer) (jumps : Option Jumps) : Type 0 where
  pub behind : List Source
  pub named : AllZip (IsBehind front) files behind
  pub result : Result Built BuildFault
  pub built : IsBuilt grow behind result
  pub exact : IsExactBuild grow behind result
  pub sources : List Source
  pub alone : AllZip IsSource files sources
  pub answers : IsAnswerOf front grow products files behind sources result answer
  pub counted : jumps ≡ jumps_of result

-- Only this is reported.
abbrev pub IsRefusal : List ℕ → Answer → Option Jumps → Type 0
IsRefusal said answer jumps = (answer ≡ nothing said) × (jumps ≡ None)

-- The answer is the first error of the front; or if it has none, that of building the sources after it; or memory ran out.
abbrev pub IsMade : Front → List SourceFile → Bool → Products → Answer → Option Jumps → Type 0
IsMade front files grow products answer jumps = IsRefusal (codes "NoMemory") answer jumps
    ⊎ UnlessFaulty front (λ said. IsRefusal said answer jumps) (IsBuild front files grow products answer jumps)
