-- What is built from a source that is the only one and named MAIN.
use Rattle.std.specs.Prelude.{◌≡◌, ℕ, false, List, [], ◌∷◌, ◌++◌, Result, Ok, Err, codes}
use Rattle.hex.specs.Hex.{encode_lower}
use Rattle.zlink.specs.declared.building.Built.{Built}
use Rattle.zlink.specs.declared.fault.LinkFault.TheVariants as link
use Rattle.zlink.specs.declared.fault.BuildFault.{BuildFault}
use Rattle.zlink.specs.declared.fault.BuildFault.TheVariants as build
use Rattle.zlink.specs.declared.source.Source.{Source}
use Rattle.zlink.specs.Built.{IsBuilt}
use Rattle.z80dev.specs.Reading.{IsWithinLimit}

-- the source has this text and the name MAIN
abbrev pub IsMain : List ℕ → Source → Type 0
IsMain text source = (source.name.now ≡ codes "MAIN") × (source.text.now ≡ text)

-- what `build` answers for it
abbrev pub IsBuiltAsMain : List ℕ → Result Built BuildFault → Type 0
IsBuiltAsMain text result = (source : Source) × IsMain text source × IsBuilt false (source ∷ []) result

-- this is the file that is built from the source
abbrev pub IsFileOf : List ℕ → List ℕ → Type 0
IsFileOf text file = (built : Built) × (built.com.items ≡ file) × IsBuiltAsMain text (Ok built)

-- the line of a file: its bytes in lower-case hexadecimal, and a line feed
abbrev pub file_line : List ℕ → List ℕ
file_line file = encode_lower file ++ 10 ∷ []

-- The source is within the limit and has a file, and Written holds of the line of this file.
abbrev pub WithFile : List ℕ → (List ℕ → Type 0) → Type 0
WithFile text Written = IsWithinLimit text × (file : List ℕ) × IsFileOf text file × Written (file_line file)

-- `build` refuses the source. Either it is within the limit, and this is its first error, or no choice of its jumps
-- fits; or memory ran out.
abbrev pub IsBuildRefused : List ℕ → BuildFault → Type 0
IsBuildRefused text (build.Link link.NoMemory) = Unit {0}
IsBuildRefused text refusal = IsWithinLimit text × IsBuiltAsMain text (Err refusal)
