-- What `link` answers for object files.
use Rattle.std.specs.Prelude.{◌≡◌, ◌⊎◌, ℕ, Bool, List, [], ◌++◌, false, Some, None, Result, Ok, Err, length, map, slice_get, take}
use Rattle.std.specs.Bool.{OnTrue}
use Rattle.std.specs.List.{AllZip}
use Rattle.zmo_object.specs.Modules.{Module}
use Rattle.zmo_object.specs.declared.fault.ObjectFault.{ObjectFault}
use Rattle.zmo_object.specs.Reading.{read_of}
use Rattle.zlink.specs.declared.fault.LinkFault.{LinkFault}
use Rattle.zlink.specs.declared.linking.Linked.{Linked}
use Rattle.zlink.specs.Linked.{IsExactLink, IsLinked, symbol_of}
use Rattle.report_texts.specs.Faults.Refusals.{object_text}
use Rattle.host.specs.Answers.{Answer, nothing}
use Rattle.host.specs.declared.answer.Kind.{Kind}
use Rattle.program_map.specs.Map.{program_map}
use Rattle.program_map.specs.Sums.{IsWholeMap}
use Rattle.program_map.specs.Text.{map_text}
use Rattle.z80dev_make.specs.Answers.{no_program, program_files}
use Rattle.z80dev_make.specs.Products.{map_files, symbol_files}
use Rattle.z80dev_make.specs.declared.products.Products.{Products}

-- the bytes are read as this module
abbrev pub IsObject : List ℕ → Module → Type 0
IsObject bytes m = read_of bytes ≡ Ok m

-- This is the error of the first of the object files that cannot be read.
pub record IsFirstFaultyObject (objects : List (List ℕ)) (fault : ObjectFault) : Type 0 where
  pub number : ℕ
  pub before : List Module
  pub good : AllZip IsObject (take number objects) before
  pub bytes : List ℕ
  pub there : slice_get objects number ≡ Some bytes
  pub faulty : read_of bytes ≡ Err fault

-- the files of a program that was linked of modules, with those that were asked for besides
abbrev pub linked_files : Products → List Module → Linked → List (Kind × List ℕ)
linked_files products modules l = program_files l.sizes.items l.cert.items l.com.items
    ++ symbol_files false products.symbols [] (map symbol_of l.symbols.items) ++ map_files products.«map» (map_text (program_map None l.places.items modules))

-- these files, or why there are none
abbrev pub link_answer : Products → List Module → Result Linked LinkFault → Answer
link_answer products modules (Ok l) = record { files = linked_files products modules l; printed = []; said = None }
link_answer products modules (Err fault) = no_program fault

-- If the map is wanted and there is a program, the figures of the map add up to the program's bytes.
abbrev pub IsWholeLink : Bool → List Module → Result Linked LinkFault → Type 0
IsWholeLink wanted modules (Ok l) = OnTrue wanted (IsWholeMap (length l.com.items) (program_map None l.places.items modules))
IsWholeLink wanted modules (Err fault) = Unit {0}

-- The object files are these modules, and this is what linking them answers.
pub record IsLinkOf (products : Products) (objects : List (List ℕ)) (answer : Answer) : Type 0 where
  pub modules : List Module
  pub read : AllZip IsObject objects modules
  pub result : Result Linked LinkFault
  pub linked : IsLinked modules result
  pub exact : IsExactLink modules result
  pub answers : answer ≡ link_answer products modules result
  pub whole : IsWholeLink products.«map» modules result

-- The answer is that of linking the object files, or the error of the first one that cannot be read.
abbrev pub IsLink : Products → List (List ℕ) → Answer → Type 0
IsLink products objects answer = IsLinkOf products objects answer ⊎ ((fault : ObjectFault) × IsFirstFaultyObject objects fault × (answer ≡ nothing (object_text fault)))
