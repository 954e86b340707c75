-- What commands answer: the files to write, the lines to print after that, and the text of a refusal.
use Rattle.std.specs.Prelude.{◌≡◌, ◌⊎◌, ℕ, List, [], Option, Some, codes, map}
use Rattle.std.specs.Option.{option_map}
use Rattle.host.specs.declared.answer.Answer as made
use Rattle.host.specs.declared.answer.Kind.{Kind}
use Rattle.host.specs.declared.answer.Kind.TheVariants as kind
use Rattle.host.specs.declared.answer.NewFile.{NewFile}

-- what is added to the path that the user gave
abbrev pub ending : Kind → List ℕ
ending kind.Object = codes ".zmo"
ending kind.Sizes = codes ".siz"
ending kind.Certificate = codes ".crt"
ending kind.Com = codes ".com"
ending kind.Listing = codes ".lst"
ending kind.Symbols = codes ".sym"
ending kind.Ucsim = codes ".ucsim"
ending kind.Map = codes ".map"
ending kind.Given = []

-- files by their kinds, in the order in which they are written; the bytes for standard output; the text of a refusal, for standard error
pub record Answer : Type 0 where
  pub files : List (Kind × List ℕ)
  pub printed : List ℕ
  pub said : Option (List ℕ)

abbrev pub file_of : NewFile → Kind × List ℕ
file_of f = (f.kind, f.bytes.items)

-- what the code's types hold, where this is the text of a refusal
abbrev pub answer_by : {R : Type 0} → (R → List ℕ) → made.Answer R → Answer
answer_by text a = record { files = map file_of a.files.items; printed = a.printed.items; said = option_map text a.refusal }

-- Nothing is made.
abbrev pub nothing : List ℕ → Answer
nothing text = record { files = []; printed = []; said = Some text }

-- The answer is one of these, or memory ran out.
abbrev pub MemoryAside : (Answer → Type 0) → Answer → Type 0
MemoryAside Is answer = (answer ≡ nothing (codes "NoMemory")) ⊎ Is answer
