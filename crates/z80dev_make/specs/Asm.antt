-- What `asm` answers for a source after a front.
use Rattle.std.specs.Prelude.{◌≡◌, Bool, [], ◌∷◌, ◌++◌, None, Result, Ok, Err}
use Rattle.asm_module.specs.declared.fault.AsmFault.{AsmFault}
use Rattle.asm_module.specs.Assembled.{Assembled, Assembles, HasCause}
use Rattle.zmo_object.specs.Modules.{Module}
use Rattle.zmo_object.specs.Texts.{module_text}
use Rattle.report_texts.specs.Front.{front_text, source_fault_text}
use Rattle.report_texts.specs.Shared.{UnlessFaulty}
use Rattle.host.specs.declared.answer.Kind.TheVariants as kind
use Rattle.report_texts.specs.declared.front.SourceFile.{SourceFile}
use Rattle.report_texts.specs.declared.front.Front.{Front}
use Rattle.host.specs.Answers.{Answer, nothing}

-- the object file of a module
abbrev pub object_answer : Module → Answer
object_answer m = record { files = (kind.Object, module_text m) ∷ []; printed = []; said = None }

-- the object file of the source's module, or its first error
abbrev pub asm_answer : Front → SourceFile → Result Assembled AsmFault → Answer
asm_answer front file (Ok a) = object_answer a.holds
asm_answer front file (Err fault) = nothing (source_fault_text front file.path.now fault)

-- The answer is that of assembling the source after the text of the front. Its name is its path.
abbrev pub IsAsmBehind : Front → SourceFile → Bool → Answer → Type 0
IsAsmBehind front file grow answer = (result : Result Assembled AsmFault) × HasCause result
    × Assembles file.path.now (front_text front ++ file.text.now) grow result × (answer ≡ asm_answer front file result)

-- The answer is the first error of the front; or if it has none, that of assembling the source after it.
abbrev pub IsAsm : Front → SourceFile → Bool → Answer → Type 0
IsAsm front file grow answer = UnlessFaulty front (λ said. answer ≡ nothing said) (IsAsmBehind front file grow answer)
