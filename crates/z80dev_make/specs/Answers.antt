-- What the commands that make programs answer.
use Rattle.std.specs.Prelude.{◌≡◌, ℕ, List, [], ◌∷◌, ◌++◌, Some, map, take}
use Rattle.zlink.specs.declared.fault.LinkFault.{LinkFault}
use Rattle.zlink.specs.declared.fault.LinkFault.TheVariants as link
use Rattle.report_texts.specs.declared.faults.refusal.Told.{Told}
use Rattle.report_texts.specs.Faults.Refusals.{misfit_text, of_link, program_refusal_text, told_text}
use Rattle.host.specs.Answers.{Answer, answer_by, nothing}
use Rattle.host.specs.declared.answer.Answer as made
use Rattle.host.specs.declared.answer.Kind.{Kind}
use Rattle.host.specs.declared.answer.Kind.TheVariants as kind

-- an answer of the code as definitions see it
abbrev pub answer_of : made.Answer Told → Answer
answer_of answer = answer_by told_text answer

abbrev pub refusal_answer : Told → Answer
refusal_answer told = nothing (told_text told)

-- the sizes file and the certificate of a program
abbrev pub text_files : List ℕ → List ℕ → List (Kind × List ℕ)
text_files sizes cert = (kind.Sizes, sizes) ∷ (kind.Certificate, cert) ∷ []

-- the sizes file, the certificate and the .COM file of a program
abbrev pub program_files : List ℕ → List ℕ → List ℕ → List (Kind × List ℕ)
program_files sizes cert file = text_files sizes cert ++ (kind.Com, file) ∷ []

abbrev pub kinds_of : Answer → List Kind
kinds_of answer = map (λ f. f.0) answer.files

-- The files to write are of these kinds, in this order, or they are only the first of them or none.
abbrev pub HasKinds : List Kind → Answer → Type 0
HasKinds kinds answer = (count : ℕ) × (kinds_of answer ≡ take count kinds)

-- what is answered if modules make no program; if no choice of jumps fits, the sizes file and the certificate are written all the same
abbrev pub no_program : LinkFault → Answer
no_program (link.NoFit why sizes cert) = record { files = text_files sizes.items cert.items; printed = []; said = Some (misfit_text why) }
no_program fault = nothing (program_refusal_text [] (of_link fault))
