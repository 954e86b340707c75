use Rattle.std.proofs.Common.{◌≡◌, ◌≤◌, ◌∙◌, List, ℕ, [], ◌∷◌, Bor, Err, ap, arith, length, map, refl, sym}
use Rattle.z80_cpu.specs.declared.registers.Cpu.{Cpu}
use Rattle.state_text.specs.Labelled.{Known}
use Rattle.debugger_commands.specs.Typed.{Refused, address_and_number, usage}
use Rattle.debugger_commands.specs.declared.verb.Verb.{Verb}
use Rattle.debugger_commands.proofs.command.address_and_number.Goals as goal

many : (known : Known) (cpu : Cpu) (verb : Verb) (default : ℕ) (words : List (Bor (List ℕ))) → 3 ≤ length words
    → address_and_number known cpu verb default (map (λ w. w.now) words) ≡ Err (usage verb)
many known cpu verb default [] low = absurd (omega arith)
many known cpu verb default (a ∷ []) low = absurd (omega arith)
many known cpu verb default (a ∷ b ∷ []) low = absurd (omega arith)
many known cpu verb default (a ∷ b ∷ d ∷ more) low = refl

pub returns-in_default : goal.returns-in_default
returns-in_default c =
    ap (λ (refused : Refused). Err refused) c.usage-in_default.ensures ∙ sym (many c.args.labels.now c.args.cpu.now c.args.verb c.args.default c.args.words.now c.in_default.len_at_least)
