use Rattle.std.proofs.Common.{◌≡◌, ◌<◌, ◌≤◌, ◌∙◌, List, ℕ, [], ◌∷◌, Bor, Err, ap, arith, length, map, refl, sym}
use Rattle.z80_cpu.specs.declared.registers.Cpu.{Cpu}
use Rattle.state_text.specs.Labelled.{Known}
use Rattle.debugger_commands.specs.Typed.{Refused, breakpoint, usage}
use Rattle.debugger_commands.specs.declared.verb.Verb.TheVariants as verb
use Rattle.debugger_commands.proofs.command.breakpoint.Goals as goal

two : (known : Known) (cpu : Cpu) (words : List (Bor (List ℕ))) → 2 ≤ length words → length words < 3 → breakpoint known cpu (map (λ w. w.now) words) ≡ Err (usage verb.Break)
two known cpu [] low high = absurd (omega arith)
two known cpu (a ∷ []) low high = absurd (omega arith)
two known cpu (a ∷ b ∷ []) low high = refl
two known cpu (a ∷ b ∷ d ∷ more) low high = absurd (omega arith)

many : (known : Known) (cpu : Cpu) (words : List (Bor (List ℕ))) → 4 ≤ length words → breakpoint known cpu (map (λ w. w.now) words) ≡ Err (usage verb.Break)
many known cpu [] low = absurd (omega arith)
many known cpu (a ∷ []) low = absurd (omega arith)
many known cpu (a ∷ b ∷ []) low = absurd (omega arith)
many known cpu (a ∷ b ∷ d ∷ []) low = absurd (omega arith)
many known cpu (a ∷ b ∷ d ∷ e ∷ more) low = refl

pub returns-in-len2 : goal.returns-in-len2
returns-in-len2 c = ap (λ (refused : Refused). Err refused) c.usage-in-len2.ensures ∙ sym (two c.args.labels.now c.args.cpu.now c.args.words.now c.in-len2.len_at_least c.in-len2.len_below)

pub returns-in_default : goal.returns-in_default
returns-in_default c = ap (λ (refused : Refused). Err refused) c.usage-in_default.ensures ∙ sym (many c.args.labels.now c.args.cpu.now c.args.words.now c.in_default.len_at_least)
