-- What is wrong with a front that has a text, and with one that has none.
use Rattle.std.proofs.Common.{◌≡◌, ◌<◌, ◌≤◌, ◌-◌, ◌&&◌, Bool, true, false, if◌then◌else◌, nat_le, slice_get, refl, ap, ◌∙◌, ◌+◌, ◌++◌, ℕ, List, [], ◌∷◌, Option, None, Result, length, arith, ap₂, subst}
use Rattle.std.proofs.lemmas.Bool.Decides.{nat_tests}
use Rattle.std.specs.Borrow.{Bor}
use Rattle.std.specs.List.{flat_map, sum_by}
use Rattle.std.specs.Option.{option_map}
use Rattle.zlink.specs.Types.{AsmFault}
use Rattle.report_texts.specs.declared.front.SourceFile.{SourceFile}
use Rattle.report_texts.specs.Faults.Names.{why_name}
use Rattle.report_texts.specs.Faults.Refusals.{line_text, of_source, program_refusal_text}
use Rattle.asm_macro.specs.Texts.{source_part}
use Rattle.asm_macro.specs.declared.fault.MacroFault.{MacroFault}
use Rattle.asm_text.specs.Lines.{Numbered}
use Rattle.report_texts.specs.declared.front.Front.{Front}
use Rattle.report_texts.specs.Front.{define_line, end_of_line, front_lines, front_text, is_too_long, line_in, source_fault_text, with_end, word_or_line}
use Rattle.report_texts.specs.Lines.{line_count}
use Rattle.report_texts.specs.Shared.{IsFaultOfFront, HasExpansion, IsFaultOfText, IsOwnFault, unshared_in}

pub faulty : (front : Front) (text : List ℕ) (said : Option (List ℕ)) → 0 < length text → (expanded : Result (List Numbered) (ℕ × MacroFault)) → HasExpansion text expanded
    → IsOwnFault front (unshared_in front expanded) text said → IsFaultOfText front text said
faulty front [] said some expanded expands own = absurd (omega arith)
faulty front (byte ∷ more) said some expanded expands own = (expanded, expands, own)

module _ (front : Front) where
  pub no_text : front.defines.now ≡ [] → front.files.now ≡ [] → front_text front ≡ []
  no_text words files =
      ap₂ (λ ws fs. flat_map (λ word. define_line word.now ++ end_of_line) ws ++ flat_map (λ file. with_end (source_part file.text.now)) fs) words files

  pub no_lines : front.defines.now ≡ [] → front.files.now ≡ [] → front_lines front ≡ 0
  no_lines words files = ap₂ (λ ws fs. length ws + sum_by line_count fs) words files

  pub faultless : (said : Option (List ℕ)) → front.defines.now ≡ [] → front.files.now ≡ [] → IsFaultOfFront front said → said ≡ None
  faultless said words files is = subst (λ text. IsFaultOfText front text said) (no_text words files) is

line_itself : (path : List ℕ) (fault : AsmFault) → program_refusal_text path (of_source (record { line = fault.line - 0; why = fault.why })) ≡ program_refusal_text path (of_source fault)
line_itself path fault = ap (λ n. program_refusal_text path (of_source (record { line = n; why = fault.why }))) (omega arith)

before_the_end : (long : Bool) (line : ℕ) → 1 ≤ line → (long && nat_le line 0) ≡ false
before_the_end true line h = grind (arith, nat_tests)
before_the_end false line h = refl

-- the text of an error after a front of these words and files
abbrev text_with : List (Bor (List ℕ)) → List SourceFile → ℕ → List ℕ → AsmFault → List ℕ
text_with words files lines path fault =
    if is_too_long fault.why && nat_le fault.line lines then line_text path 1 (why_name fault.why)
    else word_or_line (option_map (λ word. word.now) (slice_get words (fault.line - 1))) (line_in files path (fault.line - length words)) fault.why

pub same_fault : (front : Front) (path : List ℕ) (fault : AsmFault) → front.defines.now ≡ [] → front.files.now ≡ [] → 1 ≤ fault.line → source_fault_text front path fault ≡ program_refusal_text path (of_source fault)
same_fault front path fault words files h =
    let alone : text_with front.defines.now front.files.now (front_lines front) path fault ≡ text_with [] [] 0 path fault =
    ap (λ ws. text_with ws front.files.now (front_lines front) path fault) words ∙ ap (λ fs. text_with [] fs (front_lines front) path fault) files ∙ ap (λ n. text_with [] [] n path fault) (no_lines front words files) in
    alone ∙ ap (λ b. if b then line_text path 1 (why_name fault.why) else program_refusal_text path (of_source (record { line = fault.line - 0; why = fault.why }))) (before_the_end (is_too_long fault.why) fault.line h)
    ∙ line_itself path fault
