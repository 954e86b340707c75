-- What is answered for a whole source.
use Rattle.std.proofs.Common.{◌≡◌, ◌≤◌, ◌∙◌, sym, ap, refl, subst, ℕ, Bool, false, List, [], ◌∷◌, Option, Some, None, Ok, Err, length}
use Rattle.std.specs.List.{All}
use Rattle.std.proofs.lemmas.List.{length-map}
use Rattle.asm_macro.specs.declared.expansion.TheConstants.{MOST_LINES}
use Rattle.asm_module.specs.Outlines as source
use Rattle.asm_module.specs.Program.Spelled.{IsLineOfText}
use Rattle.asm_names.specs.Circles.{TellsCircles}
use Rattle.asm_macro.specs.declared.fault.MacroFault.{MacroFault}
use Rattle.asm_macro.specs.Expands.{End, IsExpanded, IsExpansion}
use Rattle.asm_macro.specs.Texts.{source_lines}
use Rattle.asm_names.specs.Faults as defined
use Rattle.asm_names.specs.Faults.{first}
use Rattle.asm_names.specs.Lines.{Taken}
use Rattle.asm_names.specs.Names.{names}
use Rattle.asm_module.specs.declared.line_fault.LineFault.{LineFault}
use Rattle.asm_module.specs.Reads.Read.{taken, unread}
use Rattle.asm_module.specs.Reads.Source.{IsSourceText, last_listed}
use Rattle.asm_text.specs.Lines.{Numbered}
use Rattle.zmo_object.specs.Modules.{Module}
use Rattle.asm_module.specs.Assembled.{Assembles, IsRefused, TellsLines, answer}
use Rattle.asm_module.specs.declared.fault.AsmFault.{AsmFault}
use Rattle.asm_module.specs.declared.fault.Why.{Why}
use Rattle.asm_module.specs.Private.Steps.{FaultBy, HasFault, IsFault, IsWhole}
use Rattle.asm_module.specs.Source.{fault_on_line, first_equ_line_fault, first_pass, module_by, source_fault, state_fault, statement_lines}
use Rattle.asm_module.specs.Whys.{line_why, macro_why, name_why}
use Rattle.asm_module.proofs.Reading_lines.Kept.{all_of_text, numbers_kept}

-- An expansion that stops.
pub stops : (name text : List ℕ) (grow : Bool) (number : ℕ) (why : MacroFault) → IsSourceText text (Err (number, why))
    → IsRefused (macro_why why) name text grow (record { line = number; why = macro_why why })
stops name text grow number MacroFault.NoMemory is = tt
stops name text grow number why is = (Err (number, why), is, (λ at. false), tt, refl)

-- an error that has a cause in the source
refused : (why : Why) (name text : List ℕ) (grow : Bool) (fault : AsmFault) → Assembles name text grow (Err fault) → IsRefused why name text grow fault
refused (Why.Macro w) name text grow fault is = is
refused (Why.Stmt w) name text grow fault is = is
refused Why.Duplicate name text grow fault is = is
refused Why.Undefined name text grow fault is = is
refused Why.PublicNotLabel name text grow fault is = is
refused Why.EquCircle name text grow fault is = is
refused Why.TooManyStatements name text grow fault is = is
refused Why.TooManyNames name text grow fault is = is
refused Why.NoMemory name text grow fault is = tt

module _ (name text : List ℕ) (grow : Bool) (from : List Numbered) (expanded : IsExpanded text (Ok from)) (lines : List Taken) (are : lines ≡ taken from) where
  by_circle : (circle : ℕ → Bool) → TellsLines circle (Ok from) → (fault : AsmFault) → source_fault grow from circle ≡ Some fault → Assembles name text grow (Err fault)
  by_circle circle tells fault is =
      (Ok from, expanded, circle, tells, ap (λ f. answer f (record { holds = module_by name grow (taken from) circle (source.layout grow (taken from) circle); each = statement_lines grow (taken from) circle (source.layout grow (taken from) circle); last = last_listed (length (source_lines text)) (taken from) })) is)

  -- The first pass finds an error.
  pub passed_fault : (other : Option (ℕ × LineFault)) (fault : AsmFault) → other ≡ unread from
      → IsFault (first (fault_on_line name_why (defined.first_name_fault lines) ∷ fault_on_line line_why other ∷ [])) fault → IsRefused fault.why name text grow fault
  passed_fault other fault others is = by_why fault.why is
    where
      found : first (fault_on_line name_why (defined.first_name_fault lines) ∷ fault_on_line line_why other ∷ []) ≡ Some fault → Assembles name text grow (Err fault)
      found there =
          let pass : first_pass from ≡ Some fault = sym (ap (λ ls. first (fault_on_line name_why (defined.first_name_fault ls) ∷ fault_on_line line_why (unread from) ∷ [])) are) ∙ sym (ap (λ o. first (fault_on_line name_why (defined.first_name_fault lines) ∷ fault_on_line line_why o ∷ [])) others) ∙ there in
          by_circle (λ at. false) (λ none. absurd (some_is_none (sym pass ∙ none))) fault
          (ap (λ f. first (f ∷ first_equ_line_fault (taken from) (λ at. false) (source.layout grow (taken from) (λ at. false)) ∷ state_fault (taken from) (λ at. false) (source.layout grow (taken from) (λ at. false)) ∷ [])) pass)
        where
          some_is_none : Some fault ≡ None → ⊥
          some_is_none bad = cc

      by_why : (why : Why) → FaultBy why (first (fault_on_line name_why (defined.first_name_fault lines) ∷ fault_on_line line_why other ∷ [])) fault → IsRefused why name text grow fault
      by_why Why.NoMemory is = tt
      by_why (Why.Macro w) is = found is
      by_why (Why.Stmt w) is = found is
      by_why Why.Duplicate is = found is
      by_why Why.Undefined is = found is
      by_why Why.PublicNotLabel is = found is
      by_why Why.EquCircle is = found is
      by_why Why.TooManyStatements is = found is
      by_why Why.TooManyNames is = found is

  module _ (sound : defined.first_name_fault lines ≡ None) (all : unread from ≡ None) where
    passes : first_pass from ≡ None
    passes = ap (λ f. first (fault_on_line name_why f ∷ fault_on_line line_why (unread from) ∷ [])) (sym (ap defined.first_name_fault are) ∙ sound) ∙ ap (λ o. first (fault_on_line line_why o ∷ [])) all

    -- after the first pass, the other lines are judged
    others : (circle : ℕ → Bool) → source_fault grow from circle ≡ first (first_equ_line_fault (taken from) circle (source.layout grow (taken from) circle) ∷ state_fault (taken from) circle (source.layout grow (taken from) circle) ∷ [])
    others circle = ap (λ f. first (f ∷ first_equ_line_fault (taken from) circle (source.layout grow (taken from) circle) ∷ state_fault (taken from) circle (source.layout grow (taken from) circle) ∷ [])) passes

    -- A line has an error after the first pass.
    pub other_fault : (fault : AsmFault) → HasFault fault.why grow lines fault → IsRefused fault.why name text grow fault
    other_fault fault has = by_why fault.why (subst (λ ls. HasFault fault.why grow ls fault) are has)
      where
        found : ((circle : ℕ → Bool) × TellsCircles (names (taken from)) (taken from) circle
            × (first (first_equ_line_fault (taken from) circle (source.layout grow (taken from) circle) ∷ state_fault (taken from) circle (source.layout grow (taken from) circle) ∷ []) ≡ Some fault)) → Assembles name text grow (Err fault)
        found is = by_circle is.0 (λ none. is.1) fault (others is.0 ∙ is.2)

        by_why : (why : Why) → HasFault why grow (taken from) fault → IsRefused why name text grow fault
        by_why Why.NoMemory is = tt
        by_why (Why.Macro w) is = found is
        by_why (Why.Stmt w) is = found is
        by_why Why.Duplicate is = found is
        by_why Why.Undefined is = found is
        by_why Why.PublicNotLabel is = found is
        by_why Why.EquCircle is = found is
        by_why Why.TooManyStatements is = found is
        by_why Why.TooManyNames is = found is

    -- No line has an error.
    pub no_fault : (last : ℕ) (m : Module) (each : List ℕ) → last ≡ last_listed (length (source_lines text)) lines → IsWhole name grow lines m each
        → Assembles name text grow (Ok (record { holds = m; each = each; last = last }))
    no_fault last m each last_is whole =
        let now : IsWhole name grow (taken from) m each = subst (λ ls. IsWhole name grow ls m each) are whole in
        let none : source_fault grow from now.circle ≡ None =
        others now.circle ∙ ap (λ f. first (f ∷ state_fault (taken from) now.circle (source.layout grow (taken from) now.circle) ∷ [])) now.sound_equs ∙ ap (λ f. first (f ∷ [])) now.sound_others in
        let last_there : last ≡ last_listed (length (source_lines text)) (taken from) = last_is ∙ ap (last_listed (length (source_lines text))) are in (
          Ok from,
          expanded,
          now.circle,
          (λ none. now.tells),
          ap (λ f. answer f (record { holds = module_by name grow (taken from) now.circle (source.layout grow (taken from) now.circle); each = statement_lines grow (taken from) now.circle (source.layout grow (taken from) now.circle); last = last_listed (length (source_lines text)) (taken from) })) none
              ∙ ap (λ h. Ok (record { holds = h; each = statement_lines grow (taken from) now.circle (source.layout grow (taken from) now.circle); last = last_listed (length (source_lines text)) (taken from) })) (sym now.module_is)
              ∙ ap (λ e. Ok (record { holds = m; each = e; last = last_listed (length (source_lines text)) (taken from) })) (sym now.each_is)
              ∙ ap (λ l. Ok (record { holds = m; each = each; last = l })) (sym last_there),
        )

    -- The number of lines is within the limit.
    pub few_lines : ((text : List ℕ) (lines : List Numbered) (end : End) → IsExpansion text lines end → length lines ≤ MOST_LINES) → length lines ≤ MOST_LINES
    few_lines few =
        let le : length from ≤ MOST_LINES = few text from expanded.0 expanded.2 in
        let same : length (taken from) ≡ length from = sym (length-map (taken from) (λ l. l.number)) ∙ ap length (numbers_kept from all) ∙ length-map from (λ l. l.number) in
        subst (λ n. n ≤ MOST_LINES) (sym (ap length are ∙ same)) le

  -- Each line was parsed from text.
  pub of_text : All (λ l. IsLineOfText l.line) lines
  of_text = subst (All (λ l. IsLineOfText l.line)) (sym are) (all_of_text from)
