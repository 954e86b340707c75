-- The errors of the lines of an expansion are all of them.
use Rattle.std.proofs.Common.{◌≡◌, ◌∙◌, ◌++◌, ◌-◌, ap, sym, subst, ℕ, Bool, List, [], ◌∷◌, Some, None, Err, map, slice_index_or}
use Rattle.std.proofs.lemmas.List.{map-append}
use Rattle.asm_text.specs.Lines.{Numbered}
use Rattle.asm_macro.specs.declared.fault.MacroFault.{MacroFault}
use Rattle.asm_macro.specs.Texts.{source_lines}
use Rattle.asm_names.specs.declared.fault.NameFault.{NameFault}
use Rattle.asm_names.specs.Faults.{IsNamed, first_name_fault}
use Rattle.asm_names.specs.Lines.{lines_of}
use Rattle.asm_module.specs.declared.statements.outlining.Outline.{Outline}
use Rattle.asm_module.specs.Outlines.{IsOutline}
use Rattle.asm_module.specs.Whys.{macro_why}
use Rattle.asm_module.specs.declared.fault.Why.{Why}
use Rattle.source_errors.specs.Counted.{counted_after, early_after, takens}
use Rattle.source_errors.specs.Findings.{Finding, finding_of, name_told}
use Rattle.source_errors.specs.Found as whole
use Rattle.source_errors.specs.Found.{AreErrors, line_at, plain}
use Rattle.source_errors.specs.declared.finding.Finding as code
use Rattle.source_errors.specs.Judged.{late_errors}
use Rattle.source_errors.specs.declared.counting.Counting.{Counting}
use Rattle.source_errors.specs.Private.State.{IsCounting, counted_in, why_of}
use Rattle.source_errors.proofs.Naming_lines.{named_wrong}
use Rattle.source_errors.proofs.Taking.{no_name_told, takens_of}

module _ (c : Counting) (sound : IsCounting c) (lines : List Numbered) (are : counted_in c ≡ counted_after [] lines) (early : map finding_of c.findings.items ≡ early_after [] lines) where
  -- the lines that count, as the code has them
  same : lines_of c.lines.items ≡ takens (counted_after [] lines)
  same = sym (takens_of c.origins.items c.lines.items sound.many) ∙ ap takens are

  pub found_late : (grow : Bool) (o : Outline) (found : List Finding) → first_name_fault (lines_of c.lines.items) ≡ None → IsOutline grow (lines_of c.lines.items) o
      → found ≡ map finding_of c.findings.items ++ late_errors (counted_in c) o → AreErrors grow lines found
  found_late grow o found none outlined is =
      subst (AreErrors grow lines) (sym (is ∙ ap (λ fs. fs ++ late_errors (counted_in c) o) early ∙ ap (λ cs. early_after [] lines ++ late_errors cs o) are))
      (whole.all (subst (λ ls. first_name_fault ls ≡ None) same none) (subst (λ ls. IsOutline grow ls o) same outlined))

  pub found_many : (grow : Bool) (number : ℕ) (why : NameFault) (w : Why) (found : List Finding) → why_of why ≡ Some w → IsNamed (lines_of c.lines.items) (Err (number, why))
      → found ≡ map finding_of c.findings.items ++ record { line = record { number = number; text = [] }; why = w; name = name_told w None } ∷ [] → AreErrors grow lines found
  found_many grow number why w found is named found_is =
      let wrong = named_wrong (lines_of c.lines.items) number why w is named in
      subst (AreErrors grow lines)
      (sym (found_is
      ∙ ap (λ fs. fs ++ record { line = record { number = number; text = [] }; why = w; name = name_told w None } ∷ []) early
      ∙ ap (λ n. early_after [] lines ++ record { line = record { number = number; text = [] }; why = w; name = n } ∷ []) (no_name_told w)
      ∙ ap (λ v. early_after [] lines ++ plain number [] v ∷ []) (sym wrong.1)))
      (whole.many (subst (λ ls. first_name_fault ls ≡ Some (number, why)) same wrong.0))

-- The error at which an expansion stops.
pub stop_found : (text : List ℕ) (lines : List (List ℕ)) (number : ℕ) (why : MacroFault) (stop : code.Finding) → lines ≡ source_lines text
    → finding_of stop ≡ record { line = record { number = number; text = slice_index_or lines (number - 1) [] }; why = macro_why why; name = name_told (macro_why why) None }
    → finding_of stop ≡ plain number (line_at text number) (macro_why why)
stop_found text lines number why stop lines_are is =
    is ∙ ap (λ ls. record { line = record { number = number; text = slice_index_or ls (number - 1) [] }; why = macro_why why; name = name_told (macro_why why) None }) lines_are
    ∙ ap (λ n. record { line = record { number = number; text = line_at text number }; why = macro_why why; name = n }) (no_name_told (macro_why why))

pub one_found : (new old : List code.Finding) (stop : code.Finding) (f : Finding) → new ≡ old ++ stop ∷ [] → old ≡ [] → finding_of stop ≡ f → map finding_of new ≡ f ∷ []
one_found new old stop f now none is = ap (map finding_of) (now ∙ ap (λ xs. xs ++ stop ∷ []) none) ∙ ap (λ g. g ∷ []) is

pub all_found : (new before rest : List code.Finding) (stop : Finding) (scans : List Finding) → new ≡ before ++ rest → map finding_of before ≡ (stop ∷ []) ++ scans → map finding_of new ≡ stop ∷ scans ++ map finding_of rest
all_found new before rest stop scans now was = ap (map finding_of) now ∙ map-append finding_of before rest ∙ ap (λ xs. xs ++ map finding_of rest) was
