use Rattle.std.proofs.Common.{◌≡◌, ◌∙◌, ◌≢◌, [], List, ℕ, Err, Vec, Global, false, ap, sym, subst, refl, map}
use Rattle.std.proofs.lemmas.Result.{IfOk-weaker}
use Rattle.asm_module.specs.Assembled.{Assembles, IsRefused}
use Rattle.asm_module.specs.declared.fault.AsmFault.{AsmFault}
use Rattle.asm_module.specs.declared.fault.Why.{Why}
use Rattle.asm_macro.specs.Expands.{IsExpanded}
use Rattle.asm_macro.specs.Views.{lines_seen}
use Rattle.asm_macro.specs.declared.fault.MacroFault.{MacroFault}
use Rattle.source_warnings.specs.declared.warning.SourceWarning as code
use Rattle.source_warnings.specs.Found.{AreSourceWarnings, clean, refused, stopped}
use Rattle.source_warnings.specs.Warnings.{warning_of, warnings_after}
use Rattle.source_warnings.proofs.found.find_warnings.Goals as goal

has_cause : (why : Why) (name text : List ℕ) (fault : AsmFault) → why ≢ Why.NoMemory → IsRefused why name text false fault → Assembles name text false (Err fault)
has_cause Why.NoMemory name text fault ne h = absurd (ne refl)
has_cause _ name text fault ne h = h

when_stopped : (text : List ℕ) (number : ℕ) (why : MacroFault) → IsExpanded text (Err (number, why)) → (items : List code.SourceWarning) → (why ≢ MacroFault.NoMemory) × (items ≡ []) → AreSourceWarnings text (map warning_of items)
when_stopped text number why stops items is = subst (AreSourceWarnings text) (sym (ap (map warning_of) is.1)) (stopped number is.0 stops)

when_refused : (text : List ℕ) (fault : AsmFault) → IsRefused fault.why [] text false fault → (items : List code.SourceWarning) → (fault.why ≢ Why.NoMemory) × (items ≡ []) → AreSourceWarnings text (map warning_of items)
when_refused text fault refuses items is = subst (AreSourceWarnings text) (sym (ap (map warning_of) is.1)) (refused is.0 (has_cause fault.why [] text fault is.0 refuses))

pub returns-in-Err : goal.returns-in-Err
returns-in-Err c =
    IfOk-weaker c.stopped.result _ _ (λ (found : Vec code.SourceWarning Global) is. when_stopped c.args.text.now c.in-Err.field-0-0 c.in-Err.why c.in-Err.ensures found.items is) c.stopped.ensures

pub returns-in-Ok-assemble : goal.returns-in-Ok-assemble
returns-in-Ok-assemble c =
    let done = c.in-Ok-assemble.ensures.answer in
    IfOk-weaker c.warnings_in.result _ _ (λ (found : Vec code.SourceWarning Global) is. subst (AreSourceWarnings c.args.text.now) (sym (is ∙ ap (λ l. warnings_after c.args.text.now [] (lines_seen l)) c.deref.ensures.value)) (clean c.in-Ok.ensures done.2)) c.warnings_in.ensures

pub returns : goal.returns
returns c =
    IfOk-weaker c.refused.result _ _ (λ (found : Vec code.SourceWarning Global) is. when_refused c.args.text.now c.in-Err-assemble.fault c.in-Err-assemble.ensures.answer found.items is) c.refused.ensures
