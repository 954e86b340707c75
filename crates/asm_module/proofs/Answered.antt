-- An expansion has one answer, and its source describes one program.
use Rattle.std.proofs.Common.{◌≡◌, ◌∙◌, sym, ap, refl, subst, ℕ, Bool, List, [], ◌∷◌, Option, Some, None, Result, Ok, Err, length}
use Rattle.asm_macro.specs.declared.fault.MacroFault.{MacroFault}
use Rattle.asm_macro.specs.Expands.{End, Ended, IsExpanded, IsExpansion, Stopped, Whole}
use Rattle.asm_macro.specs.Texts.{source_lines}
use Rattle.asm_names.specs.Faults.{first}
use Rattle.asm_names.specs.Lines.{Taken}
use Rattle.asm_module.specs.Program.Statement as program
use Rattle.asm_module.specs.Reads.Read.{taken}
use Rattle.asm_module.specs.Reads.Source.{last_listed}
use Rattle.asm_text.specs.Lines.{Numbered}
use Rattle.zmo_object.specs.Modules.{Module}
use Rattle.asm_module.proofs.Once.{OfLines, equ_fault_same, lines_same, module_same, program_same, state_fault_same}
use Rattle.asm_module.specs.Assembled.{Assembled, Assembles, HasCause, TellsLines, answer, assembled}
use Rattle.asm_module.specs.Program.Described.{IsProgramOfLines, IsProgramOfSource}
use Rattle.asm_module.specs.declared.fault.AsmFault.{AsmFault}
use Rattle.asm_module.specs.Outlines.{layout}
use Rattle.asm_module.specs.Source.{first_equ_line_fault, first_pass, module_by, state_fault, statement_lines}

abbrev Expansion : Type 0
Expansion = Result (List Numbered) (ℕ × MacroFault)

-- what `expand` answers for an expansion that ends so
abbrev ended_by : List Numbered → End → Expansion
ended_by lines (Stopped number why) = Err (number, why)
ended_by lines Ended = Ok lines
ended_by lines (Whole e) = Ok lines

-- the answer has a cause in the source: it is not that memory ran out
abbrev IsCaused : Expansion → Type 0
IsCaused (Err (number, MacroFault.NoMemory)) = ⊥
IsCaused e = Unit {0}

abbrev Comes : List ℕ → Expansion → Type 0
Comes text e = (lines : List Numbered) × (end : End) × IsExpansion text lines end × (ended_by lines end ≡ e)

comes : (text : List ℕ) (e : Expansion) → IsCaused e → IsExpanded text e → Comes text e
comes text (Ok lines) caused (Whole e, done, is) = (lines, Whole e, is, refl)
comes text (Ok lines) caused (Ended, done, is) = (lines, Ended, is, refl)
comes text (Ok lines) caused (Stopped number why, done, is) = absurd done
comes text (Err (number, MacroFault.NoMemory)) caused is = absurd caused
comes text (Err (number, why)) caused is = (is.0, Stopped number why, is.1, refl)

module _ (one : (text : List ℕ) (lines more : List Numbered) (end other : End) → IsExpansion text lines end → IsExpansion text more other → (lines ≡ more) × (end ≡ other)) (laws : OfLines) where
  one_expanded : (text : List ℕ) (e f : Expansion) → Comes text e → Comes text f → e ≡ f
  one_expanded text e f a b =
      let h = one text a.0 b.0 a.1 b.1 a.2 b.2 in
      sym a.3 ∙ (ap (λ lines. ended_by lines a.1) h.0 ∙ ap (ended_by b.0) h.1) ∙ b.3

  module _ (name : List ℕ) (grow : Bool) (count : ℕ) where
    caused : (circle : ℕ → Bool) (e : Expansion) → HasCause (assembled name grow count circle e) → IsCaused e
    caused circle (Ok lines) has = tt
    caused circle (Err (number, MacroFault.NoMemory)) has = absurd (has refl)
    caused circle (Err (number, why)) has = tt

    same_assembled : (c d : ℕ → Bool) (e : Expansion) → TellsLines c e → TellsLines d e → assembled name grow count c e ≡ assembled name grow count d e
    same_assembled c d (Err stop) c_tells d_tells = refl
    same_assembled c d (Ok from) c_tells d_tells = by_pass (first_pass from) refl
      where
        holds : (ℕ → Bool) → Assembled
        holds circle = record {
          holds = module_by name grow (taken from) circle (layout grow (taken from) circle);
          each = statement_lines grow (taken from) circle (layout grow (taken from) circle);
          last = last_listed count (taken from);
        }

        parts_same : (e e-2 s s-2 : Option AsmFault) (m m-2 : Module) (l l-2 : List ℕ) → e ≡ e-2 → s ≡ s-2 → m ≡ m-2 → l ≡ l-2
            → answer (first (first_pass from ∷ e ∷ s ∷ [])) (record { holds = m; each = l; last = last_listed count (taken from) })
            ≡ answer (first (first_pass from ∷ e-2 ∷ s-2 ∷ [])) (record { holds = m-2; each = l-2; last = last_listed count (taken from) })
        parts_same e e-2 s s-2 m m-2 l l-2 equs others holds_same each_same = rw (equs, others, holds_same, each_same) refl

        refused : (fault : AsmFault) → first_pass from ≡ Some fault → (circle : ℕ → Bool) → assembled name grow count circle (Ok from) ≡ Err fault
        refused fault is circle = ap (λ p. answer (first (p ∷ first_equ_line_fault (taken from) circle (layout grow (taken from) circle) ∷ state_fault (taken from) circle (layout grow (taken from) circle) ∷ [])) (holds circle)) is

        by_pass : (pass : Option AsmFault) → first_pass from ≡ pass → assembled name grow count c (Ok from) ≡ assembled name grow count d (Ok from)
        by_pass None is =
            parts_same _ _ _ _ _ _ _ _
            (equ_fault_same laws (taken from) c d (c_tells is) (d_tells is) grow)
            (state_fault_same laws (taken from) c d (c_tells is) (d_tells is) grow)
            (module_same laws (taken from) c d (c_tells is) (d_tells is) grow name)
            (lines_same laws (taken from) c d (c_tells is) (d_tells is) grow)
        by_pass (Some fault) is = refused fault is c ∙ sym (refused fault is d)

  pub one_answer : (name text : List ℕ) (grow : Bool) (a b : Result Assembled AsmFault) → HasCause a → HasCause b → Assembles name text grow a → Assembles name text grow b → a ≡ b
  one_answer name text grow a b a_has b_has (e, e_is, c, c_tells, e_comes) (f, f_is, d, d_tells, f_comes) =
      let count = length (source_lines text) in
      let same = one_expanded text e f (comes text e (caused name grow count c e (subst HasCause (sym e_comes) a_has)) e_is) (comes text f (caused name grow count d f (subst HasCause (sym f_comes) b_has)) f_is) in
      sym e_comes ∙ same_assembled name grow count c d e c_tells (subst (TellsLines d) (sym same) d_tells) ∙ ap (assembled name grow count d) same ∙ f_comes

  one_by_lines : (grow : Bool) (lines : List Taken) (a b : List program.Statement) → IsProgramOfLines grow lines a → IsProgramOfLines grow lines b → a ≡ b
  one_by_lines grow lines a b (c, c_tells, a_is) (d, d_tells, b_is) = a_is ∙ program_same laws lines c d c_tells d_tells grow ∙ sym b_is

  pub one_program : (text : List ℕ) (grow : Bool) (a b : List program.Statement) → IsProgramOfSource text grow a → IsProgramOfSource text grow b → a ≡ b
  one_program text grow a b (lines, (end, done, is), a_is) (more, (other, done_other, is_other), b_is) =
      one_by_lines grow (taken lines) a b a_is (subst (λ ls. IsProgramOfLines grow (taken ls) b) (sym (one text lines more end other is is_other).0) b_is)
