-- What is answered for lines that passed the first pass.
use Rattle.std.proofs.Common.{◌≡◌, ◌∙◌, sym, ap, subst, ℕ, Bool, List, [], ◌∷◌, Option, Some, None, Err, map}
use Rattle.asm_names.specs.Circles.{TellsCircles}
use Rattle.asm_names.specs.declared.equ_fault.EquFault.{EquFault}
use Rattle.asm_names.specs.Faults.{first}
use Rattle.asm_names.specs.Layout.{Layout, layout_of}
use Rattle.asm_names.specs.Lines.{Taken}
use Rattle.asm_names.specs.Names.{names}
use Rattle.asm_module.specs.declared.statements.fault.StateFault.{StateFault}
use Rattle.asm_module.specs.declared.statements.outlining.Outline.{Outline}
use Rattle.asm_module.specs.Module.Stated as stated
use Rattle.asm_module.specs.Module.Stated.{AreStated, numbered_statements}
use Rattle.asm_module.specs.Outlines as source
use Rattle.asm_module.specs.Outlines.{IsOutline, circle_of, outline_table, source_table}
use Rattle.zmo_object.specs.Modules.{Module, ModuleStatement}
use Rattle.asm_module.specs.declared.fault.AsmFault.{AsmFault}
use Rattle.asm_module.specs.declared.fault.Why.{Why}
use Rattle.asm_module.specs.Private.Steps.{HasFault, IsWhole, held}
use Rattle.asm_module.specs.Source.{fault_on_line, first_equ_line_fault, state_fault}
use Rattle.asm_module.specs.Whys.{equ_why, state_why}

-- the first error of some lines
abbrev pub IsFirst : Bool → List Taken → AsmFault → Type 0
IsFirst grow lines fault =
    (circle : ℕ → Bool) × TellsCircles (names lines) lines circle
    × (first (first_equ_line_fault lines circle (source.layout grow lines circle) ∷ state_fault lines circle (source.layout grow lines circle) ∷ []) ≡ Some fault)

has_fault : (why : Why) (grow : Bool) (lines : List Taken) (fault : AsmFault) → IsFirst grow lines fault → HasFault why grow lines fault
has_fault (Why.Macro w) grow lines fault is = is
has_fault (Why.Stmt w) grow lines fault is = is
has_fault Why.Duplicate grow lines fault is = is
has_fault Why.Undefined grow lines fault is = is
has_fault Why.PublicNotLabel grow lines fault is = is
has_fault Why.EquCircle grow lines fault is = is
has_fault Why.TooManyStatements grow lines fault is = is
has_fault Why.TooManyNames grow lines fault is = is
has_fault Why.NoMemory grow lines fault is = tt

module _ (grow : Bool) (lines : List Taken) (o : Outline) (outlined : IsOutline grow lines o) where
  abbrev first_by : Layout → Option AsmFault
  first_by l = first (first_equ_line_fault lines (circle_of o) l ∷ state_fault lines (circle_of o) l ∷ [])

  has_first : (fault : AsmFault) → first_by (layout_of o.layout) ≡ Some fault → HasFault fault.why grow lines fault
  has_first fault is = has_fault fault.why grow lines fault (circle_of o, outlined.tells, subst (λ l. first_by l ≡ Some fault) outlined.lays is)

  -- The first error is that of an EQU line.
  pub equ_first : (line : ℕ) (why : EquFault) (fault : AsmFault) → o.settled.fault ≡ Some (line, why) → fault ≡ record { line = line; why = equ_why why } → HasFault fault.why grow lines fault
  equ_first line why fault there is =
      has_first fault (ap (λ f. first (fault_on_line equ_why f ∷ state_fault lines (circle_of o) (layout_of o.layout) ∷ [])) (sym outlined.settles.fault ∙ there) ∙ ap Some (sym is))

  module _ (sound : o.settled.fault ≡ None) where
    no_equ : first_equ_line_fault lines (circle_of o) (layout_of o.layout) ≡ None
    no_equ = ap (fault_on_line equ_why) (sym outlined.settles.fault ∙ sound)

    found_first : (line : ℕ) (why : StateFault) (fault : AsmFault) → stated.first_statement_fault (names lines) (outline_table lines o) (layout_of o.layout) lines ≡ Some (line, why)
        → fault ≡ record { line = line; why = state_why why } → HasFault fault.why grow lines fault
    found_first line why fault there is =
        has_first fault (ap (λ f. first (f ∷ state_fault lines (circle_of o) (layout_of o.layout) ∷ [])) no_equ ∙ ap (λ f. first (fault_on_line state_why f ∷ [])) there ∙ ap Some (sym is))

    -- The first error is that of another line.
    pub state_first : (line : ℕ) (why : StateFault) (fault : AsmFault) → AreStated grow (names lines) (outline_table lines o) (layout_of o.layout) lines (Err (line, why))
        → fault ≡ record { line = line; why = state_why why } → HasFault fault.why grow lines fault
    state_first line StateFault.NoMemory fault there is = subst (λ f. HasFault f.why grow lines f) (sym is) tt
    state_first line StateFault.Undefined fault there is = found_first line StateFault.Undefined fault there is
    state_first line (StateFault.Stmt why) fault there is = found_first line (StateFault.Stmt why) fault there is
    state_first line StateFault.PublicNotLabel fault there is = found_first line StateFault.PublicNotLabel fault there is

    -- There is no error.
    pub whole : (name : List ℕ) (m : Module) (statements : List ModuleStatement) (each : List ℕ) → stated.first_statement_fault (names lines) (outline_table lines o) (layout_of o.layout) lines ≡ None
        → statements ≡ map (λ n. n.1) (numbered_statements grow (outline_table lines o) (layout_of o.layout) lines) → each ≡ map (λ n. n.0) (numbered_statements grow (outline_table lines o) (layout_of o.layout) lines)
        → m ≡ held name grow lines (layout_of o.layout) statements → IsWhole name grow lines m each
    whole name m statements each none statements_are each_are is = record {
      circle = circle_of o;
      tells = outlined.tells;
      sound_equs = subst (λ l. first_equ_line_fault lines (circle_of o) l ≡ None) outlined.lays no_equ;
      sound_others = subst (λ l. state_fault lines (circle_of o) l ≡ None) outlined.lays (ap (fault_on_line state_why) none);
      module_is = is ∙ ap (held name grow lines (layout_of o.layout)) statements_are ∙ ap (λ l. held name grow lines l (map (λ n. n.1) (numbered_statements grow (source_table lines (circle_of o) l) l lines))) outlined.lays;
      each_is = each_are ∙ ap (λ l. map (λ n. n.0) (numbered_statements grow (source_table lines (circle_of o) l) l lines)) outlined.lays;
    }
