-- Lines without an error.
use Rattle.std.proofs.Common.{◌≡◌, Bool, true, false, List, [], ◌∷◌, Option, Some, None, Result, Ok, Err, refl}
use Rattle.std.specs.Prelude.{is_none}
use Rattle.std.specs.List.{list_any}
use Rattle.std.specs.Option.{option_map}
use Rattle.asm_expr.specs.Names.{Table}
use Rattle.asm_spell.specs.declared.fault.StmtFault.{StmtFault}
use Rattle.asm_spell.specs.Line.{Body}
use Rattle.asm_names.specs.Faults.{first, if_so}
use Rattle.asm_names.specs.Names.{Names, kind_of_name}
use Rattle.asm_stmt.specs.Made.{Made, made}
use Rattle.asm_module.specs.declared.statements.fault.StateFault.{StateFault}
use Rattle.asm_module.specs.Module.Faults.{body_fault, not_label, used, made_fault}

-- if no line has an error, neither has the first one nor any after it
pub sound_both : {A B : Type 0} (f : A → B) (o : Option A) (rest : List (Option B)) → first (option_map f o ∷ rest) ≡ None → (o ≡ None) × (first rest ≡ None)
sound_both f None rest none = (refl, none)
sound_both f (Some why) rest none = absurd cc

-- a statement without an error: each name that it uses is defined, and it makes something
pub record IsSound (names : Names) (t : Table) (body : Body) : Type 0 where
  pub named : list_any (λ name. is_none (kind_of_name names name)) (used body) ≡ false
  pub what : Made
  pub makes : made t body ≡ Ok what

pub sound_body : (names : Names) (t : Table) (body : Body) → body_fault names t body ≡ None → IsSound names t body
sound_body names t body none = by (list_any (λ name. is_none (kind_of_name names name)) (used body)) (made t body) refl refl none
  where
    by : (lacks : Bool) (r : Result Made StmtFault) → list_any (λ name. is_none (kind_of_name names name)) (used body) ≡ lacks → made t body ≡ r
        → first (if_so StateFault.Undefined lacks ∷ made_fault r ∷ not_label names body ∷ []) ≡ None → IsSound names t body
    by true r is makes bad = absurd cc
    by false (Err why) is makes bad = absurd cc
    by false (Ok what) is makes good = record { named = is; what = what; makes = makes }
