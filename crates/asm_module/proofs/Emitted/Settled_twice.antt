-- Names are settled twice: before statements have addresses, and after.
use Rattle.std.proofs.Common.{◌≡◌, ◌∙◌, ap, ℕ, Bool, List}
use Rattle.asm_expr.specs.Names.{Table}
use Rattle.asm_names.specs.declared.settling.SettledNames.{SettledNames}
use Rattle.asm_names.specs.Layout.{Layout}
use Rattle.asm_names.specs.Lines.{Taken}
use Rattle.asm_names.specs.Names.{names}
use Rattle.asm_names.specs.Settles.{Settles}
use Rattle.asm_stmt.specs.Sized.{IsLike, kind}
use Rattle.asm_module.specs.Layouts.Laid.{laid}
use Rattle.asm_module.specs.Outlines as source
use Rattle.asm_module.specs.Outlines.{no_layout, source_table}

-- The layout is that of the source.
pub layout_is : ((grow : Bool) (t u : Table) (lines : List Taken) → IsLike t u → laid grow t lines ≡ laid grow u lines)
    → (grow : Bool) (lines : List Taken) (circle : ℕ → Bool) (layout : Layout) (unplaced : SettledNames)
    → Settles (names lines) lines circle no_layout unplaced → layout ≡ laid grow unplaced.names lines → layout ≡ source.layout grow lines circle
layout_is like grow lines circle layout unplaced before is = is ∙ like grow unplaced.names (source_table lines circle no_layout) lines (λ name. ap kind (before.found name))
