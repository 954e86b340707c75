use Rattle.std.proofs.Common.{subst, sym}
use Rattle.std.proofs.lemmas.Result.{IfOk-weaker}
use Rattle.program_map.specs.Mapped.{mapped_program_of}
use Rattle.program_map.specs.Sums.{IsWholeMap}
use Rattle.program_map.proofs.Parting.{vec_length}
use Rattle.z80dev_make.specs.Products.{IsMapText}
use Rattle.z80dev_make.proofs.building.map_text_of.Goals as goal

pub returns-in_ok-map : goal.returns-in_ok-map
returns-in_ok-map c =
    let program = c.args.built.now.com in
    let whole = subst (λ bytes. IsWholeMap bytes (mapped_program_of c.in_ok-map.«map»)) (vec_length program) c.in_ok-map.ensures.sums in
    IfOk-weaker c.map_text.result _ _
    (λ text is. subst (λ wanted. IsMapText wanted c.args.grow c.args.behind.now c.args.built.now text.items) (sym c.if-wanted.true)
    (mapped_program_of c.in_ok-map.«map», c.in_ok-map.ensures.«map» c.args.grow c.requires, whole, is))
    c.map_text.ensures
