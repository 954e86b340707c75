use Rattle.std.proofs.Common.{◌≡◌, ◌∙◌, None, map, subst, sym, vec_len}
use Rattle.std.proofs.lemmas.Result.{IfOk-weaker}
use Rattle.relax.specs.Choice.{total}
use Rattle.zlink.specs.File.Places.{ArePlaces}
use Rattle.program_map.specs.Sums.{IsWholeMap}
use Rattle.program_map.proofs.Parting.{vec_length}
use Rattle.program_map.proofs.Wholly.{whole_map}
use Rattle.relax.specs.Growth.{after}
use Rattle.zmo_object.specs.Modules.{module_of}
use Rattle.zlink.specs.File.Objects.{placed_shape}
use Rattle.zlink.specs.Program.Whole.{program}
use Rattle.program_map.proofs.Placing.{places_ascend}
use Rattle.program_map.proofs.maps.programs.map_of_linked.Goals as goal

pub program_map-requires-clause-ascend : goal.program_map-requires-clause-ascend
program_map-requires-clause-ascend c = rw c.deref.ensures.value (places_ascend (after c.requires.1) (placed_shape (program (map module_of c.args.modules.now))) c.args.linked.now.places.items c.requires.3)

pub returns-clause-sums : goal.returns-clause-sums
returns-clause-sums c =
    let modules = map module_of c.args.modules.now in
    let order = c.requires.1 in
    let are : ArePlaces (after order) (placed_shape (program modules)) c.deref.result.now = rw c.deref.ensures.value c.requires.3 in
    let long : total (after order) (placed_shape (program modules)) ≡ vec_len c.args.linked.now.com = sym c.requires.2.reads.length_is ∙ sym (vec_length c.args.linked.now.com) in
    let law = c.adds_up.ensures in
    IfOk-weaker c.program_map.result _ _
    (λ m is. subst (IsWholeMap (vec_len c.args.linked.now.com)) (sym is) (whole_map None c.deref.result.now modules _ _ are long law.modules law.bytes law.end law.jumps))
    c.program_map.ensures
