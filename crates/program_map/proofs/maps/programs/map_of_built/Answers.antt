use Rattle.std.proofs.Common.{◌≡◌, ◌∙◌, ◌+◌, Some, ap, sym, subst, arith, map, length, vec_len}
use Rattle.relax.specs.Choice.{total}
use Rattle.zlink.specs.File.Objects.{placed_shape}
use Rattle.zlink.specs.File.Places.{ArePlaces}
use Rattle.zlink.specs.Program.Whole.{program}
use Rattle.program_map.specs.Sums.{IsWholeMap}
use Rattle.program_map.proofs.Parting.{vec_length}
use Rattle.program_map.proofs.Wholly.{whole_map}
use Rattle.relax.specs.Growth.{after}
use Rattle.zmo_object.specs.Modules.{module_of}
use Rattle.zlink.specs.Reads.{shape, sized_as}
use Rattle.zlink.specs.Program.Laws.{statement_count}
use Rattle.zlink.specs.Sources.{modules_of, program_of}
use Rattle.std.proofs.lemmas.List.{length-map}
use Rattle.std.proofs.lemmas.Result.{IfOk-weaker}
use Rattle.program_map.specs.Kinds.{kinds}
use Rattle.program_map.specs.Map.{program_map}
use Rattle.program_map.specs.Programs.{built_places}
use Rattle.program_map.proofs.Placing.{built_are_places, places_ascend, same_count}
use Rattle.program_map.proofs.maps.programs.map_of_built.Goals as goal

pub program_map-requires-clause-ascend : goal.program_map-requires-clause-ascend
program_map-requires-clause-ascend c =
    let p = c.requires.1 in
    rw (c.deref-3.ensures.value, c.in_ok-places.ensures) (places_ascend (after p.4.0) (shape (program_of p.0)) (built_places c.args.built.now) (built_are_places p.0 p.4.0 c.args.built.now p.4.1))

pub program_map-requires-clause-all : goal.program_map-requires-clause-all
program_map-requires-clause-all c =
    let p = c.requires.1 in
    let are = built_are_places p.0 p.4.0 c.args.built.now p.4.1 in
    let count = same_count c.laid_out.ensures.count p.0 p.3 in
    let places : length c.deref-3.result.now ≡ length (built_places c.args.built.now) = ap length (c.deref-3.ensures.value ∙ c.in_ok-places.ensures) in
    let modules : statement_count (map module_of c.deref-4.result.now) ≡ statement_count (modules_of p.0) = ap (λ ms. statement_count (map module_of ms)) c.deref-4.ensures.value ∙ ap statement_count p.4.1.modules in
    omega (arith, are.len, length-map (program_of p.0) sized_as)

pub returns-clause-map : goal.returns-clause-map
returns-clause-map c = IfOk-weaker c.program_map.result _ _
    (λ m is. λ grow built.
    let own = built.4.1.modules in
    let own_here : map module_of c.deref.result.now ≡ modules_of built.0 = ap (map module_of) c.deref.ensures.value ∙ own in
    let what = c.deref-2.ensures.value ∙ c.in_ok-kinds.ensures grow built.0 built.1 own_here (same_count c.laid_out.ensures.count built.0 built.3) in
    record {
      assemblies = built.0;
      assembled = built.1;
      own = own;
      is = is ∙ ap (λ ks. program_map (Some ks) c.deref-3.result.now (map module_of c.deref-4.result.now)) what
          ∙ ap (λ ps. program_map (Some (kinds (program_of built.0))) ps (map module_of c.deref-4.result.now)) (c.deref-3.ensures.value ∙ c.in_ok-places.ensures)
          ∙ ap (program_map (Some (kinds (program_of built.0))) (built_places c.args.built.now)) (ap (map module_of) c.deref-4.ensures.value ∙ own);
    })
    c.program_map.ensures

pub returns-clause-sums : goal.returns-clause-sums
returns-clause-sums c =
    let p = c.requires.1 in
    let b = c.args.built.now in
    let modules = map module_of c.deref-4.result.now in
    let own : modules ≡ modules_of p.0 = ap (map module_of) c.deref-4.ensures.value ∙ p.4.1.modules in
    let same : placed_shape (program modules) ≡ shape (program_of p.0) = ap (λ ms. placed_shape (program ms)) own ∙ p.3 in
    let at : c.deref-3.result.now ≡ built_places b = c.deref-3.ensures.value ∙ c.in_ok-places.ensures in
    let are : ArePlaces (after p.4.0) (placed_shape (program modules)) c.deref-3.result.now =
    subst (ArePlaces (after p.4.0) (placed_shape (program modules))) (sym at) (subst (λ s. ArePlaces (after p.4.0) s (built_places b)) (sym same) (built_are_places p.0 p.4.0 b p.4.1)) in
    let long : total (after p.4.0) (placed_shape (program modules)) ≡ vec_len b.com = ap (total (after p.4.0)) same ∙ sym p.4.1.reads.length_is ∙ sym (vec_length b.com) in
    let law = c.adds_up.ensures in
    IfOk-weaker c.program_map.result _ _
    (λ m is. subst (IsWholeMap (vec_len b.com)) (sym is) (whole_map (Some c.deref-2.result.now) c.deref-3.result.now modules _ _ are long law.modules law.bytes law.end law.jumps))
    c.program_map.ensures
