use Rattle.std.proofs.Common.{◌≡◌, ◌∙◌, ◌+◌, ◌++◌, ◌∷◌, [], arith, ap, sym, append-nil, map, drop, length, get_or, slice_index}
use Rattle.std.specs.Option.{option_map}
use Rattle.std.proofs.lemmas.List.{drop_all, get_or-drop, length-map, map-append}
use Rattle.zmo_object.specs.Modules.{module_of, statement_of}
use Rattle.zlink.specs.Program.Laws.{statement_count}
use Rattle.zlink.specs.Program.Parts.{parts_from}
use Rattle.program_map.specs.Map.{mapped_module, mapped_modules, mapped_part, summed}
use Rattle.program_map.specs.Mapped.{mapped_module_of}
use Rattle.program_map.specs.Private.Adding.{joined_figures, seen_kinds}
use Rattle.program_map.proofs.Parting.{front_of, summed_push, count_front, parts_more, bytes_more, jumps_more, program_is, told_some, vec_length}
use Rattle.program_map.proofs.maps.mapping.program_map.Goals as goal

pub loop-module-preserved : goal.loop-module-preserved
loop-module-preserved c =
    let i = c.loop-module.module-index in
    let base = c.loop-module.base in
    let kinds = seen_kinds c.args.kinds in
    let places = c.args.places.now in
    let m = module_of c.module-item.result in
    let before = c.loop-module.invariant in
    let left : map module_of (drop i c.args.modules.now) ≡ m ∷ map module_of (drop (i + 1) c.args.modules.now) = ap (map module_of) (front_of c.args.modules.now i c.module-item.result (omega arith) c.module-item.is) in
    let own : mapped_module_of c.in_ok-own.own ≡ mapped_part kinds places (record { number = i; base = base; holds = m }) =
    c.in_ok-own.ensures.map ∙ ap (λ ks. mapped_module ks c.places_from.result.now m) c.kinds_from-own_kinds.ensures ∙ ap (λ ps. mapped_module (option_map (drop base) kinds) ps m) c.places_from.ensures in
    let long : c.len-base.result ≡ length m.statements = c.len-base.ensures ∙ vec_length c.module-item.result.statements ∙ sym (length-map c.module-item.result.statements.items statement_of) in
    let items : map mapped_module_of c.push.new.self.items ≡ map mapped_module_of c.loop-module.mapped.items ++ mapped_module_of c.in_ok-own.own ∷ [] =
    ap (map mapped_module_of) c.in_ok-push.ensures.items ∙ map-append mapped_module_of c.loop-module.mapped.items _ in
    record {
      all = rw items (parts_more kinds places i base _ m _ _ _ _ _ left (ap (λ n. base + n) long) own before.all);
      total = c.joined-total.ensures ∙ ap (λ f. joined_figures f c.in_ok-own.own.figures) before.total ∙ sym (ap summed items ∙ summed_push (map mapped_module_of c.loop-module.mapped.items) (mapped_module_of c.in_ok-own.own));
      base = omega (arith, long, before.base, ap statement_count left, count_front m (map module_of (drop (i + 1) c.args.modules.now)));
      bytes = bytes_more places c.places_from.result.now base _ c.len-base.result c.loop-module.total c.in_ok-own.own.figures c.joined-total.result c.places_from.ensures (c.len-base.ensures ∙ vec_length c.module-item.result.statements) c.joined-total.ensures before.bytes c.in_ok-own.ensures.bytes;
      jumps = jumps_more base _ c.len-base.result c.loop-module.total c.in_ok-own.own.figures c.joined-total.result (c.len-base.ensures ∙ vec_length c.module-item.result.statements) c.joined-total.ensures before.jumps c.in_ok-own.ensures.jumps;
    }

pub returns : goal.returns
returns c =
    let none : drop c.loop-module.module-index c.args.modules.now ≡ [] = drop_all c.loop-module.module-index c.args.modules.now c.loop-module-test.false in
    let all : map mapped_module_of c.loop-module.mapped.items ≡ mapped_modules (seen_kinds c.args.kinds) c.args.places.now (map module_of c.args.modules.now) = rw (none, append-nil) at c.loop-module.invariant.all in
    let count : c.loop-module.base ≡ statement_count (map module_of c.args.modules.now) = (let b = rw none at c.loop-module.invariant.base in omega arith) in
    program_is c.is_some.result c.loop-module.mapped.items c.loop-module.total c.place_at.result _ _ _ c.loop-module.base (told_some c.args.kinds c.is_some.result c.is_some.ensures) all c.loop-module.invariant.total count c.place_at.ensures
