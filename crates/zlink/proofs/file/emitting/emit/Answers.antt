use Rattle.std.proofs.Common.{◌≡◌, ◌+◌, ◌<◌, ℕ, List, map, take, length, slice_index, sym, ap, subst, ◌∙◌, arith}
use Rattle.std.proofs.lemmas.List.{length-map, take_all}
use Rattle.relax.specs.Choice.{Choice, chosen}
use Rattle.zmo_object.specs.Modules.{Module, module_of, statement_of}
use Rattle.zlink.specs.declared.program.joining.Links.{Links}
use Rattle.zlink.specs.Program.Laws.{part_at, statement_count}
use Rattle.zlink.specs.Program.Parts.{parts, all_publics}
use Rattle.zlink.specs.Program.Whole.{program, stands}
use Rattle.zlink.specs.File.Objects.{placed_shape}
use Rattle.zlink.specs.File.Places.{ArePlaces}
use Rattle.zlink.specs.Private.Pieces.{AreLaid, AreReady, IsSizedPiece}
use Rattle.zlink.proofs.Files.FileSoFar.{Written, finished, many, places-small, ready, same-length, start}
use Rattle.zlink.proofs.Files.Linking.{IsHere, base-next, ends, here, links-long}
use Rattle.zlink.proofs.Files.Tabled.{follow}
use Rattle.zlink.proofs.file.emitting.emit.Goals as goal

-- the address after the statements of a module is in the list
room-there : (modules : List Module) (places : List ℕ) (c : Choice) (k : ℕ) (m : Module) (l : Links) → ArePlaces c (placed_shape (program modules)) places → length (program modules) ≡ statement_count modules → IsHere modules k m l
    → l.base + length m.statements < length places
room-there modules places c k m l places_are count h = omega (arith, places_are.len, same-length (program modules), count, ends modules k m l h)

pub loop-m-init : goal.loop-m-init
loop-m-init c = start (chosen c.args.long.now) (program (map module_of c.args.modules.now)) c.in_ok-file.file.items c.in_ok-file.ensures.items

pub bounds-links-m : goal.bounds-links-m
bounds-links-m c = links-long c.laid_out.ensures.parts c.args.modules.now c.args.links.now c.loop-m.m c.index-modules-m.result (omega arith) c.index-modules-m.is c.requires.links

pub fill_table-requires-clause-small : goal.fill_table-requires-clause-small
fill_table-requires-clause-small c = places-small (chosen c.args.long.now) (program (map module_of c.args.modules.now)) c.args.places.now c.requires.valid c.requires.places

pub fill_table-requires-clause-within : goal.fill_table-requires-clause-within
fill_table-requires-clause-within c =
    let modules = map module_of c.args.modules.now in
    let m = c.index-modules-m.result in
    let l = c.index-links-m.result in
    let h = here c.laid_out.ensures.parts c.args.modules.now c.args.links.now c.loop-m.m m l (omega arith) c.index-modules-m.is c.index-links-m.is c.requires.modules c.requires.links in
    let counted : c.len.result ≡ length (module_of m).statements = omega (arith, c.len.ensures, m.statements.ok, length-map m.statements.items statement_of) in
    let room = room-there modules c.args.places.now (chosen c.args.long.now) c.loop-m.m (module_of m) l c.requires.places (c.laid_out.ensures.count modules) h in
    omega (arith, room, counted)

pub put_statements-requires-clause-places : goal.put_statements-requires-clause-places
put_statements-requires-clause-places c =
    let modules = map module_of c.args.modules.now in
    let m = c.index-modules-m.result in
    let l = c.index-links-m.result in
    let h = here c.laid_out.ensures.parts c.args.modules.now c.args.links.now c.loop-m.m m l (omega arith) c.index-modules-m.is c.index-links-m.is c.requires.modules c.requires.links in
    let room = room-there modules c.args.places.now (chosen c.args.long.now) c.loop-m.m (module_of m) l c.requires.places (c.laid_out.ensures.count modules) h in
    let own = ap length c.deref.ensures.value in
    let same = length-map m.statements.items statement_of in
    omega (arith, room, own, same)

pub put_statements-requires-clause-long : goal.put_statements-requires-clause-long
put_statements-requires-clause-long c =
    let modules = map module_of c.args.modules.now in
    let m = c.index-modules-m.result in
    let l = c.index-links-m.result in
    let h = here c.laid_out.ensures.parts c.args.modules.now c.args.links.now c.loop-m.m m l (omega arith) c.index-modules-m.is c.index-links-m.is c.requires.modules c.requires.links in
    let own = ap length c.deref.ensures.value in
    let same = length-map m.statements.items statement_of in
    omega (arith, ends modules c.loop-m.m (module_of m) l h, c.requires.len, c.laid_out.ensures.count modules, own, same)

pub put_statements-requires-clause-ready : goal.put_statements-requires-clause-ready
put_statements-requires-clause-ready c =
    let modules = map module_of c.args.modules.now in
    let m = c.index-modules-m.result in
    let l = c.index-links-m.result in
    let h = here c.laid_out.ensures.parts c.args.modules.now c.args.links.now c.loop-m.m m l (omega arith) c.index-modules-m.is c.index-links-m.is c.requires.modules c.requires.links in
    let counted : c.len.result ≡ length (module_of m).statements = omega (arith, c.len.ensures, m.statements.ok, length-map m.statements.items statement_of) in
    let room = room-there modules c.args.places.now (chosen c.args.long.now) c.loop-m.m (module_of m) l c.requires.places (c.laid_out.ensures.count modules) h in
    let table = c.in_ok-fill_table.ensures in
    let rows = follow modules c.loop-m.m (module_of m) l c.len.result c.args.places.now c.fill_table.new.table.items h counted (omega (arith, room, counted)) table c.laid_out.ensures.statements (map statement_of c.deref.result.now) (ap (map statement_of) c.deref.ensures.value)
    (c.within.ensures.each modules c.requires.modules c.requires.joined) in
    let all : AreReady (chosen c.args.long.now) c.args.places.now c.fill_table.new.table.items l.base (map statement_of c.deref.result.now) =
    λ i s is. ready (chosen c.args.long.now) (program modules) c.args.places.now c.fill_table.new.table.items (l.base + i) (record { statement = s; stands = stands (all_publics (parts modules)) (part_at modules c.loop-m.m (module_of m)) }) c.requires.valid c.requires.places (rows.there i s is) (rows.tabled i s is) in
    subst (λ t. AreReady (chosen c.args.long.now) c.args.places.now t l.base (map statement_of c.deref.result.now)) (sym c.deref-in-loop-m.ensures.value) all

pub loop-m-preserved : goal.loop-m-preserved
loop-m-preserved c =
    let modules = map module_of c.args.modules.now in
    let m = c.index-modules-m.result in
    let l = c.index-links-m.result in
    let h = here c.laid_out.ensures.parts c.args.modules.now c.args.links.now c.loop-m.m m l (omega arith) c.index-modules-m.is c.index-links-m.is c.requires.modules c.requires.links in
    let counted : c.len.result ≡ length (module_of m).statements = omega (arith, c.len.ensures, m.statements.ok, length-map m.statements.items statement_of) in
    let room = room-there modules c.args.places.now (chosen c.args.long.now) c.loop-m.m (module_of m) l c.requires.places (c.laid_out.ensures.count modules) h in
    let own = ap length c.deref.ensures.value in
    let same = length-map m.statements.items statement_of in
    let table = c.in_ok-fill_table.ensures in
    let rows = follow modules c.loop-m.m (module_of m) l c.len.result c.args.places.now c.fill_table.new.table.items h counted (omega (arith, room, counted)) table c.laid_out.ensures.statements (map statement_of c.deref.result.now) (ap (map statement_of) c.deref.ensures.value)
    (c.within.ensures.each modules c.requires.modules c.requires.joined) in
    let put = c.in_ok-put_statements.ensures in
    let p = program modules in
    let ss = map statement_of c.deref.result.now in
    let before : Written (chosen c.args.long.now) p l.base c.loop-m.file.items = subst (λ n. Written (chosen c.args.long.now) p n c.loop-m.file.items) (sym h.linked.base) c.loop-m.invariant in
    let laid = subst (λ t. AreLaid (λ j. IsSizedPiece (slice_index c.args.places.now j) (chosen c.args.long.now j) t) l.base ss put.0) c.deref-in-loop-m.ensures.value put.2 in
    let after = many (chosen c.args.long.now) p c.args.places.now c.fill_table.new.table.items (stands (all_publics (parts modules)) (part_at modules c.loop-m.m (module_of m))) ss l.base c.loop-m.file.items c.put_statements.new.file.items put.0
    c.requires.places rows before laid put.1 in
    let next : l.base + length ss ≡ statement_count (take (c.loop-m.m + 1) modules) = omega (arith, base-next modules c.loop-m.m (module_of m) l h, own, same, length-map c.deref.result.now statement_of) in
    subst (λ n. Written (chosen c.args.long.now) p n c.put_statements.new.file.items) next after

pub returns : goal.returns
returns c =
    let modules = map module_of c.args.modules.now in
    let all : length (program modules) ≡ statement_count (take c.loop-m.m modules) = c.laid_out.ensures.count modules ∙ ap statement_count (sym (take_all c.loop-m.m modules (omega (arith, length-map c.args.modules.now module_of)))) in
    finished (chosen c.args.long.now) (program modules) (statement_count (take c.loop-m.m modules)) c.loop-m.file.items all c.loop-m.invariant
