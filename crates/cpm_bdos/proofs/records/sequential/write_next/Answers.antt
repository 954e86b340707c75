use Rattle.std.proofs.Common.{◌≡◌, Ok, Some, Err, ap, subst, sym, ◌≤◌, ◌∙◌}
use Rattle.cpm_image.specs.Directory.Letters.{letters}
use Rattle.cpm_disk.specs.Control.Fcbs.{current_of, fcb_at, name_of}
use Rattle.cpm_disk.specs.Control.Stops.{done}
use Rattle.cpm_bdos.specs.Records.Places.{place_of, record_at, turned}
use Rattle.cpm_bdos.specs.Records.Sequential.{sequential_judged, with_place}
use Rattle.cpm_bdos.proofs.Same.{entered_as, written_as}
use Rattle.cpm_bdos.proofs.records.sequential.write_next.Goals as goal

pub put_place-requires : goal.put_place-requires
put_place-requires g c =
    let current : c.of-old.result.current ≡ current_of c.at-fcb.result = ap (λ p. p.current) c.of-old.ensures in
    c.in-Some.ensures.within (subst (λ n. n ≤ 128) (sym current) c.in_ok-judge.ensures.within)

pub returns-in-Ok : goal.returns-in-Ok
returns-in-Ok g c =
    let here = fcb_at c.args.address c.args.memory.now in
    let kind = c.kind-kind.ensures.kind in
    let fcb = c.at-fcb.ensures in
    let go = ap (λ k. sequential_judged k here) (sym kind) ∙ ap (sequential_judged c.kind-kind.result) (sym fcb) ∙ sym c.in_ok-judge.ensures.judged in
    let name = c.new-name.ensures ∙ ap letters (c.name.ensures ∙ ap name_of fcb) in
    let old = c.of-old.ensures ∙ ap place_of fcb in
    let turn : turned c.args.disk.now.kind (place_of here) ≡ Some c.in-Some.new =
    ap (λ k. turned k (place_of here)) (sym kind) ∙ ap (turned c.kind-kind.result) (sym old) ∙ sym c.turned.ensures.place ∙ c.in-Some.is in
    let number = c.record-number.ensures ∙ ap (λ k. record_at k c.in-Some.new) kind in
    let written = written_as g.S.Sectors.sectors g.S.Sectors.faults c.args.disk.now c.write_block_of.new.self c.args.user _ _ _ _ _ _ _ (Ok tt) name number c.bytes_at.ensures c.in-Ok.is c.write_block_of.ensures.done in
    let now = c.put_extent_entry.ensures
    ∙ entered_as g.S.Sectors.sectors c.write_block_of.new.self c.args.user _ _ _ _ c.args.address _ _ name (number ∙ ap (λ k. record_at k c.in-Some.new) (sym written.2))
    (c.put_place.ensures ∙ ap (λ p. with_place c.args.address p c.in-Some.new c.args.memory.now) old) in
    rw (go, turn) (Ok tt, written, ap (done 0) (sym now))

pub returns-in-Err : goal.returns-in-Err
returns-in-Err g c =
    let here = fcb_at c.args.address c.args.memory.now in
    let kind = c.kind-kind.ensures.kind in
    let fcb = c.at-fcb.ensures in
    let go = ap (λ k. sequential_judged k here) (sym kind) ∙ ap (sequential_judged c.kind-kind.result) (sym fcb) ∙ sym c.in_ok-judge.ensures.judged in
    let name = c.new-name.ensures ∙ ap letters (c.name.ensures ∙ ap name_of fcb) in
    let turn : turned c.args.disk.now.kind (place_of here) ≡ Some c.in-Some.new =
    ap (λ k. turned k (place_of here)) (sym kind) ∙ ap (λ f. turned c.kind-kind.result (place_of f)) (sym fcb) ∙ ap (turned c.kind-kind.result) (sym c.of-old.ensures) ∙ sym c.turned.ensures.place ∙ c.in-Some.is in
    rw (go, turn) (
      Err c.in-Err.fault,
      written_as g.S.Sectors.sectors g.S.Sectors.faults c.args.disk.now c.write_block_of.new.self c.args.user _ _ _ _ _ _ _ _ name (c.record-number.ensures ∙ ap (λ k. record_at k c.in-Some.new) kind) c.bytes_at.ensures c.in-Err.is c.write_block_of.ensures.done,
      c.not_written.ensures c.args.memory.now,
    )
