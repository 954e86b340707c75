use Rattle.std.proofs.Common.{◌≡◌, Some, Err, ap, subst, sym, ◌≤◌, ◌∙◌}
use Rattle.cpm_image.specs.Directory.Letters.{letters}
use Rattle.cpm_disk.specs.Control.Fcbs.{current_of, fcb_at, name_of}
use Rattle.cpm_bdos.specs.Records.Places.{place_of, record_at, turned}
use Rattle.cpm_bdos.specs.Records.Sequential.{sequential_judged}
use Rattle.cpm_bdos.proofs.Same.{read_as}
use Rattle.cpm_bdos.proofs.records.sequential.read_next.Goals as goal

pub put_place-requires : goal.put_place-requires
put_place-requires g c =
    let current : c.of-old.result.current ≡ current_of c.at-fcb.result = ap (λ p. p.current) c.of-old.ensures in
    c.in-Some.ensures.within (subst (λ n. n ≤ 128) (sym current) c.in_ok-judge.ensures.within)

pub returns-in-Err : goal.returns-in-Err
returns-in-Err g c =
    let here = fcb_at c.args.address c.args.memory.now in
    let kind = c.kind-kind.ensures.kind in
    let fcb = c.at-fcb.ensures in
    let go = ap (λ k. sequential_judged k here) (sym kind) ∙ ap (sequential_judged c.kind-kind.result) (sym fcb) ∙ sym c.in_ok-judge.ensures.judged in
    let name = c.new-name.ensures ∙ ap letters (c.name.ensures ∙ ap name_of fcb) in
    let turn : turned c.args.disk.now.kind (place_of here) ≡ Some c.in-Some.new =
    ap (λ k. turned k (place_of here)) (sym kind) ∙ ap (λ f. turned c.kind-kind.result (place_of f)) (sym fcb) ∙ ap (turned c.kind-kind.result) (sym c.of-old.ensures) ∙ sym c.turned.ensures.place ∙ c.in-Some.is in
    rw (go, turn) (
      Err c.in-Err.fault,
      read_as g.S.Sectors.sectors g.S.Sectors.faults c.args.disk.now c.read_block_of.new.self c.args.user _ _ _ _ _ _ name (c.record-number.ensures ∙ ap (λ k. record_at k c.in-Some.new) kind) c.in-Err.is c.read_block_of.ensures.done,
      c.not_read.ensures c.args.memory.now,
    )
