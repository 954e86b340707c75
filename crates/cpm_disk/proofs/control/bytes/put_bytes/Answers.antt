use Rattle.std.proofs.Common.{◌≡◌, ◌+◌, ◌%◌, ap, arith, get_or, length, refl, set, subst, sym, ◌∙◌}
use Rattle.std.proofs.lemmas.List.{length-set}
use Rattle.cpm_disk.proofs.Putting.{ArePut, all_put, none_put, one_more}
use Rattle.cpm_disk.proofs.control.bytes.put_bytes.Goals as goal

pub loop-byte-init : goal.loop-byte-init
loop-byte-init c = record { next = omega (arith, c.ranges.address.fits); put = none_put c.args.address c.args.bytes.now c.args.memory.now }

pub loop-byte-preserved : goal.loop-byte-preserved
loop-byte-preserved c =
    let byte = get_or c.args.bytes.now c.loop-byte.byte-index 0 in
    let place = (c.args.address + c.loop-byte.byte-index) % 65536 in
    let now : c.set.new.self ≡ set c.loop-byte.memory place byte = c.set.ensures.byte ∙ ap (λ k. set c.loop-byte.memory k byte) c.loop-byte.invariant.next in
    let long : length c.loop-byte.memory ≡ 65536 = sym (length-set c.loop-byte.memory place byte) ∙ sym (ap length now) ∙ c.set.ensures.size in
    let before = c.loop-byte.invariant.put.size in
    let more = one_more c.args.address c.loop-byte.byte-index byte c.args.bytes.now c.args.memory.now c.loop-byte.memory
    c.loop-byte-test.true (omega (arith, c.loop-byte-test.true, c.requires)) refl (omega (arith, long, before)) c.loop-byte.invariant.put in
    record {
      next = rw c.loop-byte.invariant.next (omega arith);
      put = subst (ArePut c.args.address (c.loop-byte.byte-index + 1) c.args.bytes.now c.args.memory.now) (sym now) more;
    }

pub returns : goal.returns
returns c =
    let end : c.loop-byte.byte-index ≡ length c.args.bytes.now = omega (arith, c.loop-byte-test.false, c.loop-byte.auto.byte-index-end) in
    all_put c.args.address c.args.bytes.now c.args.memory.now c.loop-byte.memory
    (subst (λ n. ArePut c.args.address n c.args.bytes.now c.args.memory.now c.loop-byte.memory) end c.loop-byte.invariant.put)
