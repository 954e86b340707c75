use Rattle.std.proofs.Common.{◌≡◌, ◌<◌, length, map, refl, ap, sym, ◌∙◌, arith}
use Rattle.std.proofs.lemmas.Result.{err_from_is_err_and}
use Rattle.cpm_image.specs.Kind.{entry_count}
use Rattle.cpm_image.specs.Directory.Entries.{at}
use Rattle.cpm_disk.specs.Calls.{PartlyChanged}
use Rattle.cpm_disk.specs.Private.Changes.{after}
use Rattle.cpm_disk.proofs.Changes.{halted, passed, read_at, stepped}
use Rattle.cpm_disk.proofs.change.change_all.Goals as goal
use Rattle.cpm_disk.proofs.change.change_all.Goals.{in-Some+in_ok-store-in-Some, in-None}

pub returns-in_err-store-in-Some-clause-stopped : goal.returns-in_err-store-in-Some-clause-stopped
returns-in_err-store-in-Some-clause-stopped g c =
    let below_end : c.loop-number.number < entry_count c.args.kind = omega (arith, c.loop-number-test.true, c.entry_count-number-end.ensures) in
    let below : c.loop-number.number < length c.loop-number.entries = (let long = c.loop-number.invariant.so_far.size in omega arith) in
    let entry = read_at c.loop-number.entries c.from.result c.loop-number.number c.from.ensures below in
    let it : after c.args.change.now (at c.loop-number.entries c.loop-number.number) ≡ c.in-Some.changed = ap (after c.args.change.now) (sym entry) ∙ sym c.in-Some.ensures in
    let left : PartlyChanged c.args.kind (g.S.Sectors.sectors c.args.device.now) (g.S.Sectors.sectors c.store.new.device) (map (after c.args.change.now) c.args.entries.now) =
    halted c.args.kind c.args.change.now _ _ _ c.args.entries.now c.loop-number.entries c.loop-number.number (at c.loop-number.entries c.loop-number.number) c.in-Some.changed c.requires.size below_end c.requires.entries refl it c.loop-number.invariant.so_far
    (rw c.in_err-store-in-Some.ensures.entries at c.in_err-store-in-Some.ensures.stopped) in
    let p = err_from_is_err_and c.from_residual.result c.from_residual.ensures.1 in rw p.1 left

pub loop-number-preserved : goal.loop-number-preserved
loop-number-preserved g c =
    let below_end : c.loop-number.number < entry_count c.args.kind = omega (arith, c.loop-number-test.true, c.entry_count-number-end.ensures) in
    let below : c.loop-number.number < length c.loop-number.entries = (let long = c.loop-number.invariant.so_far.size in omega arith) in
    let entry = read_at c.loop-number.entries c.from.result c.loop-number.number c.from.ensures below in
    elim c.match-changed.branch [
      | in-Some+in_ok-store-in-Some w ↦ (
          let it : after c.args.change.now (at c.loop-number.entries c.loop-number.number) ≡ w.in-Some.changed = ap (after c.args.change.now) (sym entry) ∙ sym w.in-Some.ensures in
          rw (w.device-is, w.entries-is, w.in_ok-store-in-Some.ensures.entries) record {
            so_far = stepped c.args.kind c.args.change.now _ _ _ c.args.entries.now c.loop-number.entries c.loop-number.number (at c.loop-number.entries c.loop-number.number) w.in-Some.changed c.requires.size below_end refl it c.loop-number.invariant.so_far
                (rw w.in_ok-store-in-Some.ensures.entries at w.in_ok-store-in-Some.ensures.stored);
            unfailed = w.in_ok-store-in-Some.ensures.cause ∙ c.loop-number.invariant.unfailed;
          })
      | in-None w ↦ (
          let not_it : after c.args.change.now (at c.loop-number.entries c.loop-number.number) ≡ at c.loop-number.entries c.loop-number.number = ap (after c.args.change.now) (sym entry) ∙ sym w.in-None.ensures ∙ entry in
          rw (w.device-is, w.entries-is) record {
            so_far = passed c.args.kind c.args.change.now _ _ c.args.entries.now c.loop-number.entries c.loop-number.number (at c.loop-number.entries c.loop-number.number) c.requires.size below_end refl not_it c.loop-number.invariant.so_far;
            unfailed = c.loop-number.invariant.unfailed;
          })
    ]
