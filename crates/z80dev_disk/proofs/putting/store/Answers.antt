use Rattle.std.proofs.Common.{◌+◌, ◌∙◌, ap, arith, length, sym, subst}
use Rattle.std.proofs.lemmas.List.{length-drop}
use Rattle.std.proofs.lemmas.Result.{err_from_is_err_and}
use Rattle.z80dev_disk.specs.Put.{padded_record}
use Rattle.z80dev_disk.proofs.On_the_way.{Putting, begun, finished, not_begun, not_written, wrote}
use Rattle.z80dev_disk.proofs.putting.store.Goals as goal

pub loop-piece-init : goal.loop-piece-init
loop-piece-init c = begun c.args.disk.now c.args.user c.args.name.now c.args.file.now c.requires.user c.create.new.self _ c.in_ok-create.ensures.done c.in_ok-create.ensures.made c.in_ok-create.ensures.others c.in_ok-create.ensures.sound

pub returns-in_err-create-clause-stopped : goal.returns-in_err-create-clause-stopped
returns-in_err-create-clause-stopped c =
    let p = err_from_is_err_and c.from_residual.result c.from_residual.ensures.1 in
    rw (p.1, p.2) (not_begun c.args.disk.now c.args.user c.args.name.now c.args.file.now c.requires.user c.create.new.self _ c.requires.sound c.in_err-create.ensures.done).0

pub returns-in_err-create-clause-exists : goal.returns-in_err-create-clause-exists
returns-in_err-create-clause-exists c =
    let p = err_from_is_err_and c.from_residual.result c.from_residual.ensures.1 in
    rw (p.1, p.2) (not_begun c.args.disk.now c.args.user c.args.name.now c.args.file.now c.requires.user c.create.new.self _ c.requires.sound c.in_err-create.ensures.done).1

pub returns-in_err-write_block_of-clause-stopped : goal.returns-in_err-write_block_of-clause-stopped
returns-in_err-write_block_of-clause-stopped c =
    let (some, within, piece_is, rest_is) = c.in-Some.ensures in
    let p = err_from_is_err_and c.from_residual-in_err-write_block_of.result c.from_residual-in_err-write_block_of.ensures.1 in
    rw (p.1, p.2) (not_written c.args.disk.now c.args.user c.args.name.now c.args.file.now c.requires.user c.loop-piece.disk c.loop-piece.number c.loop-piece.rest.now c.loop-piece.invariant _ _ _ some c.in_err-write_block_of.ensures.done).0

pub returns-in_err-write_block_of-clause-exists : goal.returns-in_err-write_block_of-clause-exists
returns-in_err-write_block_of-clause-exists c =
    let (some, within, piece_is, rest_is) = c.in-Some.ensures in
    let p = err_from_is_err_and c.from_residual-in_err-write_block_of.result c.from_residual-in_err-write_block_of.ensures.1 in
    rw (p.1, p.2) (not_written c.args.disk.now c.args.user c.args.name.now c.args.file.now c.requires.user c.loop-piece.disk c.loop-piece.number c.loop-piece.rest.now c.loop-piece.invariant _ _ _ some c.in_err-write_block_of.ensures.done).1

pub loop-piece-preserved : goal.loop-piece-preserved
loop-piece-preserved c =
    let (some, within, piece_is, rest_is) = c.in-Some.ensures in
    subst (Putting c.args.disk.now c.args.user c.args.name.now c.args.file.now c.write_block_of.new.self (c.loop-piece.number + 1)) (sym rest_is)
    (wrote c.args.disk.now c.args.user c.args.name.now c.args.file.now c.requires.user c.loop-piece.disk c.loop-piece.number c.loop-piece.rest.now c.loop-piece.invariant c.write_block_of.new.self _ (c.filled.ensures ∙ ap padded_record piece_is)
    c.in_ok-write_block_of.ensures.done c.in_ok-write_block_of.ensures.written c.in_ok-write_block_of.ensures.others c.in_ok-write_block_of.ensures.sound some)

pub returns-clause-stored : goal.returns-clause-stored
returns-clause-stored c = finished c.args.disk.now c.args.user c.args.name.now c.args.file.now c.requires.user c.loop-piece.disk c.loop-piece.number c.loop-piece.rest.now c.loop-piece.invariant c.in_default.ensures

pub loop-piece-smaller : goal.loop-piece-smaller
loop-piece-smaller c =
    let (some, within, piece_is, rest_is) = c.in-Some.ensures in
    omega (arith, some, ap length rest_is, length-drop 128 c.loop-piece.rest.now)
