use Rattle.std.proofs.lemmas.Result.{on_ok_weaker}
use Rattle.z80dev_disk.specs.Put.{named_file}
use Rattle.z80dev_disk.proofs.On_the_way.{put_done}
use Rattle.z80dev_disk.proofs.putting.put_file.Goals as goal

pub returns-clause-put : goal.returns-clause-put
returns-clause-put c = on_ok_weaker c.store.result (put_done c.args.disk.now.kind c.make_room.new.disk.kind c.args.user c.args.replace (named_file c.args.file.now) c.args.disk.now.device c.make_room.new.disk.device c.store.new.disk.device
    c.in_ok-make_room.ensures.kind c.in_ok-make_room.ensures.made c.in_ok-make_room.ensures.others) c.store.ensures.stored
