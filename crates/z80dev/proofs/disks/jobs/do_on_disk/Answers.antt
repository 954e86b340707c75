use Rattle.std.proofs.Common.{map, subst, sym}
use Rattle.z80dev.specs.Disks.{DiskJobEnds, EraseEnds, ProtectEnds, PutAllEnds}
use Rattle.host.specs.Ending.{Effect, effect_of, EndsWith}
use Rattle.z80dev.proofs.disks.jobs.do_on_disk.Goals as goal

pub returns-in-Put : goal.returns-in-Put
returns-in-Put g c =
    let x = effect_of (g.F.Files.folder c.args.files.now) (g.F.Files.folder c.put_file.new.files) (g.W.Sink.stream c.args.output.now) (g.W.Sink.stream c.args.output.now) in
    subst (λ job. EndsWith (DiskJobEnds job x) c.put_file.result) (sym c.in-Put.is) (c.put_file.ensures (g.W.Sink.stream c.args.output.now))

pub returns-in-PutAll : goal.returns-in-PutAll
returns-in-PutAll g c =
    let x = effect_of (g.F.Files.folder c.args.files.now) (g.F.Files.folder c.put_files.new.files) (g.W.Sink.stream c.args.output.now) (g.W.Sink.stream c.args.output.now) in
    subst (λ job. EndsWith (DiskJobEnds job x) c.put_files.result) (sym c.in-PutAll.is) (subst (λ words. EndsWith (PutAllEnds c.in-PutAll.put.target c.in-PutAll.put.manner (map (λ path. path.now) words) x) c.put_files.result) c.deref.ensures.value (c.put_files.ensures (g.W.Sink.stream c.args.output.now)))

pub returns-in-GetAll : goal.returns-in-GetAll
returns-in-GetAll g c =
    let x = effect_of (g.F.Files.folder c.args.files.now) (g.F.Files.folder c.get_every.new.files) (g.W.Sink.stream c.args.output.now) (g.W.Sink.stream c.args.output.now) in
    subst (λ job. EndsWith (DiskJobEnds job x) c.get_every.result) (sym c.in-GetAll.is) (c.get_every.ensures (g.W.Sink.stream c.args.output.now))

pub returns-in-Erase : goal.returns-in-Erase
returns-in-Erase g c =
    let x = effect_of (g.F.Files.folder c.args.files.now) (g.F.Files.folder c.erase_files.new.files) (g.W.Sink.stream c.args.output.now) (g.W.Sink.stream c.args.output.now) in
    subst (λ job. EndsWith (DiskJobEnds job x) c.erase_files.result) (sym c.in-Erase.is) (subst (λ words. EndsWith (EraseEnds c.in-Erase.erase.target (map (λ word. word.now) words) x) c.erase_files.result) c.deref-in-Erase.ensures.value (c.erase_files.ensures (g.W.Sink.stream c.args.output.now)))

pub returns-in-Rename : goal.returns-in-Rename
returns-in-Rename g c =
    let x = effect_of (g.F.Files.folder c.args.files.now) (g.F.Files.folder c.rename_file.new.files) (g.W.Sink.stream c.args.output.now) (g.W.Sink.stream c.args.output.now) in
    subst (λ job. EndsWith (DiskJobEnds job x) c.rename_file.result) (sym c.in-Rename.is) (c.rename_file.ensures (g.W.Sink.stream c.args.output.now))

pub returns-in-Protect : goal.returns-in-Protect
returns-in-Protect g c =
    let x = effect_of (g.F.Files.folder c.args.files.now) (g.F.Files.folder c.protect_files.new.files) (g.W.Sink.stream c.args.output.now) (g.W.Sink.stream c.args.output.now) in
    subst (λ job. EndsWith (DiskJobEnds job x) c.protect_files.result) (sym c.in-Protect.is) (subst (λ words. EndsWith (ProtectEnds c.in-Protect.protect.target c.in-Protect.protect.attribute c.in-Protect.protect.on (map (λ word. word.now) words) x) c.protect_files.result) c.deref-in-Protect.ensures.value (c.protect_files.ensures (g.W.Sink.stream c.args.output.now)))

pub returns-in-Blank : goal.returns-in-Blank
returns-in-Blank g c =
    let x = effect_of (g.F.Files.folder c.args.files.now) (g.F.Files.folder c.blank_image.new.files) (g.W.Sink.stream c.args.output.now) (g.W.Sink.stream c.args.output.now) in
    subst (λ job. EndsWith (DiskJobEnds job x) c.blank_image.result) (sym c.in-Blank.is) (c.blank_image.ensures (g.W.Sink.stream c.args.output.now))
