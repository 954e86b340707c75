use Rattle.std.proofs.Common.{◌≡◌, ap, length, subst, sym, ◌∙◌}
use Rattle.cpm_image.specs.Directory.Rules.{IsSound}
use Rattle.cpm_disk.specs.Image.{directory}
use Rattle.cpm_disk.proofs.Places.{length_directory}
use Rattle.cpm_disk.proofs.disk.Disk.mount.Goals as goal

pub invariant_of-result : goal.invariant_of-result
invariant_of-result g c =
    let entries : c.in-Ok.entries.items ≡ directory c.in-Some.kind (g.S.Sectors.sectors c.read_entries.new.device) = c.in-Ok.ensures.entries ∙ ap (directory c.in-Some.kind) (sym c.in-Ok.ensures.kept) in
    record {
      count = ap length c.in-Ok.ensures.kept ∙ sym c.len.ensures ∙ c.in-Some.ensures;
      sound = subst (IsSound c.in-Some.kind) (c.deref.ensures.value ∙ entries) c.in-Ok-judge.ensures.judged;
      size = ap length entries ∙ length_directory c.in-Some.kind (g.S.Sectors.sectors c.read_entries.new.device);
      entries_are = λ _. entries;
      may_write = λ _. tt;
    }
