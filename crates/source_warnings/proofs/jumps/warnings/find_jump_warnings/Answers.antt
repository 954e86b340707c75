use Rattle.std.proofs.Common.{refl}
use Rattle.source_warnings.proofs.jumps.warnings.find_jump_warnings.Goals as goal

pub returns : goal.returns
returns c =
    rw (
      c.in_ok-put_entries.ensures,
      c.deref-5.ensures.value,
      c.deref-4.ensures.value,
      c.in_ok-put_all_overs.ensures,
      c.new-found.ensures.items,
      c.deref-3.ensures.value,
      c.in_ok-jumps.ensures,
      c.deref-2.ensures.value,
      c.in_ok-statements.ensures,
      c.deref.ensures.value,
      c.in_ok-placed.ensures,
    )
    refl
