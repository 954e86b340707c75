use Rattle.std.proofs.Common.{◌++◌, subst}
use Rattle.asm_line.specs.declared.replacing.names.NameKind.{NameKind}
use Rattle.asm_line.specs.Replacing.Replaced.{SaySame}
use Rattle.asm_line.specs.Private.Places.{placed}
use Rattle.asm_line.specs.Replacing.Views.{names_seen, replacement_at, texts}
use Rattle.asm_line.proofs.Replaced.Places.{said_in_call}
use Rattle.asm_line.proofs.replacing.names.Names.new.Goals as goal

pub returns : goal.returns
returns c = λ some counter.
    let f = replacement_at some counter in
    let one = subst (λ es. SaySame (names_seen f c.add_all.new.places.entries) (names_seen f es ++ placed f NameKind.Parameter 0 (texts c.args.parameters.now))) c.with_hasher-places.ensures.empty (c.in_ok-add_all.ensures f) in
    said_in_call some counter (texts c.args.parameters.now) (texts c.args.locals.now) (names_seen f c.add_all.new.places.entries) (names_seen f c.add_all-2.new.places.entries) one (c.in_ok-add_all-2.ensures f)
