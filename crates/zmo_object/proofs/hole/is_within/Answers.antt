use Rattle.std.proofs.lemmas.Bool.Decides.{same_from_decides}
use Rattle.asm_parse.proofs.Refs.{all_below, below_all}
use Rattle.zmo_object.proofs.hole.is_within.Goals as goal

pub returns : goal.returns
returns c = same_from_decides _ _ c.has_places.ensures (all_below c.args.refs c.args.value.now, below_all c.args.refs c.args.value.now)
