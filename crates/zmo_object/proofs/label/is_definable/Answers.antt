use Rattle.std.proofs.lemmas.Bool.Decides.{same_from_decides}
use Rattle.zmo_object.proofs.Definable.{definable}
use Rattle.zmo_object.proofs.label.is_definable.Goals as goal

pub returns : goal.returns
returns c = same_from_decides _ _ c.is_name.ensures (definable c.args.name.now)
