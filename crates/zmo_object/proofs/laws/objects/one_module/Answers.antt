use Rattle.zmo_object.proofs.Whole.{read_told}
use Rattle.zmo_object.proofs.laws.objects.one_module.Goals as goal

pub returns : goal.returns
returns c = read_told
