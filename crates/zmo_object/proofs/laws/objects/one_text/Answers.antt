use Rattle.zmo_object.proofs.Whole.{read_again}
use Rattle.zmo_object.proofs.laws.objects.one_text.Goals as goal

pub returns : goal.returns
returns c = read_again
