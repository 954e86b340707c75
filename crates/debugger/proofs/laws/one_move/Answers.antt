use Rattle.debugger.proofs.OneMove.{one_move}
use Rattle.debugger.proofs.laws.one_move.Goals as goal

pub returns : goal.returns
returns c = λ printed command stops old other new there told said alike after too start beginning was_calm calm quiet.
    one_move c.one_turn.ensures printed old other new there told said alike after too start beginning was_calm calm quiet command stops
