use Rattle.program_map.proofs.By_line.{Pieces, source_few, source_told}
use Rattle.program_map.proofs.maps.kinds.told_sources.Goals as goal

pub returns-clause-few : goal.returns-clause-few
returns-clause-few c =
    let pieces : Pieces = λ grow t b p spelled is. (let h = c.pieces_at_places.ensures.piece grow t b p spelled is in (h.0, h.1)) in
    source_few pieces c.one_expansion.ensures c.one_answer.ensures.program

pub returns-clause-told : goal.returns-clause-told
returns-clause-told c =
    let pieces : Pieces = λ grow t b p spelled is. (let h = c.pieces_at_places.ensures.piece grow t b p spelled is in (h.0, h.1)) in
    source_told pieces c.one_expansion.ensures c.one_answer.ensures.program
