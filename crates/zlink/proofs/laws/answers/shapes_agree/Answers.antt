use Rattle.zlink.proofs.Agreement.{best-back, best-there, fits-back, fits-there, forcing-back, forcing-there, place-same, settled-back, settled-there, shape-back, shape-there, total-same, valid-back, valid-there}
use Rattle.zlink.proofs.laws.answers.shapes_agree.Goals as goal

pub returns-clause-shape : goal.returns-clause-shape
returns-clause-shape c = λ shape. (shape-there shape, shape-back shape)

pub returns-clause-places : goal.returns-clause-places
returns-clause-places c = λ shape choice k. place-same choice shape k

pub returns-clause-total : goal.returns-clause-total
returns-clause-total c = λ shape choice. total-same choice shape

pub returns-clause-fits : goal.returns-clause-fits
returns-clause-fits c = λ shape choice k. (fits-there choice shape k, fits-back choice shape k)

pub returns-clause-settled : goal.returns-clause-settled
returns-clause-settled c = λ shape choice. (settled-there choice shape, settled-back choice shape)

pub returns-clause-valid : goal.returns-clause-valid
returns-clause-valid c = λ shape choice. (valid-there choice shape, valid-back choice shape)

pub returns-clause-best : goal.returns-clause-best
returns-clause-best c = λ shape choice. (best-there choice shape, best-back choice shape)

pub returns-clause-forcing : goal.returns-clause-forcing
returns-clause-forcing c = λ shape order. (forcing-there shape order, forcing-back shape order)
