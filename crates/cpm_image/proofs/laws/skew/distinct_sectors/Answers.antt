use Rattle.cpm_image.proofs.Places.{distinct_of}
use Rattle.cpm_image.proofs.laws.skew.distinct_sectors.Goals as goal

pub returns : goal.returns
returns c = distinct_of
