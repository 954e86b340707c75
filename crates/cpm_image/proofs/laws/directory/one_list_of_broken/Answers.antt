use Rattle.cpm_image.proofs.OneList as list
use Rattle.cpm_image.proofs.laws.directory.one_list_of_broken.Goals as goal

pub returns-clause-one : goal.returns-clause-one
returns-clause-one c = list.one

pub returns-clause-none : goal.returns-clause-none
returns-clause-none c = list.none

pub returns-clause-first : goal.returns-clause-first
returns-clause-first c = list.first
