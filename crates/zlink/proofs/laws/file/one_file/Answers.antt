use Rattle.zlink.proofs.Files.One_file.{one_file, one_list}
use Rattle.zlink.proofs.laws.file.one_file.Goals as goal

pub returns-clause-file : goal.returns-clause-file
returns-clause-file c = one_file

pub returns-clause-places : goal.returns-clause-places
returns-clause-places c = one_list
