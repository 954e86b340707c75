use Rattle.std.proofs.Common.{codes, lit<, sym}
use Rattle.std.specs.Str.Parse.{ExplainsUnsignedError, HasUnsignedDigitsIfOk, ParsesUnsigned}
use Rattle.clap.proofs.WalkLemmas.{one_text-rows}
use Rattle.clap.specs.Words.{found_of, one_text, rows_of}
use Rattle.z80dev_commands.proofs.Rows.{number_is}
use Rattle.z80dev_commands.proofs.jobs.last.Goals as goal

pub returns : goal.returns
returns c =
    let found = found_of c.args.found.now in
    number_is _ (λ bs r. ParsesUnsigned 32 10 bs r × ExplainsUnsignedError 10 bs r × HasUnsignedDigitsIfOk bs r) 32 1000000 (lit< tt) (λ t r given. given.0)
    (codes "COUNT") (rows_of found) (one_text found (codes "COUNT")) c.get_one.result (sym (one_text-rows found (codes "COUNT"))) c.requires
    c.get_one.ensures.none c.get_one.ensures.value
