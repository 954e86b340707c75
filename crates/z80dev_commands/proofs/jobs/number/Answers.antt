use Rattle.std.proofs.Common.{lit<, sym}
use Rattle.std.specs.Str.Parse.{ExplainsUnsignedError, HasUnsignedDigitsIfOk, ParsesUnsigned}
use Rattle.clap.proofs.WalkLemmas.{one_text-rows}
use Rattle.clap.specs.Words.{found_of, one_text, rows_of}
use Rattle.z80dev_commands.proofs.Rows.{number_is}
use Rattle.z80dev_commands.proofs.jobs.number.Goals as goal

pub returns : goal.returns
returns c =
    let found = found_of c.args.found.now in
    (number_is _ (λ bs r. ParsesUnsigned 64 10 bs r × ExplainsUnsignedError 10 bs r × HasUnsignedDigitsIfOk bs r) 64 18446744073709551615 (lit< tt) (λ t r given. given.0)
    c.args.id.now (rows_of found) (one_text found c.args.id.now) c.get_one.result (sym (one_text-rows found c.args.id.now)) c.requires
    c.get_one.ensures.none c.get_one.ensures.value).0
