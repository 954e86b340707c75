use Rattle.std.proofs.Common.{sym}
use Rattle.clap.proofs.WalkLemmas.{one_text-rows}
use Rattle.clap.specs.Words.{found_of, one_text, rows_of}
use Rattle.z80dev_commands.proofs.Rows.{flag_is}
use Rattle.z80dev_commands.proofs.jobs.flag.Goals as goal

pub returns : goal.returns
returns c =
    let found = found_of c.args.found.now in
    flag_is c.args.id.now (rows_of found) (one_text found c.args.id.now) c.get_flag.result (sym (one_text-rows found c.args.id.now)) c.requires
    c.get_flag.ensures.none c.get_flag.ensures.value c.get_flag.ensures.other
