use Rattle.std.proofs.Common.{◌<◌, ◌≤◌, ℕ, Option, None, Some, arith, codes, lit<, sym}
use Rattle.std.specs.Prelude.{IfSome}
use Rattle.std.specs.Str.Parse.{ExplainsUnsignedError, HasUnsignedDigitsIfOk, ParsesUnsigned}
use Rattle.clap.proofs.WalkLemmas.{one_text-rows}
use Rattle.clap.specs.Words.{found_of, one_text, rows_of}
use Rattle.z80dev_commands.proofs.Rows.{number_is}
use Rattle.z80dev_commands.proofs.jobs.user.Goals as goal

below : (user : Option ℕ) → IfSome user (λ n. n ≤ 31) → IfSome user (λ n. n < 32)
below None most = tt
below (Some n) most = omega arith

pub returns : goal.returns
returns c =
    let found = found_of c.args.found.now in
    let read = number_is _ (λ bs r. ParsesUnsigned 8 10 bs r × ExplainsUnsignedError 10 bs r × HasUnsignedDigitsIfOk bs r) 8 31 (lit< tt) (λ t r given. given.0)
    (codes "N") (rows_of found) (one_text found (codes "N")) c.get_one.result (sym (one_text-rows found (codes "N"))) c.requires
    c.get_one.ensures.none c.get_one.ensures.value in
    (read.0, below c.get_one.result read.1)
