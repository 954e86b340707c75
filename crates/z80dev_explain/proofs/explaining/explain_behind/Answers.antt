use Rattle.std.proofs.Common.{Ok, refl}
use Rattle.std.specs.List.{sum_by}
use Rattle.z80dev_explain.proofs.explaining.explain_behind.Goals as goal

pub returns-in_ok-longs_of-in-Ok : goal.returns-in_ok-longs_of-in-Ok
returns-in_ok-longs_of-in-Ok c =
    let warned = c.in_ok-all_warnings-in-Ok.ensures in
    record {
      behind = c.args.behind.now;
      are = c.requires.are;
      building = Ok c.in-Ok.built;
      built = c.in-Ok.ensures.answer;
      program = refl;
      reported = (
        sum_by (λ n. n) warned.0,
        record { before = c.args.sources.now.before; lines = c.requires.before; counts = warned.0; each = warned.1; all = refl },
        warned.2,
      );
      long = c.in_ok-longs_of-in-Ok.ensures;
    }
