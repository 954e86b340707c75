use Rattle.std.proofs.Common.{◌∙◌, ◌++◌, Some, ap, option_map, subst, sym}
use Rattle.z80dev_jobs.specs.Runs.Telling.{AreLastLines, IsTold, IsToldOf, registers_lines}
use Rattle.z80dev_jobs.specs.declared.runs.telling.Told.{Told}
use Rattle.z80dev_jobs.proofs.runs.telling.told_of.Goals as goal

pub returns : goal.returns
returns g c =
    let telling = c.args.telling in
    let known = c.args.labels.now in
    let listing = option_map (λ text. text.now) c.args.listing in
    let traced = c.args.traced.now in
    let left = c.in-Some.left in
    let kept = c.in-Some-kept.kept in
    let told : Told = record { trace = c.in_ok-trace.trace; profile = c.in_ok-profile.profile; lines = c.extend_from_slice.new.self } in
    let added = c.in_ok-extend_from_slice.ensures.items ∙ ap (λ more. c.in_ok-lines.lines.items ++ more) (c.deref.ensures.value ∙ c.in_ok-registers.ensures) in
    let is : IsTold telling known listing traced.ran.why traced.ran.turns left kept told = record {
      trace = c.in_ok-trace.ensures;
      profile = c.in_ok-profile.ensures;
      last = c.in_ok-lines.lines.items;
      last_lines = subst (λ wrong. AreLastLines telling known wrong kept c.in_ok-lines.lines.items) c.is_wrong-is_wrong.ensures c.in_ok-lines.ensures;
      lines = added;
    } in
    subst (λ state. IsToldOf telling known listing traced.ran.why traced.ran.turns state traced.kept told) (sym c.in-Some.is)
    (subst (λ kept. IsToldOf telling known listing traced.ran.why traced.ran.turns (Some left) kept told) (sym c.in-Some-kept.is) is)
