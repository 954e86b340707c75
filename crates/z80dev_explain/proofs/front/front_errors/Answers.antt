use Rattle.z80dev_explain.proofs.front.front_errors.Goals as goal

pub returns : goal.returns
returns c = (
  c.in_ok-reports.ensures.told,
  (c.front_lines.result, c.front_lines.ensures, c.in_ok-reports.ensures.distinct c.front_lines.result c.in_ok-once.ensures.distinct),
)
