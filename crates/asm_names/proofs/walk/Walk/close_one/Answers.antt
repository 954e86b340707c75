use Rattle.std.proofs.Common.{rules, ◌≡◌, ◌∙◌, sym, arith}
use Rattle.asm_names.proofs.Orders.Visits.{read_at}
use Rattle.asm_names.proofs.Orders.Closed.{one_closed}
use Rattle.asm_names.proofs.walk.Walk.close_one.Goals as goal

pub returns-clause-standing : goal.returns-clause-standing
returns-clause-standing c =
    let room = c.requires.closing.stands.framed.0 in
    let is = read_at c.args.self.now.path.items c.args.start c.index-definition.result.now room c.index-definition.ensures in
    one_closed c.args.uses.now c.args.start c.names_itself.result c.args.self.now c.turn.new.self c.in_ok-turn.ensures c.requires.closing c.requires.one (rw (sym is) c.names_itself.ensures)
