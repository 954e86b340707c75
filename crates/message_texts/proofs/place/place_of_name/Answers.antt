use Rattle.message_texts.proofs.Covering.{covers_cut}
use Rattle.message_texts.proofs.place.place_of_name.Goals as goal

pub returns-after-token_named-clause-tokens : goal.returns-after-token_named-clause-tokens
returns-after-token_named-clause-tokens c = λ cut is some.
    covers_cut c.args.line.now c.tokens.result c.in-Ok.found c.deref-in-Ok.result.now cut c.place_of.result
    c.tokens.ensures.scanned c.in-Ok.is c.deref-in-Ok.ensures.value c.place_of.ensures.tokens is some
