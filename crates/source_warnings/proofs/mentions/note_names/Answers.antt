use Rattle.std.specs.List.{filter_map}
use Rattle.std.specs.Option.{option_to_list}
use Rattle.asm_line.specs.Tokens.{lexeme, lexemes}
use Rattle.source_warnings.specs.Mentions.{name_of_token}
use Rattle.source_warnings.specs.Noted.{noted_on}
use Rattle.source_warnings.proofs.Steps.{note_more, token_adds}
use Rattle.source_warnings.proofs.mentions.note_names.Goals as goal

pub loop-token-preserved : goal.loop-token-preserved
loop-token-preserved c =
    note_more (λ xs. noted_on c.args.number (filter_map name_of_token (lexemes xs))) (λ x. noted_on c.args.number (option_to_list (name_of_token (lexeme x)))) (token_adds lexeme c.args.number) c.args.tokens.now c.loop-token.token-index _ c.loop-token.mentions c.note_token.new.mentions _ c.loop-token-test.true c.in_ok-note_token.ensures c.loop-token.invariant
