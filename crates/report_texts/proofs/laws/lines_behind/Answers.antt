use Rattle.report_texts.proofs.Lines.{behind, count}
use Rattle.report_texts.proofs.Words.{all_word_bytes}
use Rattle.report_texts.proofs.laws.lines_behind.Goals as goal

pub returns-clause-behind : goal.returns-clause-behind
returns-clause-behind c = behind

pub returns-clause-count : goal.returns-clause-count
returns-clause-count c = count

pub returns-clause-words : goal.returns-clause-words
returns-clause-words c = all_word_bytes c.scanned.ensures
