use Rattle.estelle_lexer.proofs.Answers.{answer_lexed, answer_refused, answer_list, answer_place, answer_spans, answer_count, answer_rest, answer_below}
use Rattle.estelle_lexer.proofs.Forms.{answer_forms}
use Rattle.estelle_lexer.proofs.lex.tokens.Goals as goal

pub returns-clause-lexed : goal.returns-clause-lexed
returns-clause-lexed c = answer_lexed c.args.bytes.now c.lex.result c.lex.ensures

pub returns-clause-refused : goal.returns-clause-refused
returns-clause-refused c = answer_refused c.args.bytes.now c.lex.result c.lex.ensures

pub returns-clause-only_list : goal.returns-clause-only_list
returns-clause-only_list c = answer_list c.args.bytes.now c.lex.result c.lex.ensures

pub returns-clause-only_place : goal.returns-clause-only_place
returns-clause-only_place c = answer_place c.args.bytes.now c.lex.result c.lex.ensures

pub returns-clause-spans : goal.returns-clause-spans
returns-clause-spans c = answer_spans c.args.bytes.now c.lex.result c.lex.ensures

pub returns-clause-count : goal.returns-clause-count
returns-clause-count c = answer_count c.args.bytes.now c.lex.result c.lex.ensures

pub returns-clause-rest : goal.returns-clause-rest
returns-clause-rest c = answer_rest c.args.bytes.now c.lex.result c.lex.ensures

pub returns-clause-place : goal.returns-clause-place
returns-clause-place c = answer_below c.args.bytes.now c.lex.result c.lex.ensures

pub returns-clause-forms : goal.returns-clause-forms
returns-clause-forms c = answer_forms c.args.bytes.now c.lex.result (answer_lexed c.args.bytes.now c.lex.result c.lex.ensures)
