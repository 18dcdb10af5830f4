use Rattle.nb_dnsmsg.proofs.QuestionLemmas.{no_query, nameless, query_is}
use Rattle.nb_dnsmsg.proofs.question.Question.read.Goals as goal

pub returns-in_default-clause-complete : goal.returns-in_default-clause-complete
returns-in_default-clause-complete c = λ id name q. no_query c.args.bytes.now name id c.in_default.ensures q

pub returns-then-not-is_name-clause-complete : goal.returns-then-not-is_name-clause-complete
returns-then-not-is_name-clause-complete c = λ id name q.
    nameless c.args.bytes.now c.in-Some.name.now name id c.in-Some.ensures c.if-not-is_name.ensures q

pub returns-clause-complete : goal.returns-clause-complete
returns-clause-complete c = λ id name q.
    query_is c.args.bytes.now c.in-Some.name.now c.number_at.result name id c.number_at.ensures c.in-Some.ensures q
