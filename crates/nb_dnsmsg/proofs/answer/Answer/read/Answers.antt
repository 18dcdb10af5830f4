use Rattle.std.proofs.Common.{List, ℕ, ◌+◌, sym, ◌∙◌, subst}
use Rattle.nb_dnsmsg.specs.Views.{IsOurQuestion, AddressIs, IsSectionAt, section}
use Rattle.nb_dnsmsg.proofs.MessageLemmas.{answers_question, answers_sections, message_read, answer_one, answer_so}
use Rattle.nb_dnsmsg.proofs.answer.Answer.read.Goals as goal

pub returns-then-not-is_our_question-clause-complete : goal.returns-then-not-is_our_question-clause-complete
returns-then-not-is_our_question-clause-complete c = λ answer h.
    c.if-not-is_our_question.ensures
    (subst (λ (x : List ℕ). IsOurQuestion c.args.bytes.now c.in-Some.question x c.args.name.now) (sym c.as_slice.ensures.value)
    (answers_question c.args.bytes.now c.args.id c.args.name.now answer c.read_name.new.to.items c.in-Some.question c.in-Some.ensures h))

pub returns-then-not-has_sections-clause-complete : goal.returns-then-not-has_sections-clause-complete
returns-then-not-has_sections-clause-complete c = λ answer h.
    c.if-not-has_sections.ensures h.message.answers
    (answers_sections c.args.bytes.now c.args.id c.args.name.now answer c.read_name.new.to.items c.in-Some.question c.number_at.result c.in-Some.ensures c.number_at.ensures h)

pub returns-clause-sound : goal.returns-clause-sound
returns-clause-sound c =
    let head = c.if-not-is_response.ensures in
    let question = subst (λ (x : List ℕ). IsOurQuestion c.args.bytes.now c.in-Some.question x c.args.name.now) c.as_slice.ensures.value c.if-not-is_our_question.ensures in
    let (rs, has) = c.if-not-has_sections.ensures in
    let at : IsSectionAt c.args.bytes.now (section (c.in-Some.question + 4) c.number_at.result) rs = (has.answered, has.first) in
    let reached = c.follow.ensures rs at in
    let found = subst (λ (x : List ℕ). AddressIs c.address.result x rs) (c.as_slice-2.ensures.value ∙ reached) (c.address.ensures rs at) in
    record {
      message = _;
      is_message = message_read c.args.bytes.now c.args.id c.args.name.now c.read_name.new.to.items c.in-Some.question c.number_at.result rs head c.in-Some.ensures question c.number_at.ensures has;
      answers = record {
        same_id = sym head.same_id;
        response = head.response;
        same_name = question.same;
        kind = question.kind;
        class = question.class;
      };
      is = answer_so _ _ _ _ c.number_at-2.ensures found;
    }

pub returns-clause-complete : goal.returns-clause-complete
returns-clause-complete c = λ answer h. answer_one c.args.bytes.now c.args.id c.args.name.now _ answer (returns-clause-sound c) h
