-- A message and its answer that are read by functions are those that the grammar says.
use Rattle.std.proofs.Common.{◌≡◌, ℕ, ◌+◌, ◌≤◌, ◌^◌, ◌&&◌, List, length, true, cond, leb, eqb, Option, Some, None, refl, sym, ◌∙◌, ap, subst, arith}
use Rattle.std.specs.Option.{option_map, option_and_then}
use Rattle.std.proofs.lemmas.Bool.{leb-true, leb-false, le-leb, eqb-true, eq-eqb, and_parts, and_from, both_ways}
use Rattle.std.proofs.lemmas.Option.{none-some, cond_some}
use Rattle.nb_dnsmsg.specs.declared.answer.Answer.{Answer}
use Rattle.nb_dnsmsg.specs.Names.{IsNameAt}
use Rattle.nb_dnsmsg.specs.Records.{ResourceRecord, AreRecordsAt, number_at}
use Rattle.nb_dnsmsg.specs.Messages.{DnsMessage, IsDnsMessage, AnswersQuestion, IsAnswer, dns_answer_read}
use Rattle.nb_dnsmsg.specs.Views.{section, AreInSection, HasSections}
use Rattle.nb_dnsmsg.specs.Reading.{dns_name_read, records_read, before_additional, before_authority, answers_read, message_with, message_by, dns_message_in, answers_question, dns_answer_to, dns_answer}
use Rattle.nb_dnsmsg.proofs.RecordLemmas.{name_one}
use Rattle.nb_dnsmsg.proofs.MessageLemmas.{section_one, message_one}
use Rattle.nb_dnsmsg.proofs.NameReadingLemmas.{either_way, ReadsName, name_is}
use Rattle.nb_dnsmsg.proofs.RecordReadingLemmas.{ReadsRecords, records_are}

abbrev ReadsAnswers : Option (List ResourceRecord) → List ℕ → ℕ → Type 0
ReadsAnswers None bytes end = (rs : List ResourceRecord) → HasSections bytes (section end (number_at 6 bytes)) rs → ⊥
ReadsAnswers (Some rs) bytes end = HasSections bytes (section end (number_at 6 bytes)) rs

-- where two first sections end is one place, so the next one begins there
next_section : (bytes : List ℕ) (start n other count : ℕ) (rs ps qs : List ResourceRecord) (end next : ℕ) → AreInSection bytes (section start n) rs end → AreInSection bytes (section start n) ps next → AreInSection bytes (section end count) qs other → AreInSection bytes (section next count) qs other
next_section bytes start n other count rs ps qs end next g h more =
    record { stand = subst (λ x. AreRecordsAt bytes x qs other) (section_one bytes (section start n) rs ps end next g h) more.stand; count = more.count }

additional_are : (bytes : List ℕ) (start : ℕ) (answers authority : List ResourceRecord × ℕ) → AreInSection bytes (section start (number_at 6 bytes)) answers.0 answers.1 → AreInSection bytes (section answers.1 (number_at 8 bytes)) authority.0 authority.1
    → (o : Option (List ResourceRecord × ℕ)) → ReadsRecords o (number_at 10 bytes) bytes authority.1 → ReadsAnswers (option_map (λ additional. answers.0) o) bytes start
additional_are bytes start answers authority first second None none = λ rs h.
    let theirs = next_section bytes start (number_at 6 bytes) h.authorized (number_at 8 bytes) rs answers.0 h.authority h.answered answers.1 h.first first h.second in
    let last = next_section bytes answers.1 (number_at 8 bytes) h.end (number_at 10 bytes) h.authority authority.0 h.additional h.authorized authority.1 theirs second h.third in
    none h.additional h.end last.count last.stand
additional_are bytes start answers authority first second (Some additional) (size, at) = record {
  answered = answers.1;
  first = first;
  authority = authority.0;
  authorized = authority.1;
  second = second;
  additional = additional.0;
  end = additional.1;
  third = record { stand = at; count = size };
}

authority_are : (bytes : List ℕ) (start : ℕ) (answers : List ResourceRecord × ℕ) → AreInSection bytes (section start (number_at 6 bytes)) answers.0 answers.1
    → (o : Option (List ResourceRecord × ℕ)) → ReadsRecords o (number_at 8 bytes) bytes answers.1 → ReadsAnswers (option_and_then (before_additional bytes answers.0) o) bytes start
authority_are bytes start answers first None none = λ rs h.
    let theirs = next_section bytes start (number_at 6 bytes) h.authorized (number_at 8 bytes) rs answers.0 h.authority h.answered answers.1 h.first first h.second in
    none h.authority h.authorized theirs.count theirs.stand
authority_are bytes start answers first (Some authority) (size, at) =
    additional_are bytes start answers authority first (record { stand = at; count = size }) (records_read (number_at 10 bytes) bytes authority.1) (records_are (number_at 10 bytes) bytes authority.1)

first_are : (bytes : List ℕ) (start : ℕ) (o : Option (List ResourceRecord × ℕ)) → ReadsRecords o (number_at 6 bytes) bytes start → ReadsAnswers (option_and_then (before_authority bytes) o) bytes start
first_are bytes start None none = λ rs h. none rs h.answered h.first.count h.first.stand
first_are bytes start (Some answers) (size, at) =
    authority_are bytes start answers (record { stand = at; count = size }) (records_read (number_at 8 bytes) bytes answers.1) (records_are (number_at 8 bytes) bytes answers.1)

pub answers_are : (bytes : List ℕ) (end : ℕ) → ReadsAnswers (answers_read bytes end) bytes end
unfolding answers_read
answers_are bytes end = first_are bytes end (records_read (number_at 6 bytes) bytes end) (records_are (number_at 6 bytes) bytes end)

abbrev ReadsMessage : Option DnsMessage → List ℕ → Type 0
ReadsMessage None bytes = (m : DnsMessage) → IsDnsMessage bytes m → ⊥
ReadsMessage (Some m) bytes = IsDnsMessage bytes m

answers_with : (bytes : List ℕ) (name : List ℕ × ℕ) → 12 ≤ length bytes → number_at 4 bytes ≡ 1 → IsNameAt bytes 12 name.0 name.1 → name.1 + 4 ≤ length bytes → (o : Option (List ResourceRecord)) → ReadsAnswers o bytes (name.1 + 4)
    → ReadsMessage (option_map (message_with bytes name) o) bytes
answers_with bytes name header one at within None none = λ m h.
    let same = name_one bytes 12 m.name name.0 h.question name.1 h.name at in
    none m.answers (record {
      answered = h.answered;
      first = record { stand = subst (λ x. AreRecordsAt bytes (x + 4) m.answers h.answered) same.1 h.answers; count = h.answer_count };
      authority = h.authority;
      authorized = h.authorized;
      second = record { stand = h.authorities; count = h.authority_count };
      additional = h.additional;
      end = h.end;
      third = record { stand = h.additions; count = h.additional_count };
    })
answers_with bytes name header one at within (Some rs) has = record {
  header = header;
  id = refl;
  flags = refl;
  one = one;
  question = name.1;
  name = at;
  within = within;
  kind = refl;
  class = refl;
  answered = has.answered;
  answers = has.first.stand;
  answer_count = has.first.count;
  authority = has.authority;
  authorized = has.authorized;
  authorities = has.second.stand;
  authority_count = has.second.count;
  additional = has.additional;
  end = has.end;
  additions = has.third.stand;
  additional_count = has.third.count;
}

question_is : (bytes : List ℕ) → 12 ≤ length bytes → number_at 4 bytes ≡ 1 → (o : Option (List ℕ × ℕ)) → ReadsName o bytes 12 → ReadsMessage (option_and_then (message_by bytes) o) bytes
question_is bytes header one None none = λ m h. none m.name h.question h.name
question_is bytes header one (Some name) at = either_way (leb (name.1 + 4) (length bytes))
    (λ on. rw on (answers_with bytes name header one at (leb-true (name.1 + 4) (length bytes) on) (answers_read bytes (name.1 + 4)) (answers_are bytes (name.1 + 4))))
    (λ off. rw off (λ m h.
    let same = (name_one bytes 12 m.name name.0 h.question name.1 h.name at).1 in
    let within = h.within in let long = leb-false (name.1 + 4) (length bytes) off in
    omega (arith, same, within, long)))

pub message_is : (bytes : List ℕ) → ReadsMessage (dns_message_in bytes) bytes
unfolding dns_message_in
message_is bytes = either_way (leb 12 (length bytes) && eqb (number_at 4 bytes) 1)
    (λ on.
    let (header, one) = and_parts _ _ on in
    rw on (question_is bytes (leb-true 12 (length bytes) header) (eqb-true (number_at 4 bytes) 1 one) (dns_name_read bytes 12) (name_is bytes 12)))
    (λ off. rw off (λ m h. both_ways _ off (and_from _ _ (le-leb 12 (length bytes) h.header) (eq-eqb (number_at 4 bytes) 1 h.one))))

question_answered : (id : ℕ) (name : List ℕ) (m : DnsMessage) → answers_question id name m ≡ true → AnswersQuestion m id name
question_answered id name m is =
    let (four, class) = and_parts _ _ is in
    let (three, kind) = and_parts _ _ four in
    let (two, same) = and_parts _ _ three in
    let (number, response) = and_parts _ _ two in
    record {
      same_id = eqb-true m.id id number;
      response = leb-true (2 ^ 15) m.flags response;
      same_name = same;
      kind = eqb-true m.kind 1 kind;
      class = eqb-true m.class 1 class;
    }

answered_question : (id : ℕ) (name : List ℕ) (m : DnsMessage) → AnswersQuestion m id name → answers_question id name m ≡ true
answered_question id name m h =
    and_from _ _ (and_from _ _ (and_from _ _ (and_from _ _ (eq-eqb m.id id h.same_id) (le-leb (2 ^ 15) m.flags h.response)) h.same_name) (eq-eqb m.kind 1 h.kind)) (eq-eqb m.class 1 h.class)

-- what is read as an answer is one
pub answer_is : (bytes : List ℕ) (id : ℕ) (name : List ℕ) (a : Answer) → dns_answer bytes id name ≡ Some a → IsAnswer bytes id name a
unfolding dns_answer
answer_is bytes id name a is = by (dns_message_in bytes) (message_is bytes) is
  where
    by : (o : Option DnsMessage) → ReadsMessage o bytes → option_and_then (dns_answer_to id name) o ≡ Some a → IsAnswer bytes id name a
    by None none is = absurd (none-some a is)
    by (Some m) h is =
        let both = cond_some (answers_question id name m) (dns_answer_read m) a is in
        record { message = m; is_message = h; answers = question_answered id name m both.0; is = sym both.1 }

-- and an answer is read as that one
pub is_answer : (bytes : List ℕ) (id : ℕ) (name : List ℕ) (a : Answer) → IsAnswer bytes id name a → dns_answer bytes id name ≡ Some a
unfolding dns_answer
is_answer bytes id name a h = by (dns_message_in bytes) (message_is bytes)
  where
    by : (o : Option DnsMessage) → ReadsMessage o bytes → option_and_then (dns_answer_to id name) o ≡ Some a
    by None none = absurd (none h.message h.is_message)
    by (Some m) is =
        ap (dns_answer_to id name) (message_one bytes m h.message is h.is_message)
        ∙ ap (λ b. cond b (Some (dns_answer_read h.message)) None) (answered_question id name h.message h.answers)
        ∙ ap (λ (x : Answer). Some x) (sym h.is)
