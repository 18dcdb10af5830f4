-- A message is one message, by its bytes.
use Rattle.std.proofs.Common.{◌≡◌, ℕ, ◌+◌, ◌≤◌, List, length, ◌^◌, ◌%◌, Option, refl, sym, ◌∙◌, ap, subst}
use Rattle.std.specs.Option.{option_map}
use Rattle.nb_wire.specs.declared.address.Ip4.{Ip4}
use Rattle.nb_dnsmsg.specs.declared.answer.Answer.{Answer}
use Rattle.nb_dnsmsg.specs.declared.section.Section.{Section}
use Rattle.nb_dnsmsg.specs.Names.{IsNameAt}
use Rattle.nb_dnsmsg.specs.Records.{ResourceRecord, AreRecordsAt, number_at}
use Rattle.nb_dnsmsg.specs.Messages.{DnsMessage, IsDnsMessage, IsAnswer, dns_answer_read, is_same_name, ip4}
use Rattle.nb_dnsmsg.specs.Views.{section, AreInSection, IsResponse, IsOurQuestion, HasSections}
use Rattle.nb_dnsmsg.proofs.RecordLemmas.{name_one}
use Rattle.nb_dnsmsg.proofs.SectionLemmas.{records_one}

dns_message : ℕ → ℕ → List ℕ → ℕ → ℕ → List ResourceRecord → DnsMessage
dns_message id flags name kind class answers = record { id = id; flags = flags; name = name; kind = kind; class = class; answers = answers }

-- a message has at most one reading
pub message_one : (bytes : List ℕ) (m n : DnsMessage) → IsDnsMessage bytes m → IsDnsMessage bytes n → m ≡ n
unfolding dns_message
message_one bytes m n p q =
    let named = name_one bytes 12 m.name n.name p.question q.question p.name q.name in
    let same = records_one bytes (q.question + 4) m.answers n.answers p.answered q.answered (p.answer_count ∙ sym q.answer_count) (subst (λ x. AreRecordsAt bytes (x + 4) m.answers p.answered) named.1 p.answers) q.answers in
    ap (λ x. dns_message x m.flags m.name m.kind m.class m.answers) (p.id ∙ sym q.id)
    ∙ ap (λ x. dns_message n.id x m.name m.kind m.class m.answers) (p.flags ∙ sym q.flags)
    ∙ ap (λ x. dns_message n.id n.flags x m.kind m.class m.answers) named.0
    ∙ ap (λ x. dns_message n.id n.flags n.name x m.class m.answers) (p.kind ∙ ap (λ x. number_at x bytes) named.1 ∙ sym q.kind)
    ∙ ap (λ x. dns_message n.id n.flags n.name n.kind x m.answers) (p.class ∙ ap (λ x. number_at (x + 2) bytes) named.1 ∙ sym q.class)
    ∙ ap (λ x. dns_message n.id n.flags n.name n.kind n.class x) same.0

pub answer_one : (bytes : List ℕ) (id : ℕ) (name : List ℕ) (a b : Answer) → IsAnswer bytes id name a → IsAnswer bytes id name b → a ≡ b
answer_one bytes id name a b p q = p.is ∙ ap dns_answer_read (message_one bytes p.message q.message p.is_message q.is_message) ∙ sym q.is

pub section_one : (bytes : List ℕ) (s : Section) (rs ps : List ResourceRecord) (end other : ℕ) → AreInSection bytes s rs end → AreInSection bytes s ps other → end ≡ other
section_one bytes s rs ps end other g h = (records_one bytes s.start rs ps end other (g.count ∙ sym h.count) g.stand h.stand).1

-- what stands in an answer, by what was read of it
pub answers_head : (bytes : List ℕ) (id : ℕ) (name : List ℕ) (a : Answer) → IsAnswer bytes id name a → IsResponse bytes id
answers_head bytes id name a h =
    let m = h.is_message in
    let r = h.answers in
    record {
      header = m.header;
      same_id = sym r.same_id ∙ m.id;
      response = subst (λ x. 2 ^ 15 ≤ x) m.flags r.response;
      one = m.one;
    }

pub answers_question : (bytes : List ℕ) (id : ℕ) (name : List ℕ) (a : Answer) (asked : List ℕ) (end : ℕ) → IsNameAt bytes 12 asked end → IsAnswer bytes id name a → IsOurQuestion bytes end asked name
answers_question bytes id name a asked end at h =
    let m = h.is_message in
    let r = h.answers in
    let one = name_one bytes 12 h.message.name asked m.question end m.name at in
    record {
      within = subst (λ x. x + 4 ≤ length bytes) one.1 m.within;
      kind = ap (λ x. number_at x bytes) (sym one.1) ∙ sym m.kind ∙ r.kind;
      class = ap (λ x. number_at (x + 2) bytes) (sym one.1) ∙ sym m.class ∙ r.class;
      same = ap (λ x. is_same_name x name) (sym one.0) ∙ r.same_name;
    }

pub answers_sections : (bytes : List ℕ) (id : ℕ) (name : List ℕ) (a : Answer) (asked : List ℕ) (end count : ℕ) → IsNameAt bytes 12 asked end → count ≡ number_at 6 bytes → (h : IsAnswer bytes id name a) → HasSections bytes (section (end + 4) count) h.message.answers
answers_sections bytes id name a asked end count at is h =
    let m = h.is_message in
    let one = name_one bytes 12 h.message.name asked m.question end m.name at in
    record {
      answered = m.answered;
      first = record { stand = subst (λ x. AreRecordsAt bytes (x + 4) h.message.answers m.answered) one.1 m.answers; count = m.answer_count ∙ sym is };
      authority = m.authority;
      authorized = m.authorized;
      second = record { stand = m.authorities; count = m.authority_count };
      additional = m.additional;
      end = m.end;
      third = record { stand = m.additions; count = m.additional_count };
    }

pub message_read : (bytes : List ℕ) (id : ℕ) (name asked : List ℕ) (end count : ℕ) (rs : List ResourceRecord) → IsResponse bytes id → IsNameAt bytes 12 asked end → IsOurQuestion bytes end asked name → count ≡ number_at 6 bytes → HasSections bytes (section (end + 4) count) rs
    → IsDnsMessage bytes (record { id = number_at 0 bytes; flags = number_at 2 bytes; name = asked; kind = number_at end bytes; class = number_at (end + 2) bytes; answers = rs })
message_read bytes id name asked end count rs head at question is has = record {
  header = head.header;
  id = refl;
  flags = refl;
  one = head.one;
  question = end;
  name = at;
  within = question.within;
  kind = refl;
  class = refl;
  answered = has.answered;
  answers = has.first.stand;
  answer_count = has.first.count ∙ is;
  authority = has.authority;
  authorized = has.authorized;
  authorities = has.second.stand;
  authority_count = has.second.count;
  additional = has.additional;
  end = has.end;
  additions = has.third.stand;
  additional_count = has.third.count;
}

pub section_moved : (bytes : List ℕ) (start other count n : ℕ) (rs : List ResourceRecord) (end : ℕ) → start ≡ other → count ≡ n → AreInSection bytes (section start count) rs end → AreInSection bytes (section other n) rs end
section_moved bytes start other count n rs end same counts h = record { stand = subst (λ x. AreRecordsAt bytes x rs end) same h.stand; count = h.count ∙ counts }

abbrev answer : ℕ → Option Ip4 → Answer
answer rcode address = record { rcode = rcode; address = address }

pub answer_so : (flags n : ℕ) (found : Option Ip4) (address : Option ℕ) → n ≡ flags → found ≡ option_map ip4 address → answer (n % 16) found ≡ answer (flags % 16) (option_map ip4 address)
answer_so flags n found address same is = ap (λ x. answer (x % 16) found) same ∙ ap (λ x. answer (flags % 16) x) is
