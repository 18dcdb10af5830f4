-- RFC 1035, section 4.1: which bytes are a message of one question, and what it answers
use Rattle.std.specs.Prelude.{◌≡◌, ◌<◌, ◌≤◌, ◌+◌, ◌%◌, ◌^◌, ℕ, zero, suc, Bool, true, List, [], ◌∷◌, ◌++◌, length, Option, Some, None, if◌then◌else◌}
use Rattle.std.specs.Int.{to_be_bytes, w16}
use Rattle.std.specs.Option.{option_map_or, option_map}
use Rattle.std.specs.Str.{str_eq_ignore_ascii_case}
use Rattle.nb_wire.specs.declared.address.Ip4.{Ip4}
use Rattle.nb_dnsmsg.specs.declared.answer.Answer.{Answer}
use Rattle.nb_dnsmsg.specs.Names.{IsDnsName, IsNameAt}
use Rattle.nb_dnsmsg.specs.Records.{RecordData, host_address, alias_name, other_data, ResourceRecord, AreRecordsAt, number_at}

-- what stands before the name in a query, its number aside: recursion is desired, and one question follows
abbrev pub query_fields : List ℕ
query_fields = 1 ∷ 0 ∷ 0 ∷ 1 ∷ 0 ∷ 0 ∷ 0 ∷ 0 ∷ 0 ∷ 0 ∷ []

-- what stands after the name in a query: type A and class IN
abbrev pub address_fields : List ℕ
address_fields = 0 ∷ 1 ∷ 0 ∷ 1 ∷ []

-- the query for the addresses of a name
abbrev pub question_text : ℕ → List ℕ → List ℕ
question_text id name = to_be_bytes w16 id ++ (query_fields ++ (name ++ address_fields))

-- the bytes are the query with this number for this name
pub record IsQuestion (bytes : List ℕ) (id : ℕ) (name : List ℕ) : Type 0 where
  pub small : id < 2 ^ 16
  pub name_is : IsDnsName name
  pub text : bytes ≡ question_text id name

-- what is looked at of a message of one question: its header's first two numbers, the question, and the
-- records of its answer section
pub record DnsMessage : Type 0 where
  pub id : ℕ
  pub flags : ℕ
  pub name : List ℕ
  pub kind : ℕ
  pub class : ℕ
  pub answers : List ResourceRecord

-- The bytes begin with this message: a header of 12 bytes, one question, and as many records in each of the
-- three sections as the header counts. What follows the last record isn't read.
pub record IsDnsMessage (bytes : List ℕ) (m : DnsMessage) : Type 0 where
  pub header : 12 ≤ length bytes
  pub id : m.id ≡ number_at 0 bytes
  pub flags : m.flags ≡ number_at 2 bytes
  pub one : number_at 4 bytes ≡ 1
  pub question : ℕ
  pub name : IsNameAt bytes 12 m.name question
  pub within : question + 4 ≤ length bytes
  pub kind : m.kind ≡ number_at question bytes
  pub class : m.class ≡ number_at (question + 2) bytes
  pub answered : ℕ
  pub answers : AreRecordsAt bytes (question + 4) m.answers answered
  pub answer_count : length m.answers ≡ number_at 6 bytes
  pub authority : List ResourceRecord
  pub authorized : ℕ
  pub authorities : AreRecordsAt bytes answered authority authorized
  pub authority_count : length authority ≡ number_at 8 bytes
  pub additional : List ResourceRecord
  pub end : ℕ
  pub additions : AreRecordsAt bytes authorized additional end
  pub additional_count : length additional ≡ number_at 10 bytes

-- names are equal where their texts are, letters without case; the length of a label is no letter
abbrev pub is_same_name : List ℕ → List ℕ → Bool
is_same_name a b = str_eq_ignore_ascii_case a b

-- the message answers the question for the addresses (type A, class IN) of a name: the response bit is set
pub record AnswersQuestion (m : DnsMessage) (id : ℕ) (name : List ℕ) : Type 0 where
  pub same_id : m.id ≡ id
  pub response : 2 ^ 15 ≤ m.flags
  pub same_name : is_same_name m.name name ≡ true
  pub kind : m.kind ≡ 1
  pub class : m.class ≡ 1

abbrev pub answer_address : RecordData → Option ℕ
answer_address (host_address address) = Some address
answer_address (alias_name name) = None
answer_address other_data = None

abbrev pub alias_in : RecordData → Option (List ℕ)
alias_in (host_address address) = None
alias_in (alias_name name) = Some name
alias_in other_data = None

-- what the first record of an owner says for which a reading has an answer
abbrev pub first_read : {A : Type 0} → (RecordData → Option A) → List ℕ → List ResourceRecord → Option A
first_read reads name [] = None
first_read reads name (r ∷ rs) = if is_same_name r.owner name then option_map_or Some (reads r.rdata) (first_read reads name rs) else first_read reads name rs

-- the name that is reached from a name by at most so many aliases, each the first of its owner
unfoldable pub reached_by : ℕ → List ℕ → List ResourceRecord → List ℕ
reached_by zero name rs = name
reached_by (suc n) name rs = option_map_or (λ next. reached_by n next rs) (first_read alias_in name rs) name

-- the first address of the name that is reached by at most eight aliases
abbrev pub address_reached : List ℕ → List ResourceRecord → Option ℕ
address_reached name rs = first_read answer_address (reached_by 8 name rs) rs

abbrev pub ip4 : ℕ → Ip4
ip4 address = record { 0 = address }

abbrev pub dns_answer_read : DnsMessage → Answer
dns_answer_read m = record { rcode = m.flags % 16; address = option_map ip4 (address_reached m.name m.answers) }

-- the bytes are this answer to the question for a name
pub record IsAnswer (bytes : List ℕ) (id : ℕ) (name : List ℕ) (answer : Answer) : Type 0 where
  pub message : DnsMessage
  pub is_message : IsDnsMessage bytes message
  pub answers : AnswersQuestion message id name
  pub is : answer ≡ dns_answer_read message
