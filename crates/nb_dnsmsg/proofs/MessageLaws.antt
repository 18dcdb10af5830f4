-- Laws of names and of messages.
use Rattle.std.proofs.Common.{◌≡◌, ℕ, suc, ◌+◌, ◌-◌, ◌*◌, ◌<◌, ◌≤◌, List, [], ◌∷◌, ◌++◌, length, drop, Bool, true, false, cond, Option, Some, None, refl, sym, ◌∙◌, ap, subst, arith, length-drop}
use Rattle.std.specs.List.{AllByRecursion}
use Rattle.std.specs.Option.{option_map, option_map_or}
use Rattle.std.proofs.lemmas.Option.{none-some, same_Some}
use Rattle.nb_wire.specs.declared.address.Ip4.{Ip4}
use Rattle.nb_dnsmsg.specs.declared.answer.Answer.{Answer}
use Rattle.nb_dnsmsg.specs.Names.{IsLabel, name_text, IsDnsName, IsRestAt, root_here, label_here, pointer_here, IsNameAt}
use Rattle.nb_dnsmsg.specs.Records.{RecordData, host_address, alias_name, other_data, ResourceRecord, IsDataAt, IsRecordAt, AreRecordsAt, number_at}
use Rattle.nb_dnsmsg.specs.Messages.{IsAnswer, first_read, answer_address, reached_by, is_same_name, ip4}
use Rattle.nb_dnsmsg.specs.Sections.{StandsWithAddress}
use Rattle.nb_dnsmsg.proofs.RestLemmas.{pointer_cut}

pub no_pointer_forwards : (message : List ℕ) (place high low : ℕ) (after name : List ℕ) (end : ℕ) → drop place message ≡ high ∷ low ∷ after → 192 ≤ high → place ≤ (high - 192) * 256 + low → IsNameAt message place name end → ⊥
no_pointer_forwards message place high low after name end at big forwards h =
    let p = pointer_cut message place place name end high low after at big h.spelled in
    let back = p.back in omega (arith, back, forwards)

rest_ends : (message : List ℕ) (part place : ℕ) (rest : List ℕ) (end : ℕ) → IsRestAt message part place rest end → (place < end) × (end ≤ length message)
rest_ends message part place rest end (root_here _ _ _ _ after at is ends) =
    let size : length message - place ≡ suc (length after) = sym (length-drop place message) ∙ ap length at in
    (omega (arith, ends), omega (arith, ends, size))
rest_ends message part place rest end (label_here _ _ _ _ l more after are at is h) =
    let further = rest_ends message part (place + (1 + length l)) more end h in
    let a = further.0 in let b = further.1 in
    (omega (arith, a), b)
rest_ends message part place rest end (pointer_here _ _ _ _ high low target last after at big is back h ends) =
    let size : length message - place ≡ suc (suc (length after)) = sym (length-drop place message) ∙ ap length at in
    (omega (arith, ends), omega (arith, ends, size))

pub name_ends : (message : List ℕ) (place : ℕ) (name : List ℕ) (end : ℕ) → IsNameAt message place name end → (place < end) × (end ≤ length message)
name_ends message place name end h = rest_ends message place place name end h.spelled

record Labelled (rest : List ℕ) : Type 0 where
  pub labels : List (List ℕ)
  pub are : AllByRecursion IsLabel labels
  pub text : rest ≡ name_text labels

rest_labels : (message : List ℕ) (part place : ℕ) (rest : List ℕ) (end : ℕ) → IsRestAt message part place rest end → Labelled rest
rest_labels message part place rest end (root_here _ _ _ _ after at is ends) = record { labels = []; are = tt; text = is }
rest_labels message part place rest end (label_here _ _ _ _ l more after are at is h) =
    let r = rest_labels message part (place + (1 + length l)) more end h in
    record { labels = l ∷ r.labels; are = (are, r.are); text = is ∙ ap (λ x. length l ∷ (l ++ x)) r.text }
rest_labels message part place rest end (pointer_here _ _ _ _ high low target last after at big is back h ends) = rest_labels message target target rest last h

pub name_of_labels : (message : List ℕ) (place : ℕ) (name : List ℕ) (end : ℕ) → IsNameAt message place name end → IsDnsName name
name_of_labels message place name end h =
    let r = rest_labels message place place name end h.spelled in
    record { labels = r.labels; are = r.are; text = r.text; short = h.short }

host_stands : (bytes : List ℕ) (place : ℕ) (r : ResourceRecord) (next n : ℕ) → IsRecordAt bytes place r next → answer_address r.rdata ≡ Some n → StandsWithAddress bytes (ip4 n)
host_stands bytes place r next n at is = by r.rdata is at.rdata
  where
    by : (d : RecordData) → answer_address d ≡ Some n → IsDataAt bytes (number_at at.fields bytes) (number_at (at.fields + 2) bytes) (at.fields + 10) (number_at (at.fields + 8) bytes) d → StandsWithAddress bytes (ip4 n)
    by (alias_name name) is h = absurd cc
    by other_data is h = absurd cc
    by (host_address m) is (kind, class, size, data_is) =
        let same : m ≡ n = same_Some m n is in
        let within = at.within in let ends = at.ends in
        record {
          place = place;
          owner = r.owner;
          fields = at.fields;
          named = at.owner;
          kind = kind;
          class = class;
          size = size;
          within = omega (arith, within, ends, size);
          data_is = sym same ∙ data_is;
        }

first_stands : (bytes : List ℕ) (name : List ℕ) (place : ℕ) (rs : List ResourceRecord) (end n : ℕ) → AreRecordsAt bytes place rs end → first_read answer_address name rs ≡ Some n → StandsWithAddress bytes (ip4 n)
first_stands bytes name place [] end n at is = absurd (none-some n is)
first_stands bytes name place (r ∷ rs) end n (next, first, rest) is = by (is_same_name r.owner name) (answer_address r.rdata) refl (λ later. first_stands bytes name next rs end n rest later) is
  where
    by : (same : Bool) (o : Option ℕ) → answer_address r.rdata ≡ o → (first_read answer_address name rs ≡ Some n → StandsWithAddress bytes (ip4 n))
        → cond same (option_map_or Some o (first_read answer_address name rs)) (first_read answer_address name rs) ≡ Some n → StandsWithAddress bytes (ip4 n)
    by true (Some m) e on is = host_stands bytes place r next n first (e ∙ is)
    by true None e on is = on is
    by false o e on is = on is

pub answer_stands : (bytes : List ℕ) (id : ℕ) (name : List ℕ) (answer : Answer) (address : Ip4) → IsAnswer bytes id name answer → answer.address ≡ Some address → StandsWithAddress bytes address
answer_stands bytes id name answer address h is =
    by (first_read answer_address (reached_by 8 h.message.name h.message.answers) h.message.answers) refl (sym (ap (λ (x : Answer). x.address) h.is) ∙ is)
  where
    by : (o : Option ℕ) → first_read answer_address (reached_by 8 h.message.name h.message.answers) h.message.answers ≡ o → option_map ip4 o ≡ Some address → StandsWithAddress bytes address
    by None e is = absurd (none-some address is)
    by (Some n) e is = subst (λ x. StandsWithAddress bytes x) (same_Some (ip4 n) address is)
        (first_stands bytes (reached_by 8 h.message.name h.message.answers) (h.is_message.question + 4) h.message.answers h.is_message.answered n h.is_message.answers e)
