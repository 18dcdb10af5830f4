-- The first reply as a function of what arrived is the first reply.
use Rattle.std.proofs.Common.{◌≡◌, ℕ, List, [], ◌∷◌, Option, Some, None, cond, eqb, inl, inr, refl, ap, ◌∙◌, sym}
use Rattle.std.specs.Option.{option_map_or, option_and_then}
use Rattle.std.proofs.lemmas.Bool.{eqb-true, eq-eqb}
use Rattle.std.proofs.lemmas.Option.{none-some}
use Rattle.nb_wire.specs.declared.address.Ip4.{Ip4}
use Rattle.nb_dnsmsg.specs.declared.answer.Answer.{Answer}
use Rattle.nb_dnsmsg.specs.Messages.{ip4}
use Rattle.nb_dnsmsg.specs.Reading.{dns_answer}
use Rattle.nb_dnsmsg.proofs.MessageReadingLemmas.{answer_is, is_answer}
use Rattle.nb_dns.specs.Lookups.{Lookup, address_given}
use Rattle.nb_dns.specs.LookupCalls.{DnsDatagram, LookupEntry, datagrams, IsReplyTo, IsNoReply, IsSilentCall, FirstReply}
use Rattle.nb_dns.specs.LookupReplies.{lookup_reply_in, first_reply, address_found}
use Rattle.nb_dns.specs.declared.state.State.{State}
use Rattle.nb_dns.specs.LookupStands.{phase_address, LookupStands}
use Rattle.nb_dns.proofs.CallsLemmas.{reply_one}
use Rattle.nb_dns.proofs.WrittenLemmas.{either_way}

pub reply_is : (l : Lookup) (m : DnsDatagram) (a : Answer) → lookup_reply_in l m ≡ Some a → IsReplyTo l m a
reply_is l m a is = either_way (eqb m.src.0 l.server.0)
    (λ on. record {
      from_server = ap ip4 (eqb-true m.src.0 l.server.0 on);
      answers = answer_is m.body l.id l.name a (rw on at is);
    })
    (λ off. absurd (none-some a (rw off at is)))

pub is_reply : (l : Lookup) (m : DnsDatagram) (a : Answer) → IsReplyTo l m a → lookup_reply_in l m ≡ Some a
is_reply l m a h =
    ap (λ b. cond b (dns_answer m.body l.id l.name) None) (eq-eqb m.src.0 l.server.0 (ap (λ (x : Ip4). x.0) h.from_server)) ∙ is_answer m.body l.id l.name a h.answers

no_reply_is : (l : Lookup) (m : DnsDatagram) → lookup_reply_in l m ≡ None → IsNoReply l m
no_reply_is l m none a h = none-some a (sym none ∙ is_reply l m a h)

is_no_reply : (l : Lookup) (m : DnsDatagram) → IsNoReply l m → lookup_reply_in l m ≡ None
is_no_reply l m none = by (lookup_reply_in l m) refl
  where
    by : (o : Option Answer) → lookup_reply_in l m ≡ o → o ≡ None
    by None is = refl
    by (Some a) is = absurd (none a (reply_is l m a is))

pub is_first : (l : Lookup) (ms : List DnsDatagram) (a : Answer) → FirstReply l ms a → first_reply l ms ≡ Some a
is_first l [] a first = absurd first
is_first l (m ∷ ms) a (inl is) = ap (λ o. option_map_or Some o (first_reply l ms)) (is_reply l m a is)
is_first l (m ∷ ms) a (inr (none, first)) = ap (λ o. option_map_or Some o (first_reply l ms)) (is_no_reply l m none) ∙ is_first l ms a first

pub first_is : (l : Lookup) (ms : List DnsDatagram) (a : Answer) → first_reply l ms ≡ Some a → FirstReply l ms a
first_is l [] a is = absurd (none-some a is)
first_is l (m ∷ ms) a is = by (lookup_reply_in l m) refl (first_is l ms a) is
  where
    by : (o : Option Answer) → lookup_reply_in l m ≡ o → (first_reply l ms ≡ Some a → FirstReply l ms a) → option_map_or Some o (first_reply l ms) ≡ Some a → FirstReply l (m ∷ ms) a
    by (Some x) e later is = inl (reply_is l m a (e ∙ is))
    by None e later is = inr (no_reply_is l m e, later is)

pub is_silent : (l : Lookup) (ms : List DnsDatagram) → IsSilentCall l ms → first_reply l ms ≡ None
is_silent l [] silent = refl
is_silent l (m ∷ ms) (none, silent) = ap (λ o. option_map_or Some o (first_reply l ms)) (is_no_reply l m none) ∙ is_silent l ms silent

pub silent_is : (l : Lookup) (ms : List DnsDatagram) → first_reply l ms ≡ None → IsSilentCall l ms
silent_is l [] is = tt
silent_is l (m ∷ ms) is = by (lookup_reply_in l m) refl (silent_is l ms) is
  where
    by : (o : Option Answer) → lookup_reply_in l m ≡ o → (first_reply l ms ≡ None → IsSilentCall l ms) → option_map_or Some o (first_reply l ms) ≡ None → IsSilentCall l (m ∷ ms)
    by (Some x) e later is = absurd (none-some x (sym is))
    by None e later is = (no_reply_is l m e, later is)

pub found_is : (l : Lookup) (ms : List DnsDatagram) (a : Answer) → FirstReply l ms a → address_found l ms ≡ address_given a
found_is l ms a first = ap (λ o. option_and_then address_given o) (is_first l ms a first)

pub none_found : (l : Lookup) (ms : List DnsDatagram) → IsSilentCall l ms → address_found l ms ≡ None
none_found l ms silent = ap (λ o. option_and_then address_given o) (is_silent l ms silent)

pub first_one : (l : Lookup) (ms : List DnsDatagram) (a b : Answer) → FirstReply l ms a → FirstReply l ms b → a ≡ b
first_one l [] a b p q = absurd p
first_one l (m ∷ ms) a b (inl p) (inl q) = reply_one l m a b p q
first_one l (m ∷ ms) a b (inl p) (inr (none, q)) = absurd (none a p)
first_one l (m ∷ ms) a b (inr (none, p)) (inl q) = absurd (none b q)
first_one l (m ∷ ms) a b (inr (none, p)) (inr (other, q)) = first_one l ms a b p q

-- what a look-up keeps is what is found in all that arrived
pub kept_is_found : (l : Lookup) (start : ℕ) (s : State) (h : List LookupEntry) → LookupStands l start s h → phase_address s.phase ≡ address_found l (datagrams h)
kept_is_found l start s h stands = by (first_reply l (datagrams h)) refl
  where
    by : (o : Option Answer) → first_reply l (datagrams h) ≡ o → phase_address s.phase ≡ address_found l (datagrams h)
    by None is = stands.none (silent_is l (datagrams h) is) ∙ sym (ap (λ o. option_and_then address_given o) is)
    by (Some a) is = stands.found a (first_is l (datagrams h) a is) ∙ sym (ap (λ o. option_and_then address_given o) is)
