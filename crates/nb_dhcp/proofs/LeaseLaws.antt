-- The acknowledgement that is kept is the lease of the first valid offer.
use Rattle.std.proofs.Common.{◌≡◌, ℕ, ◌==◌, ◌&&◌, Bool, true, false, not, cond, List, [], ◌∷◌, ◌++◌, length, take, Some, None, refl, sym, ◌∙◌, ap, subst, leb, eq-eqb, ne_eqb}
use Rattle.std.specs.Prelude.{find}
use Rattle.std.specs.Int.{from_be_bytes, w32}
use Rattle.std.specs.List.{AllByRecursion}
use Rattle.std.specs.Option.{option_map_or, option_and_then}
use Rattle.std.specs.Str.{bytes_eq}
use Rattle.std.proofs.lemmas.Bool.{eqb-true, leb-true, le-leb, false≢true}
use Rattle.std.proofs.lemmas.Option.{none-some, same_Some}
use Rattle.std.proofs.lemmas.Slice.Eq.{bytes_eq-Decides}
use Rattle.nb_wire.specs.declared.address.Ip4.{Ip4}
use Rattle.nb_dhcpmsg.specs.Options.{TagValue, joined}
use Rattle.nb_dhcpmsg.specs.Messages.{MessageParts, IsMessage}
use Rattle.nb_dhcpmsg.specs.Fields.{message_in, message_options, address_in}
use Rattle.nb_dhcpmsg.proofs.FieldLemmas.{either_way}
use Rattle.nb_dhcpmsg.proofs.ReadingLemmas.{by_option, options_have, have_options, is_message, message_is}
use Rattle.nb_dhcp.specs.declared.asker.Asker.{Asker}
use Rattle.nb_dhcp.specs.declared.offer.Offer.{Offer}
use Rattle.nb_dhcp.specs.Replies.{is_reply_to, is_offer_to, is_its, server_in, offer_of, offer_in, kind_from, acknowledges_for}
use Rattle.nb_dhcp.specs.History.{Handed, Offered, offered, is_verdict, verdict_after, granted_by, granted_after, acknowledgement_in}
use Rattle.nb_dhcp.specs.Leases.{AnswersAsker, NamesServer, IsOfferTo, IsAckOf, IsLeaseOf}
use Rattle.nb_dhcp.proofs.ReplyLemmas.{offer_read, no_offer, no_kind_from, kind_read}

both : (a b : Bool) → (a && b) ≡ true → (a ≡ true) × (b ≡ true)
both true true h = (refl, refl)
both true false h = absurd (false≢true h)
both false b h = absurd (false≢true h)

reply_is : (a : Asker) (m : MessageParts) → is_reply_to a m ≡ true → AnswersAsker a m
reply_is a m h =
    let outer = both ((m.op == 2) && (m.xid == a.xid)) (bytes_eq m.chaddr a.mac.0) h in
    let inner = both (m.op == 2) (m.xid == a.xid) outer.0 in
    record { op = eqb-true m.op 2 inner.0; xid = eqb-true m.xid a.xid inner.1; chaddr = (bytes_eq-Decides m.chaddr a.mac.0).0 outer.1 }

pub is_reply : (a : Asker) (m : MessageParts) → AnswersAsker a m → is_reply_to a m ≡ true
is_reply a m r =
    ap (λ b. b && (m.xid == a.xid) && bytes_eq m.chaddr a.mac.0) (eq-eqb m.op 2 r.op)
    ∙ ap (λ b. b && bytes_eq m.chaddr a.mac.0) (eq-eqb m.xid a.xid r.xid)
    ∙ (bytes_eq-Decides m.chaddr a.mac.0).1 r.chaddr

named : (bytes : List ℕ) (n : ℕ) → server_in bytes ≡ Some n → NamesServer bytes (record { 0 = n })
named bytes n is = by_option (message_options bytes)
    (λ none. absurd (none-some n (sym (ap (option_and_then (λ (os : List TagValue). address_in (joined 54 os))) none) ∙ is)))
    (λ os some.
    let at : address_in (joined 54 os) ≡ Some n = sym (ap (option_and_then (λ (os : List TagValue). address_in (joined 54 os))) some) ∙ is in
    either_way (leb 4 (length (joined 54 os)))
    (λ long. record {
      options = os;
      has_options = options_have bytes os some;
      long = leb-true 4 (length (joined 54 os)) long;
      first = same_Some (from_be_bytes w32 (take 4 (joined 54 os))) n (sym (ap (λ b. cond b (Some (from_be_bytes w32 (take 4 (joined 54 os)))) None) long) ∙ at);
    })
    (λ short. absurd (none-some n (sym (ap (λ b. cond b (Some (from_be_bytes w32 (take 4 (joined 54 os)))) None) short) ∙ at))))

pub is_named : (bytes : List ℕ) (server : Ip4) → NamesServer bytes server → server_in bytes ≡ Some server.0
is_named bytes server s =
    ap (option_and_then (λ (os : List TagValue). address_in (joined 54 os))) (have_options bytes s.options s.has_options)
    ∙ ap (λ b. cond b (Some (from_be_bytes w32 (take 4 (joined 54 s.options)))) None) (le-leb 4 (length (joined 54 s.options)) s.long)
    ∙ ap (λ n. Some n) s.first

not_zero : (n : ℕ) → not (n == 0) ≡ true → n ≡ 0 → ⊥
not_zero n h is = false≢true (ap not (sym (eq-eqb n 0 is)) ∙ h)

offer_from_server : (a : Asker) (bytes : List ℕ) (m : MessageParts) (o : Offer) → message_in bytes ≡ Some m → is_offer_to a m ≡ true → offer_of m.yiaddr (server_in bytes) ≡ Some o → IsOfferTo a o bytes
offer_from_server a bytes m o read to is = by_option (server_in bytes)
    (λ none. absurd (none-some o (sym (ap (offer_of m.yiaddr) none) ∙ is)))
    (λ s some.
    let same : record { server = record { 0 = s }; address = record { 0 = m.yiaddr } } ≡ o = same_Some (record { server = record { 0 = s }; address = record { 0 = m.yiaddr } }) o (sym (ap (offer_of m.yiaddr) some) ∙ is) in
    let outer = both (is_reply_to a m && (m.kind == 2)) (not (m.yiaddr == 0)) to in
    let inner = both (is_reply_to a m) (m.kind == 2) outer.0 in
    record {
      message = m;
      is_message = is_message bytes m read;
      reply = reply_is a m inner.0;
      kind = eqb-true m.kind 2 inner.1;
      address = ap (λ (x : Offer). x.address.0) same;
      some_address = not_zero m.yiaddr outer.1;
      server = subst (λ (x : Offer). NamesServer bytes x.server) same (named bytes s some);
    })

pub offer_is : (a : Asker) (bytes : List ℕ) (o : Offer) → offer_in a bytes ≡ Some o → IsOfferTo a o bytes
offer_is a bytes o is = by_option (message_in bytes)
    (λ none. absurd (none-some o (sym (no_offer a bytes none) ∙ is)))
    (λ m some.
    let read : cond (is_offer_to a m) (offer_of m.yiaddr (server_in bytes)) None ≡ Some o = sym (offer_read a bytes m (server_in bytes) some refl) ∙ is in
    either_way (is_offer_to a m)
    (λ to. offer_from_server a bytes m o some to (sym (ap (λ b. cond b (offer_of m.yiaddr (server_in bytes)) None) to) ∙ read))
    (λ other. absurd (none-some o (sym (ap (λ b. cond b (offer_of m.yiaddr (server_in bytes)) None) other) ∙ read))))

with_address : Offer → ℕ → Offer
with_address o n = record { server = o.server; address = record { 0 = n } }

-- an offer by the grammar is one by the function
pub offer_is_read : (a : Asker) (bytes : List ℕ) (o : Offer) → IsOfferTo a o bytes → offer_in a bytes ≡ Some o
unfolding with_address
offer_is_read a bytes o is =
    let m = is.message in
    let to : is_offer_to a m ≡ true =
    ap (λ b. b && (m.kind == 2) && not (m.yiaddr == 0)) (is_reply a m is.reply)
    ∙ ap (λ b. b && not (m.yiaddr == 0)) (eq-eqb m.kind 2 is.kind) ∙ ap not (ne_eqb m.yiaddr 0 is.some_address) in
    offer_read a bytes m (Some o.server.0) (message_is bytes m is.is_message) (is_named bytes o.server is.server) ∙ ap (λ b. cond b (offer_of m.yiaddr (Some o.server.0)) None) to
    ∙ ap (λ n. Some (with_address o n)) is.address

-- where there is no valid offer by the function, there is none by the grammar
pub no_offer_is : (a : Asker) (bytes : List ℕ) (o : Offer) → offer_in a bytes ≡ None → IsOfferTo a o bytes → ⊥
no_offer_is a bytes o none is = none-some o (sym none ∙ offer_is_read a bytes o is)

its_server : (bytes : List ℕ) (server : Ip4) → is_its server (server_in bytes) ≡ true → NamesServer bytes server
its_server bytes server is = by_option (server_in bytes)
    (λ none. absurd (false≢true (sym (ap (is_its server) none) ∙ is)))
    (λ s some.
    let same : s ≡ server.0 = eqb-true s server.0 (sym (ap (is_its server) some) ∙ is) in
    subst (λ n. NamesServer bytes (record { 0 = n })) same (named bytes s some))

-- a message for this client from this server
pub record IsFrom (a : Asker) (server : Ip4) (bytes : List ℕ) (kind : ℕ) : Type 0 where
  pub message : MessageParts
  pub is_message : IsMessage bytes message
  pub reply : AnswersAsker a message
  pub is_kind : message.kind ≡ kind
  pub named : NamesServer bytes server

pub is_from : (a : Asker) (server : Ip4) (bytes : List ℕ) (kind : ℕ) → kind_from a server bytes ≡ Some kind → IsFrom a server bytes kind
is_from a server bytes kind is = by_option (message_in bytes)
    (λ none. absurd (none-some kind (sym (no_kind_from a server bytes none) ∙ is)))
    (λ m some.
    let read : kind_from a server bytes ≡ cond (is_reply_to a m && is_its server (server_in bytes)) (Some m.kind) None = kind_read a server bytes m (server_in bytes) some refl in
    either_way (is_reply_to a m && is_its server (server_in bytes))
    (λ yes.
    let parts = both (is_reply_to a m) (is_its server (server_in bytes)) yes in
    record {
      message = m;
      is_message = is_message bytes m some;
      reply = reply_is a m parts.0;
      is_kind = same_Some m.kind kind (sym (read ∙ ap (λ b. cond b (Some m.kind) None) yes) ∙ is);
      named = its_server bytes server parts.1;
    })
    (λ no. absurd (none-some kind (sym (read ∙ ap (λ b. cond b (Some m.kind) None) no) ∙ is))))

ack_is : (a : Asker) (offer : Offer) (bytes : List ℕ) → acknowledges_for a offer.server bytes ≡ true → IsAckOf a offer bytes
ack_is a offer bytes is = by_option (kind_from a offer.server bytes)
    (λ none. absurd (false≢true (sym (ap (λ k. option_map_or (λ n. n == 5) k false) none) ∙ is)))
    (λ kind some.
    let f : IsFrom a offer.server bytes kind = is_from a offer.server bytes kind some in
    let five : kind ≡ 5 = eqb-true kind 5 (sym (ap (λ k. option_map_or (λ n. n == 5) k false) some) ∙ is) in
    record { message = f.message; is_message = f.is_message; reply = f.reply; kind = f.is_kind ∙ five; server = f.named })

-- a first valid offer stands in its place, with no valid one before it
pub record Found (a : Asker) (ms : List Handed) (f : Offered) : Type 0 where
  pub before : List Handed
  pub first : Handed
  pub all : ms ≡ before ++ first ∷ f.after
  pub none_before : AllByRecursion (λ m. (other : Offer) → IsOfferTo a other m.body → ⊥) before
  pub is_offer : IsOfferTo a f.offer first.body

pub found : (a : Asker) (ms : List Handed) (f : Offered) → offered a ms ≡ Some f → Found a ms f
found a [] f is = absurd (none-some f is)
found a (m ∷ ms) f is = by_option (offer_in a m.body)
    (λ none.
    let later = found a ms f (sym (ap (λ o. option_map_or (λ (x : Offer). Some (record { offer = x; after = ms })) o (offered a ms)) none) ∙ is) in
    record {
      before = m ∷ later.before;
      first = later.first;
      all = ap (λ xs. m ∷ xs) later.all;
      none_before = (λ other is_one. no_offer_is a m.body other none is_one, later.none_before);
      is_offer = later.is_offer;
    })
    (λ o some.
    let same : record { offer = o; after = ms } ≡ f = same_Some (record { offer = o; after = ms }) f (sym (ap (λ o. option_map_or (λ (x : Offer). Some (record { offer = x; after = ms })) o (offered a ms)) some) ∙ is) in
    record {
      before = [];
      first = m;
      all = ap (λ (x : Offered). m ∷ x.after) same;
      none_before = tt;
      is_offer = subst (λ (x : Offered). IsOfferTo a x.offer m.body) same (offer_is a m.body o some);
    })

pub record At {A : Type 0} (xs : List A) (x : A) : Type 0 where
  pub before : List A
  pub after : List A
  pub all : xs ≡ before ++ x ∷ after

find_at : {A : Type 0} (p : A → Bool) (xs : List A) (x : A) → find p xs ≡ Some x → At xs x
find_at p [] x is = absurd (none-some x is)
find_at p (y ∷ ys) x is = either_way (p y)
    (λ on. record { before = []; after = ys; all = ap (λ z. z ∷ ys) (same_Some y x (sym (ap (λ b. cond b (Some y) (find p ys)) on) ∙ is)) })
    (λ off.
    let later = find_at p ys x (sym (ap (λ b. cond b (Some y) (find p ys)) off) ∙ is) in
    record { before = y ∷ later.before; after = later.after; all = ap (λ z. y ∷ z) later.all })

granted_is : (a : Asker) (ms : List Handed) (bytes : List ℕ) (f : Offered) (m : Handed) → offered a ms ≡ Some f → verdict_after a f ≡ Some m → granted_by a f.offer m ≡ Some bytes → IsLeaseOf a ms bytes
granted_is a ms bytes f m first verdict granted = either_way (acknowledges_for a f.offer.server m.body)
    (λ yes.
    let o = found a ms f first in
    let at = find_at (is_verdict a f.offer) f.after m verdict in
    record {
      before = o.before;
      first = o.first;
      between = at.before;
      last = m;
      after = at.after;
      in_order = o.all ∙ ap (λ xs. o.before ++ o.first ∷ xs) at.all;
      none_before = o.none_before;
      offer = f.offer;
      is_offer = o.is_offer;
      is_ack = ack_is a f.offer m.body yes;
      its = same_Some m.body bytes (sym (ap (λ b. cond b (Some m.body) None) yes) ∙ granted);
    })
    (λ no. absurd (none-some bytes (sym (ap (λ b. cond b (Some m.body) None) no) ∙ granted)))

pub first_lease : (a : Asker) (ms : List Handed) (bytes : List ℕ) → acknowledgement_in a ms ≡ Some bytes → IsLeaseOf a ms bytes
first_lease a ms bytes is = by_option (offered a ms)
    (λ none. absurd (none-some bytes (sym (ap (option_and_then (granted_after a)) none) ∙ is)))
    (λ f some.
    let after : granted_after a f ≡ Some bytes = sym (ap (option_and_then (granted_after a)) some) ∙ is in
    by_option (verdict_after a f)
    (λ none. absurd (none-some bytes (sym (ap (option_and_then (granted_by a f.offer)) none) ∙ after)))
    (λ m verdict. granted_is a ms bytes f m some verdict (sym (ap (option_and_then (granted_by a f.offer)) verdict) ∙ after)))
