-- What a message is to a client, by what was read.
use Rattle.std.proofs.Common.{◌≡◌, ℕ, ◌&&◌, cond, List, Option, Some, None, sym, ◌∙◌, ap}
use Rattle.std.specs.Option.{option_and_then}
use Rattle.nb_wire.specs.declared.address.Ip4.{Ip4}
use Rattle.nb_dhcpmsg.specs.Options.{TagValue, joined}
use Rattle.nb_dhcpmsg.specs.Messages.{MessageParts, HasOptions}
use Rattle.nb_dhcpmsg.specs.Fields.{message_in, address_in}
use Rattle.nb_dhcpmsg.proofs.ReadingLemmas.{is_message, have_options}
use Rattle.nb_dhcp.specs.declared.asker.Asker.{Asker}
use Rattle.nb_dhcp.specs.Replies.{is_reply_to, is_offer_to, is_its, server_in, offer_of, offer_by, offer_in, reply_kind_by, kind_from}

pub no_offer : (a : Asker) (bytes : List ℕ) → message_in bytes ≡ None → offer_in a bytes ≡ None
unfolding offer_in
no_offer a bytes is = ap (option_and_then (offer_by a (server_in bytes))) is

pub offer_read : (a : Asker) (bytes : List ℕ) (m : MessageParts) (server : Option ℕ) → message_in bytes ≡ Some m → server_in bytes ≡ server → offer_in a bytes ≡ cond (is_offer_to a m) (offer_of m.yiaddr server) None
unfolding offer_in
offer_read a bytes m server is named = ap (option_and_then (offer_by a (server_in bytes))) is ∙ ap (λ s. cond (is_offer_to a m) (offer_of m.yiaddr s) None) named

pub no_kind_from : (a : Asker) (server : Ip4) (bytes : List ℕ) → message_in bytes ≡ None → kind_from a server bytes ≡ None
unfolding kind_from
no_kind_from a server bytes is = ap (option_and_then (reply_kind_by a server (server_in bytes))) is

pub kind_read : (a : Asker) (server : Ip4) (bytes : List ℕ) (m : MessageParts) (named : Option ℕ) → message_in bytes ≡ Some m → server_in bytes ≡ named → kind_from a server bytes ≡ cond (is_reply_to a m && is_its server named) (Some m.kind) None
unfolding kind_from
kind_read a server bytes m named is same = ap (option_and_then (reply_kind_by a server (server_in bytes))) is ∙ ap (λ s. cond (is_reply_to a m && is_its server s) (Some m.kind) None) same

-- the server that a message that was read names
pub server_is : (bytes : List ℕ) (m : MessageParts) (server : Option ℕ) → message_in bytes ≡ Some m → ((os : List TagValue) → HasOptions bytes os → server ≡ address_in (joined 54 os)) → server_in bytes ≡ server
server_is bytes m server is named =
    let message = is_message bytes m is in
    ap (option_and_then (λ (os : List TagValue). address_in (joined 54 os))) (have_options bytes message.options message.has_options) ∙ sym (named message.options message.has_options)
