use Rattle.std.proofs.Common.{◌≡◌, ℕ, cond, Option, Some, None, sym, ◌∙◌, ap, subst}
use Rattle.nb_wire.specs.declared.address.Ip4.{Ip4}
use Rattle.std.specs.Option.{option_map}
use Rattle.nb_dhcpmsg.specs.Options.{joined}
use Rattle.nb_dhcpmsg.specs.Messages.{HasOptions}
use Rattle.nb_dhcpmsg.specs.Fields.{address_in, message_in}
use Rattle.nb_dhcpmsg.specs.Views.{parts_of}
use Rattle.nb_dhcp.specs.Replies.{offer_of, server_in}
use Rattle.nb_dhcp.proofs.ReplyLemmas.{no_offer, offer_read, server_is}
use Rattle.nb_dhcp.proofs.asker.Asker.offer.Goals as goal

pub returns-in_err-message : goal.returns-in_err-message
returns-in_err-message c = c.from_residual.ensures ∙ sym (no_offer c.args.self.now c.args.body.now (sym c.in_err-message.ensures.value))

pub returns-then-not-is_offered : goal.returns-then-not-is_offered
returns-then-not-is_offered c =
    let m = parts_of c.in_ok-message.message in
    let is : message_in c.args.body.now ≡ Some m = sym c.in_ok-message.ensures.value in
    let server : Option ℕ = option_map (λ (ip : Ip4). ip.0) c.address-server.result in
    let named : server_in c.args.body.now ≡ server = server_is c.args.body.now m server is (subst (λ b. (os : _) → HasOptions b os → server ≡ address_in (joined 54 os)) c.in_ok-message.ensures.whole c.address-server.ensures) in
    sym (offer_read c.args.self.now c.args.body.now m server is named ∙ ap (λ b. cond b (offer_of m.yiaddr server) None) (sym c.is_offered.ensures ∙ c.if-not-is_offered.true))

pub returns : goal.returns
returns c =
    let m = parts_of c.in_ok-message.message in
    let is : message_in c.args.body.now ≡ Some m = sym c.in_ok-message.ensures.value in
    let server : Option ℕ = option_map (λ (ip : Ip4). ip.0) c.address-server.result in
    let named : server_in c.args.body.now ≡ server = server_is c.args.body.now m server is (subst (λ b. (os : _) → HasOptions b os → server ≡ address_in (joined 54 os)) c.in_ok-message.ensures.whole c.address-server.ensures) in
    c.offer_of.ensures ∙ sym (offer_read c.args.self.now c.args.body.now m server is named ∙ ap (λ b. cond b (offer_of m.yiaddr server) None) (sym c.is_offered.ensures ∙ c.if-not-is_offered.false))
