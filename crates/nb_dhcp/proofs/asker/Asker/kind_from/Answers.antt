use Rattle.std.proofs.Common.{◌≡◌, ℕ, cond, Option, Some, None, sym, ◌∙◌, ap, subst}
use Rattle.nb_wire.specs.declared.address.Ip4.{Ip4}
use Rattle.std.specs.Option.{option_map}
use Rattle.nb_dhcpmsg.specs.Options.{joined}
use Rattle.nb_dhcpmsg.specs.Messages.{HasOptions}
use Rattle.nb_dhcpmsg.specs.Fields.{address_in, message_in}
use Rattle.nb_dhcpmsg.specs.Views.{parts_of}
use Rattle.nb_dhcp.specs.Replies.{server_in}
use Rattle.nb_dhcp.proofs.ReplyLemmas.{no_kind_from, kind_read, server_is}
use Rattle.nb_dhcp.proofs.asker.Asker.kind_from.Goals as goal

pub returns-in_err-message : goal.returns-in_err-message
returns-in_err-message c = c.from_residual.ensures ∙ sym (no_kind_from c.args.self.now c.args.server c.args.body.now (sym c.in_err-message.ensures.value))

pub returns-then-not-is_from : goal.returns-then-not-is_from
returns-then-not-is_from c =
    let m = parts_of c.in_ok-message.message in
    let is : message_in c.args.body.now ≡ Some m = sym c.in_ok-message.ensures.value in
    let server : Option ℕ = option_map (λ (ip : Ip4). ip.0) c.address-named.result in
    let named : server_in c.args.body.now ≡ server = server_is c.args.body.now m server is (subst (λ b. (os : _) → HasOptions b os → server ≡ address_in (joined 54 os)) c.in_ok-message.ensures.whole c.address-named.ensures) in
    sym (kind_read c.args.self.now c.args.server c.args.body.now m server is named ∙ ap (λ b. cond b (Some m.kind) None) (sym c.is_from.ensures ∙ c.if-not-is_from.true))

pub returns : goal.returns
returns c =
    let m = parts_of c.in_ok-message.message in
    let is : message_in c.args.body.now ≡ Some m = sym c.in_ok-message.ensures.value in
    let server : Option ℕ = option_map (λ (ip : Ip4). ip.0) c.address-named.result in
    let named : server_in c.args.body.now ≡ server = server_is c.args.body.now m server is (subst (λ b. (os : _) → HasOptions b os → server ≡ address_in (joined 54 os)) c.in_ok-message.ensures.whole c.address-named.ensures) in
    sym (kind_read c.args.self.now c.args.server c.args.body.now m server is named ∙ ap (λ b. cond b (Some m.kind) None) (sym c.is_from.ensures ∙ c.if-not-is_from.false))
