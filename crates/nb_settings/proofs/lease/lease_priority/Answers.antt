use Rattle.std.proofs.Common.{◌≡◌, ◌∙◌, ap, sym, rules, w8}
use Rattle.std.proofs.lemmas.Int.{to_z-of_z}
use mir.Val.{SFits}
use Rattle.nb_dhcpmsg.specs.Views.{parts_of}
use Rattle.nb_settings.specs.LeaseSettings.{options_in, options_within, last_signed, lease_priority}
use Rattle.nb_settings.proofs.LeaseLemmas.{have_options_in}
use Rattle.nb_settings.proofs.LeaseStepLemmas.{no_priority, its_priority}
use Rattle.nb_settings.proofs.lease.lease_priority.Goals as goal

pub returns-then-not-sub : goal.returns-then-not-sub
returns-then-not-sub c =
    let ack = c.args.message.now.whole.now in
    let has = have_options_in ack (parts_of c.args.message.now) c.requires in
    sym (no_priority (options_within ack) (sym (c.sub.ensures.found (options_in ack) has) ∙ c.if-not-sub.true))

pub returns : goal.returns
returns c =
    let ack = c.args.message.now.whole.now in
    let has = have_options_in ack (parts_of c.args.message.now) c.requires in
    let its : c.last_signed.result ≡ lease_priority (options_within ack) =
    c.last_signed.ensures
    ∙ ap last_signed (c.as_slice.ensures.value ∙ c.sub.ensures.value (options_in ack) has c.if-not-sub.false)
    ∙ sym (its_priority (options_within ack) (sym (c.sub.ensures.found (options_in ack) has) ∙ c.if-not-sub.false)) in
    let fits : SFits w8 c.last_signed.result = search rules in
    to_z-of_z w8 c.last_signed.result fits ∙ its
