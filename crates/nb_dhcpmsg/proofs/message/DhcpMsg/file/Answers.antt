use Rattle.std.proofs.Common.{◌≡◌, ◌∙◌, sym, ap, subst, not, drop}
use Rattle.nb_dhcpmsg.specs.Options.{AreOptions}
use Rattle.nb_dhcpmsg.specs.Messages.{field, overload, has_file, used_if}
use Rattle.nb_dhcpmsg.specs.Fields.{FieldRead, overload_in, up_to_zero}
use Rattle.nb_dhcpmsg.proofs.FieldLemmas.{are_read}
use Rattle.nb_dhcpmsg.proofs.message.DhcpMsg.file.Goals as goal

pub returns : goal.returns
returns c = λ m is.
    let bytes = c.args.self.now.whole.now in
    let h = is.has_options in
    let over : overload_in bytes ≡ overload h.main = ap (λ (r : FieldRead). overload r.options) (are_read (drop 240 bytes) h.main h.in_main) in
    let name : c.up_to_zero.result.now ≡ up_to_zero (field 108 128 bytes) = c.up_to_zero.ensures ∙ ap up_to_zero c.part.ensures.value in
    let known : c.overload.result ≡ overload_in bytes =
    c.overload.ensures h.main (subst (λ b. AreOptions b h.main) (sym c.split_at.ensures.back) h.in_main) ∙ sym over in
    c.used_if.ensures
    ∙ ap (λ v. used_if (not c.has_file-is_name.result) v) name
    ∙ ap (λ b. used_if (not b) (up_to_zero (field 108 128 bytes))) (c.has_file-is_name.ensures ∙ ap has_file known)
