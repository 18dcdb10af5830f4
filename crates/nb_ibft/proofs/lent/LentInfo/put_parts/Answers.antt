use Rattle.std.proofs.Common.{◌≡◌, ◌++◌, ap, ◌∙◌}
use Rattle.nb_ibft.specs.Tables.{table_header_text, initiator_text, host_text, targets_text, parts_text, total_length}
use Rattle.nb_ibft.specs.Views.{lent_info}
use Rattle.nb_ibft.proofs.JoinLemmas.{six_put}
use Rattle.nb_ibft.proofs.lent.LentInfo.put_parts.Goals as goal

pub returns : goal.returns
returns c =
    let i = lent_info c.args.self.now in
    let whole : c.put_parts.new.to.items ≡ c.put_header.new.to.items ++ parts_text i = six_put _ _ _ _ _ _ _ _ _ _ _ _ _
    c.put_control.ensures.value
    (c.put_initiator.ensures.value ∙ ap (λ n. c.put_control.new.to.items ++ initiator_text n i.initiator) c.texts_place.ensures.value)
    c.put_addresses.ensures.value
    c.put.ensures.value
    (c.put_host.ensures.value ∙ ap (λ n. c.put.new.to.items ++ host_text n i.host) c.host_place.ensures.value)
    (c.put_parts.ensures ∙ ap (λ n. c.put_host.new.to.items ++ targets_text 0 n i.targets) c.disks_place.ensures.value)
    in let head : c.put_header.new.to.items ≡ table_header_text (total_length i) c.args.checksum = (c.put_header.ensures.value ∙ ap (λ n. table_header_text n c.args.checksum) c.total_length.ensures) in
    record { value = whole ∙ ap (λ x. x ++ parts_text i) head }
