use Rattle.std.proofs.Common.{◌≡◌, ◌∙◌, true, refl, sym, ap, nat_eq}
use Rattle.std.specs.List.{list_any}
use Rattle.nb_uri.specs.Resolutions.{tftp_path, tftp_file}
use Rattle.nb_uri.specs.declared.target.UriError.TheVariants.{BadUri}
use Rattle.nb_uri.proofs.ResolutionLemmas.{refused}
use Rattle.nb_uri.proofs.resolution.tftp_file.Goals as goal

pub returns-then-contains : goal.returns-then-contains
returns-then-contains c =
    let path = c.as_slice.ensures.value ∙ c.in_ok-path.ensures in
    let zero : list_any (λ byte. nat_eq byte 0) (tftp_path c.args.url.now) ≡ true = ap (list_any (λ byte. nat_eq byte 0)) (sym path) ∙ sym c.contains.ensures.value ∙ c.if-contains.true in
    refused (tftp_file c.args.url.now c.args.host.now) BadUri (rw zero refl)
