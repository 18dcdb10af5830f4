use Rattle.std.proofs.Common.{◌≡◌, ℕ, ◌<◌, ◌≤◌, ◌^◌, List, ◌++◌, length, slice_index, refl, ap, ◌∙◌, arith}
use Rattle.std.proofs.lemmas.List.{length-append}
use Rattle.nb_wire.proofs.BytesLaws.{splits_of}
use Rattle.nb_ibft.specs.Infos.{Info, IsShortText}
use Rattle.nb_ibft.specs.Tables.{table_header_text, control_text, initiator_text, addresses_text, host_text, texts_text, texts_place, host_place, disks_place, total_length}
use Rattle.nb_ibft.specs.Places.{slots}
use Rattle.nb_ibft.proofs.FieldLemmas.{part_cut, address_read}
use Rattle.nb_ibft.proofs.TextLemmas.{kept_short}
use Rattle.nb_ibft.proofs.InfoLemmas.{after_header, after_control, after_initiator, after_addresses, after_host, checksum, opened, control_length, texts_stand, info_same}
use Rattle.nb_ibft.proofs.lent.LentInfo.read.Goals as goal

place_fits : (i : Info) → length i.targets ≤ 2 → texts_place i < 2 ^ 16
place_fits i few = omega (arith, few)

host_fits : (i : Info) → length i.targets ≤ 2 → IsShortText i.initiator → host_place i < 2 ^ 16
host_fits i few short = omega (arith, few, kept_short i.initiator short)

disks_fit : (i : Info) → length i.targets ≤ 2 → IsShortText i.initiator → IsShortText i.host → disks_place i ≤ 2578
disks_fit i few short host = omega (arith, few, kept_short i.initiator short, kept_short i.host host)

-- bytes that begin with six have six
six : (bytes mac more : List ℕ) → bytes ≡ mac ++ more → length mac ≡ 6 → 6 ≤ length bytes
six bytes mac more e h = omega (arith, ap length e, length-append mac more, h)

pub returns-in_err-_header-clause-complete : goal.returns-in_err-_header-clause-complete
returns-in_err-_header-clause-complete c = λ i valid e.
    absurd (c.in_err-_header.ensures.complete (table_header_text (total_length i) (checksum i)) (after_header i) refl (e ∙ opened i))

pub returns-in_err-control-clause-complete : goal.returns-in_err-control-clause-complete
returns-in_err-control-clause-complete c = λ i valid e.
    let header = c.in_ok-_header.ensures.complete (table_header_text (total_length i) (checksum i)) (after_header i) refl (e ∙ opened i) in
    absurd (c.in_err-control.ensures.complete (control_text i.targets) (after_control i) (control_length i.targets) header.1)

pub returns-in_err-initiator-clause-complete : goal.returns-in_err-initiator-clause-complete
returns-in_err-initiator-clause-complete c = λ i valid e.
    let header = c.in_ok-_header.ensures.complete (table_header_text (total_length i) (checksum i)) (after_header i) refl (e ∙ opened i) in
    let control = c.in_ok-control.ensures.complete (control_text i.targets) (after_control i) (control_length i.targets) header.1 in
    absurd (c.in_err-initiator.ensures.complete (initiator_text (texts_place i) i.initiator) (after_initiator i) refl control.1)

pub returns-in_err-addresses-clause-complete : goal.returns-in_err-addresses-clause-complete
returns-in_err-addresses-clause-complete c = λ i valid e.
    let header = c.in_ok-_header.ensures.complete (table_header_text (total_length i) (checksum i)) (after_header i) refl (e ∙ opened i) in
    let control = c.in_ok-control.ensures.complete (control_text i.targets) (after_control i) (control_length i.targets) header.1 in
    let initiator = c.in_ok-initiator.ensures.complete (initiator_text (texts_place i) i.initiator) (after_initiator i) refl control.1 in
    absurd (c.in_err-addresses.ensures.complete (addresses_text i) (after_addresses i) refl initiator.1)

pub returns-in_err-mac-clause-complete : goal.returns-in_err-mac-clause-complete
returns-in_err-mac-clause-complete c = λ i valid e.
    let header = c.in_ok-_header.ensures.complete (table_header_text (total_length i) (checksum i)) (after_header i) refl (e ∙ opened i) in
    let control = c.in_ok-control.ensures.complete (control_text i.targets) (after_control i) (control_length i.targets) header.1 in
    let initiator = c.in_ok-initiator.ensures.complete (initiator_text (texts_place i) i.initiator) (after_initiator i) refl control.1 in
    let addresses = c.in_ok-addresses.ensures.complete (addresses_text i) (after_addresses i) refl initiator.1 in
    absurd (omega (arith, six _ _ _ addresses.1 valid.mac, c.in_err-mac.ensures.cases))

pub returns-in_err-host-clause-complete : goal.returns-in_err-host-clause-complete
returns-in_err-host-clause-complete c = λ i valid e.
    let header = c.in_ok-_header.ensures.complete (table_header_text (total_length i) (checksum i)) (after_header i) refl (e ∙ opened i) in
    let control = c.in_ok-control.ensures.complete (control_text i.targets) (after_control i) (control_length i.targets) header.1 in
    let initiator = c.in_ok-initiator.ensures.complete (initiator_text (texts_place i) i.initiator) (after_initiator i) refl control.1 in
    let addresses = c.in_ok-addresses.ensures.complete (addresses_text i) (after_addresses i) refl initiator.1 in
    let mac = part_cut 6 _ _ _ _ _ (splits_of 6 _ _ _ c.in_ok-mac.ensures.cases.0 c.in_ok-mac.ensures.cases.1 c.in_ok-mac.ensures.cases.2) valid.mac addresses.1 in
    absurd (c.in_err-host.ensures.complete (host_text (host_place i) i.host) (after_host i) refl mac.1)

pub returns-in_err-name-clause-complete : goal.returns-in_err-name-clause-complete
returns-in_err-name-clause-complete c = λ i valid e.
    let stand = texts_stand i _ valid e in
    let header = c.in_ok-_header.ensures.complete (table_header_text (total_length i) (checksum i)) (after_header i) refl (e ∙ opened i) in
    let control = c.in_ok-control.ensures.complete (control_text i.targets) (after_control i) (control_length i.targets) header.1 in
    let initiator = c.in_ok-initiator.ensures.complete (initiator_text (texts_place i) i.initiator) (after_initiator i) refl control.1 in
    let addresses = c.in_ok-addresses.ensures.complete (addresses_text i) (after_addresses i) refl initiator.1 in
    let mac = part_cut 6 _ _ _ _ _ (splits_of 6 _ _ _ c.in_ok-mac.ensures.cases.0 c.in_ok-mac.ensures.cases.1 c.in_ok-mac.ensures.cases.2) valid.mac addresses.1 in
    let host = c.in_ok-host.ensures.complete (host_text (host_place i) i.host) (after_host i) refl mac.1 in
    absurd (c.in_err-name.ensures.complete (texts_place i) i.initiator valid.short.0 stand.0 (place_fits i valid.few) (ap (λ l. slots l 70) initiator.0))

pub returns-in_err-host_name-clause-complete : goal.returns-in_err-host_name-clause-complete
returns-in_err-host_name-clause-complete c = λ i valid e.
    let stand = texts_stand i _ valid e in
    let header = c.in_ok-_header.ensures.complete (table_header_text (total_length i) (checksum i)) (after_header i) refl (e ∙ opened i) in
    let control = c.in_ok-control.ensures.complete (control_text i.targets) (after_control i) (control_length i.targets) header.1 in
    let initiator = c.in_ok-initiator.ensures.complete (initiator_text (texts_place i) i.initiator) (after_initiator i) refl control.1 in
    let addresses = c.in_ok-addresses.ensures.complete (addresses_text i) (after_addresses i) refl initiator.1 in
    let mac = part_cut 6 _ _ _ _ _ (splits_of 6 _ _ _ c.in_ok-mac.ensures.cases.0 c.in_ok-mac.ensures.cases.1 c.in_ok-mac.ensures.cases.2) valid.mac addresses.1 in
    let host = c.in_ok-host.ensures.complete (host_text (host_place i) i.host) (after_host i) refl mac.1 in
    absurd (c.in_err-host_name.ensures.complete (host_place i) i.host valid.short.1.0 stand.1.0 (host_fits i valid.few valid.short.0) (ap (λ l. slots l 2) host.0))

pub returns-in_err-targets-clause-complete : goal.returns-in_err-targets-clause-complete
returns-in_err-targets-clause-complete c = λ i valid e.
    let stand = texts_stand i _ valid e in
    let header = c.in_ok-_header.ensures.complete (table_header_text (total_length i) (checksum i)) (after_header i) refl (e ∙ opened i) in
    let control = c.in_ok-control.ensures.complete (control_text i.targets) (after_control i) (control_length i.targets) header.1 in
    let initiator = c.in_ok-initiator.ensures.complete (initiator_text (texts_place i) i.initiator) (after_initiator i) refl control.1 in
    let addresses = c.in_ok-addresses.ensures.complete (addresses_text i) (after_addresses i) refl initiator.1 in
    let mac = part_cut 6 _ _ _ _ _ (splits_of 6 _ _ _ c.in_ok-mac.ensures.cases.0 c.in_ok-mac.ensures.cases.1 c.in_ok-mac.ensures.cases.2) valid.mac addresses.1 in
    let host = c.in_ok-host.ensures.complete (host_text (host_place i) i.host) (after_host i) refl mac.1 in
    absurd (c.in_err-targets.ensures.complete i.targets (disks_place i) (texts_text i) valid.targets valid.few valid.short.1.1 control.0 stand.1.1 (disks_fit i valid.few valid.short.0 valid.short.1.0) host.1)

pub returns-clause-complete : goal.returns-clause-complete
returns-clause-complete c = λ i valid e.
    let stand = texts_stand i _ valid e in
    let header = c.in_ok-_header.ensures.complete (table_header_text (total_length i) (checksum i)) (after_header i) refl (e ∙ opened i) in
    let control = c.in_ok-control.ensures.complete (control_text i.targets) (after_control i) (control_length i.targets) header.1 in
    let initiator = c.in_ok-initiator.ensures.complete (initiator_text (texts_place i) i.initiator) (after_initiator i) refl control.1 in
    let addresses = c.in_ok-addresses.ensures.complete (addresses_text i) (after_addresses i) refl initiator.1 in
    let mac = part_cut 6 _ _ _ _ _ (splits_of 6 _ _ _ c.in_ok-mac.ensures.cases.0 c.in_ok-mac.ensures.cases.1 c.in_ok-mac.ensures.cases.2) valid.mac addresses.1 in
    let host = c.in_ok-host.ensures.complete (host_text (host_place i) i.host) (after_host i) refl mac.1 in
    let name = c.in_ok-name.ensures.complete (texts_place i) i.initiator valid.short.0 stand.0 (place_fits i valid.few) (ap (λ l. slots l 70) initiator.0) in
    let host_name = c.in_ok-host_name.ensures.complete (host_place i) i.host valid.short.1.0 stand.1.0 (host_fits i valid.few valid.short.0) (ap (λ l. slots l 2) host.0) in
    let found = c.in_ok-targets.ensures.complete i.targets (disks_place i) (texts_text i) valid.targets valid.few valid.short.1.1 control.0 stand.1.1 (disks_fit i valid.few valid.short.0 valid.short.1.0) host.1 in
    info_same _ i name host_name mac.0
    (address_read _ (addresses_text i) 18 i.address _ addresses.0 refl valid.address c.address_at.ensures.value)
    (c.byte_at.ensures.value ∙ ap (λ l. slice_index l 22) addresses.0)
    (address_read _ (addresses_text i) 36 i.gateway _ addresses.0 refl valid.gateway c.address_at-2.ensures.value)
    (address_read _ (addresses_text i) 52 i.first_dns _ addresses.0 refl valid.first_dns c.address_at-3.ensures.value)
    (address_read _ (addresses_text i) 68 i.second_dns _ addresses.0 refl valid.second_dns c.address_at-4.ensures.value)
    (address_read _ (addresses_text i) 84 i.dhcp_server _ addresses.0 refl valid.dhcp_server c.address_at-5.ensures.value)
    found

pub returns-clause-valid : goal.returns-clause-valid
returns-clause-valid c = record {
  mac = (splits_of 6 _ _ _ c.in_ok-mac.ensures.cases.0 c.in_ok-mac.ensures.cases.1 c.in_ok-mac.ensures.cases.2).len;
  address = c.address_at.ensures.fits;
  prefix = c.byte_at.ensures.fits;
  gateway = c.address_at-2.ensures.fits;
  first_dns = c.address_at-3.ensures.fits;
  second_dns = c.address_at-4.ensures.fits;
  dhcp_server = c.address_at-5.ensures.fits;
  targets = c.in_ok-targets.ensures.valid;
  few = c.in_ok-targets.ensures.few;
  short = (c.in_ok-name.ensures.short, (c.in_ok-host_name.ensures.short, c.in_ok-targets.ensures.short));
}
