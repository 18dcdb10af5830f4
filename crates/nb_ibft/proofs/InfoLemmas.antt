-- A table from its parts, and what is read from them.
use Rattle.std.proofs.Common.{◌≡◌, ℕ, ◌+◌, ◌≤◌, List, [], ◌∷◌, ◌++◌, length, refl, sym, ap, ◌∙◌, append_assoc, append-nil, arith}
use Rattle.std.proofs.lemmas.List.{length-append}
use Rattle.nb_wire.proofs.BytesLaws.{append_one}
use Rattle.nb_ibft.specs.Infos.{Target, Info, IsInfo, AreTargets, info_texts}
use Rattle.nb_ibft.specs.Tables.{ibft, table_text, check_byte, table_header_text, control_text, initiator_text, addresses_text, host_text, targets_text, parts_text, texts_text, texts_place, host_place, disks_place, total_length}
use Rattle.nb_ibft.specs.Places.{AllStandAt}
use Rattle.nb_ibft.proofs.TextLemmas.{all_stand}
use Rattle.nb_ibft.proofs.TargetLemmas.{parts_length}

-- what follows each part
abbrev pub after_host : Info → List ℕ
after_host i = targets_text 0 (disks_place i) i.targets ++ texts_text i

abbrev pub after_mac : Info → List ℕ
after_mac i = host_text (host_place i) i.host ++ after_host i

abbrev pub after_addresses : Info → List ℕ
after_addresses i = i.mac ++ after_mac i

abbrev pub after_initiator : Info → List ℕ
after_initiator i = addresses_text i ++ after_addresses i

abbrev pub after_control : Info → List ℕ
after_control i = initiator_text (texts_place i) i.initiator ++ after_initiator i

abbrev pub after_header : Info → List ℕ
after_header i = control_text i.targets ++ after_control i

-- the checksum of a table
abbrev pub checksum : Info → ℕ
checksum i = check_byte (table_text i 0)

nested : (h c n a m o t x : List ℕ) → h ++ ((c ++ (n ++ (a ++ (m ++ (o ++ t))))) ++ x) ≡ h ++ (c ++ (n ++ (a ++ (m ++ (o ++ (t ++ x))))))
nested h c n a m o t x = simp append_assoc

pub opened : (i : Info) → ibft i ≡ table_header_text (total_length i) (checksum i) ++ after_header i
unfolding ibft table_text
opened i = nested (table_header_text (total_length i) (checksum i)) (control_text i.targets) (initiator_text (texts_place i) i.initiator) (addresses_text i) i.mac (host_text (host_place i) i.host) (targets_text 0 (disks_place i) i.targets) (texts_text i)

pub control_length : (targets : List Target) → length (control_text targets) ≡ 32
control_length [] = refl
control_length (t ∷ []) = refl
control_length (t ∷ u ∷ ts) = refl

-- all that stands before the texts
abbrev pub before_texts : Info → List ℕ
before_texts i = table_header_text (total_length i) (checksum i) ++ parts_text i

pub parts_are : (i : Info) → AreTargets i.targets → length i.mac ≡ 6 → 48 + length (parts_text i) ≡ texts_place i
parts_are i valid mac =
    omega (
      arith,
      mac,
      control_length i.targets,
      parts_length 0 (disks_place i) i.targets valid,
      length-append (control_text i.targets) (initiator_text (texts_place i) i.initiator ++ (addresses_text i ++ (i.mac ++ (host_text (host_place i) i.host ++ targets_text 0 (disks_place i) i.targets)))),
      length-append (initiator_text (texts_place i) i.initiator) (addresses_text i ++ (i.mac ++ (host_text (host_place i) i.host ++ targets_text 0 (disks_place i) i.targets))),
      length-append (addresses_text i) (i.mac ++ (host_text (host_place i) i.host ++ targets_text 0 (disks_place i) i.targets)),
      length-append i.mac (host_text (host_place i) i.host ++ targets_text 0 (disks_place i) i.targets),
      length-append (host_text (host_place i) i.host) (targets_text 0 (disks_place i) i.targets),
    )

pub texts_stand : (i : Info) (bytes : List ℕ) → IsInfo i → bytes ≡ ibft i → AllStandAt bytes (texts_place i) (info_texts i)
unfolding ibft table_text
texts_stand i bytes valid e =
    all_stand bytes (before_texts i) [] (info_texts i) (texts_place i)
    (e ∙ sym (append_assoc (table_header_text (total_length i) (checksum i)) (parts_text i) (texts_text i)) ∙ ap (λ x. before_texts i ++ x) (sym (append-nil (texts_text i))))
    (length-append (table_header_text (total_length i) (checksum i)) (parts_text i) ∙ parts_are i valid.targets valid.mac)

abbrev made : List ℕ → List ℕ → List ℕ → ℕ → ℕ → ℕ → ℕ → ℕ → ℕ → List Target → Info
made initiator host mac address prefix gateway first_dns second_dns dhcp_server targets = record { initiator = initiator; host = host; mac = mac; address = address; prefix = prefix; gateway = gateway; first_dns = first_dns; second_dns = second_dns; dhcp_server = dhcp_server; targets = targets }

-- tables that say the same
pub info_same : (i j : Info) → i.initiator ≡ j.initiator → i.host ≡ j.host → i.mac ≡ j.mac → i.address ≡ j.address → i.prefix ≡ j.prefix → i.gateway ≡ j.gateway → i.first_dns ≡ j.first_dns → i.second_dns ≡ j.second_dns → i.dhcp_server ≡ j.dhcp_server → i.targets ≡ j.targets → i ≡ j
info_same i j a b c d e f g h k l =
    ap (λ x. made x i.host i.mac i.address i.prefix i.gateway i.first_dns i.second_dns i.dhcp_server i.targets) a
    ∙ ap (λ x. made j.initiator x i.mac i.address i.prefix i.gateway i.first_dns i.second_dns i.dhcp_server i.targets) b
    ∙ ap (λ x. made j.initiator j.host x i.address i.prefix i.gateway i.first_dns i.second_dns i.dhcp_server i.targets) c
    ∙ ap (λ x. made j.initiator j.host j.mac x i.prefix i.gateway i.first_dns i.second_dns i.dhcp_server i.targets) d
    ∙ ap (λ x. made j.initiator j.host j.mac j.address x i.gateway i.first_dns i.second_dns i.dhcp_server i.targets) e
    ∙ ap (λ x. made j.initiator j.host j.mac j.address j.prefix x i.first_dns i.second_dns i.dhcp_server i.targets) f
    ∙ ap (λ x. made j.initiator j.host j.mac j.address j.prefix j.gateway x i.second_dns i.dhcp_server i.targets) g
    ∙ ap (λ x. made j.initiator j.host j.mac j.address j.prefix j.gateway j.first_dns x i.dhcp_server i.targets) h
    ∙ ap (λ x. made j.initiator j.host j.mac j.address j.prefix j.gateway j.first_dns j.second_dns x i.targets) k
    ∙ ap (λ x. made j.initiator j.host j.mac j.address j.prefix j.gateway j.first_dns j.second_dns j.dhcp_server x) l

-- a table is what stands before its texts, and they
pub cut_at_texts : (i : Info) → ibft i ≡ before_texts i ++ texts_text i
unfolding ibft table_text
cut_at_texts i = sym (append_assoc (table_header_text (total_length i) (checksum i)) (parts_text i) (texts_text i))

pub before_length : (i : Info) → IsInfo i → length (before_texts i) ≡ texts_place i
before_length i valid = length-append (table_header_text (total_length i) (checksum i)) (parts_text i) ∙ parts_are i valid.targets valid.mac

-- bytes that are a table have its texts at their place
pub texts_cut : (i : Info) (bytes before texts : List ℕ) → IsInfo i → bytes ≡ before ++ texts → length before ≡ texts_place i → bytes ≡ ibft i → texts ≡ texts_text i
texts_cut i bytes before texts valid cut len is = (append_one before texts (before_texts i) (texts_text i) (len ∙ sym (before_length i valid)) (sym cut ∙ is ∙ cut_at_texts i)).1

-- a table has as many bytes as stand before its texts, at least
pub table_long : (i : Info) (bytes : List ℕ) → IsInfo i → bytes ≡ ibft i → texts_place i ≤ length bytes
table_long i bytes valid is = omega (arith, ap length (is ∙ cut_at_texts i), length-append (before_texts i) (texts_text i), before_length i valid)

-- what stands before the texts is as long as all other that makes the table with them
pub as_long : (i : Info) (parts texts : List ℕ) → IsInfo i → texts ≡ texts_text i → parts ++ texts ≡ ibft i → length parts ≡ texts_place i
as_long i parts texts valid t e = omega (arith, ap length (e ∙ cut_at_texts i), length-append parts texts, length-append (before_texts i) (texts_text i), ap length t, before_length i valid)
