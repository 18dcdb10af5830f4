-- What the crate's own types say, as the definitions have it.
use Rattle.std.specs.Prelude.{ℕ, List, [], ◌∷◌, map, slice_index_or}
use Rattle.nb_wire.specs.declared.address.Ip4.{Ip4}
use Rattle.nb_ibft.specs.declared.info.BootTarget.{BootTarget}
use Rattle.nb_ibft.specs.declared.info.BootInfo.{BootInfo}
use Rattle.nb_ibft.specs.declared.lent.LentTarget.{LentTarget}
use Rattle.nb_ibft.specs.declared.lent.LentTexts.{LentTexts}
use Rattle.nb_ibft.specs.declared.lent.LentTargets.{LentTargets}
use Rattle.nb_ibft.specs.declared.lent.LentTargets.TheVariants.{Neither, One, Two}
use Rattle.nb_ibft.specs.declared.lent.LentInfo.{LentInfo}
use Rattle.nb_ibft.specs.Infos.{Target, Info}

abbrev pub boot_target : BootTarget → Target
boot_target t = record { address = t.address.0; port = t.port; lun = t.lun; chap = t.chap; name = t.name; user = t.user; secret = t.secret; reverse_user = t.reverse_user; reverse_secret = t.reverse_secret }

abbrev pub boot_targets : List BootTarget → List Target
boot_targets = map boot_target

-- the number of an address in a list of them
abbrev pub listed_address : List Ip4 → ℕ → ℕ
listed_address addresses k = (slice_index_or addresses k (record { 0 = 0 })).0

-- what is to be said
abbrev pub boot_info : BootInfo → Info
boot_info b = record { initiator = b.initiator; host = b.host; mac = b.mac.0; address = b.address.0; prefix = b.prefix; gateway = b.gateway.0; first_dns = listed_address b.dns 0; second_dns = listed_address b.dns 1; dhcp_server = b.dhcp_server.0; targets = boot_targets b.targets.items }

-- the texts of a disk, in their order
abbrev pub lent_texts : LentTexts → List (List ℕ)
lent_texts t = t.name.now ∷ t.user.now ∷ t.secret.now ∷ t.reverse_user.now ∷ t.reverse_secret.now ∷ []

abbrev pub lent_target : LentTarget → Target
lent_target t = record { address = t.address.0; port = t.port; lun = t.lun; chap = t.chap; name = t.texts.name.now; user = t.texts.user.now; secret = t.texts.secret.now; reverse_user = t.texts.reverse_user.now; reverse_secret = t.texts.reverse_secret.now }

abbrev pub lent_targets : LentTargets → List Target
lent_targets Neither = []
lent_targets (One t) = lent_target t ∷ []
lent_targets (Two t u) = lent_target t ∷ lent_target u ∷ []

-- what is said where the texts are lent
abbrev pub lent_info : LentInfo → Info
lent_info l = record { initiator = l.initiator.now; host = l.host.now; mac = l.mac.0; address = l.address.0; prefix = l.prefix; gateway = l.gateway.0; first_dns = l.first_dns.0; second_dns = l.second_dns.0; dhcp_server = l.dhcp_server.0; targets = lent_targets l.targets }
