-- What an iSCSI Boot Firmware Table says, without where its texts lie in memory.
use Rattle.std.specs.Prelude.{◌≡◌, ℕ, ◌<◌, ◌≤◌, ◌^◌, List, [], ◌∷◌, ◌++◌, length}

-- a disk of a target
pub record Target : Type 0 where
  pub address : ℕ
  pub port : ℕ
  pub lun : List ℕ
  pub chap : ℕ
  pub name : List ℕ
  pub user : List ℕ
  pub secret : List ℕ
  pub reverse_user : List ℕ
  pub reverse_secret : List ℕ

-- all that a table says
pub record Info : Type 0 where
  pub initiator : List ℕ
  pub host : List ℕ
  pub mac : List ℕ
  pub address : ℕ
  pub prefix : ℕ
  pub gateway : ℕ
  pub first_dns : ℕ
  pub second_dns : ℕ
  pub dhcp_server : ℕ
  pub targets : List Target

-- the texts of a disk, in their order
abbrev pub target_texts : Target → List (List ℕ)
target_texts t = t.name ∷ t.user ∷ t.secret ∷ t.reverse_user ∷ t.reverse_secret ∷ []

-- the texts of disks, in their order
abbrev pub targets_texts : List Target → List (List ℕ)
targets_texts [] = []
targets_texts (t ∷ ts) = target_texts t ++ targets_texts ts

-- all texts, in their order
abbrev pub info_texts : Info → List (List ℕ)
info_texts i = i.initiator ∷ i.host ∷ targets_texts i.targets

-- at most 1,088 bytes
abbrev pub IsShortText : List ℕ → Type 0
IsShortText text = length text ≤ 1088

-- each text has at most 1,088 bytes
abbrev pub AreShortTexts : List (List ℕ) → Type 0
AreShortTexts [] = Unit {0}
AreShortTexts (text ∷ texts) = IsShortText text × AreShortTexts texts

abbrev pub HasShortTexts : Info → Type 0
HasShortTexts i = AreShortTexts (info_texts i)

-- the numbers of a disk fit their fields
pub record IsTarget (t : Target) : Type 0 where
  pub address : t.address < 2 ^ 32
  pub port : t.port < 2 ^ 16
  pub lun : length t.lun ≡ 8
  pub chap : t.chap < 2 ^ 8

abbrev pub AreTargets : List Target → Type 0
AreTargets [] = Unit {0}
AreTargets (t ∷ ts) = IsTarget t × AreTargets ts

-- the numbers fit their fields, the texts are short, and there are at most two disks
pub record IsInfo (i : Info) : Type 0 where
  pub mac : length i.mac ≡ 6
  pub address : i.address < 2 ^ 32
  pub prefix : i.prefix < 2 ^ 8
  pub gateway : i.gateway < 2 ^ 32
  pub first_dns : i.first_dns < 2 ^ 32
  pub second_dns : i.second_dns < 2 ^ 32
  pub dhcp_server : i.dhcp_server < 2 ^ 32
  pub targets : AreTargets i.targets
  pub few : length i.targets ≤ 2
  pub short : HasShortTexts i
