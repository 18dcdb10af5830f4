-- Bytes that are an iSCSI Boot Firmware Table, and what they say.
use Rattle.std.specs.Prelude.{◌≡◌, ℕ, List}
use Rattle.nb_ibft.specs.declared.lent.LentInfo.{LentInfo}
use Rattle.nb_ibft.specs.Infos.{Info, IsInfo}
use Rattle.nb_ibft.specs.Tables.{ibft}
use Rattle.nb_ibft.specs.Views.{lent_info}

-- the bytes are a table of this
pub record SpellsInfo (bytes : List ℕ) (i : Info) : Type 0 where
  pub valid : IsInfo i
  pub spelled : bytes ≡ ibft i

-- the bytes are a table
abbrev pub IsIbft : List ℕ → Type 0
IsIbft bytes = (i : Info) × SpellsInfo bytes i

-- this is what the table says, and it says nothing else
pub record GivesInfo (bytes : List ℕ) (i : Info) : Type 0 where
  pub says : SpellsInfo bytes i
  pub only : (j : Info) → SpellsInfo bytes j → i ≡ j

-- the same where the texts are lent
abbrev pub GivesLentInfo : List ℕ → LentInfo → Type 0
GivesLentInfo bytes lent = GivesInfo bytes (lent_info lent)
