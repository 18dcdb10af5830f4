-- What is asked for of a drive, as the message that begins it: our own.
use Rattle.std.specs.Prelude.{ℕ, zero, suc, List, [], ◌∷◌, length, take, drop, nat_le, Option, Some, None, option_map, option_and_then, if◌then◌else◌}
use Rattle.std.specs.Int.{w16, from_be_bytes}
use Rattle.nb_conns.specs.declared.conn_ask.ConnAsk.{ConnAsk}
use Rattle.nb_conns.specs.ConnAsks.{conn_ask_in}
use Rattle.nb_iscsipdu.specs.Heads.{word_at}
use Rattle.nb_login.specs.declared.info.LoginInfo.{LoginInfo}
use Rattle.nb_drivenodes.specs.declared.drive_ask.DriveAsk.{DriveAsk}
use Rattle.nb_drivenodes.specs.declared.drive_ask.DriveNames.{DriveNames}

-- the connection, and what the login is begun with
pub record DriveAskParts : Type 0 where
  pub conn : ConnAsk
  pub info : LoginInfo

abbrev pub info_of : DriveAsk → LoginInfo
info_of a = record {
  initiator = a.names.initiator.now;
  target = a.names.target.now;
  lun = a.lun;
  user = a.names.user.now;
  secret = a.names.secret.now;
  reverse_user = a.names.reverse_user.now;
  reverse_secret = a.names.reverse_secret.now;
  words = a.words;
}

abbrev pub ask_parts_of : DriveAsk → DriveAskParts
ask_parts_of a = record { conn = a.conn; info = info_of a }

abbrev pub name_list : DriveNames → List (List ℕ)
name_list n = n.initiator.now ∷ n.target.now ∷ n.user.now ∷ n.secret.now ∷ n.reverse_user.now ∷ n.reverse_secret.now ∷ []

-- a text and what follows it
abbrev pub text_after : ℕ → List ℕ → Option (List ℕ × List ℕ)
text_after len rest = if nat_le len (length rest) then Some (take len rest, drop len rest) else None

-- two bytes are the length of the text after them
abbrev pub next_text : List ℕ → Option (List ℕ × List ℕ)
next_text [] = None
next_text (high ∷ []) = None
next_text (high ∷ low ∷ rest) = text_after (from_be_bytes w16 (high ∷ low ∷ [])) rest

-- so many texts, one after the other
abbrev pub names_in : ℕ → List ℕ → Option (List (List ℕ))
names_in zero bytes = Some []
names_in (suc n) bytes = option_and_then (λ (r : List ℕ × List ℕ). option_map (λ (later : List (List ℕ)). r.0 ∷ later) (names_in n r.1)) (next_text bytes)

-- eight numbers of 32 bits
abbrev pub words_of : List ℕ → List ℕ
words_of bytes =
    word_at 0 bytes ∷ word_at 4 bytes ∷ word_at 8 bytes ∷ word_at 12 bytes ∷ word_at 16 bytes ∷ word_at 20 bytes ∷ word_at 24 bytes ∷ word_at 28 bytes ∷ []

abbrev pub info_by : List ℕ → List ℕ → List (List ℕ) → Option LoginInfo
info_by lun words (initiator ∷ target ∷ user ∷ secret ∷ reverse_user ∷ reverse_secret ∷ []) = Some (record {
  initiator = initiator;
  target = target;
  lun = lun;
  user = user;
  secret = secret;
  reverse_user = reverse_user;
  reverse_secret = reverse_secret;
  words = words;
})
info_by lun words names = None

abbrev pub drive_ask_by : Option ConnAsk → Option LoginInfo → Option DriveAskParts
drive_ask_by None info = None
drive_ask_by (Some conn) None = None
drive_ask_by (Some conn) (Some info) = Some (record { conn = conn; info = info })

-- what the bytes ask for, if they are enough
abbrev pub drive_ask_in : List ℕ → Option DriveAskParts
drive_ask_in bytes = if nat_le 56 (length bytes)
    then drive_ask_by (conn_ask_in (take 16 bytes)) (option_and_then (info_by (take 8 (drop 16 bytes)) (words_of (take 32 (drop 24 bytes)))) (names_in 6 (drop 56 bytes)))
    else None
