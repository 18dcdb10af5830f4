-- What an initiator brings to a login (RFC 7143, section 11.12)
use Rattle.std.specs.Prelude.{ℕ, ◌%◌, ◌&&◌, Bool, List, [], ◌∷◌, ◌++◌, length, nat_lt, drop, slice_index}
use Rattle.std.specs.Int.{w32, to_be_bytes}
use Rattle.nb_chap.specs.Responses.{chap_response}
use Rattle.nb_login.specs.declared.info.LoginInfo.{LoginInfo}

-- an empty text counts as unset
abbrev pub is_set : List ℕ → Bool
is_set text = nat_lt 0 (length text)

-- the initiator can answer a challenge
abbrev pub has_secret : LoginInfo → Bool
has_secret i = is_set i.user && is_set i.secret

-- the initiator asks the target to answer a challenge too
abbrev pub asks_back : LoginInfo → Bool
asks_back i = is_set i.reverse_user

-- The initiator's part of the session's identifier (section 11.12.5): a random one, of the low three bytes of
-- the second word
abbrev pub isid : LoginInfo → List ℕ
isid i = 0x80 ∷ (drop 1 (to_be_bytes w32 (slice_index i.words 1)) ++ (0 ∷ 0 ∷ []))

-- our challenge to the target: its identifier is the low byte of one word, its value four further words
abbrev pub own_identifier : LoginInfo → ℕ
own_identifier i = slice_index i.words 2 % 256

abbrev pub own_challenge : LoginInfo → List ℕ
own_challenge i =
    to_be_bytes w32 (slice_index i.words 3) ++ to_be_bytes w32 (slice_index i.words 4)
    ++ to_be_bytes w32 (slice_index i.words 5) ++ to_be_bytes w32 (slice_index i.words 6)

-- what a target that knows the reverse secret answers to it
abbrev pub own_response : LoginInfo → List ℕ
own_response i = chap_response (own_identifier i) i.reverse_secret (own_challenge i)
