-- RFC 1350, section 5: a block's number has 16 bits. What a transfer's calls are like that a caller keeps.
use Rattle.std.specs.Prelude.{◌≡◌, ◌<◌, ℕ, false, List, [], slice_index}
use Rattle.std.specs.List.{AllByRecursion}
use Rattle.nb_tftp.specs.Received.{Received}
use Rattle.nb_tftp.specs.History.{Entry, is_ended, EachEntry}

-- no call stands after the one that told the end; what has ended ignores every call
abbrev pub StopsAtEnd : List Entry → Type 0
StopsAtEnd entries = EachEntry (λ before e. is_ended before ≡ false) [] entries

-- each body is of bytes
abbrev pub HaveBytes : List Received → Type 0
HaveBytes got = AllByRecursion (λ m. (i : ℕ) → slice_index m.body i < 256) got
