-- What a message of an open's objects is, by its tag: our own.
use Rattle.std.specs.Prelude.{◌≡◌, ◌≢◌, ℕ, Result, MatchResult}
use Rattle.nb_nodes.specs.declared.tag.Tag.{Tag}
use Rattle.nb_nodes.specs.declared.tag.Tag.TheVariants.{Begin, Datagram, Try, Advance, Bytes, Address}
use Rattle.nb_nodes.specs.declared.tag.UnknownTag.{UnknownTag}

abbrev pub tag_number : Tag → ℕ
tag_number Begin = 1
tag_number Datagram = 2
tag_number Try = 3
tag_number Advance = 4
tag_number Bytes = 5
tag_number Address = 6

-- the tag of this number, or an error with the number, which is no tag's
abbrev pub IsTagOf : ℕ → Result Tag UnknownTag → Type 0
IsTagOf number r = MatchResult r (λ tag. tag_number tag ≡ number) (λ e. (e.0 ≡ number) × ((tag : Tag) → tag_number tag ≢ number))
