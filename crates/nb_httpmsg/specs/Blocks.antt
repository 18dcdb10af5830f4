-- What the search for a block of lines returns
use Rattle.std.specs.Prelude.{◌≤◌, ℕ, List, take, drop, ⊤}
use Rattle.nb_responses.specs.Lines.{LineBlock, whole, unfinished, crowded}
use Rattle.nb_httpmsg.specs.declared.block.BlockEnd.{BlockEnd}
use Rattle.nb_httpmsg.specs.declared.block.BlockEnd.TheVariants.{Whole, Unfinished, Crowded}

-- the block that ends there
abbrev pub block_to : List ℕ → BlockEnd → LineBlock
block_to text (Whole len) = whole (take len text) (drop len text)
block_to text Unfinished = unfinished
block_to text Crowded = crowded

abbrev pub EndsWithin : ℕ → BlockEnd → Type 0
EndsWithin most (Whole len) = len ≤ most
EndsWithin most Unfinished = ⊤
EndsWithin most Crowded = ⊤
