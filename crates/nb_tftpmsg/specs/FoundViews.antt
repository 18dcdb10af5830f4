-- The program's values found so far
use Rattle.nb_tftpmsg.specs.declared.options.Options.{Options}
use Rattle.nb_tftpmsg.specs.Reading.{FoundValues}

abbrev pub found_of : Options → FoundValues
found_of options = record { blksize = options.blksize; tsize = options.tsize }
