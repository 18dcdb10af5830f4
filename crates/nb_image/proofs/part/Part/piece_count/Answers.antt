use Rattle.std.proofs.Common.{◌∙◌, ap, sym}
use Rattle.nb_image.specs.Parts.{bytes_of, piece_count}
use Rattle.nb_image.proofs.PartsLemmas.{pieces_length}
use Rattle.nb_image.proofs.part.Part.piece_count.Goals as goal

pub returns : goal.returns
returns c = c.piece_count.ensures ∙ ap piece_count c.len.ensures ∙ sym (pieces_length (bytes_of c.args.self.now.bytes))
