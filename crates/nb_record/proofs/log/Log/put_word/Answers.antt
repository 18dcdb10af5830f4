use Rattle.std.proofs.Common.{◌∙◌, ap, ℕ}
use Rattle.std.specs.Int.{w16, to_be_bytes}
use Rattle.nb_record.proofs.LogLemmas.{Puts-same}
use Rattle.nb_record.proofs.SpellingLemmas.{word_puts}
use Rattle.nb_record.proofs.log.Log.put_word.Goals as goal

pub returns : goal.returns
returns c =
    word_puts c.args.self.now c.add.new.self c.add-2.new.self c.args.word.now
    (Puts-same _ _ _ _ (c.to_be_bytes.ensures ∙ ap (λ (n : ℕ). to_be_bytes w16 n) c.len.ensures.value) c.add.ensures)
    (Puts-same _ _ _ _ c.as_slice.ensures.value c.add-2.ensures)
