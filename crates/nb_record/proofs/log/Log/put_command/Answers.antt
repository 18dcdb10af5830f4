use Rattle.std.proofs.Common.{◌∙◌}
use Rattle.nb_record.proofs.LogLemmas.{Puts-same}
use Rattle.nb_record.proofs.SpellingLemmas.{command_puts, flag-is}
use Rattle.nb_record.proofs.log.Log.put_command.Goals as goal

pub returns : goal.returns
returns c =
    command_puts c.args.self.now c.put_head.new.self c.add.new.self c.add-2.new.self c.add-3.new.self c.put_words.new.self
    c.words_len.result c.args.depth c.args.line c.args.place c.from.result c.args.expanded c.args.words.now
    c.words_len.ensures (c.from.ensures ∙ flag-is c.args.expanded)
    c.put_head.ensures c.add.ensures (Puts-same _ _ _ _ c.to_be_bytes.ensures c.add-2.ensures) c.add-3.ensures c.put_words.ensures
