use Rattle.nb_record.proofs.SpellingLemmas.{parts_puts}
use Rattle.nb_record.proofs.log.Log.put_parts.Goals as goal

pub returns : goal.returns
returns c =
    parts_puts c.args.self.now c.put_head.new.self c.add.new.self c.add-2.new.self c.args.kind c.args.head.now c.args.tail.now
    c.put_head.ensures c.add.ensures c.add-2.ensures
