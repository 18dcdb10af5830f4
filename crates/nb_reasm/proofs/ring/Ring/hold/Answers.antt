use Rattle.std.proofs.Common.{refl}
use Rattle.nb_reasm.proofs.FillLemmas.{fills_joinable, fills_fresh, fills_kept}
use Rattle.nb_reasm.proofs.ring.Ring.hold.Goals as goal

pub returns-clause-ring : goal.returns-clause-ring
returns-clause-ring c =
    fills_joinable c.args.self.now (record { memory = c.write.new.self; marks = c.turn.new.self; start = c.args.self.now.start; base = c.args.self.now.base; next = c.args.self.now.next; end = c.max-self.result }) c.args.place c.args.slot c.args.bytes.now
    (record {
      turns = record {
        beside = record {
          joinable = c.requires.ring;
          from = c.requires.from;
          to = c.requires.to;
          first = c.requires.slot;
          piece = c.requires.piece;
        };
        size = c.write.ensures.size;
        start = refl;
        base = refl;
        words = c.turn.ensures.room;
        turned = c.turn.ensures.turned;
        others = c.turn.ensures.others;
      };
      some = c.requires.some;
      unmarked = c.requires.unmarked;
      next = refl;
      end = c.max-self.ensures;
      small = c.requires.small;
      copied = c.write.ensures.bytes;
      others = c.write.ensures.others;
      written = c.write.ensures.written;
      still = c.write.ensures.still;
    })

pub returns-clause-fresh : goal.returns-clause-fresh
returns-clause-fresh c =
    fills_fresh c.args.self.now (record { memory = c.write.new.self; marks = c.turn.new.self; start = c.args.self.now.start; base = c.args.self.now.base; next = c.args.self.now.next; end = c.max-self.result }) c.args.place c.args.slot c.args.bytes.now
    (record {
      turns = record {
        beside = record {
          joinable = c.requires.ring;
          from = c.requires.from;
          to = c.requires.to;
          first = c.requires.slot;
          piece = c.requires.piece;
        };
        size = c.write.ensures.size;
        start = refl;
        base = refl;
        words = c.turn.ensures.room;
        turned = c.turn.ensures.turned;
        others = c.turn.ensures.others;
      };
      some = c.requires.some;
      unmarked = c.requires.unmarked;
      next = refl;
      end = c.max-self.ensures;
      small = c.requires.small;
      copied = c.write.ensures.bytes;
      others = c.write.ensures.others;
      written = c.write.ensures.written;
      still = c.write.ensures.still;
    })

pub returns-clause-kept : goal.returns-clause-kept
returns-clause-kept c =
    fills_kept c.args.self.now (record { memory = c.write.new.self; marks = c.turn.new.self; start = c.args.self.now.start; base = c.args.self.now.base; next = c.args.self.now.next; end = c.max-self.result }) c.args.place c.args.slot c.args.bytes.now
    (record {
      turns = record {
        beside = record {
          joinable = c.requires.ring;
          from = c.requires.from;
          to = c.requires.to;
          first = c.requires.slot;
          piece = c.requires.piece;
        };
        size = c.write.ensures.size;
        start = refl;
        base = refl;
        words = c.turn.ensures.room;
        turned = c.turn.ensures.turned;
        others = c.turn.ensures.others;
      };
      some = c.requires.some;
      unmarked = c.requires.unmarked;
      next = refl;
      end = c.max-self.ensures;
      small = c.requires.small;
      copied = c.write.ensures.bytes;
      others = c.write.ensures.others;
      written = c.write.ensures.written;
      still = c.write.ensures.still;
    })
