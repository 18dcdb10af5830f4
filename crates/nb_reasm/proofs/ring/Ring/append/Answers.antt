use Rattle.std.proofs.Common.{◌+◌, refl, arith}
use Rattle.nb_reasm.proofs.RunLemmas.{appends_of, appends_ring, appends_fresh, appends_kept, appends_free, free_after}
use Rattle.nb_reasm.proofs.ring.Ring.append.Goals as goal

pub returns-then-count-eq0-clause-free : goal.returns-then-count-eq0-clause-free
returns-then-count-eq0-clause-free c = λ p l. free_after c.args.self.now p c.requires.ring.joinable c.requires.none_marked (omega (arith, l))

pub returns-clause-ring : goal.returns-clause-ring
returns-clause-ring c =
    appends_ring c.args.self.now (record { memory = c.write_around.new.self; marks = c.args.self.now.marks; start = c.args.self.now.start; base = c.args.self.now.base; next = c.args.self.now.next + c.min-count.result; end = c.args.self.now.end }) c.args.bytes.now c.min-count.result
    (appends_of c.args.self.now (record { memory = c.write_around.new.self; marks = c.args.self.now.marks; start = c.args.self.now.start; base = c.args.self.now.base; next = c.args.self.now.next + c.min-count.result; end = c.args.self.now.end }) c.args.bytes.now c.min-count.result c.slot-slot.result c.requires.ring.joinable c.requires.none_marked (omega arith) (omega arith) (omega arith) (omega arith) c.slot-slot.ensures.value c.write_around.ensures.size refl refl refl refl refl c.write_around.ensures.bytes c.write_around.ensures.others c.write_around.ensures.written c.write_around.ensures.still)

pub returns-clause-kept : goal.returns-clause-kept
returns-clause-kept c =
    appends_kept c.args.self.now (record { memory = c.write_around.new.self; marks = c.args.self.now.marks; start = c.args.self.now.start; base = c.args.self.now.base; next = c.args.self.now.next + c.min-count.result; end = c.args.self.now.end }) c.args.bytes.now c.min-count.result
    (appends_of c.args.self.now (record { memory = c.write_around.new.self; marks = c.args.self.now.marks; start = c.args.self.now.start; base = c.args.self.now.base; next = c.args.self.now.next + c.min-count.result; end = c.args.self.now.end }) c.args.bytes.now c.min-count.result c.slot-slot.result c.requires.ring.joinable c.requires.none_marked (omega arith) (omega arith) (omega arith) (omega arith) c.slot-slot.ensures.value c.write_around.ensures.size refl refl refl refl refl c.write_around.ensures.bytes c.write_around.ensures.others c.write_around.ensures.written c.write_around.ensures.still)

pub returns-clause-fresh : goal.returns-clause-fresh
returns-clause-fresh c =
    appends_fresh c.args.self.now (record { memory = c.write_around.new.self; marks = c.args.self.now.marks; start = c.args.self.now.start; base = c.args.self.now.base; next = c.args.self.now.next + c.min-count.result; end = c.args.self.now.end }) c.args.bytes.now c.min-count.result
    (appends_of c.args.self.now (record { memory = c.write_around.new.self; marks = c.args.self.now.marks; start = c.args.self.now.start; base = c.args.self.now.base; next = c.args.self.now.next + c.min-count.result; end = c.args.self.now.end }) c.args.bytes.now c.min-count.result c.slot-slot.result c.requires.ring.joinable c.requires.none_marked (omega arith) (omega arith) (omega arith) (omega arith) c.slot-slot.ensures.value c.write_around.ensures.size refl refl refl refl refl c.write_around.ensures.bytes c.write_around.ensures.others c.write_around.ensures.written c.write_around.ensures.still)

pub returns-clause-free : goal.returns-clause-free
returns-clause-free c =
    appends_free c.args.self.now (record { memory = c.write_around.new.self; marks = c.args.self.now.marks; start = c.args.self.now.start; base = c.args.self.now.base; next = c.args.self.now.next + c.min-count.result; end = c.args.self.now.end }) c.args.bytes.now c.min-count.result
    (appends_of c.args.self.now (record { memory = c.write_around.new.self; marks = c.args.self.now.marks; start = c.args.self.now.start; base = c.args.self.now.base; next = c.args.self.now.next + c.min-count.result; end = c.args.self.now.end }) c.args.bytes.now c.min-count.result c.slot-slot.result c.requires.ring.joinable c.requires.none_marked (omega arith) (omega arith) (omega arith) (omega arith) c.slot-slot.ensures.value c.write_around.ensures.size refl refl refl refl refl c.write_around.ensures.bytes c.write_around.ensures.others c.write_around.ensures.written c.write_around.ensures.still)
