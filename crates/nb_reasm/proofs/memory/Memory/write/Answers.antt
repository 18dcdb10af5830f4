use Rattle.std.proofs.Common.{ℕ, ◌+◌, List, Option, None, length, sym, ap, ◌∙◌, arith}
use Rattle.std.specs.Option.{is_some}
use lib.ListN.{get_or}
use Rattle.nb_reasm.specs.Memories.{byte_of}
use Rattle.nb_reasm.proofs.RoomPlaces.{written_length}
use Rattle.nb_reasm.proofs.RoomLemmas.{written_inside, written_outside, written_still}
use Rattle.nb_reasm.proofs.memory.Memory.write.Goals as goal

pub invariant_of-self-clause-is_sized : goal.invariant_of-self-clause-is_sized
invariant_of-self-clause-is_sized c = c.args.self.now.is_sized ∙ sym (ap (λ (cs : List (Option ℕ)). length cs) c.write.ensures.1 ∙ written_length c.args.bytes.now c.args.self.now.room.bytes c.args.slot)

pub invariant_of-self-clause-is_leased : goal.invariant_of-self-clause-is_leased
invariant_of-self-clause-is_leased c = (c.args.self.now.is_leased.0, c.args.self.now.is_leased.1 ∙ sym c.write.ensures.0, c.args.self.now.is_leased.2)

pub returns-clause-bytes : goal.returns-clause-bytes
returns-clause-bytes c = λ k l.
    ap (λ (cs : List (Option ℕ)). byte_of (get_or cs (c.args.slot + k) None)) c.write.ensures.1
    ∙ ap byte_of (written_inside c.args.bytes.now c.args.self.now.room.bytes c.args.slot k (omega (arith, c.requires, c.args.self.now.is_sized)) l)

pub returns-clause-others : goal.returns-clause-others
returns-clause-others c = λ i outside.
    ap (λ (cs : List (Option ℕ)). byte_of (get_or cs i None)) c.write.ensures.1 ∙ ap byte_of (written_outside c.args.bytes.now c.args.self.now.room.bytes c.args.slot i outside)

pub returns-clause-written : goal.returns-clause-written
returns-clause-written c = λ k l.
    ap (λ (cs : List (Option ℕ)). is_some (get_or cs (c.args.slot + k) None)) c.write.ensures.1
    ∙ ap is_some (written_inside c.args.bytes.now c.args.self.now.room.bytes c.args.slot k (omega (arith, c.requires, c.args.self.now.is_sized)) l)

pub returns-clause-still : goal.returns-clause-still
returns-clause-still c = λ i h. ap (λ (cs : List (Option ℕ)). is_some (get_or cs i None)) c.write.ensures.1 ∙ written_still c.args.bytes.now c.args.self.now.room.bytes c.args.slot i h
