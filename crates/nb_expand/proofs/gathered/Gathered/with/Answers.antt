use Rattle.std.proofs.Common.{reverse}
use Rattle.nb_expand.proofs.GatheringLemmas.{put_back-gathered, gathered-kept, alike-kept}
use Rattle.nb_expand.proofs.gathered.Gathered.with.Goals as goal

pub invariant_of-result : goal.invariant_of-result
invariant_of-result c =
    let text = c.self.inside.text.items in
    let places = reverse c.self.inside.opens.items in
    let whole = put_back-gathered text places c.self.invariant in
    let room = rw whole at (rw (← c.self.view_is) at c.room-room.ensures) in
    rw (c.in_ok-extend_from_slice.ensures.items, c.min.ensures) (gathered-kept text places c.args.more.now c.room-room.result c.self.invariant room)

pub returns : goal.returns
returns c =
    let text = c.self.inside.text.items in
    let places = reverse c.self.inside.opens.items in
    let whole = put_back-gathered text places c.self.invariant in
    let room = rw whole at (rw (← c.self.view_is) at c.room-room.ensures) in
    rw (← c.self.view_is, c.in_ok-extend_from_slice.ensures.items, c.min.ensures) (alike-kept text places c.args.more.now c.room-room.result c.self.invariant room)
