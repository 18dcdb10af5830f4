use Rattle.std.proofs.Common.{◌≡◌, ◌++◌, ◌∙◌, ◌≤◌, ◌-◌, ◌+◌, List, ℕ, ap, sym, subst, arith, take, length}
use Rattle.nb_httpmsg.specs.Reader.{Reader}
use Rattle.nb_httpmsg.specs.Feeding.{Feeds, place_after_bytes}
use Rattle.nb_httpmsg.specs.declared.place.Place.TheVariants.{Bytes}
use Rattle.std.proofs.lemmas.List.{length-take}
use Rattle.nb_httpmsg.specs.Leasts.{FeedsLeast}
use Rattle.nb_httpmsg.proofs.FeedLeastLemmas.{bytes_least}
use Rattle.nb_httpmsg.proofs.FeedLemmas.{bytes_come}
use Rattle.nb_httpmsg.proofs.BlockLemmas.{take_within}
use Rattle.nb_httpmsg.proofs.chunks.Chunks.chunk_bytes.Goals as goal

pub returns-clause-stands : goal.returns-clause-stands
returns-clause-stands c =
    let old : Reader = record { line = c.self.inside.line.items; block = c.self.inside.block.items; place = c.self.inside.place } in
    let new : Reader = record { line = c.self.inside.line.items; block = c.fill-taken.new.buffer.items; place = c.after_bytes-self-inside.result } in
    let taken : ℕ = c.fill-taken.result in
    let most : ℕ = c.min-most-2.result in
    let at : c.self.inside.place ≡ Bytes c.args.left = ap (λ (r : Reader). r.place) c.self.view_is ∙ c.requires.at in
    let short : taken ≤ most = omega (arith, c.fill-taken.ensures.count, length-take most c.args.bytes.now) in
    let size : length (take taken c.args.bytes.now) ≡ taken = omega (arith, length-take taken c.args.bytes.now, short, c.min-most-2.ensures) in
    let few : length (take taken c.args.bytes.now) ≤ c.args.left = omega (arith, size, short, c.min-most-2.ensures, c.min-most.ensures) in
    subst (λ (r : Reader). Feeds r new (take taken c.args.bytes.now)) c.self.view_is
    (bytes_come c.args.left old new (take taken c.args.bytes.now) at few
    (c.after_bytes-self-inside.ensures ∙ ap (λ n. place_after_bytes (c.args.left - n)) (sym size))
    (c.fill-taken.ensures.items ∙ ap (λ (t : List ℕ). c.self.inside.block.items ++ t) (take_within taken most c.args.bytes.now short)))

pub returns-clause-least : goal.returns-clause-least
returns-clause-least c =
    let old : Reader = record { line = c.self.inside.line.items; block = c.self.inside.block.items; place = c.self.inside.place } in
    let new : Reader = record { line = c.self.inside.line.items; block = c.fill-taken.new.buffer.items; place = c.after_bytes-self-inside.result } in
    let taken : ℕ = c.fill-taken.result in
    let most : ℕ = c.min-most-2.result in
    let at : c.self.inside.place ≡ Bytes c.args.left = ap (λ (r : Reader). r.place) c.self.view_is ∙ c.requires.at in
    let short : taken ≤ most = omega (arith, c.fill-taken.ensures.count, length-take most c.args.bytes.now) in
    let size : length (take taken c.args.bytes.now) ≡ taken = omega (arith, length-take taken c.args.bytes.now, short, c.min-most-2.ensures) in
    let few : length (take taken c.args.bytes.now) ≤ c.args.left = omega (arith, size, short, c.min-most-2.ensures, c.min-most.ensures) in
    let items : c.fill-taken.new.buffer.items ≡ c.self.inside.block.items ++ take taken c.args.bytes.now = c.fill-taken.ensures.items ∙ ap (λ (t : List ℕ). c.self.inside.block.items ++ t) (take_within taken most c.args.bytes.now short) in
    let room : length c.self.inside.block.items + length (take taken c.args.bytes.now) ≤ 4096 = omega (arith, size, c.fill-taken.ensures.count, c.self.invariant.2) in
    subst (λ (r : Reader). FeedsLeast r new (take taken c.args.bytes.now)) c.self.view_is
    (bytes_least c.args.left old new (take taken c.args.bytes.now) at few items room)
