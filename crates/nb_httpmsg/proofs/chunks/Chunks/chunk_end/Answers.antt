use Rattle.std.proofs.Common.{◌≡◌, ◌<◌, ◌∙◌, ap, sym, subst, refl, arith, take, length, get_or}
use Rattle.nb_httpmsg.specs.Reader.{Reader, FitsPlace}
use Rattle.nb_httpmsg.specs.Feeding.{Feeds, place_after_end}
use Rattle.nb_httpmsg.specs.declared.place.Place.{Place}
use Rattle.nb_httpmsg.specs.declared.place.Place.TheVariants.{End}
use Rattle.nb_httpmsg.specs.Leasts.{FeedsLeast}
use Rattle.nb_httpmsg.proofs.FeedLeastLemmas.{end_least}
use Rattle.nb_httpmsg.proofs.FeedLemmas.{end_comes, end_fits, one_taken}
use Rattle.nb_httpmsg.proofs.chunks.Chunks.chunk_end.Goals as goal

pub invariant_of-self : goal.invariant_of-self
invariant_of-self c = (
  omega (arith, c.clear.ensures.len),
  omega (arith, c.self.invariant.1, c.clear.ensures.capacity),
  c.self.invariant.2,
  c.self.invariant.3,
  subst (λ (p : Place). FitsPlace p c.clear.new.self.items) (sym c.after_end-self-inside.ensures)
      (subst (FitsPlace (place_after_end c.args.cr (get_or c.args.bytes.now 0 0))) (sym c.clear.ensures.items) (end_fits c.args.cr (get_or c.args.bytes.now 0 0))),
)

pub returns-clause-stands : goal.returns-clause-stands
returns-clause-stands c =
    let old : Reader = record { line = c.self.inside.line.items; block = c.self.inside.block.items; place = c.self.inside.place } in
    let new : Reader = record { line = c.clear.new.self.items; block = c.self.inside.block.items; place = c.after_end-self-inside.result } in
    let at : c.self.inside.place ≡ End c.args.cr = ap (λ (r : Reader). r.place) c.self.view_is ∙ c.requires.at in
    subst (λ (r : Reader). Feeds r new (take 1 c.args.bytes.now)) c.self.view_is
    (subst (Feeds old new) (sym (one_taken c.args.bytes.now 0 c.requires.some)) (end_comes c.args.cr (get_or c.args.bytes.now 0 0) old new at c.after_end-self-inside.ensures c.clear.ensures.items refl))

pub returns-clause-least : goal.returns-clause-least
returns-clause-least c =
    let old : Reader = record { line = c.self.inside.line.items; block = c.self.inside.block.items; place = c.self.inside.place } in
    let new : Reader = record { line = c.clear.new.self.items; block = c.self.inside.block.items; place = c.after_end-self-inside.result } in
    let at : c.self.inside.place ≡ End c.args.cr = ap (λ (r : Reader). r.place) c.self.view_is ∙ c.requires.at in
    let room : length c.self.inside.block.items < 4096 = subst (λ (r : Reader). length r.block < 4096) (sym c.self.view_is) c.requires.room in
    subst (λ (r : Reader). FeedsLeast r new (take 1 c.args.bytes.now)) c.self.view_is
    (subst (FeedsLeast old new) (sym (one_taken c.args.bytes.now 0 c.requires.some)) (end_least c.args.cr (get_or c.args.bytes.now 0 0) old new at refl room))
