use Rattle.std.proofs.Common.{◌≡◌, ◌≤◌, ◌++◌, ◌∙◌, ◌<◌, ◌-◌, List, ℕ, ap, sym, subst, refl, arith, take, length}
use Rattle.nb_httpmsg.specs.Reader.{Reader, FitsPlace}
use Rattle.nb_httpmsg.specs.Feeding.{Feeds}
use Rattle.nb_httpmsg.specs.declared.place.Place.{Place}
use Rattle.nb_httpmsg.specs.declared.place.Place.TheVariants.{Size}
use Rattle.std.proofs.lemmas.List.{length-take}
use Rattle.nb_httpmsg.specs.Leasts.{FeedsLeast}
use Rattle.nb_httpmsg.proofs.FeedLeastLemmas.{size_least}
use Rattle.nb_httpmsg.proofs.FeedLemmas.{size_comes}
use Rattle.nb_httpmsg.proofs.BlockLemmas.{take_within}
use Rattle.nb_httpmsg.proofs.chunks.Chunks.size_line.Goals as goal

-- of a line the same bytes are taken as of all
first_taken : (n : ℕ) (line bytes : List ℕ) → line ≡ take (length line) bytes → n ≤ length line → take n line ≡ take n bytes
first_taken n line bytes e l = ap (take n) e ∙ take_within n (length line) bytes l

pub returns-clause-stands : goal.returns-clause-stands
returns-clause-stands c =
    let old : Reader = record { line = c.self.inside.line.items; block = c.self.inside.block.items; place = c.self.inside.place } in
    let new : Reader = record { line = c.truncate.new.self.items; block = c.self.inside.block.items; place = c.read_size-read.result.place } in
    let taken : ℕ = c.fill.result in
    let line : List ℕ = c.as_slice-line.result.now in
    let at : c.self.inside.place ≡ Size = ap (λ (r : Reader). r.place) c.self.view_is ∙ c.requires.at in
    let spelled : line ≡ c.self.inside.line.items ++ take taken c.args.bytes.now = c.as_slice-line.ensures.value ∙ c.fill.ensures.items
    ∙ ap (λ (t : List ℕ). c.self.inside.line.items ++ t) (first_taken taken c.first_line.result.now c.args.bytes.now c.first_line.ensures.value (omega (arith, c.fill.ensures.count))) in
    let fits : FitsPlace Size c.self.inside.line.items = subst (λ (p : Place). FitsPlace p c.self.inside.line.items) at c.self.invariant.4 in
    let size : length c.self.inside.line.items ≡ length c.as_slice-before.result.now = sym (ap length c.as_slice-before.ensures.value) in
    let some : 0 < length (take taken c.args.bytes.now) = omega (
      arith,
      length-take taken c.args.bytes.now,
      c.fill.ensures.count,
      c.first_line.ensures.some c.requires.some,
      ap length c.first_line.ensures.value,
      length-take (length c.first_line.result.now) c.args.bytes.now,
      fits.short,
      size,
      c.as_slice-before.ensures.len,
    ) in
    let far : length c.self.inside.line.items < c.read_size-read.result.len = c.read_size-read.ensures.longer c.self.inside.line.items (take taken c.args.bytes.now) spelled some fits in
    subst (λ (r : Reader). Feeds r new (take (c.read_size-read.result.len - length c.as_slice-before.result.now) c.args.bytes.now)) c.self.view_is
    (subst (λ n. Feeds old new (take (c.read_size-read.result.len - n) c.args.bytes.now)) size
    (size_comes old new line c.args.bytes.now taken c.read_size-read.result at spelled c.read_size-read.ensures far refl (c.truncate.ensures.items ∙ ap (λ (t : List ℕ). take c.read_size-read.result.len t) (sym c.as_slice-line.ensures.value)) refl))

pub returns-clause-least : goal.returns-clause-least
returns-clause-least c =
    let old : Reader = record { line = c.self.inside.line.items; block = c.self.inside.block.items; place = c.self.inside.place } in
    let new : Reader = record { line = c.truncate.new.self.items; block = c.self.inside.block.items; place = c.read_size-read.result.place } in
    let taken : ℕ = c.fill.result in
    let line : List ℕ = c.as_slice-line.result.now in
    let at : c.self.inside.place ≡ Size = ap (λ (r : Reader). r.place) c.self.view_is ∙ c.requires.at in
    let spelled : line ≡ c.self.inside.line.items ++ take taken c.args.bytes.now = c.as_slice-line.ensures.value ∙ c.fill.ensures.items
    ∙ ap (λ (t : List ℕ). c.self.inside.line.items ++ t) (first_taken taken c.first_line.result.now c.args.bytes.now c.first_line.ensures.value (omega (arith, c.fill.ensures.count))) in
    let fits : FitsPlace Size c.self.inside.line.items = subst (λ (p : Place). FitsPlace p c.self.inside.line.items) at c.self.invariant.4 in
    let size : length c.self.inside.line.items ≡ length c.as_slice-before.result.now = sym (ap length c.as_slice-before.ensures.value) in
    let some : 0 < length (take taken c.args.bytes.now) = omega (
      arith,
      length-take taken c.args.bytes.now,
      c.fill.ensures.count,
      c.first_line.ensures.some c.requires.some,
      ap length c.first_line.ensures.value,
      length-take (length c.first_line.result.now) c.args.bytes.now,
      fits.short,
      size,
      c.as_slice-before.ensures.len,
    ) in
    let far : length c.self.inside.line.items < c.read_size-read.result.len = c.read_size-read.ensures.longer c.self.inside.line.items (take taken c.args.bytes.now) spelled some fits in
    let room : length c.self.inside.block.items < 4096 = subst (λ (r : Reader). length r.block < 4096) (sym c.self.view_is) c.requires.room in
    subst (λ (r : Reader). FeedsLeast r new (take (c.read_size-read.result.len - length c.as_slice-before.result.now) c.args.bytes.now)) c.self.view_is
    (subst (λ n. FeedsLeast old new (take (c.read_size-read.result.len - n) c.args.bytes.now)) size
    (size_least old new line c.args.bytes.now taken c.read_size-read.result at spelled c.read_size-read.ensures far refl room))
