use Rattle.std.proofs.Common.{◌≡◌, ◌+◌, ◌*◌, ◌≤◌, ◌++◌, ◌∙◌, length, take, ap, arith, length-append}
use Rattle.std.specs.List.{concat}
use Rattle.nb_image.specs.Pages.{all_bytes}
use Rattle.nb_image.proofs.PagesLemmas.{length_all, length_pages, cut_at, kept, moved_on}
use Rattle.nb_image.proofs.pages.Pages.append.Goals as goal

pub turn-requires-clause-paged : goal.turn-requires-clause-paged
turn-requires-clause-paged c =
    let was = c.loop-rest.self in
    let inv = c.loop-rest.invariant in
    let now = c.extend_from_slice.new.self in
    let len : length now.items ≡ 65536 = omega (arith, now.ok.0, was.last.ok.0, c.in_ok-extend_from_slice.ensures.len, c.split_at.ensures.front_len, c.room-in-loop-rest.ensures) in
    record { full = inv.0.full; last = omega (arith, len); few = inv.0.few }

pub returns-in_err-turn-clause-keeps : goal.returns-in_err-turn-clause-keeps
returns-in_err-turn-clause-keeps c =
    let was = c.loop-rest.self in
    let inv = c.loop-rest.invariant in
    let head = c.split_at.result.0.now in
    let tail = c.split_at.result.1.now in
    let before = all_bytes c.args.self.now in
    let added = c.in_ok-extend_from_slice.ensures.items in
    let now : all_bytes c.turn.new.self ≡ concat was.full.items ++ (was.last.items ++ head) = c.in_err-turn.ensures.bytes ∙ ap (λ last. concat was.full.items ++ last) added in
    let rest : c.loop-rest.rest.now ≡ head ++ tail = cut_at c.room-in-loop-rest.result c.loop-rest.rest.now head tail c.split_at.ensures.front c.split_at.ensures.back in
    let same = moved_on was.full.items was.last.items head tail c.loop-rest.rest.now before c.args.bytes.now rest inv.2 in
    let longer : length before ≤ length (concat was.full.items ++ (was.last.items ++ head)) =
    omega (arith, inv.3, length_all was inv.0.full, length_pages was.full.items (was.last.items ++ head) inv.0.full, length-append was.last.items head) in
    ap (take (length before)) now ∙ kept before (concat was.full.items ++ (was.last.items ++ head)) tail c.args.bytes.now same longer

pub returns-in_err-extend_from_slice-2-clause-keeps : goal.returns-in_err-extend_from_slice-2-clause-keeps
returns-in_err-extend_from_slice-2-clause-keeps c =
    let was = c.loop-rest.self in
    let inv = c.loop-rest.invariant in
    let same : c.extend_from_slice-2.new.self.items ≡ was.last.items = c.in_err-extend_from_slice-2.ensures.items in
    let before = all_bytes c.args.self.now in
    rw same (kept before (all_bytes was) c.loop-rest.rest.now c.args.bytes.now inv.2 inv.3)

pub returns-clause-paged : goal.returns-clause-paged
returns-clause-paged c =
    let was = c.loop-rest.self in
    let inv = c.loop-rest.invariant in
    let now = c.extend_from_slice-2.new.self in
    let len : length now.items ≡ length was.last.items + length c.loop-rest.rest.now = omega (arith, now.ok.0, was.last.ok.0, c.in_ok-extend_from_slice-2.ensures.len) in
    record { full = inv.0.full; last = omega (arith, len, c.room.ensures); few = inv.0.few }
