use Rattle.std.proofs.Common.{◌≡◌, ◌+◌, ◌==◌, Some, None, sym, ◌∙◌, ap, arith}
use Rattle.std.specs.Prelude.{slice_get}
use Rattle.std.specs.Option.{option_map}
use Rattle.nb_image.specs.Parts.{part_text}
use Rattle.nb_runner.specs.Handings.{parts_handed}
use Rattle.nb_runner.proofs.HandingLemmas.{none_left, piece_early, piece_passed, records_of_part}
use Rattle.nb_runner.proofs.handing.Handing.pass_piece.Goals as goal

pub unreachable-requires : goal.unreachable-requires
unreachable-requires c =
    let h = c.args.self.now in
    let ps = parts_handed c.args.images.now.images h in
    let none : slice_get ps h.part ≡ None = sym c.next_part.ensures.value ∙ ap (λ o. option_map part_text o) c.in_default.is in
    c.requires.some (none_left ps h.part h.piece none)

pub overflow_add-last : goal.overflow_add-last
overflow_add-last c =
    let is = sym c.next_part.ensures.value ∙ ap (λ o. option_map part_text o) c.in-Some.is in
    omega (arith, piece_early c.args.images.now c.args.self.now (part_text c.in-Some.part) c.requires.at is)

pub go_on-requires-clause-piece : goal.go_on-requires-clause-piece
go_on-requires-clause-piece c =
    let is = sym c.next_part.ensures.value ∙ ap (λ o. option_map part_text o) c.in-Some.is in
    omega (arith, piece_early c.args.images.now c.args.self.now (part_text c.in-Some.part) c.requires.at is)

pub returns : goal.returns
returns c =
    let h = c.args.self.now in
    let p = part_text c.in-Some.part in
    let is : slice_get (parts_handed c.args.images.now.images h) h.part ≡ Some p = sym c.next_part.ensures.value ∙ ap (λ o. option_map part_text o) c.in-Some.is in
    rw c.go_on.ensures (piece_passed c.args.images.now h p _ c.requires.at is (ap (λ n. h.piece + 1 == n) (records_of_part p ∙ sym c.piece_count.ensures)))
