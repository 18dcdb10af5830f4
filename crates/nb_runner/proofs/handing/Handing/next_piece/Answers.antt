use Rattle.std.proofs.Common.{◌≡◌, ◌<◌, length, Some, None, refl, sym, ◌∙◌, ap, arith}
use Rattle.std.specs.Prelude.{slice_get}
use Rattle.std.specs.Option.{option_map}
use Rattle.nb_image.specs.Parts.{part_text, piece_text, part_pieces}
use Rattle.nb_defs.specs.Records.{part}
use Rattle.nb_machine.specs.Conclusions.{part_records}
use Rattle.nb_runner.specs.Handings.{parts_handed}
use Rattle.nb_runner.proofs.HandingLemmas.{none_left, part_small, past_end, piece_at_place, piece_comes, records_of_part}
use Rattle.nb_runner.proofs.handing.Handing.next_piece.Goals as goal

pub overflow_cast-result : goal.overflow_cast-result
overflow_cast-result c =
    let h = c.args.self.now in
    let is = sym c.next_part.ensures.value ∙ ap (λ o. option_map part_text o) c.in-Some.is in
    let got = sym c.piece.ensures ∙ ap (λ o. option_map piece_text o) c.in-Some-piece.is in
    let small = part_small c.args.images.now.images h h.part (part_text c.in-Some.part) c.requires.booted c.requires.short c.requires.table is in
    let at = piece_at_place (part_text c.in-Some.part).bytes h.piece (piece_text c.in-Some-piece.piece) small got in
    rw at.offset (omega (arith, at.fits))

pub unreachable-requires : goal.unreachable-requires
unreachable-requires c =
    let h = c.args.self.now in
    let ps = parts_handed c.args.images.now.images h in
    let p = part_text c.in-Some.part in
    let is : slice_get ps h.part ≡ Some p = sym c.next_part.ensures.value ∙ ap (λ o. option_map part_text o) c.in-Some.is in
    let none : slice_get (part_pieces p.bytes) h.piece ≡ None = sym c.piece.ensures ∙ ap (λ o. option_map piece_text o) c.in_default-piece.is in
    let here : h.piece < length (part_records p) = rw is at c.requires.piece in
    omega (arith, here, records_of_part p, past_end (part_pieces p.bytes) h.piece none)

pub returns-in_default : goal.returns-in_default
returns-in_default c =
    let h = c.args.self.now in
    let ps = parts_handed c.args.images.now.images h in
    let none : slice_get ps h.part ≡ None = sym c.next_part.ensures.value ∙ ap (λ o. option_map part_text o) c.in_default.is in
    none_left ps h.part h.piece none

pub returns : goal.returns
returns c =
    let h = c.args.self.now in
    let p = part_text c.in-Some.part in
    let piece = piece_text c.in-Some-piece.piece in
    let is : slice_get (parts_handed c.args.images.now.images h) h.part ≡ Some p = sym c.next_part.ensures.value ∙ ap (λ o. option_map part_text o) c.in-Some.is in
    let got : slice_get (part_pieces p.bytes) h.piece ≡ Some piece = sym c.piece.ensures ∙ ap (λ o. option_map piece_text o) c.in-Some-piece.is in
    piece_comes c.args.images.now h p piece (record { kind = c.number.result; index = c.in-Some.part.index; offset = c.in-Some-piece.piece.offset; bytes = c.in-Some-piece.piece.bytes })
    c.requires is got (ap (λ k. part k c.in-Some.part.index piece.offset piece.bytes) (sym c.number.ensures)) refl
