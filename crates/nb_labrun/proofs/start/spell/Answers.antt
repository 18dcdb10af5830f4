use Rattle.std.proofs.Common.{arith}
use Rattle.nb_record.specs.View.{start_of}
use Rattle.nb_labrun.proofs.StartLemmas.{spelled_start}
use Rattle.nb_labrun.proofs.start.spell.Goals as goal

pub returns : goal.returns
returns c =
    let s = start_of c.args.entry.now in
    rw (
      c.in_ok-extend_from_slice-12.ensures.items,
      c.in_ok-extend_from_slice-11.ensures.items,
      c.in_ok-extend_from_slice-10.ensures.items,
      c.in_ok-extend_from_slice-9.ensures.items,
      c.in_ok-extend_from_slice-8.ensures.items,
      c.in_ok-extend_from_slice-7.ensures.items,
      c.in_ok-extend_from_slice-6.ensures.items,
      c.in_ok-extend_from_slice-5.ensures.items,
      c.in_ok-extend_from_slice-4.ensures.items,
      c.in_ok-extend_from_slice-3.ensures.items,
      c.in_ok-extend_from_slice-2.ensures.items,
      c.in_ok-extend_from_slice.ensures.items,
      c.new-bytes.ensures.items,
      c.to_be_bytes.ensures,
      c.to_be_bytes-2.ensures,
      c.to_be_bytes-3.ensures,
      c.to_be_bytes-4.ensures,
      c.to_be_bytes-5.ensures,
      c.to_be_bytes-6.ensures,
      c.to_be_bytes-7.ensures,
    )
    (spelled_start s _ c.requires (omega arith))
