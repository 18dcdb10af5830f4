-- The sum of what a segment's checksum covers before it.
use Rattle.std.proofs.Common.{◌≡◌, ℕ, ◌+◌, ◌<◌, ◌^◌, refl, sum, arith}
use Rattle.std.specs.Int.{w32, to_be_bytes}
use Rattle.nb_wire.specs.declared.address.Ip4.{Ip4}
use Rattle.nb_wire.specs.Checksum.{words, HasSum}
use Rattle.nb_wire.proofs.ChecksumLaws.{SameSum-trans}
use Rattle.nb_ipv4.proofs.NumberLaws.{bytes_of, same_of}
use Rattle.nb_tcpseg.specs.SegmentText.{tcp_pseudo_header}

-- the sum of the words, from the fields
pseudo_has_sum : (src dst : Ip4) (len n : ℕ) → len < 2 ^ 16 → n ≡ sum (words (to_be_bytes w32 src.0)) + sum (words (to_be_bytes w32 dst.0)) + 6 + len → HasSum (tcp_pseudo_header src dst len) n
unfolding tcp_pseudo_header
pseudo_has_sum src dst len n room is =
    let e : n ≡ sum (words (tcp_pseudo_header src dst len)) = omega (arith, is, room) in
    record {
      even = refl;
      fits = bytes_of (tcp_pseudo_header src dst len) (omega arith, (omega arith, (omega arith, (omega arith, (omega arith, (omega arith, (omega arith, (omega arith, (omega arith, (omega arith, (omega arith, (omega arith, tt))))))))))));
      same = same_of e;
    }

-- a carry counts as 1, so an address stands for both of its words
pub pseudo_stands : (src dst : Ip4) (len n : ℕ) → src.0 < 2 ^ 32 → dst.0 < 2 ^ 32 → len < 2 ^ 16 → n ≡ src.0 + dst.0 + 6 + len → HasSum (tcp_pseudo_header src dst len) n
pseudo_stands src dst len n src_fits dst_fits room is =
    let m : ℕ = sum (words (to_be_bytes w32 src.0)) + sum (words (to_be_bytes w32 dst.0)) + 6 + len in
    let has = pseudo_has_sum src dst len m room refl in
    record {
      even = has.even;
      fits = has.fits;
      same = SameSum-trans n m _ (omega (arith, is, src_fits, dst_fits), λ z. absurd (omega (arith, is, z)), λ z. absurd (omega (arith, z))) has.same;
    }
