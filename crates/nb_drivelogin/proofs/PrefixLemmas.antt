-- The bits of a mask that are set from the highest on.
use Rattle.std.proofs.Common.{◌≡◌, ℕ, suc, ◌+◌, ◌-◌, ◌*◌, ◌^◌, ◌<◌, ◌≤◌, arith}
use Rattle.std.proofs.Math.Pow.{pow_mono, pow_pos}
use Rattle.std.proofs.Math.Nat.{pow-suc}
use Rattle.std.proofs.Math.Logic.{⊎_elim}
use Rattle.std.proofs.lemmas.Bool.{cases_lt}
use Rattle.std.proofs.lemmas.Nat.{leading_length}
use Rattle.nb_wire.specs.declared.address.Ip4.{Ip4}
use Rattle.nb_drivelogin.specs.OwnNets.{HasOnes, prefix_of}

-- they are ones
pub prefix_ones : (mask : Ip4) → HasOnes mask (prefix_of mask)
prefix_ones mask =
    let t = leading_length 32 (2 ^ 32 - 1 - mask.0) (omega arith) in
    let m : 32 - prefix_of mask ≡ t.0 = omega (arith, t.1) in
    rw m (omega (arith, t.2))

-- and no more are, of the 32 that there are
pub prefix_most : (mask : Ip4) (n : ℕ) → n ≤ 32 → HasOnes mask n → n ≤ prefix_of mask
prefix_most mask n few ones = ⊎_elim too_many (λ within. within) (cases_lt (prefix_of mask) n)
  where
    too_many : prefix_of mask < n → n ≤ prefix_of mask
    too_many more =
        let t = leading_length 32 (2 ^ 32 - 1 - mask.0) (omega arith) in
        let m : t.0 ≡ suc (31 - prefix_of mask) = omega (arith, t.1) in
        let double : 2 ^ suc (31 - prefix_of mask) ≤ 2 * (2 ^ 32 - 1 - mask.0) + 1 = rw m at t.3 in
        let fewer : 32 - n ≤ 31 - prefix_of mask = omega arith in
        let less : 2 ^ (32 - n) ≤ 2 ^ (31 - prefix_of mask) = pow_mono fewer in
        absurd (omega (arith, double, less, ones, pow-suc 2 (31 - prefix_of mask), pow_pos (31 - prefix_of mask)))
