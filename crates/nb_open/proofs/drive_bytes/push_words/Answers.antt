use Rattle.std.proofs.Common.{◌≡◌, ◌++◌, ℕ, List, get_or}
use Rattle.std.specs.Int.{w32, to_be_bytes}
use Rattle.nb_open.proofs.DriveBack.{words_pushed}
use Rattle.nb_open.proofs.drive_bytes.push_words.Goals as goal

pub returns-clause-pushed : goal.returns-clause-pushed
returns-clause-pushed c =
    let ws : List ℕ = c.args.words.now in
    let one : c.to_be_bytes.result ≡ to_be_bytes w32 (get_or ws 0 0) = c.to_be_bytes.ensures in
    let two : c.to_be_bytes-2.result ≡ to_be_bytes w32 (get_or ws 1 0) = c.to_be_bytes-2.ensures in
    let three : c.to_be_bytes-3.result ≡ to_be_bytes w32 (get_or ws 2 0) = c.to_be_bytes-3.ensures in
    let four : c.to_be_bytes-4.result ≡ to_be_bytes w32 (get_or ws 3 0) = c.to_be_bytes-4.ensures in
    let five : c.to_be_bytes-5.result ≡ to_be_bytes w32 (get_or ws 4 0) = c.to_be_bytes-5.ensures in
    let six : c.to_be_bytes-6.result ≡ to_be_bytes w32 (get_or ws 5 0) = c.to_be_bytes-6.ensures in
    let seven : c.to_be_bytes-7.result ≡ to_be_bytes w32 (get_or ws 6 0) = c.to_be_bytes-7.ensures in
    let last : c.to_be_bytes-8.result ≡ to_be_bytes w32 (get_or ws 7 0) = c.to_be_bytes-8.ensures in
    let a = c.in_ok-extend_from_slice.ensures.items in
    let b = c.in_ok-extend_from_slice-2.ensures.items in
    let d = c.in_ok-extend_from_slice-3.ensures.items in
    let e = c.in_ok-extend_from_slice-4.ensures.items in
    let f = c.in_ok-extend_from_slice-5.ensures.items in
    let g = c.in_ok-extend_from_slice-6.ensures.items in
    let h = c.in_ok-extend_from_slice-7.ensures.items in
    let i : c.extend_from_slice-8.new.self.items ≡ c.extend_from_slice-7.new.self.items ++ c.to_be_bytes-8.result = c.in_ok-extend_from_slice-8.ensures.items in
    rw (i, last, h, seven, g, six, f, five, e, four, d, three, b, two, a, one) (words_pushed c.args.bytes.now.items ws c.told-words)
