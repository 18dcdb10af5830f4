use Rattle.std.proofs.Common.{◌≡◌, ◌∙◌, ℕ, true, length, ap, eqb, arith}
use Rattle.std.proofs.lemmas.Bool.{eq-eqb}
use Rattle.nb_iscsipdu.specs.Heads.{word_at}
use Rattle.nb_iscsipdu.proofs.HeadLemmas.{word_read}
use Rattle.nb_disk.specs.Histories.{capacity_by}
use Rattle.nb_disk.proofs.sizing.capacity_of.Goals as goal

pub returns-in-len8 : goal.returns-in-len8
returns-in-len8 c =
    let bytes = c.args.bytes.now in
    let len : length bytes ≡ 8 = omega arith in
    let whole : eqb (length bytes) 8 ≡ true = eq-eqb (length bytes) 8 len in
    let first = word_read 0 bytes c.from_be_bytes.result (omega arith) c.from_be_bytes.ensures in
    let second = word_read 4 bytes c.from_be_bytes-in-len8.result (omega arith) c.from_be_bytes-in-len8.ensures in
    rw whole
    (c.capacity_by.ensures
    ∙ ap (λ (n : ℕ). capacity_by n c.from_be_bytes-in-len8.result) first
    ∙ ap (λ (n : ℕ). capacity_by (word_at 0 bytes) n) second)
