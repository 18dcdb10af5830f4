use Rattle.std.proofs.Common.{◌≡◌, List, ℕ, subst}
use Rattle.nb_iscsipdu.specs.Streams.{IsKnown}
use Rattle.nb_iscsipdu.proofs.HeadLemmas.{word_read}
use Rattle.nb_iscsipdu.proofs.StreamLemmas.{known-by}
use Rattle.nb_iscsipdu.proofs.pdus.Pdus.known.Goals as goal

pub returns-in-len8-up : goal.returns-in-len8-up
returns-in-len8-up c =
    let bytes : List ℕ = c.as_slice.result.now in
    let same : bytes ≡ c.args.self.now = cc in
    subst (λ (x : List ℕ). IsKnown c.of_lengths.result x) same
    (rw c.of_lengths.ensures (known-by bytes c.from_be_bytes.result c.in-len8-up.len_at_least (word_read 4 bytes c.from_be_bytes.result c.in-len8-up.len_at_least c.from_be_bytes.ensures)))
