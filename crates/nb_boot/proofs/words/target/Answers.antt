use Rattle.std.proofs.Common.{arith, ◌<◌, length, map, refl, sym, ◌∙◌, codes}
use Rattle.std.specs.String.{string_bytes}
use Rattle.std.proofs.lemmas.Slice.Eq.{bytes_eq-Decides}
use Rattle.std.proofs.lemmas.Bool.Decides.{nat_tests}
use Rattle.nb_boot.specs.Words.{AreWords, IsPeerText}
use Rattle.nb_boot.proofs.WordLemmas.{two, three}
use Rattle.nb_boot.proofs.words.target.Goals as goal

pub returns-in-len2-clause-valid : goal.returns-in-len2-clause-valid
returns-in-len2-clause-valid c =
    let words = two string_bytes c.args.words.now c.command-item.result c.peer-item.result c.in-len2.len_at_least c.in-len2.len_below c.command-item.is c.peer-item.is in
    let live = (bytes_eq-Decides c.as_str.result.now (codes "live")).0 (sym c.eq.ensures ∙ c.if-eq.true) in
    let peer : IsPeerText (string_bytes c.peer-item.result) = rw c.as_str-then-eq.ensures.value at c.is_peer.ensures.0 c.if-is_peer.true in
    let are : AreWords (map string_bytes c.args.words.now) = rw words (sym c.as_str.ensures.value ∙ live, peer) in
    (λ _. are, λ _. refl)

pub returns-in-len2-clause-names : goal.returns-in-len2-clause-names
returns-in-len2-clause-names c =
    let words = two string_bytes c.args.words.now c.command-item.result c.peer-item.result c.in-len2.len_at_least c.in-len2.len_below c.command-item.is c.peer-item.is in
    let live = (bytes_eq-Decides c.as_str.result.now (codes "live")).0 (sym c.eq.ensures ∙ c.if-eq.true) in
    words ∙ rw (← c.as_str.ensures.value, live, c.as_str-in-len2.ensures.value) refl

pub returns-in-len3-clause-valid : goal.returns-in-len3-clause-valid
returns-in-len3-clause-valid c =
    let words = three string_bytes c.args.words.now c.command-item-then-words-lt4.result c.input-item.result c.output-item.result c.in-len3.len_at_least c.in-len3.len_below c.command-item-then-words-lt4.is c.input-item.is c.output-item.is in
    let replays = (bytes_eq-Decides c.as_str-then-words-lt4.result.now (codes "replay")).0 (sym c.eq-then-words-lt4.ensures ∙ c.if-eq-2.true) in
    let input : 0 < length (string_bytes c.input-item.result) = grind (arith, nat_tests, c.is_empty.ensures, c.if-not-is_empty.true) in
    let output : 0 < length (string_bytes c.output-item.result) = grind (arith, nat_tests, c.is_empty-then-not-is_empty.ensures, c.if-not-is_empty-2.true) in
    let are : AreWords (map string_bytes c.args.words.now) = rw words (sym c.as_str-then-words-lt4.ensures.value ∙ replays, input, output) in
    (λ _. are, λ _. refl)

pub returns-in-len3-clause-names : goal.returns-in-len3-clause-names
returns-in-len3-clause-names c =
    let words = three string_bytes c.args.words.now c.command-item-then-words-lt4.result c.input-item.result c.output-item.result c.in-len3.len_at_least c.in-len3.len_below c.command-item-then-words-lt4.is c.input-item.is c.output-item.is in
    let replays = (bytes_eq-Decides c.as_str-then-words-lt4.result.now (codes "replay")).0 (sym c.eq-then-words-lt4.ensures ∙ c.if-eq-2.true) in
    words ∙ rw (← c.as_str-then-words-lt4.ensures.value, replays, c.as_str-in-len3.ensures.value, c.as_str-in-len3-2.ensures.value) refl
