use Rattle.std.proofs.Common.{◌≡◌, [], ◌∷◌, map, refl, codes, sym, ◌∙◌}
use Rattle.std.specs.String.{string_bytes}
use Rattle.std.proofs.lemmas.Slice.Eq.{bytes_eq-Decides}
use Rattle.nb_labrun.proofs.WordLemmas.{named, two}
use Rattle.nb_labrun.proofs.words.images.Goals as goal

pub returns-in-len2-clause-some : goal.returns-in-len2-clause-some
returns-in-len2-clause-some c =
    let words = two string_bytes c.args.words.now c.command-item.result c.text-item.result c.in-len2.len_at_least c.in-len2.len_below c.command-item.is c.text-item.is in
    let lab = (bytes_eq-Decides c.as_str.result.now (codes "lab")).0 (sym c.eq.ensures ∙ c.if-eq.true) in
    let are : map string_bytes c.args.words.now ≡ codes "lab" ∷ c.as_str-in-len2.result.now ∷ [] = words ∙ rw (← c.as_str.ensures.value, lab, c.as_str-in-len2.ensures.value) refl in
    named c.number.result c.as_str-in-len2.result.now (map string_bytes c.args.words.now) c.number.ensures.some are
