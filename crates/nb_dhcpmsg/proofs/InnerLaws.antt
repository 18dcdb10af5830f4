-- The options within a value are those of the bytes that write them.
use Rattle.std.proofs.Common.{◌≡◌, ℕ, List, [], ◌∷◌, ◌++◌, length, drop, refl, ◌∙◌, ap, append_assoc}
use Rattle.nb_dhcpmsg.specs.Options.{TagValue, tag_value, AreOptions}
use Rattle.nb_dhcpmsg.specs.Fields.{FieldRead, inner_options}
use Rattle.nb_dhcpmsg.specs.Inner.{option_text, inner_options_text, HaveTags, IsCutOff, no_length, too_short}
use Rattle.nb_dhcpmsg.proofs.OptionLemmas.{taken, dropped, long}
use Rattle.nb_dhcpmsg.proofs.FieldLemmas.{are_read}
use Rattle.nb_dhcpmsg.proofs.StreamLemmas.{half_inner, short_inner, one_inner}

pub inner_field : (value : List ℕ) (os : List TagValue) → AreOptions value os → inner_options value ≡ os
inner_field value os are = ap (λ (r : FieldRead). r.options) (are_read value os are)

cut_none : (rest : List ℕ) → IsCutOff rest → inner_options rest ≡ []
cut_none rest (no_length tag is pos small) = ap inner_options is ∙ half_inner tag [] pos small refl
cut_none rest (too_short tag len more is pos small short) = ap inner_options is ∙ short_inner tag len more pos small short

pub inner_cut_off : (os : List TagValue) (rest : List ℕ) → HaveTags os → IsCutOff rest → inner_options (inner_options_text os ++ rest) ≡ os
inner_cut_off [] rest tags cut = cut_none rest cut
inner_cut_off (o ∷ os) rest tags cut =
    let more : List ℕ = inner_options_text os ++ rest in
    ap inner_options (append_assoc (option_text o) (inner_options_text os) rest)
    ∙ one_inner o.tag (length o.value) (o.value ++ more) tags.0.0 tags.0.1 (long o.value more)
    ∙ ap (λ v. tag_value o.tag v ∷ inner_options (drop (length o.value) (o.value ++ more))) (taken o.value more)
    ∙ ap (λ r. o ∷ inner_options r) (dropped o.value more)
    ∙ ap (λ ps. o ∷ ps) (inner_cut_off os rest tags.1 cut)
