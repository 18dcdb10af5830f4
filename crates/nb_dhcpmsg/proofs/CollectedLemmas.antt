-- Options that were collected in one pass are those of the message, or of the value.
use Rattle.std.proofs.Common.{◌≡◌, ℕ, List, [], ◌∷◌, ◌++◌, ap, sym, subst, ◌∙◌, append-nil}
use Rattle.std.proofs.lemmas.List.{map-append}
use Rattle.nb_dhcpmsg.specs.declared.option.DhcpOption.{DhcpOption}
use Rattle.nb_dhcpmsg.specs.declared.cursor.Cursor.{Cursor}
use Rattle.nb_dhcpmsg.specs.Options.{TagValue}
use Rattle.nb_dhcpmsg.specs.Fields.{FieldRead, inner_options}
use Rattle.nb_dhcpmsg.specs.Lefts.{parts_of_option, IsLeft, Walks, LeadsToOption}
use Rattle.nb_dhcpmsg.specs.Collected.{tag_values}
use Rattle.nb_dhcpmsg.proofs.FieldLemmas.{read_padding}
use Rattle.nb_dhcpmsg.proofs.LeftLemmas.{walks_on, left_one}

one_more : (all : List DhcpOption) (o : DhcpOption) → tag_values (all ++ o ∷ []) ≡ tag_values all ++ parts_of_option o ∷ []
one_more all o = map-append parts_of_option all (o ∷ [])

-- padding holds nothing
pub padding_within : (bytes rest : List ℕ) (pad : ℕ) → bytes ≡ pad ∷ rest → pad ≡ 0 → inner_options bytes ≡ inner_options rest
padding_within bytes rest pad is zero_is =
    ap inner_options (is ∙ ap (λ b. b ∷ rest) zero_is) ∙ ap (λ (r : FieldRead). r.options) (read_padding rest)

-- an option further in a message
pub more_walked : (all : List DhcpOption) (start a b : Cursor) (o : DhcpOption) → Walks (tag_values all) start a → LeadsToOption (parts_of_option o) a b → Walks (tag_values (all ++ o ∷ [])) start b
more_walked all start a b o walks leads =
    subst (λ (os : List TagValue). Walks os start b) (sym (one_more all o)) (walks_on (tag_values all) start a b (parts_of_option o) walks leads)

-- no option more in a message
pub all_walked : (all : List DhcpOption) (start a : Cursor) (os : List TagValue) → Walks (tag_values all) start a → IsLeft a [] → IsLeft start os → tag_values all ≡ os
all_walked all start a os walks none left =
    let (more, whole, at) = walks.forth os left in
    sym (whole ∙ ap (λ (ps : List TagValue). tag_values all ++ ps) (left_one a more [] at none) ∙ append-nil (tag_values all))
