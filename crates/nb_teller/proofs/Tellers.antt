-- What a teller was told is spelled, where nothing of it is lost.
use Rattle.std.proofs.Common.{◌≡◌, List, sym, subst}
use Rattle.nb_ledger.specs.Flat.{Notice, Heard, Given}
use Rattle.nb_stack.specs.Client.{Client}
use Rattle.nb_teller.specs.declared.speaker.Speaker.{Speaker}
use Rattle.nb_teller.specs.declared.teller.Teller.{Teller}
use Rattle.nb_teller.specs.Spelling.{Spelling, heard_by, IsBlank, IsSpelled, IsWholeSpelling}
use Rattle.nb_teller.proofs.SpellingLemmas.{spelled_is}

-- what is known of what it was told
abbrev pub heard : Teller → Heard
heard t = heard_by t.net.now t.who.now t.told.value

-- what is known by what it was told first, by another name
pub named : (net : Client) (who : Speaker) (before : Teller) (P : Heard → Type 0) → before.net.now ≡ net → before.who.now ≡ who → P (heard before) → P (heard_by net who before.told.value)
named net who before P same_net same_who known =
    subst (λ z. P (heard_by z who before.told.value)) same_net (subst (λ z. P (heard_by before.net.now z before.told.value)) same_who known)

-- what was told first
pub told_is : (net : Client) (who : Speaker) (before after : Teller) (s : Spelling) (ns : List Notice) → before.net.now ≡ net → before.who.now ≡ who → IsBlank before.told.value → Given (heard before) (heard after) ns → s ≡ after.told.value → IsWholeSpelling s → IsSpelled net who s ns
told_is net who before after s ns same_net same_who blank given e whole =
    spelled_is net after.net.now who after.who.now before.told.value s ns blank
    (subst (λ x. Given (heard_by net who before.told.value) (heard_by after.net.now after.who.now x) ns) (sym e) (named net who before (λ h. Given h (heard after) ns) same_net same_who given)) whole.0
