use Rattle.std.proofs.Common.{◌≡◌, ◌∷◌, Some, sym, ◌∙◌, ap}
use Rattle.nb_dhcpmsg.specs.Fields.{address_in}
use Rattle.nb_dhcpmsg.proofs.StreamLemmas.{four_bytes}
use Rattle.nb_dhcpmsg.proofs.stream.Stream.address.Goals as goal

pub returns-in_err-first : goal.returns-in_err-first
returns-in_err-first c = λ bytes h. c.from_residual.ensures ∙ sym (ap address_in (c.in_err-first.ensures.value bytes h))

pub returns-in_err-second : goal.returns-in_err-second
returns-in_err-second c = λ bytes h.
    let (rest, is, later) = c.in_ok-first.ensures.value bytes h in
    c.from_residual-in_err-second.ensures ∙ sym (ap address_in (is ∙ ap (λ r. c.in_ok-first.first ∷ r) (c.in_err-second.ensures.value rest later)))

pub returns-in_err-third : goal.returns-in_err-third
returns-in_err-third c = λ bytes h.
    let (rest, is, later) = c.in_ok-first.ensures.value bytes h in
    let (rest2, is2, later2) = c.in_ok-second.ensures.value rest later in
    c.from_residual-in_err-third.ensures
    ∙ sym (ap address_in (is ∙ ap (λ r. c.in_ok-first.first ∷ r) (is2 ∙ ap (λ r. c.in_ok-second.second ∷ r) (c.in_err-third.ensures.value rest2 later2))))

pub returns-in_err-fourth : goal.returns-in_err-fourth
returns-in_err-fourth c = λ bytes h.
    let (rest, is, later) = c.in_ok-first.ensures.value bytes h in
    let (rest2, is2, later2) = c.in_ok-second.ensures.value rest later in
    let (rest3, is3, later3) = c.in_ok-third.ensures.value rest2 later2 in
    c.from_residual-in_err-fourth.ensures
    ∙ sym (ap address_in (is ∙ ap (λ r. c.in_ok-first.first ∷ r) (is2 ∙ ap (λ r. c.in_ok-second.second ∷ r) (is3 ∙ ap (λ r. c.in_ok-third.third ∷ r) (c.in_err-fourth.ensures.value rest3 later3)))))

pub returns : goal.returns
returns c = λ bytes h.
    let (rest, is, later) = c.in_ok-first.ensures.value bytes h in
    let (rest2, is2, later2) = c.in_ok-second.ensures.value rest later in
    let (rest3, is3, later3) = c.in_ok-third.ensures.value rest2 later2 in
    let (rest4, is4, later4) = c.in_ok-fourth.ensures.value rest3 later3 in
    let all : bytes ≡ c.in_ok-first.first ∷ c.in_ok-second.second ∷ c.in_ok-third.third ∷ c.in_ok-fourth.fourth ∷ rest4 =
    is ∙ ap (λ r. c.in_ok-first.first ∷ r) (is2 ∙ ap (λ r. c.in_ok-second.second ∷ r) (is3 ∙ ap (λ r. c.in_ok-third.third ∷ r) is4)) in
    ap (λ n. Some n) c.from_be_bytes.ensures
    ∙ sym (four_bytes c.in_ok-first.first c.in_ok-second.second c.in_ok-third.third c.in_ok-fourth.fourth rest4)
    ∙ ap address_in (sym all)
