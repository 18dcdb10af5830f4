use Rattle.std.proofs.Common.{◌≡◌, ℕ, ◌<◌, List, [], take, ◌∙◌, refl, subst, MatchBool, arith}
use Rattle.std.proofs.lemmas.List.{take_all}
use Rattle.nb_wire.specs.Checksum.{checksum, HasSum}
use Rattle.nb_ipv4.proofs.packet.is_header_intact.Goals as goal

nothing : HasSum [] 0
nothing = record { even = refl; fits = λ i. omega arith; same = (refl, λ z. z, λ z. z) }

pub returns-in-Some : goal.returns-in-Some
returns-in-Some c =
    let front : c.in-Some.fixed.now ≡ take 20 c.args.header.now = c.in-Some.ensures.cases.same in
    let whole : c.in-Some.fixed.now ≡ c.args.header.now = front ∙ (take_all 20 c.args.header.now (omega (arith, c.if-header-eq20.true))) in
    let P : List ℕ → Type 0 = λ x. MatchBool c.is_intact_after.result (checksum x ≡ 0) (0 < checksum x) in
    subst P whole (c.is_intact_after.ensures [] nothing)
