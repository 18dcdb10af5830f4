use Rattle.std.proofs.Common.{◌≡◌, ◌≤◌, ◌-◌, ◌++◌, ◌∙◌, List, ℕ, Option, ap, sym, subst, refl, arith, take, length, min}
use Rattle.nb_terms.specs.declared.cause.Cause.{Cause}
use Rattle.std.proofs.lemmas.Bool.{false≢true}
use Rattle.nb_http.specs.declared.state.State.{State}
use Rattle.nb_http.specs.declared.state.State.TheVariants.{Chunked}
use Rattle.nb_http.specs.Standing.{Core, Kept, TakesBytes, DecidesLast}
use Rattle.nb_http.specs.Giving.{is_plain_body, KeepsFit, chunk_next}
use Rattle.nb_http.proofs.StandsLemmas.{takes}
use Rattle.nb_http.proofs.StepLemmas.{chunks_come}
use Rattle.std.proofs.lemmas.List.{length-take}
use Rattle.nb_httpmsg.proofs.BlockLemmas.{take_within}
use Rattle.nb_http.proofs.LeastLemmas.{decides_last, chunks_least, take_both}
use Rattle.nb_http.proofs.HeadLemmas.{chunk_fit}
use Rattle.nb_http.proofs.http.Http.take_chunks.Goals as goal

pub invariant_of-self : goal.invariant_of-self
invariant_of-self c = (c.self.invariant.0, c.self.invariant.1, omega (arith, c.requires.none, ap (λ (k : Kept). k.waiting) c.self.view_is), subst (λ (s : State). KeepsFit s c.self.inside.head.items c.feed-fed.new.self.place) (sym (ap (λ n. n.state) c.after_chunks-next.ensures ∙ ap (λ f. (chunk_next c.args.rec c.args.room c.from-count.result f).state) c.feed-fed.ensures.state)) (chunk_fit c.args.rec c.args.room c.from-count.result c.self.inside.head.items c.feed-fed.new.self.place))

pub returns : goal.returns
returns c =
    let old : Core = record { head = c.self.inside.head.items; chunks = c.self.inside.chunks; state = c.self.inside.state } in
    let bytes : List ℕ = c.args.first.now ++ c.args.second.now in
    let cut : List ℕ = c.beginning-first.result.now ++ c.beginning-second.result.now in
    let most : ℕ = c.saturating_add-most.result in
    let new : Core = record { head = c.self.inside.head.items; chunks = c.feed-fed.new.self; state = c.after_chunks-next.result.state } in
    let room : ℕ = c.args.room in
    let at : c.self.inside.state ≡ Chunked room = ap (λ (k : Kept). k.core.state) c.self.view_is ∙ c.requires.at in
    let unread = subst (λ (s : State). KeepsFit s c.self.inside.head.items c.self.inside.chunks.place) at c.self.invariant.3 in
    let whole : cut ≡ take most bytes = ap (λ (t : List ℕ). c.beginning-first.result.now ++ t) c.beginning-second.ensures.value
    ∙ ap (λ (t : List ℕ). t ++ take (most - length t) c.args.second.now) c.beginning-first.ensures.value ∙ take_both most c.args.first.now c.args.second.now in
    let size : length cut ≡ length (take most bytes) = ap length whole in
    let fits : c.feed-fed.result.took ≤ most = omega (arith, c.feed-fed.ensures.within, size, length-take most bytes) in
    let same : take c.feed-fed.result.took cut ≡ take c.feed-fed.result.took bytes = ap (λ (t : List ℕ). take c.feed-fed.result.took t) whole ∙ take_within c.feed-fed.result.took most bytes fits in
    let count : length c.feed-fed.new.self.block ≡ c.from-count.result = sym (c.from-count.ensures ∙ c.feed-fed.ensures.bytes) in
    let gave : min (length c.feed-fed.new.self.block) room ≡ c.min-waiting.result = omega (arith, c.min-waiting.ensures, count) in
    let over : Option Cause = c.after_chunks-next.result.over in
    let taken : List ℕ = take c.feed-fed.result.took cut in
    let comes : TakesBytes c.args.rec old new taken (take (min (length c.feed-fed.new.self.block) room) c.feed-fed.new.self.block) over =
    takes c.args.rec old new taken (take (min (length c.feed-fed.new.self.block) room) c.feed-fed.new.self.block) over
    (chunks_come c.args.rec room old new taken c.feed-fed.result.state over at c.feed-fed.ensures.stands c.feed-fed.ensures.state
    (ap (λ n. n.state) c.after_chunks-next.ensures ∙ ap (λ k. (chunk_next c.args.rec room k c.feed-fed.result.state).state) (sym count))
    (ap (λ n. n.over) c.after_chunks-next.ensures ∙ ap (λ k. (chunk_next c.args.rec room k c.feed-fed.result.state).over) (sym count)) refl) in
    let last : DecidesLast old taken = decides_last old taken (chunks_least room old taken at (omega (arith, fits, length-take c.feed-fed.result.took cut, c.saturating_add-most.ensures)) c.feed-fed.ensures.least) in
    record {
      within = omega (arith, c.feed-fed.ensures.within, size, length-take most bytes);
      given = omega arith;
      some = λ some. c.feed-fed.ensures.some unread (omega (arith, some, size, length-take most bytes, c.saturating_add-most.ensures));
      waits = omega (arith, gave);
      few = omega (arith, gave, c.feed-fed.ensures.most);
      plain = λ plain. absurd (false≢true (sym (ap is_plain_body c.requires.at) ∙ plain));
      gathered = λ _. refl;
      stands = subst (λ (t : List ℕ). TakesBytes c.args.rec c.args.self.now.core new t (take c.min-waiting.result c.feed-fed.new.self.block) over) same
          (subst (λ (k : Kept). TakesBytes c.args.rec k.core new taken (take c.min-waiting.result c.feed-fed.new.self.block) over) c.self.view_is
          (subst (λ (n : ℕ). TakesBytes c.args.rec old new taken (take n c.feed-fed.new.self.block) over) gave comes));
      least = subst (λ (t : List ℕ). DecidesLast c.args.self.now.core t) same (subst (λ (k : Kept). DecidesLast k.core taken) c.self.view_is last);
    }
