use Rattle.std.proofs.Common.{◌≡◌, ◌++◌, [], ◌∙◌, ◌≤◌, ◌<◌, ◌-◌, ◌+◌, List, ℕ, ap, sym, subst, refl, arith, take, length}
use Rattle.std.proofs.lemmas.List.{length-append, length-take}
use Rattle.std.proofs.lemmas.Bool.{false≢true}
use Rattle.nb_http.specs.declared.state.State.{State}
use Rattle.nb_http.specs.declared.state.State.TheVariants.{Head}
use Rattle.nb_http.specs.Standing.{Core, Kept, TakesBytes, DecidesLast}
use Rattle.nb_http.specs.Giving.{is_plain_body, KeepsFit}
use Rattle.nb_http.proofs.StandsLemmas.{takes}
use Rattle.nb_http.proofs.StepLemmas.{head_comes}
use Rattle.nb_http.proofs.LeastLemmas.{decides_last, head_least}
use Rattle.nb_http.proofs.HeadLemmas.{goes_fit}
use Rattle.nb_http.proofs.http.Http.take_head.Goals as goal

pub invariant_of-self : goal.invariant_of-self
invariant_of-self c =
    let at : c.self.inside.state ≡ Head = ap (λ (k : Kept). k.core.state) c.self.view_is ∙ c.requires.at in
    let fits = subst (λ (s : State). KeepsFit s c.self.inside.head.items c.self.inside.chunks.place) at c.self.invariant.3 in
    let kept : c.truncate.new.self.items ≡ take c.read-step.result.kept c.as_slice-bytes.result.now = c.truncate.ensures.items ∙ ap (λ (t : List ℕ). take c.read-step.result.kept t) (sym c.as_slice-bytes.ensures.value) in (
      omega (arith, c.truncate.ensures.len, c.gather.ensures.len),
      omega (arith, c.truncate.ensures.capacity, c.gather.ensures.capacity),
      c.self.invariant.2,
      subst (λ (t : List ℕ). KeepsFit c.read-step.result.state t c.self.inside.chunks.place) (sym kept)
          (goes_fit c.args.rec c.read-step.result.state (take c.read-step.result.len c.as_slice-bytes.result.now) (take c.read-step.result.kept c.as_slice-bytes.result.now) c.read-step.result.over c.self.inside.chunks.place c.read-step.ensures.goes fits.2),
    )

pub returns : goal.returns
returns c =
    let old : Core = record { head = c.self.inside.head.items; chunks = c.self.inside.chunks; state = c.self.inside.state } in
    let bytes : List ℕ = c.args.first.now ++ c.args.second.now in
    let new : Core = record { head = c.truncate.new.self.items; chunks = c.self.inside.chunks; state = c.read-step.result.state } in
    let line : List ℕ = c.as_slice-bytes.result.now in
    let taken : ℕ = c.gather.result in
    let at : c.self.inside.state ≡ Head = ap (λ (k : Kept). k.core.state) c.self.view_is ∙ c.requires.at in
    let fits = subst (λ (s : State). KeepsFit s c.self.inside.head.items c.self.inside.chunks.place) at c.self.invariant.3 in
    let spelled : line ≡ c.self.inside.head.items ++ take taken bytes = c.as_slice-bytes.ensures.value ∙ c.gather.ensures.items in
    let size : length c.self.inside.head.items ≡ length c.as_slice-before.result.now = sym (ap length c.as_slice-before.ensures.value) in
    let reach : length c.self.inside.head.items ≤ c.read-step.result.len = c.read-step.ensures.reach c.self.inside.head.items (take taken bytes) spelled fits.0 in
    let all : length line ≡ length c.self.inside.head.items + length (take taken bytes) = ap length spelled ∙ length-append c.self.inside.head.items (take taken bytes) in
    let comes : TakesBytes c.args.rec old new (take (c.read-step.result.len - length c.self.inside.head.items) bytes) [] c.read-step.result.over =
    takes c.args.rec old new (take (c.read-step.result.len - length c.self.inside.head.items) bytes) [] c.read-step.result.over
    (head_comes c.args.rec old new line bytes taken c.read-step.result at spelled c.read-step.ensures reach refl (c.truncate.ensures.items ∙ ap (λ (t : List ℕ). take c.read-step.result.kept t) (sym c.as_slice-bytes.ensures.value)) refl) in
    record {
      within = omega (arith, c.read-step.ensures.within, all, length-take taken bytes, size);
      given = omega arith;
      some = λ some.
          let added : 0 < length (take taken bytes) = omega (arith, length-take taken bytes, c.gather.ensures.some some (omega (arith, fits.1, c.as_slice-before.ensures.len, size)), some) in
          omega (arith, c.read-step.ensures.longer c.self.inside.head.items (take taken bytes) spelled added fits.0, size);
      waits = omega arith;
      few = omega arith;
      plain = λ plain. absurd (false≢true (sym (ap is_plain_body c.requires.at) ∙ plain));
      gathered = λ _. refl;
      stands = subst (λ (k : Kept). TakesBytes c.args.rec k.core new (take (c.read-step.result.len - length c.as_slice-before.result.now) bytes) [] c.read-step.result.over) c.self.view_is
          (subst (λ (n : ℕ). TakesBytes c.args.rec old new (take (c.read-step.result.len - n) bytes) [] c.read-step.result.over) size comes);
      least = subst (λ (k : Kept). DecidesLast k.core (take (c.read-step.result.len - length c.as_slice-before.result.now) bytes)) c.self.view_is
          (subst (λ (n : ℕ). DecidesLast old (take (c.read-step.result.len - n) bytes)) size
          (decides_last old (take (c.read-step.result.len - length c.self.inside.head.items) bytes) (head_least old line bytes taken c.args.rec c.read-step.result at spelled c.read-step.ensures reach)));
    }
