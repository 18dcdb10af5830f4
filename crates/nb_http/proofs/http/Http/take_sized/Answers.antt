use Rattle.std.proofs.Common.{◌≡◌, ◌++◌, [], ◌∙◌, ◌<◌, ◌-◌, ◌+◌, List, ℕ, ap, sym, subst, refl, arith, take, length, append-nil}
use Rattle.std.proofs.lemmas.List.{length-append, length-take}
use Rattle.std.proofs.lemmas.Bool.{true≢false}
use Rattle.nb_http.specs.declared.state.State.{State}
use Rattle.nb_http.specs.declared.state.State.TheVariants.{Sized}
use Rattle.nb_http.specs.Standing.{Core, Kept, TakesBytes, DecidesLast}
use Rattle.nb_http.specs.Giving.{is_plain_body, KeepsFit}
use Rattle.nb_http.proofs.StandsLemmas.{takes}
use Rattle.nb_http.proofs.StepLemmas.{sized_comes}
use Rattle.nb_http.proofs.LeastLemmas.{decides_last, sized_least}
use Rattle.nb_http.proofs.HeadLemmas.{sized_fit}
use Rattle.nb_http.proofs.http.Http.take_sized.Goals as goal

pub invariant_of-self : goal.invariant_of-self
invariant_of-self c = (c.self.invariant.0, c.self.invariant.1, omega (arith, c.requires.none, ap (λ (k : Kept). k.waiting) c.self.view_is), subst (λ (s : State). KeepsFit s c.self.inside.head.items c.self.inside.chunks.place) (sym (ap (λ n. n.state) c.after_sized-next.ensures)) (sized_fit (c.args.left - c.min-taken.result) c.self.inside.head.items c.self.inside.chunks.place))

pub returns : goal.returns
returns c =
    let old : Core = record { head = c.self.inside.head.items; chunks = c.self.inside.chunks; state = c.self.inside.state } in
    let bytes : List ℕ = c.args.first.now ++ c.args.second.now in
    let new : Core = record { head = c.self.inside.head.items; chunks = c.self.inside.chunks; state = c.after_sized-next.result.state } in
    let taken : ℕ = c.min-taken.result in
    let at : c.self.inside.state ≡ Sized c.args.left = ap (λ (k : Kept). k.core.state) c.self.view_is ∙ c.requires.at in
    let left : 0 < c.args.left = subst (λ (s : State). KeepsFit s c.self.inside.head.items c.self.inside.chunks.place) at c.self.invariant.3 in
    let size : length bytes ≡ length c.args.first.now + length c.args.second.now = length-append c.args.first.now c.args.second.now in
    record {
      within = omega (arith, c.min-taken.ensures, size);
      given = omega (arith, c.min-taken.ensures, size);
      some = λ some. omega (arith, c.min-taken.ensures, size, some, left);
      waits = omega arith;
      few = omega arith;
      plain = λ _. (refl, record { head = ap (λ (k : Kept). k.core.head) c.self.view_is; chunks = ap (λ (k : Kept). k.core.chunks) c.self.view_is });
      gathered = λ none. absurd (true≢false (sym (ap is_plain_body c.requires.at) ∙ none));
      stands = subst (λ (k : Kept). TakesBytes c.args.rec k.core new (take taken bytes) (take taken bytes ++ []) c.after_sized-next.result.over) c.self.view_is
          (subst (λ (g : List ℕ). TakesBytes c.args.rec old new (take taken bytes) g c.after_sized-next.result.over) (sym (append-nil (take taken bytes)))
          (takes c.args.rec old new (take taken bytes) (take taken bytes) c.after_sized-next.result.over
          (sized_comes c.args.rec c.args.left old new bytes taken c.after_sized-next.result.over at (omega (arith, c.min-taken.ensures)) (omega (arith, c.min-taken.ensures, size)) (ap (λ n. n.state) c.after_sized-next.ensures) (ap (λ n. n.over) c.after_sized-next.ensures) refl)));
      least = subst (λ (k : Kept). DecidesLast k.core (take taken bytes)) c.self.view_is
          (decides_last old (take taken bytes) (sized_least c.args.left old (take taken bytes) at (omega (arith, c.min-taken.ensures, length-take taken bytes))));
    }
