use Rattle.std.proofs.Common.{◌≡◌, ◌++◌, [], ◌∙◌, ◌+◌, List, ℕ, Option, ap, sym, subst, refl, arith, take, length, min, append-nil}
use Rattle.std.proofs.lemmas.List.{length-append, length-take}
use Rattle.nb_terms.specs.declared.cause.Cause.{Cause}
use Rattle.std.proofs.lemmas.Bool.{true≢false}
use Rattle.nb_http.specs.declared.state.State.{State}
use Rattle.nb_http.specs.declared.state.State.TheVariants.{ToEnd}
use Rattle.nb_http.specs.Standing.{Core, Kept, TakesBytes, DecidesLast}
use Rattle.nb_http.specs.Giving.{is_plain_body, KeepsFit, to_end_next}
use Rattle.nb_http.proofs.StandsLemmas.{takes}
use Rattle.nb_http.proofs.StepLemmas.{open_comes}
use Rattle.nb_http.proofs.LeastLemmas.{decides_last, open_least}
use Rattle.nb_http.proofs.HeadLemmas.{open_fit}
use Rattle.nb_http.proofs.http.Http.take_open.Goals as goal

pub invariant_of-self : goal.invariant_of-self
invariant_of-self c = (c.self.invariant.0, c.self.invariant.1, omega (arith, c.requires.none, ap (λ (k : Kept). k.waiting) c.self.view_is), subst (λ (s : State). KeepsFit s c.self.inside.head.items c.self.inside.chunks.place) (sym (ap (λ n. n.state) c.after_open-next.ensures)) (open_fit c.args.room (length c.args.first.now + length c.args.second.now) c.self.inside.head.items c.self.inside.chunks.place))

pub returns : goal.returns
returns c =
    let old : Core = record { head = c.self.inside.head.items; chunks = c.self.inside.chunks; state = c.self.inside.state } in
    let bytes : List ℕ = c.args.first.now ++ c.args.second.now in
    let new : Core = record { head = c.self.inside.head.items; chunks = c.self.inside.chunks; state = c.after_open-next.result.state } in
    let room : ℕ = c.args.room in
    let at : c.self.inside.state ≡ ToEnd room = ap (λ (k : Kept). k.core.state) c.self.view_is ∙ c.requires.at in
    let size : length bytes ≡ length c.args.first.now + length c.args.second.now = length-append c.args.first.now c.args.second.now in
    let len : min (length bytes) (room + 1) ≡ c.min-len.result = omega (arith, c.min-len.ensures, c.saturating_add-past.ensures, size, c.requires.count) in
    let given : min (length bytes) room ≡ c.min-given.result = omega (arith, c.min-given.ensures, size) in
    let over : Option Cause = c.after_open-next.result.over in
    let comes : TakesBytes c.args.rec old new (take (min (length bytes) (room + 1)) bytes) (take (min (length bytes) room) bytes) over =
    takes c.args.rec old new (take (min (length bytes) (room + 1)) bytes) (take (min (length bytes) room) bytes) over
    (open_comes c.args.rec room old new bytes over at (ap (λ n. n.state) c.after_open-next.ensures ∙ ap (λ k. (to_end_next room k).state) (sym size)) (ap (λ n. n.over) c.after_open-next.ensures ∙ ap (λ k. (to_end_next room k).over) (sym size)) refl) in
    record {
      within = omega (arith, len);
      given = omega (arith, given, len);
      some = λ some. omega (arith, len, some);
      waits = omega arith;
      few = omega arith;
      plain = λ _. (refl, record { head = ap (λ (k : Kept). k.core.head) c.self.view_is; chunks = ap (λ (k : Kept). k.core.chunks) c.self.view_is });
      gathered = λ none. absurd (true≢false (sym (ap is_plain_body c.requires.at) ∙ none));
      stands = subst (λ (k : Kept). TakesBytes c.args.rec k.core new (take c.min-len.result bytes) (take c.min-given.result bytes ++ []) over) c.self.view_is
          (subst (λ (g : List ℕ). TakesBytes c.args.rec old new (take c.min-len.result bytes) g over) (sym (append-nil (take c.min-given.result bytes)))
          (subst (λ (n : ℕ). TakesBytes c.args.rec old new (take n bytes) (take c.min-given.result bytes) over) len
          (subst (λ (n : ℕ). TakesBytes c.args.rec old new (take (min (length bytes) (room + 1)) bytes) (take n bytes) over) given comes)));
      least = subst (λ (k : Kept). DecidesLast k.core (take c.min-len.result bytes)) c.self.view_is
          (decides_last old (take c.min-len.result bytes) (open_least room old (take c.min-len.result bytes) at (omega (arith, len, length-take c.min-len.result bytes))));
    }
