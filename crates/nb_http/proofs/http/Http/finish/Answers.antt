use Rattle.std.proofs.Common.{ap, sym, subst, refl, arith}
use Rattle.nb_terms.specs.declared.acts.Acts.{Acts}
use Rattle.nb_http.specs.declared.state.State.{State}
use Rattle.nb_http.specs.Standing.{Core, Kept, EndsStream}
use Rattle.nb_http.specs.Giving.{KeepsFit}
use Rattle.nb_http.proofs.StandsLemmas.{finishes, with_state}
use Rattle.nb_http.proofs.HeadLemmas.{end_fit}
use Rattle.nb_http.proofs.http.Http.finish.Goals as goal

pub invariant_of-self : goal.invariant_of-self
invariant_of-self c = (c.self.invariant.0, c.self.invariant.1, omega arith, subst (λ (s : State). KeepsFit s c.self.inside.head.items c.self.inside.chunks.place) (sym c.after_end-state.ensures) (end_fit c.self.inside.state c.self.inside.head.items c.self.inside.chunks.place c.self.invariant.3))

pub returns-clause-ends : goal.returns-clause-ends
returns-clause-ends c =
    let old : Core = record { head = c.self.inside.head.items; chunks = c.self.inside.chunks; state = c.self.inside.state } in
    let new : Core = record { head = c.self.inside.head.items; chunks = c.self.inside.chunks; state = c.after_end-state.result } in
    subst (λ (k : Kept). EndsStream c.args.rec k.core new c.at_end-over.result) c.self.view_is (finishes c.args.rec c.self.inside.state old new c.at_end-over.result refl (ap (with_state old) c.after_end-state.ensures) c.at_end-over.ensures)

pub returns-clause-sends : goal.returns-clause-sends
returns-clause-sends c = (ap (λ (a : Acts). a.sends) c.clear.ensures, ap (λ (a : Acts). a.tried) c.clear.ensures, ap (λ (a : Acts). a.advance) c.clear.ensures)
