use Rattle.std.proofs.Common.{◌++◌, take, List, ℕ, subst, sym, ap, ◌∙◌, append-nil}
use Rattle.nb_httpmsg.specs.Reader.{Reader}
use Rattle.std.proofs.Common.{◌≡◌, true, arith, length}
use Rattle.nb_httpmsg.specs.Feeding.{StandsForBody, is_open}
use Rattle.nb_httpmsg.proofs.FeedLeastLemmas.{takes_least}
use Rattle.nb_httpmsg.proofs.chunks.Chunks.feed.Goals as goal

pub returns-clause-stands : goal.returns-clause-stands
returns-clause-stands c = λ text bytes s.
    c.run_both-took.ensures.stands text bytes
    (subst (λ (b : List ℕ). StandsForBody c.self.inside.place c.self.inside.line.items text b) (sym (ap (λ (b : List ℕ). bytes ++ b) c.clear.ensures.items ∙ append-nil bytes))
    (subst (λ (r : Reader). StandsForBody r.place r.line text bytes) (sym c.self.view_is) s))

pub returns-clause-some : goal.returns-clause-some
returns-clause-some c = λ unended some.
    c.run_both-took.ensures.some (subst (λ (r : Reader). is_open r.place ≡ true) (sym c.self.view_is) unended) (omega (arith, ap length c.clear.ensures.items)) some

pub returns-clause-least : goal.returns-clause-least
returns-clause-least c = λ text bytes part later s e l.
    let old : Reader = record { line = c.self.inside.line.items; block = c.clear.new.self.items; place = c.self.inside.place } in
    let taken : List ℕ = take c.run_both-took.result (c.args.first.now ++ c.args.second.now) in
    takes_least old c.run_both-took.new.self taken c.clear.ensures.items c.run_both-took.ensures.least text bytes part later
    (subst (λ (r : Reader). StandsForBody r.place r.line text bytes) (sym c.self.view_is) s) e l
