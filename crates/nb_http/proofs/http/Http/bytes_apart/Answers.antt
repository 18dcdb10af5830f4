use Rattle.std.proofs.Common.{◌≡◌, ◌++◌, ◌∙◌, List, ℕ, Option, false, ap, sym, subst, take}
use Rattle.nb_terms.specs.declared.acts.Acts.{Acts}
use Rattle.nb_terms.specs.declared.cause.Cause.{Cause}
use Rattle.nb_http.specs.Standing.{Core, Kept, HasReadStream, TakesBytes, is_over}
use Rattle.nb_http.specs.Giving.{TakesSo, range_given}
use Rattle.nb_http.proofs.StandsLemmas.{range_bytes}
use Rattle.nb_http.proofs.http.Http.bytes_apart.Goals as goal

pub returns-clause-stands : goal.returns-clause-stands
returns-clause-stands c = λ stream given s live.
    let bytes : List ℕ = c.args.first.now ++ c.args.second.now in
    let old : Core = record { head = c.self.inside.head.items; chunks = c.self.inside.chunks; state = c.self.inside.state } in
    let new : Core = record { head = c.self-2.inside.head.items; chunks = c.self-2.inside.chunks; state = c.self-2.inside.state } in
    let taken : List ℕ = take c.take-taken.result.len bytes in
    let waiting : ℕ = c.take-taken.result.waiting in
    let over : Option Cause = c.take-taken.result.over in
    let was : old ≡ c.args.self.now.core = ap (λ (k : Kept). k.core) c.self.view_is in
    let is : new ≡ c.take-taken.new.self.core = ap (λ (k : Kept). k.core) c.self-2.view_is in
    let unended : is_over old.state ≡ false = ap (λ (k : Core). is_over k.state) was ∙ live in
    let takes : TakesSo c.args.rec old c.take-taken.new.self.core bytes c.take-taken.result = c.take-taken.ensures.live unended in
    let up : range_given bytes c.range_to-give.result ≡ take c.take-taken.result.given bytes = ap (range_given bytes) c.range_to-give.ensures ∙ range_bytes bytes c.take-taken.result.given in
    let step : TakesBytes c.args.rec old new taken (take c.take-taken.result.given bytes ++ take waiting new.chunks.block) over =
    subst (λ (k : Core). TakesBytes c.args.rec old k taken (take c.take-taken.result.given bytes ++ take waiting k.chunks.block) over) (sym is) takes.stands in
    let whole : TakesBytes c.args.rec old new taken (range_given bytes c.range_to-give.result ++ take waiting new.chunks.block) over =
    subst (λ (g : List ℕ). TakesBytes c.args.rec old new taken (g ++ take waiting new.chunks.block) over) (sym up) step in
    whole stream given (subst (λ (k : Core). HasReadStream k stream given) (sym was) s) unended

pub returns-clause-sends : goal.returns-clause-sends
returns-clause-sends c = (ap (λ (a : Acts). a.sends) c.clear.ensures, ap (λ (a : Acts). a.tried) c.clear.ensures, ap (λ (a : Acts). a.advance) c.clear.ensures)

pub returns-clause-stays : goal.returns-clause-stays
returns-clause-stays c = λ ended.
    let was : record { head = c.self.inside.head.items; chunks = c.self.inside.chunks; state = c.self.inside.state } ≡ c.args.self.now.core = ap (λ (k : Kept). k.core) c.self.view_is in
    ap (λ (k : Kept). k.core) c.self-2.view_is ∙ ap (λ (k : Kept). k.core) (c.take-taken.ensures.ended (ap (λ (k : Core). is_over k.state) was ∙ ended)).1 ∙ was

pub returns-clause-least : goal.returns-clause-least
returns-clause-least c = λ stream given part later s live e l.
    let bytes : List ℕ = c.args.first.now ++ c.args.second.now in
    let old : Core = record { head = c.self.inside.head.items; chunks = c.self.inside.chunks; state = c.self.inside.state } in
    let was : old ≡ c.args.self.now.core = ap (λ (k : Kept). k.core) c.self.view_is in
    let unended : is_over old.state ≡ false = ap (λ (k : Core). is_over k.state) was ∙ live in
    (c.take-taken.ensures.live unended).least stream given part later (subst (λ (k : Core). HasReadStream k stream given) (sym was) s) unended e l
