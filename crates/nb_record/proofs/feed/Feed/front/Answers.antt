use Rattle.std.proofs.Common.{◌-◌, take, drop, sym, ap, subst, ◌∙◌, List, ℕ}
use Rattle.nb_record.specs.Bytes.{Held}
use Rattle.nb_record.specs.Held.{ShowsFront}
use Rattle.nb_record.proofs.FeedLemmas.{between}
use Rattle.nb_record.proofs.feed.Feed.front.Goals as goal

pub returns : goal.returns
returns c =
    let f = c.self.inside in
    let held : List ℕ → Held = λ b. record { bytes = b; passed = f.passed } in
    subst (λ (h : Held). ShowsFront h c.front_of.result)
    (ap held (ap (λ (x : List ℕ). take (f.end - f.start) (drop f.start x)) c.as_slice.ensures.value ∙ sym (between f.start f.end f.bytes.items c.self.invariant.0)) ∙ c.self.view_is)
    c.front_of.ensures
