use Rattle.std.proofs.Common.{◌≡◌, ◌≤◌, ◌+◌, ◌-◌, subst, sym, take, drop, length, List, ℕ}
use Rattle.nb_responses.specs.Lines.{first_block, whole, unfinished, crowded, limit}
use Rattle.nb_httpmsg.specs.declared.place.Place.{Place}
use Rattle.nb_httpmsg.specs.Feeding.{IsTrailerRead}
use Rattle.nb_httpmsg.proofs.BlockLemmas.{rest_all}
use Rattle.nb_httpmsg.proofs.TrailerLemmas.{trailer_whole, trailer_open, trailer_crowded}
use Rattle.nb_httpmsg.proofs.line.read_trailer.Goals as goal

pub returns-in-Whole : goal.returns-in-Whole
returns-in-Whole c =
    trailer_whole c.args.used c.in-Whole.len c.args.line.now c.requires.within c.requires.short
    (subst (λ (r : List ℕ). c.in-Whole.len ≤ length r) (rest_all c.args.used c.args.line.now) c.in-Whole.ensures.within)
    (subst (λ (r : List ℕ). first_block (limit - c.args.used + 1) r ≡ whole (take c.in-Whole.len r) (drop c.in-Whole.len r)) (rest_all c.args.used c.args.line.now) c.in-Whole.ensures.block)

pub returns-in-Unfinished : goal.returns-in-Unfinished
returns-in-Unfinished c =
    subst (λ (p : Place). IsTrailerRead c.args.used c.args.line.now (record { len = length c.args.line.now; place = p })) (sym c.within.ensures)
    (trailer_open c.args.used c.args.line.now c.requires.within c.requires.short
    (subst (λ (r : List ℕ). first_block (limit - c.args.used + 1) r ≡ unfinished) (rest_all c.args.used c.args.line.now) c.in-Unfinished.ensures.block))

pub returns-in-Crowded : goal.returns-in-Crowded
returns-in-Crowded c =
    trailer_crowded c.args.used c.args.line.now c.requires.short
    (subst (λ (r : List ℕ). first_block (limit - c.args.used + 1) r ≡ crowded) (rest_all c.args.used c.args.line.now) c.in-Crowded.ensures.block)
