use Rattle.std.proofs.Common.{subst, sym, ◌++◌, ◌∷◌, []}
use Rattle.nb_dhcp.specs.declared.state.State.{State}
use Rattle.nb_dhcp.specs.History.{handed_body, lease_entry, replied}
use Rattle.nb_dhcp.specs.LeaseStands.{LeaseStands}
use Rattle.nb_dhcp.proofs.LeaseStandsLemmas.{replied_goes_on}
use Rattle.nb_terms.specs.declared.acts.Acts.{Acts}
use Rattle.nb_dhcp.specs.Acting.{AsksSimply}
use Rattle.nb_dhcp.proofs.LeaseActsLemmas.{replied_simple, granted_body}
use Rattle.nb_dhcp.proofs.dhcp.Dhcp.message.Goals as goal

pub returns-clause-stands : goal.returns-clause-stands
returns-clause-stands c = λ a start h stands open_yet.
    replied_goes_on a start c.self.inside.state c.reply.new.self h (handed_body c.args.rec c.args.body.now) c.args.now c.reply.new.acts c.reply.ensures.acts c.reply.ensures.after
    (subst (λ (x : State). LeaseStands a start x h) (sym c.self.view_is) stands) open_yet

pub returns-clause-simple : goal.returns-clause-simple
returns-clause-simple c = subst (λ (acts : Acts). AsksSimply acts) (sym c.reply.ensures.acts) (replied_simple c.self.inside.state (handed_body c.args.rec c.args.body.now))

pub returns-clause-granted : goal.returns-clause-granted
returns-clause-granted c = λ a start h bytes stands open_yet granted.
    let m = handed_body c.args.rec c.args.body.now in
    let stood = subst (λ (x : State). LeaseStands a start x h) (sym c.self.view_is) stands in
    let after = h ++ lease_entry (replied m c.args.now) c.reply.new.acts ∷ [] in
    granted_body a start c.self.inside.state c.reply.new.self h after m c.args.now bytes c.reply.ensures.after stood open_yet
    (replied_goes_on a start c.self.inside.state c.reply.new.self h m c.args.now c.reply.new.acts c.reply.ensures.acts c.reply.ensures.after stood open_yet) granted
