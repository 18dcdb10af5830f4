use Rattle.std.proofs.Common.{◌≡◌, ◌∙◌, sym}
use Rattle.nb_script.specs.Labels.{place_under}
use Rattle.nb_script.proofs.KeyLemmas.{bytes_updated, adds_place}
use Rattle.nb_script.proofs.labels.Labels.add.Goals as goal

pub returns-in_ok-insert : goal.returns-in_ok-insert
returns-in_ok-insert c = λ other.
    let named : c.extend_from_slice.new.self.items ≡ c.args.name.now = rw c.new-key.ensures.items at c.in_ok-extend_from_slice.ensures.items in
    adds_place (place_under c.args.self.now) c.args.name.now other c.args.place _ (sym c.contains_key.ensures ∙ c.if-not-contains_key.true)
    (rw named at (bytes_updated (λ key. key.items) c.extend_from_slice.new.self.items c.args.self.now.places c.insert.new.self _ c.in_ok-insert.ensures.updates other))
