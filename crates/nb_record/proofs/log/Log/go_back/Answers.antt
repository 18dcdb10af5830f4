use Rattle.std.proofs.Common.{◌≡◌, ◌≤◌, take, length, List, ℕ, ap, sym, ◌∙◌, arith}
use Rattle.std.proofs.lemmas.List.{length-take, take-take}
use Rattle.nb_record.specs.Logged.{Logged}
use Rattle.nb_record.specs.declared.log.LogPlace.{LogPlace}
use Rattle.nb_record.proofs.LogLemmas.{went_back}
use Rattle.nb_record.proofs.log.Log.go_back.Goals as goal

pub returns : goal.returns
returns c = λ at added is puts.
    let old = c.self.inside in
    let place = c.args.place in
    let bytes : c.args.self.now.bytes ≡ take old.len old.bytes.items = ap (λ (l : Logged). l.bytes) (sym c.self.view_is) in
    let room : c.args.self.now.room ≡ old.room = ap (λ (l : Logged). l.room) (sym c.self.view_is) in
    let within : place.len ≤ old.len = omega (arith, c.requires, ap length bytes, length-take old.len old.bytes.items) in
    let same : take place.len c.args.self.now.bytes ≡ take place.len old.bytes.items = ap (λ (w : List ℕ). take place.len w) bytes ∙ take-take place.len old.len old.bytes.items within in
    ap (λ (w : List ℕ). let l : Logged = record { bytes = w; room = old.room; is_short = place.is_short } in l) (sym same)
    ∙ ap (λ (n : ℕ). let l : Logged = record { bytes = take place.len c.args.self.now.bytes; room = n; is_short = place.is_short } in l) (sym room)
    ∙ went_back at c.args.self.now added place.len place.is_short (ap (λ (p : LogPlace). p.len) is) (ap (λ (p : LogPlace). p.is_short) is) puts
